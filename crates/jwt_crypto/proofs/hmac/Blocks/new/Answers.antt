use Rattle.std.proofs.Common.{◌∙◌, sym, ap, take}
use Rattle.jwt_crypto.specs.Hmac.{masked, filled, short_key, block_len, nested, hmac, key_block}
use Rattle.jwt_crypto.proofs.HmacMasks.{unmasked, masked_block}
use Rattle.jwt_crypto.proofs.hmac.Blocks.new.Goals as goal

pub invariant_of-result : goal.invariant_of-result
invariant_of-result c = record {
  one_key =
      let k = short_key c.args.hash c.args.secret.now in
      let n = block_len c.args.hash in
      let block = c.filled_key-key.ensures in
      ap (masked 0x36) (masked_block 0x36 n k c.mask_bytes.result block.fits block.block_fits (c.mask_bytes.ensures
      ∙ ap (masked 0x36) block.key)) ∙ unmasked 0x36 (filled n k)
      ∙ sym (ap (masked 0x5c) (masked_block 0x5c n k c.mask_bytes-2.result block.fits block.block_fits
      (c.mask_bytes-2.ensures ∙ ap (masked 0x5c) block.key)) ∙ unmasked 0x5c (filled n k));
}

pub returns-clause-blocks : goal.returns-clause-blocks
unfolding key_block
returns-clause-blocks c =
    let k = short_key c.args.hash c.args.secret.now in
    let n = block_len c.args.hash in
    let block = c.filled_key-key.ensures in
    record {
      first = masked_block 0x36 n k c.mask_bytes.result block.fits block.block_fits (c.mask_bytes.ensures
          ∙ ap (masked 0x36) block.key);
      second = masked_block 0x5c n k c.mask_bytes-2.result block.fits block.block_fits (c.mask_bytes-2.ensures
          ∙ ap (masked 0x5c) block.key);
    }

pub returns-clause-mac : goal.returns-clause-mac
unfolding hmac key_block
returns-clause-mac c m =
    let k = short_key c.args.hash c.args.secret.now in
    let n = block_len c.args.hash in
    let block = c.filled_key-key.ensures in
    ap (λ i. nested c.args.hash i (take n c.mask_bytes-2.result) m)
    (masked_block 0x36 n k c.mask_bytes.result block.fits block.block_fits (c.mask_bytes.ensures
    ∙ ap (masked 0x36) block.key))
    ∙ ap (λ o. nested c.args.hash (masked 0x36 (filled n k)) o m)
    (masked_block 0x5c n k c.mask_bytes-2.result block.fits block.block_fits (c.mask_bytes-2.ensures
    ∙ ap (masked 0x5c) block.key))
