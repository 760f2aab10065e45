-- What the items of a handle can do.
use Rattle.std.specs.Prelude.{◌==◌, ◌&&◌, ℕ, List, [], ◌∷◌, Option, Some, None, Result, Ok, Err, slice_get, bit_and, bit_or}
use Rattle.std.specs.Prelude.{if◌then◌else◌, Bool, false, is_some, not}
use Rattle.jwt_base.specs.Kind as kind
use Rattle.jwt_keys.specs.declared.jwk.Jwk.{Jwk}
use Rattle.jwt_key_items.specs.declared.Item.{Item}
use Rattle.jwt_key_items.specs.declared.Reason.{Reason}
use Rattle.jwt_key_items.specs.declared.Reason.TheVariants as reason
use Rattle.jwt_key_items.specs.declared.Usage.{Usage}
use Rattle.jwt_key_items.specs.declared.Usage.TheVariants.{Kept, Skipped}
use Rattle.jwt_c_calls.specs.KeyLists.{KeyList}
use Rattle.jwt_c_calls.specs.Status.{number, input_status, unknown_number, not_for_signatures, unfit_key}
use Rattle.jwt_c_calls.specs.Status.{all_zero_secret, key_as_secret}
use Rattle.jwt_c_calls.specs.declared.held_keys.KeyInfo.{KeyInfo}
use Rattle.jwt_c_calls.specs.declared.inputs.Input.TheVariants as input

-- the status of the reason for which an item is skipped
abbrev pub reason_status : Reason → ℕ
reason_status reason.NotAKey = input_status input.Key
reason_status reason.Unsupported = number kind.UnsupportedAlgorithm
reason_status reason.Base64 = number kind.Base64
reason_status reason.NotForSignatures = not_for_signatures
reason_status reason.Unfit = unfit_key
reason_status reason.AllZero = all_zero_secret
reason_status reason.KeyText = key_as_secret

-- HS256, HS384 and HS512, whose numbers are 1, 2 and 3: the library signs with these alone
abbrev pub hmac_bits : ℕ
hmac_bits = 14

-- of keys that verify with the algorithms of these bits
abbrev pub info_of_bits : ℕ → KeyInfo
info_of_bits bits = record { status = 0; verifies = bits; signs = bit_and bits hmac_bits }

-- of an item
abbrev pub info_of : Usage → KeyInfo
info_of (Kept bits) = info_of_bits bits
info_of (Skipped why) = record { status = reason_status why; verifies = 0; signs = 0 }

abbrev pub bits_of : Usage → ℕ
bits_of (Kept bits) = bits
bits_of (Skipped why) = 0

abbrev pub has_kid : Option Jwk → Bool
has_kid None = false
has_kid (Some jwk) = is_some jwk.common.key_id

-- in a set an item without a `kid` can do nothing, since no token can name it (RFC 7517 section 4.5)
abbrev pub able_bits : Bool → Item → ℕ
able_bits is_set i = if is_set && not (has_kid i.key) then 0 else bits_of i.usage

-- the bits of all items together
abbrev pub all_bits : Bool → List Item → ℕ
all_bits is_set [] = 0
all_bits is_set (i ∷ more) = bit_or (able_bits is_set i) (all_bits is_set more)

-- the place that stands for all items: the greatest number of 64 bits
abbrev pub all_items : ℕ
all_items = 18446744073709551615

-- what is at a place, or the status of a place without an item
abbrev pub found_at : {X Y : Type 0} → (X → Result Y ℕ) → Option X → Result Y ℕ
found_at of None = Err unknown_number
found_at of (Some x) = of x

-- of the item at a place, or of all items
abbrev pub info_at : KeyList → ℕ → Result KeyInfo ℕ
info_at keys at = if at == all_items then Ok (info_of_bits (all_bits keys.is_set keys.items))
    else found_at (λ i. Ok (info_of i.usage)) (slice_get keys.items at)

-- the key of an item
abbrev pub key_in : Option Jwk → Result Jwk ℕ
key_in None = Err (input_status input.Key)
key_in (Some jwk) = Ok jwk

-- the key of the item at a place, which may be skipped; or the status of the reason for which there is none
abbrev pub key_at : List Item → ℕ → Result Jwk ℕ
key_at items at = found_at (λ i. key_in i.key) (slice_get items at)
