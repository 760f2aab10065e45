use Rattle.std.proofs.Common.{◌≡◌, ◌∙◌, ℕ, List, Some, ap, arith, false, string_bytes, subst, sym, true}
use Rattle.std.proofs.lemmas.Map.Text.{btree_map_updates_text}
use Rattle.std.specs.BTreeMap.{get_by_text}
use Rattle.std.specs.Option.{is_some}
use Rattle.jwt_keys.specs.declared.jwk.Jwk.{Jwk}
use Rattle.jwt_verifier.proofs.PreparedLemmas.{named_more}
use Rattle.jwt_verifier.proofs.RingLemmas.{named, nameless, repeated}
use Rattle.jwt_verifier.proofs.key_ring.put.Goals as goal

pub returns-in_default-clause-ok : goal.returns-in_default-clause-ok
returns-in_default-clause-ok c =
    nameless c.args.keys.now c.args.at c.index-keys-at.result c.requires c.index-keys-at.is c.args.named.now
    (ap (λ (j : Jwk). j.common.key_id) c.index-keys-at.is ∙ c.in_default.is)

pub returns-then-contains_key-clause-ok : goal.returns-then-contains_key-clause-ok
returns-then-contains_key-clause-ok c =
    let known : true ≡ is_some (get_by_text c.args.named.now c.in-Some.kid) = rw c.as_str.ensures at c.if-contains_key.ensures in
    repeated c.args.keys.now c.args.at c.index-keys-at.result c.requires c.index-keys-at.is c.in-Some.kid
    (ap (λ (j : Jwk). j.common.key_id) c.index-keys-at.is ∙ c.in-Some.is) c.args.named.now
    (sym known)

pub returns-clause-ok : goal.returns-clause-ok
returns-clause-ok c =
    let name : string_bytes c.in_ok-name.name ≡ c.in-Some.kid = c.in_ok-name.ensures.ok ∙ c.as_str-2.ensures in
    let known : false ≡ is_some (get_by_text c.args.named.now c.in-Some.kid) = rw c.as_str.ensures at c.if-contains_key.ensures in
    named c.args.keys.now c.args.at c.index-keys-at.result c.requires c.index-keys-at.is (string_bytes c.in_ok-name.name)
    (ap (λ (j : Jwk). j.common.key_id) c.index-keys-at.is ∙ c.in-Some.is ∙ ap (λ (x : List ℕ). Some x) (sym name))
    c.args.named.now c.insert.new.self c.in_ok-entry.entry
    (subst (λ (x : List ℕ). is_some (get_by_text c.args.named.now x) ≡ false) (sym name)
    (sym known))
    c.in_ok-entry.ensures.ok
    (btree_map_updates_text (string_bytes c.in_ok-name.name) c.args.named.now c.insert.new.self _ c.in_ok-insert.ensures.updates)

pub returns-clause-room : goal.returns-clause-room
returns-clause-room c =
    let more = named_more _ c.args.named.now c.insert.new.self c.in_ok-name.name c.in_ok-entry.entry
    c.in_ok-insert.ensures.entries in
    omega (arith, more, c.in_ok-entry.ensures.room)
