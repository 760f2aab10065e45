use Rattle.std.proofs.Common.{◌≡◌, map, [], ◌∷◌, ◌++◌, true, false, string_bytes, string_cmp, sym, ap, ◌∙◌, subst}
use Rattle.std.proofs.Common.{append_assoc, rules}
use Rattle.std.specs.List.Sorted.{IsStrictlySortedBy}
use Rattle.std.specs.Map.{keys_of}
use Rattle.serde_json.proofs.Views.{Entry, members_view-insert_entry}
use Rattle.serde_json.specs.View.{view, members_view}
use Rattle.jwt_base.specs.Members.{is_named}
use Rattle.jwt_base.proofs.Kept.{kept_last, left_out}
use Rattle.jwt_further.specs.Further.{further_names}
use Rattle.jwt_c_calls.proofs.asked.usual_members.Goals as goal

pub loop-name-preserved-then-is_one_of : goal.loop-name-preserved-then-is_one_of
loop-name-preserved-then-is_one_of c =
    let l = c.loop-name.invariant in
    let e : Entry = (c.in-Some.name.now, c.in-Some.member.now) in
    let left = c.next.new.self in
    let all : c.args.members.now.entries ≡ l.done ++ e ∷ left = l.entries ∙ ap (λ es. l.done ++ es) c.in-Some.ensures.steps in
    let named : is_named further_names (string_bytes e.0) ≡ true = search rules in
    let out = left_out further_names l.done e named in
    record {
      done = l.done ++ e ∷ [];
      entries = all ∙ sym (append_assoc l.done (e ∷ []) left);
      kept = l.kept ∙ out;
    }

pub loop-name-preserved : goal.loop-name-preserved
loop-name-preserved c =
    let l = c.loop-name.invariant in
    let e : Entry = (c.in-Some.name.now, c.in-Some.member.now) in
    let left = c.next.new.self in
    let all : c.args.members.now.entries ≡ l.done ++ e ∷ left = l.entries ∙ ap (λ es. l.done ++ es) c.in-Some.ensures.steps in
    let free : is_named further_names (string_bytes e.0) ≡ false = search rules in
    let ordered = subst (λ es. IsStrictlySortedBy string_cmp (keys_of es)) all c.iter-name-items.ensures.ordered in
    let last = kept_last further_names l.done e left ordered free in
    let named : string_bytes c.in_ok-name.name ≡ string_bytes e.0 = search rules in
    record {
      done = l.done ++ e ∷ [];
      entries = all ∙ sym (append_assoc l.done (e ∷ []) left);
      kept = ap members_view c.in_ok-insert.ensures.entries
          ∙ members_view-insert_entry c.loop-name.kept.entries c.in_ok-name.name c.in_ok-clone.field-0
          ∙ rw (named, c.in_ok-clone.ensures.cases, l.kept) last;
    }
