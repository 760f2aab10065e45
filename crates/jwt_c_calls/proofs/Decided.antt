-- What the calls with a verifier leave, over plain values.
use Rattle.std.proofs.Common.{◌≡◌, ℕ, List, Option, Some, None, Result, Ok, Err, IfOk, IfErr, inl, inr, refl, subst, sym}
use Rattle.jwt_verifier.specs.declared.limits.Limits.{Limits}
use Rattle.jwt_c_calls.specs.Acceptors.{made_value}
use Rattle.jwt_c_calls.specs.Held.{IsHeldAs, IsMadeOf, IsUnmadeOf, LeavesMade}
use Rattle.jwt_c_calls.specs.KeyLists.{KeyList}
use Rattle.jwt_c_calls.specs.Status.{IsGiven, IsKept}
use Rattle.jwt_c_calls.specs.Verdicts.{AcceptsIn, LeavesVerdict, RefusesIn, TellsAccepted, TellsRefused, refusal_of}
use Rattle.jwt_c_calls.specs.declared.acceptors.Made.{Made}
use Rattle.jwt_c_calls.specs.declared.content.Content.{Content}
use Rattle.jwt_c_calls.specs.declared.verdicts.Accepted.{Accepted}
use Rattle.jwt_c_calls.specs.declared.verdicts.TokenRefusal.{TokenRefusal}
use Rattle.jwt_c_calls.specs.declared.verdicts.Verdict.{Verdict}

-- a verifier that was made is held, unless memory ran out
pub made_of : (held : Option KeyList) (options : List ℕ) (limits : Limits) (made : Result Made ℕ) (before after : Option Content)
    (status : ℕ) → IfOk made (λ m. IsMadeOf held options limits (made_value m)) → IfErr made (IsUnmadeOf held options)
    → IsHeldAs made before after status → LeavesMade held options limits before after status
made_of None options limits (Ok m) None None status ok err h = absurd ok
made_of (Some keys) options limits (Ok m) None None status ok err h = inl h
made_of held options limits (Err why) None None status ok err h = subst (IsUnmadeOf held options) (sym h) err
made_of held options limits (Ok m) None (Some c) status ok err h = (h.0, (made_value m, h.1, ok))
made_of held options limits (Err why) None (Some c) status ok err h = absurd h.1
made_of held options limits made (Some s) after status ok err h = h

-- what is said of a token by what a handle holds
module _ (token : List ℕ) (time : ℕ) (said : Verdict) (status : ℕ) (old new : List ℕ) where
  left : (held : Option Content) (r : Result Accepted TokenRefusal) → IfOk r (AcceptsIn held token time)
      → IfErr r (RefusesIn held token time)
      → IfOk r (λ a. TellsAccepted a said × IsGiven a.text.items status said.len old new)
      → IfErr r (λ why. TellsRefused why said × IsKept why.status status said.len old new)
      → LeavesVerdict held token time said status old new
  left held (Ok a) ok err given kept = inl (a, ok, given.0, given.1)
  left held (Err why) ok err given kept = inr (why, err, kept.0, kept.1)

  pub told_by : (held : Option Content) (c : Content) → held ≡ Some c → (r : Result Accepted TokenRefusal)
      → IfOk r (AcceptsIn (Some c) token time) → IfErr r (RefusesIn (Some c) token time)
      → IfOk r (λ a. TellsAccepted a said × IsGiven a.text.items status said.len old new)
      → IfErr r (λ why. TellsRefused why said × IsKept why.status status said.len old new)
      → LeavesVerdict held token time said status old new
  told_by held c e r ok err given kept =
      subst (λ h. LeavesVerdict h token time said status old new) (sym e) (left (Some c) r ok err given kept)

  pub told_by_none : (held : Option Content) → held ≡ None → TellsRefused (refusal_of 0 108 0 0) said
      → IsKept 108 status said.len old new → LeavesVerdict held token time said status old new
  told_by_none held e tells kept =
      subst (λ h. LeavesVerdict h token time said status old new) (sym e) (inr (refusal_of 0 108 0 0, refl, tells, kept))
