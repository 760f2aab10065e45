-- A result, and its form in status, length and buffer.
use Rattle.std.proofs.Common.{◌≡◌, ℕ, List, Result, Ok, Err, IfOk, IfErr, inl, inr}
use Rattle.jwt_base.specs.Kind.{Kind}
use Rattle.jwt_base.specs.Kind as kind
use Rattle.jwt_base.specs.KindOf.{RefusesAs, kind_of}
use Rattle.jwt_base.specs.declared.errors.Error.{Error}
use Rattle.jwt_further.specs.declared.FurtherFault.{FurtherFault}
use Rattle.jwt_c_calls.specs.BySignature.{AnswersInput, LeavesInput}
use Rattle.jwt_c_calls.specs.Calls.{Answer, Returns, Refuses, InputError, Leaves, AnswersBy, AnswersByRules, answer_of, answer_in, refusal_status}
use Rattle.jwt_c_calls.specs.Inputs.{IsReadAs}
use Rattle.jwt_c_calls.specs.Status.{IsGiven, IsKept}
use Rattle.jwt_c_calls.specs.declared.inputs.Input.{Input}
use Rattle.jwt_c_calls.specs.declared.inputs.CallError.{CallError}
use Rattle.jwt_c_calls.specs.declared.inputs.CallError.TheVariants as refused

kept_by : (r : CallError) (s n : ℕ) (old new : List ℕ) → IsKept (refusal_status r) s n old new → Leaves (answer_of r) s n old new
kept_by (refused.Input i) s n old new k = k
kept_by (refused.Token e) s n old new k = k
kept_by (refused.Further f) s n old new k = k

-- a result by its two sides
pub answered : {V : Type 0} (items : V → List ℕ) (By : Answer → Type 0) (r : Result V CallError) (s n : ℕ) (old new : List ℕ)
    → IfOk r (λ b. By (Returns (items b))) → IfErr r (λ e. By (answer_of e))
    → IfOk r (λ b. IsGiven (items b) s n old new) → IfErr r (λ e. IsKept (refusal_status e) s n old new)
    → (a : Answer) × By a × Leaves a s n old new
answered items By (Ok b) s n old new p q given kept = (Returns (items b), p, given)
answered items By (Err e) s n old new p q given kept = (answer_of e, q, kept_by e s n old new kept)

-- the two sides of a result, as one
pub one_side : {V : Type 0} (items : V → List ℕ) (By : Answer → Type 0) (r : Result V CallError)
    → IfOk r (λ b. By (Returns (items b))) → IfErr r (λ e. By (answer_of e)) → By (answer_in items r)
one_side items By (Ok b) p q = p
one_side items By (Err e) p q = q

-- a result as it is left
pub answered_in : {V : Type 0} (items : V → List ℕ) (By : Answer → Type 0) (r : Result V CallError) (s n : ℕ) (old new : List ℕ)
    → By (answer_in items r)
    → IfOk r (λ b. IsGiven (items b) s n old new) → IfErr r (λ e. IsKept (refusal_status e) s n old new)
    → (a : Answer) × By a × Leaves a s n old new
answered_in items By (Ok b) s n old new p given kept = (Returns (items b), p, given)
answered_in items By (Err e) s n old new p given kept = (answer_of e, p, kept_by e s n old new kept)

-- a text that could not be read has this result, if the call misreads it
pub input_error : {T E : Type 0} (Reads : E → Type 0) (IsInputError : Input → Type 0) (G : E → List ℕ → Type 0) (R : E → Kind → Type 0)
    (input : Input) (None : Type 0) → (None → IsInputError input) → (r : Result T Error) (x : Result T CallError)
    → IsReadAs input r x → IfErr r (RefusesAs kind.Json None)
    → IfErr x (λ f. AnswersBy Reads IsInputError G R (answer_of f))
input_error Reads M G R input N means (Ok v) (Ok w) p n = tt
input_error Reads M G R input N means (Ok v) (Err r) p n = absurd p
input_error Reads M G R input N means (Err e) (Ok w) p n = tt
input_error Reads M G R input N means (Err e) (Err (refused.Input i)) p (inl m) = absurd (p.1 m)
input_error Reads M G R input N means (Err e) (Err (refused.Input i)) p (inr none) = rw p.0 (means none.1)
input_error Reads M G R input N means (Err e) (Err (refused.Token f)) p n = inl p.1
input_error Reads M G R input N means (Err e) (Err (refused.Further f)) p n = absurd p

-- the same of a call with further rules
pub rules_error : {T E : Type 0} (Reads : E → Type 0) (IsInputError : Input → Type 0) (G : E → List ℕ → Type 0) (R : E → Kind → Type 0)
    (B : E → FurtherFault → Type 0) (input : Input) (None : Type 0) → (None → IsInputError input) → (r : Result T Error)
    (x : Result T CallError) → IsReadAs input r x → IfErr r (RefusesAs kind.Json None)
    → IfErr x (λ f. AnswersByRules Reads IsInputError G R B (answer_of f))
rules_error Reads M G R B input N means (Ok v) (Ok w) p n = tt
rules_error Reads M G R B input N means (Ok v) (Err r) p n = absurd p
rules_error Reads M G R B input N means (Err e) (Ok w) p n = tt
rules_error Reads M G R B input N means (Err e) (Err (refused.Input i)) p (inl m) = absurd (p.1 m)
rules_error Reads M G R B input N means (Err e) (Err (refused.Input i)) p (inr none) = rw p.0 (means none.1)
rules_error Reads M G R B input N means (Err e) (Err (refused.Token f)) p n = inl p.1
rules_error Reads M G R B input N means (Err e) (Err (refused.Further f)) p n = absurd p

-- a value that was read is the one that is handed on
pub read_ok : {T : Type 0} (P : T → Type 0) (input : Input) (r : Result T Error) (v : T) → IsReadAs input r (Ok v)
    → IfOk r P → P v
read_ok P input (Ok w) v p q = rw p q
read_ok P input (Err e) v p q = absurd p

-- a refusal leaves no message
pub no_message : (header claims : List ℕ) (r : CallError) (n s len : ℕ) (old new : List ℕ)
    → AnswersInput header claims (answer_of r) → n ≡ 0
    → IsKept (refusal_status r) s len old new → LeavesInput header claims n s len old new
no_message header claims (refused.Input i) n s len old new a z k = (InputError i, a, z, k)
no_message header claims (refused.Token e) n s len old new a z k = (Refuses (kind_of e), a, z, k)
no_message header claims (refused.Further f) n s len old new a z k = absurd a

-- a result that is one, by its two sides
pub ok_side : {V : Type 0} (items : V → List ℕ) (By : Answer → Type 0) (r : Result V CallError) → By (answer_in items r)
    → IfOk r (λ b. By (Returns (items b)))
ok_side items By (Ok b) h = h
ok_side items By (Err e) h = tt

pub err_side : {V : Type 0} (items : V → List ℕ) (By : Answer → Type 0) (r : Result V CallError) → By (answer_in items r)
    → IfErr r (λ e. By (answer_of e))
err_side items By (Ok b) h = tt
err_side items By (Err e) h = h
