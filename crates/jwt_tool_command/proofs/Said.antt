-- The result, if the reader's bytes are known.
use Rattle.std.proofs.Common.{◌≡◌, ℕ, List, [], ◌∷◌, ◌++◌, Option, Some, None, IfSome, ◌⊎◌, ap, ◌∙◌, subst, inl, inr}
use Rattle.std.specs.Io.KnownBytes.{Appends}
use Rattle.jwt_base.specs.Kind.{Kind, text_of}
use Rattle.jwt_base.specs.KindOf.{kind_of, IsMemory}
use Rattle.jwt_base.specs.declared.errors.Error.{Error}
use Rattle.jwt_tool_command.specs.Line.{Answers, RequestAnswer, IsRefusal, IsMemoryLine, IsUsage, without_final_newline}
use Rattle.jwt_tool_command.specs.Words.{Request, request_of}

pub usage_answers : (words : List (List ℕ)) (input : List ℕ) (status : ℕ) (line : List ℕ) → request_of words ≡ None
    → IsUsage status line → Answers words input status line
usage_answers words input status line is said = rw is (inl said)

pub usage_said : (known : Option (List ℕ)) (words : List (List ℕ)) (status : ℕ) (line : List ℕ) → request_of words ≡ None
    → IsUsage status line → IfSome known (λ all. Answers words (without_final_newline all) status line)
usage_said None words status line other said = tt
usage_said (Some all) words status line other said = usage_answers words (without_final_newline all) status line other said

pub answers : (words : List (List ℕ)) (c : Request) (input : List ℕ) (status : ℕ) (line : List ℕ)
    → request_of words ≡ Some c → RequestAnswer c input status line → Answers words input status line
answers words c input status line is (inl said) = rw is (inl said)
answers words c input status line is (inr refused) = inr refused

pub request_said : (known : Option (List ℕ)) (words : List (List ℕ)) (c : Request) (read input : List ℕ) (status : ℕ)
    (line : List ℕ) → request_of words ≡ Some c
    → IfSome known (λ all. read ≡ all) → input ≡ without_final_newline read → RequestAnswer c input status line
    → IfSome known (λ all. Answers words (without_final_newline all) status line)
request_said None words c read input status line is all cut answer = tt
request_said (Some all) words c read input status line is whole cut answer =
    answers words c _ status line is (subst (λ r. RequestAnswer c (without_final_newline r) status line) whole
    (subst (λ i. RequestAnswer c i status line) cut answer))

-- and the bytes that are written then
pub wrote : (known old new : Option (List ℕ)) (words : List (List ℕ)) (status : ℕ) (line : List ℕ)
    → IfSome known (λ all. Answers words (without_final_newline all) status line)
    → Appends old new (line ++ 10 ∷ []) → IfSome known (λ all. (l : List ℕ) × Appends old new (l ++ 10 ∷ [])
    × Answers words (without_final_newline all) status l)
wrote None old new words status line said appended = tt
wrote (Some all) old new words status line said appended = (line, appended, said)

-- a refusal's text, or that of out of memory
pub refused_said : {L : Type 0} (K : Kind → Type 0) (e : Error) (status : ℕ) (line : List ℕ) → IsMemory e ⊎ K (kind_of e)
    → (line ≡ text_of (kind_of e)) × (status ≡ 1) → (L ⊎ ((k : Kind) × K k × IsRefusal k status line))
    ⊎ IsMemoryLine status line
refused_said K e status line (inl memory) said = inr (said.0 ∙ ap text_of memory, said.1)
refused_said K e status line (inr failed) said = inl (inr (kind_of e, failed, said))
