-- Why a text was not read, unless memory ran out.
use Rattle.std.proofs.Common.{◌≡◌, ◌⊎◌, inl, inr}
use Rattle.jwt_base.specs.Kind.{Kind}
use Rattle.jwt_base.specs.KindOf.{IsMemory, RefusesAs}
use Rattle.jwt_base.specs.declared.errors.Error.{Error}
use Rattle.jwt_requests.specs.declared.fault.Fault.{Fault}
use Rattle.jwt_requests.specs.declared.fault.Fault.TheVariants as fault

pub unless_memory : {P Q : Type 0} (k : Kind) (e : Error) (f : Fault) → RefusesAs k P e
    → (IsMemory e → f ≡ fault.Memory) → (P → Q)
    → (f ≡ fault.Memory) ⊎ Q
unless_memory k e f (inl memory) of_memory to = inl (of_memory memory)
unless_memory k e f (inr unread) of_memory to = inr (to unread.1)
