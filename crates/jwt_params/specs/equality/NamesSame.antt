-- The sameness of the values that are known by their names, and the bytes that they feed to a
-- hasher.
use Rattle.std.specs.Prelude.{◌≡◌, List, Bool, refl}
use Rattle.std.specs.Bool.{Decides}
use Rattle.std.specs.Cmp.{IsEquivalence}
use Rattle.std.specs.Cmp.Lexicographic.{pointwise}
use Rattle.std.specs.Hash.{HashWrites, Alike, slice}
use Rattle.jwt_base.specs.equality.Decided.{decided_by, fed_by_mark, list_decides_itself}
use Rattle.jwt_base.specs.equality.NamedSame.{IsKept, named_eq, named_fed, named_decides, named_eq_equiv, named_alike}
use Rattle.jwt_params.specs.Operation.{operation_names}
use Rattle.jwt_params.specs.Use.{use_names}
use Rattle.jwt_params.specs.declared.operations.KeyOperations.{KeyOperations}
use Rattle.jwt_params.specs.declared.operations.KeyOperations.TheVariants.{Sign, Verify, Encrypt, Decrypt, WrapKey}
use Rattle.jwt_params.specs.declared.operations.KeyOperations.TheVariants.{UnwrapKey, DeriveKey, DeriveBits, Other}
use Rattle.jwt_params.specs.declared.uses.PublicKeyUse.{PublicKeyUse}
use Rattle.jwt_params.specs.declared.uses.PublicKeyUse.TheVariants.{Signature, Encryption, Other as OtherUse}

abbrev pub use_eq : PublicKeyUse → PublicKeyUse → Bool
use_eq = named_eq use_names

abbrev pub use_fed : PublicKeyUse → HashWrites
use_fed = named_fed use_names

use_kept : (u : PublicKeyUse) → IsKept use_names u
use_kept Signature = refl
use_kept Encryption = refl
use_kept (OtherUse s) = refl

pub use_decides : (a b : PublicKeyUse) → Decides (use_eq a b) (a ≡ b)
use_decides = named_decides use_names use_kept

pub use_eq_equiv : IsEquivalence use_eq
use_eq_equiv = named_eq_equiv use_names use_kept

pub use_alike : Alike use_eq use_fed
use_alike = named_alike use_names use_kept

abbrev pub operation_eq : KeyOperations → KeyOperations → Bool
operation_eq = named_eq operation_names

abbrev pub operation_fed : KeyOperations → HashWrites
operation_fed = named_fed operation_names

operation_kept : (o : KeyOperations) → IsKept operation_names o
operation_kept Sign = refl
operation_kept Verify = refl
operation_kept Encrypt = refl
operation_kept Decrypt = refl
operation_kept WrapKey = refl
operation_kept UnwrapKey = refl
operation_kept DeriveKey = refl
operation_kept DeriveBits = refl
operation_kept (Other s) = refl

pub operation_decides : (a b : KeyOperations) → Decides (operation_eq a b) (a ≡ b)
operation_decides = named_decides operation_names operation_kept

pub operation_eq_equiv : IsEquivalence operation_eq
operation_eq_equiv = named_eq_equiv operation_names operation_kept

pub operation_alike : Alike operation_eq operation_fed
operation_alike = named_alike operation_names operation_kept

-- lists of operations
abbrev pub operations_eq : List KeyOperations → List KeyOperations → Bool
operations_eq = pointwise operation_eq

pub operations_decides : (xs ys : List KeyOperations) → Decides (operations_eq xs ys) (xs ≡ ys)
operations_decides = list_decides_itself operation_eq operation_decides

pub operations_eq_equiv : IsEquivalence operations_eq
operations_eq_equiv = decided_by operations_eq (λ os. os) operations_decides

abbrev pub operations_fed : List KeyOperations → HashWrites
operations_fed = slice operation_fed

pub operations_alike : Alike operations_eq operations_fed
operations_alike = fed_by_mark operations_eq (λ os. os) operations_decides operations_fed operations_fed (λ os. refl)
