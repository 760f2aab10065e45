-- The sameness of the values that are known by their names, and the bytes that they feed to a
-- hasher.
use Rattle.std.specs.Prelude.{◌≡◌, Bool, refl}
use Rattle.std.specs.Bool.{Decides}
use Rattle.std.specs.Cmp.{IsEquivalence}
use Rattle.std.specs.Hash.{HashWrites, Alike}
use Rattle.jwt_base.specs.equality.NamedSame.{IsKept, named_eq, named_fed, named_decides, named_eq_equiv, named_alike}
use Rattle.jwt_header.specs.Enc.{enc_names}
use Rattle.jwt_header.specs.Zip.{zip_names}
use Rattle.jwt_header.specs.declared.names.Enc.{Enc}
use Rattle.jwt_header.specs.declared.names.Enc.TheVariants.{A128CBC_HS256, A192CBC_HS384, A256CBC_HS512, A128GCM}
use Rattle.jwt_header.specs.declared.names.Enc.TheVariants.{A192GCM, A256GCM, Other}
use Rattle.jwt_header.specs.declared.names.Zip.{Zip}
use Rattle.jwt_header.specs.declared.names.Zip.TheVariants.{Deflate, Other as OtherZip}

abbrev pub enc_eq : Enc → Enc → Bool
enc_eq = named_eq enc_names

abbrev pub enc_fed : Enc → HashWrites
enc_fed = named_fed enc_names

enc_kept : (e : Enc) → IsKept enc_names e
enc_kept A128CBC_HS256 = refl
enc_kept A192CBC_HS384 = refl
enc_kept A256CBC_HS512 = refl
enc_kept A128GCM = refl
enc_kept A192GCM = refl
enc_kept A256GCM = refl
enc_kept (Other s) = refl

pub enc_decides : (a b : Enc) → Decides (enc_eq a b) (a ≡ b)
enc_decides = named_decides enc_names enc_kept

pub enc_eq_equiv : IsEquivalence enc_eq
enc_eq_equiv = named_eq_equiv enc_names enc_kept

pub enc_alike : Alike enc_eq enc_fed
enc_alike = named_alike enc_names enc_kept

abbrev pub zip_eq : Zip → Zip → Bool
zip_eq = named_eq zip_names

abbrev pub zip_fed : Zip → HashWrites
zip_fed = named_fed zip_names

zip_kept : (z : Zip) → IsKept zip_names z
zip_kept Deflate = refl
zip_kept (OtherZip s) = refl

pub zip_decides : (a b : Zip) → Decides (zip_eq a b) (a ≡ b)
zip_decides = named_decides zip_names zip_kept

pub zip_eq_equiv : IsEquivalence zip_eq
zip_eq_equiv = named_eq_equiv zip_names zip_kept

pub zip_alike : Alike zip_eq zip_fed
zip_alike = named_alike zip_names zip_kept
