-- The keys that the structs hold.
use Rattle.std.specs.Prelude.{◌≡◌}
use Rattle.jwt_base.specs.declared.algorithms.AlgorithmFamily.{AlgorithmFamily}
use Rattle.jwt_base.specs.declared.algorithms.AlgorithmFamily.TheVariants as family
use Rattle.jwt_keys.specs.declared.decoding_key.DecodingKeyKind.{DecodingKeyKind}
use Rattle.jwt_keys.specs.declared.decoding_key.DecodingKeyKind.TheVariants.{SecretOrDer, RsaModulusExponent}
use Rattle.jwt_keys.specs.Key.{Key, Plain, Components, KeyContent, Bytes, ModulusExponent}

-- the content of a `DecodingKeyKind`
abbrev pub content_of : DecodingKeyKind → KeyContent
content_of (SecretOrDer b) = Bytes b.items
content_of (RsaModulusExponent n e) = ModulusExponent n.items e.items

-- a family with the content of a key
abbrev pub key_with : AlgorithmFamily → DecodingKeyKind → Key
key_with f (SecretOrDer b) = Plain f b.items
key_with f (RsaModulusExponent n e) = Components n.items e.items

-- components stand only in the family of RSA
abbrev pub FitsFamily : AlgorithmFamily → DecodingKeyKind → Type 0
FitsFamily f (SecretOrDer b) = Unit {0}
FitsFamily f (RsaModulusExponent n e) = f ≡ family.Rsa
