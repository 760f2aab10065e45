pub mod LongSecrets
pub mod Table
pub mod law_proofs
pub use Rattle.jwt_base.specs.Kind
pub use Rattle.jwt_base.specs.KindOf
pub use Rattle.jwt_base.specs.Algorithm
pub use Rattle.jwt_keys.specs.Key
