pub mod EdDsaKeys
pub mod EcdsaKeys
pub mod CurveKeys
pub mod CurvePrepared
pub mod law_proofs
