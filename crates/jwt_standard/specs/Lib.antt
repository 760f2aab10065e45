pub mod StandardKeys
pub mod StandardVerifiers
pub mod law_proofs
