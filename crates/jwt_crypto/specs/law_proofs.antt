-- Proofs of the laws of providers, which their ghosts name.
pub mod HmacFamilies
pub mod SignatureMade
pub mod VerdictMade
