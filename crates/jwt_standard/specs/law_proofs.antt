-- Proofs of the laws of providers, which their ghosts name.
pub mod StandardFamilies
