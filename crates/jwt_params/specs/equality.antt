-- Proofs that tests of equality decide the sameness that they name, and that equal values are
-- hashed alike.
pub mod CommonSame
pub mod NamesSame
pub mod ParametersFed
pub mod ParametersSame
