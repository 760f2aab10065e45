-- Proofs that tests of equality decide the sameness that they name, and that equal values are
-- hashed alike.
pub mod DataCode
pub mod DataEqLaws
pub mod Decided
pub mod KindEq
pub mod NamedSame
pub mod NamesFed
pub mod VariantsSame
