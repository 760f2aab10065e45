pub mod Group
pub mod Jacobian
pub mod Joint
pub mod Numbers
pub mod Weierstrass
pub mod private_clauses
pub use Rattle.residues.specs.Bytes
pub use Rattle.residues.specs.Modulo
