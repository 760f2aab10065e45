pub mod GivenSignature
pub mod Hmac
pub mod HmacBlocks
pub mod HmacHashers
pub mod HmacKeys
pub mod HmacPrepared
pub mod Verdict
pub mod law_proofs
