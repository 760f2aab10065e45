pub mod Rsa
pub mod Pkcs1
pub mod Pss
pub mod RsaSchemes
pub mod RsaKeys
pub mod RsaPrepared
pub mod RsaAnswers
pub mod law_proofs
