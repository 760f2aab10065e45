pub mod OwnCodes
pub mod PreparedSecrets
pub mod HmacMasks
pub mod OneDigest256
pub mod OneDigest512
pub mod PreparedKeys
pub mod SameBytes
