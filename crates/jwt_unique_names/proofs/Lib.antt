pub mod Bytes
pub mod Tokens
pub mod Kept
pub mod Texts
