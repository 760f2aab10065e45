pub mod Certificates
pub mod Enc
pub mod Extras
pub mod Header
pub mod HeaderWritten
pub mod Zip
pub mod equality
