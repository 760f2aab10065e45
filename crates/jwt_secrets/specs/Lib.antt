pub mod Base64Texts
pub mod Blank
pub mod KeyTexts
