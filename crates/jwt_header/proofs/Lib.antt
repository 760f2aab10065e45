pub mod Each
pub mod FreeExtras
pub mod HeaderLemmas
pub mod Unreadable
