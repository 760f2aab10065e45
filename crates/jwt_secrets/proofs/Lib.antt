pub mod Digits
pub mod Elements
pub mod Keys
pub mod Marks
pub mod Tables
pub mod ZeroBytes
