pub mod Numbers
pub mod Published
pub mod Reading
pub mod Session
