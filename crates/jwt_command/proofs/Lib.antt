pub mod Attached
pub mod TypedVerdict
pub mod LineStatuses
pub mod Required
pub mod Shown
pub mod Signed
pub mod Unread
