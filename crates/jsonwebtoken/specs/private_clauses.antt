-- Definitions that the clauses of private functions alone name.
pub mod Asking
pub mod Claimed
pub mod IssueSteps
pub mod KnownHeaders
pub mod Refused
pub mod Steps
