-- Definitions that the clauses of private functions alone name.
pub mod Counts
