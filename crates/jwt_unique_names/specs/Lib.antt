pub mod private_clauses
