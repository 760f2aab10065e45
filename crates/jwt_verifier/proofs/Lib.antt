pub mod CurveLemmas
pub mod OrderLemmas
pub mod PreparedLemmas
pub mod RingLemmas
