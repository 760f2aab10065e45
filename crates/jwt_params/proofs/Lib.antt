pub mod CommonLemmas
pub mod ParametersLemmas
