pub mod ItemLemmas
pub mod KeyLemmas
