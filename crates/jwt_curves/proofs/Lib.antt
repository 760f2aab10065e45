pub mod KeyLengths
