pub mod Bits
pub mod KeyTests
pub mod Lowest
pub mod Masks
pub mod PreparedKeys
