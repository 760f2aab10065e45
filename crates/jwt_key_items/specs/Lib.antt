pub mod KeyItems
