pub mod Nodes
pub mod Fields
pub mod Select
