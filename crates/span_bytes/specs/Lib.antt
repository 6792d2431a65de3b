pub mod Spans
pub mod Kinds
