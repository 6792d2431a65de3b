pub mod Tables
pub mod Images
