pub mod Faults
pub mod ObjectLaws
