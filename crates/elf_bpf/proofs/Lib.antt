pub mod FindLaws
pub mod NameLaws
