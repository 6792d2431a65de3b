pub mod Rows
pub mod Found
pub mod CellLaws
pub mod Loop
pub mod Again
pub mod CodeSpelling
pub mod AcceptedLaws
