pub mod Cuts
pub mod HexSizes
pub mod WordCuts
