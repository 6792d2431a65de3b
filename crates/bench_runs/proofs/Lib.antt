mod Memory
pub mod Benched
mod Printed
pub mod Drawn
