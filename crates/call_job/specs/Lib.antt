pub mod Buffers
pub mod Suits
pub mod Views
pub mod Lending
pub mod Prepares
pub mod Puts
pub mod Writes
pub mod Ends
