pub mod Generated
pub mod Promise
