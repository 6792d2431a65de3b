pub mod Idle
pub mod FlushIn
pub mod Gathering
pub mod Lending
pub mod FillIn
pub mod Take
pub mod Copy
pub mod Plains
