pub mod Next
pub mod Steps
pub mod Settle
pub use Rattle.page_steps.specs.Words
pub use Rattle.page_steps.specs.SystemOf
pub use Rattle.page_steps.specs.Books
