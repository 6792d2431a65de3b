pub mod Kinds
pub mod Answers
pub use Rattle.data_calls.specs.Answers as DataAnswers
pub use Rattle.data_calls.specs.Books
pub use Rattle.data_calls.specs.Calls
pub use Rattle.data_calls.specs.Cut
pub use Rattle.data_calls.specs.Kinds as DataKinds
pub use Rattle.data_calls.specs.Making
pub use Rattle.data_calls.specs.Words
pub use Rattle.data_calls.specs.Finishing
