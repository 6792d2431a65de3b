pub mod Serving
pub mod AllowedAnswers
