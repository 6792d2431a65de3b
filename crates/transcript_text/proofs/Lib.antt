pub mod Later
pub mod Numbers
pub mod ReplyWords
pub mod ReadAgain
pub mod DecodedBytes
pub mod InForm
pub mod PrintedHistories
