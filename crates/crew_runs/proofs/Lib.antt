mod Endings
mod Logging
mod Telling
mod Whole
