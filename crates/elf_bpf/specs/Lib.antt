pub mod Elf
pub mod Faults
pub mod Numbers
pub mod Reading
pub mod Sections
pub mod Words
