pub mod Flusher
