pub mod Searches
pub mod Runs
pub mod Free
pub mod Allocated
pub mod Released
pub mod Extents
