pub mod Refined
pub mod Taking
pub mod Searches
pub mod Spelled
pub mod Faults
