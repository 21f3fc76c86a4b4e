pub mod Drops
pub mod Held
pub mod Pairs
pub mod Reading
pub mod Writing
