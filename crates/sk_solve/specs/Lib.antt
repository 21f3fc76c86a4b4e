pub mod Solves
pub mod Tables
pub mod Climbing
