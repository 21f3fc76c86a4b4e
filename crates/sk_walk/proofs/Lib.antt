pub mod Checks
pub mod Bones
pub mod Branches
pub mod Simulation
