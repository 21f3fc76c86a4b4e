pub mod LeastOne
pub mod Places
pub mod Ranks
pub mod Raises
pub mod Steps
pub mod OperandReads
pub mod Due
pub mod Passes
