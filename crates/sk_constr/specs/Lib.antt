pub mod Operands
pub mod Positions
pub mod Lines
pub mod Keys
pub mod Worlds
pub mod Meaning
pub mod Texts
pub mod Fits
