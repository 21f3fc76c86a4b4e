pub mod Worlds
pub mod Fitting
pub mod Stops
pub mod Found
pub mod Meaning
pub mod Trees
pub mod Rules
pub mod Calls
