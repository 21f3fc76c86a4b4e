pub mod Filters
pub mod Fits
pub mod Layout
pub mod Named
pub mod Rules
pub mod Same
pub mod Signatures
pub mod Sorts
