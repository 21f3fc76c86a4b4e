pub mod Fits
pub mod Meets
pub mod TableMeets
pub mod Tables
pub mod Texts
pub mod Tuples
pub mod Written
