pub mod Sides
pub mod Tabled
pub mod Jobs
