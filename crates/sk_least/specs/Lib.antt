pub mod Domains
pub mod Least
