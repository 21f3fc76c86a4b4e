pub mod Numbers
mod Padding
pub mod Texts
