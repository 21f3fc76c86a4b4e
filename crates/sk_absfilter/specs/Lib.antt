pub mod Arguments
pub mod Truths
pub mod Abstract
pub mod Laws
pub mod Fits
