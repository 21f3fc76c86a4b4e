pub mod Sets
pub mod Signs
pub mod Tables
pub mod Texts
pub mod Laws
pub mod Best
pub mod Inclusion
