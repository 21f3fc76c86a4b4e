pub mod BestLemmas
pub mod Finding
pub mod Grids
pub mod Witnesses
pub mod Included
