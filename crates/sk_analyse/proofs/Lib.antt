pub mod Raising
pub mod SlotLemmas
pub mod Hearing
pub mod Starting
mod KeyList
mod Telling
mod Filling
mod Demanding
mod Made
mod Concluding
