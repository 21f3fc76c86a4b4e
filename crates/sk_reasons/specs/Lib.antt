pub mod Scope
pub mod Gives
pub mod Defined
pub mod BonesSorted
pub mod Good
pub mod Noes
