pub mod Merges
pub mod Reaches
pub mod Turns
