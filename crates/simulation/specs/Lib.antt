-- The definitions that the contracts of this crate cite.
pub mod Lanes
pub mod Earliest
pub mod Worked
