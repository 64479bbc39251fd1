-- The lemmas of this crate.
pub mod Nets
pub mod Orders
pub mod Relinks
pub mod Counts
pub mod Sweeps
pub mod Merging
pub mod Rehashing
pub mod Valued
pub mod Filling
pub mod Wholes
pub mod Lines
pub mod Growth
pub mod Making
pub mod Joining
pub mod Openings
pub mod Codes
pub mod Graphs
