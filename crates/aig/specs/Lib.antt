-- The definitions that the contracts of this crate cite.
pub mod Nets
pub mod Table
pub mod Values
pub mod Algebras
pub mod Invariant
pub mod Pairs
pub mod Cascade
pub mod Ands
pub mod Kinds
pub mod Merges
pub mod Words
pub mod Worked
pub mod Graphs
