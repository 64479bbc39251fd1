-- The definitions that the contracts cite: diagrams and parts first, then the table, its calls and its laws.
pub mod Diagram
pub mod Parts
pub mod Steps
pub mod Index
pub mod Caching
pub mod Contents
pub mod Size
pub mod Laws
pub mod Marking
pub mod Calls
pub mod Codes
pub mod Reading
pub mod Composing
