-- The definitions that the contracts of this crate cite.
pub mod Refusals
pub mod Sessions
pub mod Checks
pub mod Calls
