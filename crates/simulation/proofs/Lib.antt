-- The lemmas of this crate.
pub mod Bitwise
pub mod Firsts
pub mod Filling
pub mod Separating
