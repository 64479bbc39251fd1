-- The lemmas: values of edges, conjunctions, canonicity, the index, counting, marks, walks and composition.
pub mod Values
pub mod Joins
pub mod Canon
pub mod Chains
pub mod Growth
pub mod Variables
pub mod Pigeons
pub mod Tables
pub mod Counting
pub mod Marks
pub mod Marked
pub mod Walks
pub mod Leasts
pub mod Reading
pub mod Composing
pub mod Images
