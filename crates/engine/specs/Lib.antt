pub mod Questions
pub mod Piles
pub mod Answers
pub mod Merging
pub mod Spaces
pub mod Asked
pub mod Towers
pub mod Worked
