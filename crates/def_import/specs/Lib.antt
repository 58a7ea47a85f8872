pub mod Answers
pub mod Closure
pub mod Dependencies
pub mod Library
pub mod Outcomes
pub mod Shelves
pub mod Views
pub mod Wrongs
