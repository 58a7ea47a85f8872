pub mod Answers
pub mod Closure
pub mod Loads
pub mod Shelves
