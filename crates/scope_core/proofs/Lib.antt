pub mod Checks
pub mod Filling
pub mod Flying
pub mod Fronts
pub mod Indexing
pub mod KeptTables
mod KeyTests
pub mod Runs
pub mod Searching
pub mod Settling
