pub mod Headings
pub mod Lone
pub mod Named
pub mod Sight
pub mod Worlds
pub mod MainBlocks
pub mod Results
