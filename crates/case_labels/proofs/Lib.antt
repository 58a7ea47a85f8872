pub mod CoveringLabels
pub mod Coverings
pub mod Refusing
pub mod Steps
