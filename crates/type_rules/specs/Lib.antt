pub mod Asks
pub mod Assigning
pub mod Forms
pub mod Scenes
pub mod Sites
pub mod Standing
pub mod Members
