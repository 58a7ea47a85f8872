pub mod Instructions
pub mod Lines
pub mod Bytes
pub mod Reading
pub mod Heights
pub mod Modules
pub mod Valid
