pub mod Grammar
pub mod Derivations
pub mod Sentences
pub mod LookAhead
pub mod Reading
pub mod Readers
pub mod Texts
pub mod Laws
