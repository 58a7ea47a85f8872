pub mod Laws
pub mod OwnDefinitions
pub mod SeveralBlocks
