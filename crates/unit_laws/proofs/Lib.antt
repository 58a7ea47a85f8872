pub mod SpelledTrees
pub mod SoundUnits
pub mod ImportedBlocks
pub mod ExpressionTokens
pub mod StatementTokens
pub mod ShortBlocks
