pub mod Rules
pub mod ChunkPart
pub mod ReadingParts
