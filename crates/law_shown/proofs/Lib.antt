pub mod OpaqueRecords
pub mod LastTree
pub mod FramePixels
