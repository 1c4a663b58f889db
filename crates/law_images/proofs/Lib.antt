pub mod CopyCounts
pub mod FrontLemmas
pub mod OpaqueImages
pub mod TransparentLayers
pub mod DrawnOnce
pub mod CutTwice
