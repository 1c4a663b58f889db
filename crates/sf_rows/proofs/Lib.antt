pub mod ByteWords
pub mod ColumnLemmas
pub mod EachLane
pub mod PickLemmas
pub mod PixelLemmas
pub mod QuadWords
pub mod RoundedProducts
pub mod RowLemmas
