pub mod PartLemmas
pub mod PlaceLemmas
pub mod BlockLemmas
pub mod TableLemmas
