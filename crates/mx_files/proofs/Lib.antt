pub mod RowLemmas
pub mod TableLemmas
pub mod CopiedLemmas
pub mod FileLemmas
pub mod FolderLemmas
pub mod SeriesLemmas
pub mod PlacedLemmas
