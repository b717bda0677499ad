pub mod DamageLemmas
pub mod FileLemmas
pub mod FoldLemmas
pub mod FrameLemmas
