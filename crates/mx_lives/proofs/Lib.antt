pub mod LifeLemmas
pub mod TableLemmas
