pub mod CommandLemmas
pub mod MisfitLemmas
pub mod TaskLemmas
