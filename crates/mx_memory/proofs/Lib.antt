pub mod DueLemmas
pub mod FitLemmas
pub mod JoinLemmas
pub mod EditLemmas
