pub mod ConditionLemmas
pub mod Laws
pub mod OperationLemmas
pub mod WordLemmas
