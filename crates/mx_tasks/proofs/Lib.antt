pub mod RunLemmas
pub mod ConnectionLemmas
pub mod SeatLemmas
pub mod HallLemmas
pub mod GatherLemmas
pub mod ServeLemmas
pub mod WorkLemmas
pub mod RollLemmas
