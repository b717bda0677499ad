pub mod State
pub mod Bare
pub mod Messages
pub mod Conditions
pub mod Operations
pub mod Words
