pub mod Orders
pub mod Slots
pub mod Blocks
pub mod Left
pub mod Place
