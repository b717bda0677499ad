pub mod Texts
pub mod Commands
