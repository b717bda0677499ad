pub mod One
pub mod Props
pub mod The
pub mod Shown
