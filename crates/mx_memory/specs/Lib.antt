pub mod Due
pub mod Shelves
pub mod Logs
