pub mod Damage
pub mod Folds
