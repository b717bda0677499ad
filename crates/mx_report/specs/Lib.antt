pub mod Statement
pub mod Reconciliation
pub mod Roll
pub mod Import
pub mod Even
pub mod Reading
