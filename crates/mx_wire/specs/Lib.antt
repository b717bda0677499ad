pub mod Routes
pub mod Bodies
pub mod Trees
pub mod Replies
pub mod Made
