pub mod RouteLemmas
pub mod BodyLemmas
pub mod ReplyLemmas
pub mod TreeLemmas
pub mod ValueLemmas
