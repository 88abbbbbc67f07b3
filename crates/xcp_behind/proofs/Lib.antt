pub mod CrossingLemmas
pub mod WritingLemmas
