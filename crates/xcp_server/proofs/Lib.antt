pub mod WrittenChapterLemmas
pub mod CommandCountLemmas
pub mod ConnectionEndLaws
pub mod ConnectionOutcomeLemmas
pub mod DispatchingLemmas
pub mod ServerOutcomeLemmas
pub mod ThreadCrossingLemmas
