pub mod ChannelRuleLemmas
pub mod CrossingLemmas
pub mod SendingLemmas
pub mod WireLemmas
