pub mod PassKnowledge
pub mod ChannelRule
pub mod OutletEnds
pub mod Sending
pub mod FaultNumbers
pub mod private
