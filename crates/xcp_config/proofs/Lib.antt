pub mod TableArrayLemmas
pub mod CheckLemmas
pub mod ClockLemmas
pub mod ArrayMemberLemmas
pub mod LimitLemmas
pub mod TableFaultLemmas
pub mod DataFileLemmas
pub mod NoFileLemmas
