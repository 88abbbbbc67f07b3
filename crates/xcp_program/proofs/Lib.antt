mod DecidedLemmas
pub mod SourceLemmas
pub mod CommandLineLemmas
pub mod ClapRowLemmas
pub mod ClapWalkLemmas
pub mod NoFaultLemmas
pub mod RefusalLemmas
pub mod StoredPagesLemmas
pub mod StoredSizeLemmas
