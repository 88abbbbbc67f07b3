pub mod AreaEndLemmas
pub mod WholeBlockLemmas
pub mod RowLemmas
pub mod BlockLaws
pub mod MtaAccessLaws
