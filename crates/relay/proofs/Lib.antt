pub mod ItemLemmas
pub mod PassLemmas
pub mod StepLemmas
