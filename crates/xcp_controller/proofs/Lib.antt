pub mod ChangedImageLemmas
pub mod ImageRangeLemmas
pub mod KeptImageLemmas
pub mod SpareLemmas
pub mod WriteEndLemmas
