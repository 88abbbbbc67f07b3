mod FileLemmas
mod PageLemmas
mod FaultLemmas
mod LayoutLemmas
mod TakingLemmas
mod FittingLemmas
mod SizeLemmas
mod KeptLemmas
