mod LineLemmas
mod LocatedLemmas
mod PlainLemmas
mod UnmarkedLemmas
