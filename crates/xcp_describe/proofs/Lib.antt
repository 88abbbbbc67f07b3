mod ArrayLemmas
mod CleanLemmas
mod EntryLemmas
mod FileLemmas
mod PlainLemmas
mod TransportLemmas
