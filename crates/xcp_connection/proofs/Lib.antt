pub mod CrossingLemmas
mod HeardSoFarLemmas
