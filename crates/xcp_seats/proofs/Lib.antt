mod NotingLemmas
mod TickLemmas
pub mod TrailLemmas
