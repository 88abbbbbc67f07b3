pub mod CountLemmas
pub mod CrossingLemmas
pub mod KeptLemmas
pub mod NumberLemmas
pub mod TeamLemmas
pub mod TimekeeperLemmas
