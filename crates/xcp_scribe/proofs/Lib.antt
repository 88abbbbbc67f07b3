mod AskLemmas
mod FlashingLemmas
mod ShelfLemmas
