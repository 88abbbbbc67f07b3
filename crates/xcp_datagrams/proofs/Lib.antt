mod DatagramLaws
mod FrontLemmas
mod NumberLemmas
