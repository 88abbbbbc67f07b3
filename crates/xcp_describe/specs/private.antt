-- Words that contracts of private functions and invariants cite. No contract of a public function needs them.
pub mod Document
pub mod EntriesRead
pub mod FiniteNumbers
pub mod PlainText
pub mod Refusals
pub mod TableKeys
pub mod TransportText
