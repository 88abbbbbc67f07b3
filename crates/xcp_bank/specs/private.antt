-- Words that contracts of private functions and invariants cite. No contract of a public function needs them.
pub mod BlockMarks
pub mod Everybody
pub mod ImageWords
pub mod KeptEnds
pub mod ReaderSteps
pub mod SeatSplits
pub mod SeatSteps
pub mod WriterSteps
