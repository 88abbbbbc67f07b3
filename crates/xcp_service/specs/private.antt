-- Words that contracts of private functions and invariants cite. No contract of a public function needs them.
pub mod Collected
pub mod Seats
pub mod Waiting
