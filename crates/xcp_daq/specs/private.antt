-- Words that contracts of private functions and invariants cite. No contract of a public function needs them.
pub mod ElementRefusal
pub mod SplicedPools
pub mod ReservedPools
