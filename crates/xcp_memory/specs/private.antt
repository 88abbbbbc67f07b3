-- Words that contracts of private functions and invariants cite. No contract of a public function needs them.
pub mod RangeInSegment
pub mod PagesBySide
pub mod PageStore
pub mod OwnValues
