-- Words that contracts of private functions cite. No contract of a public function needs them.
pub mod Reading
