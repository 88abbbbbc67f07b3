-- Words that contracts of private functions cite, and laws. No contract of a public function needs them.
pub mod PrintingLaws
