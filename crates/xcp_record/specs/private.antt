-- Words that contracts of private functions cite. No contract of a public function needs them.
pub mod Calls
pub mod ReadChapter
pub mod ReadHead
pub mod Stands
