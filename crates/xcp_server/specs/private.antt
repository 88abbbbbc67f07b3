-- Words that contracts of private functions cite. No contract of a public function needs them.
pub mod ConnectionParts
pub mod DealtCallers
pub mod Dispatching
pub mod GivenBack
pub mod Performing
pub mod ReadyServer
pub mod ServerRoom
pub mod WrittenChapters
