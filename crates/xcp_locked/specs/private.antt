-- Words that contracts of private functions and invariants cite. No contract of a public function needs them.
pub mod NoChapter
pub mod NoLayout
pub mod OfferedImages
pub mod PlacedExchanges
pub mod PublicationPlaces
pub mod TaskSteps
