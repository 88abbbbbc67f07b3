pub mod SegmentPlaces
