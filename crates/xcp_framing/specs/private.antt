-- Words that contracts of private functions and invariants cite. No contract of a public function needs them.
pub mod AnsweredByPut
pub mod AnsweredStream
pub mod FramesAnswered
pub mod GrowingOutput
pub mod HeldPump
pub mod KnownPlace
pub mod MissingBytes
pub mod MostPackets
pub mod PutOutput
