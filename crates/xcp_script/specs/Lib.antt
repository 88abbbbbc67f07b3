pub mod Lines
pub mod ScriptLine
pub mod Replay
pub mod AnswerText
pub mod private
