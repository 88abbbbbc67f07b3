pub mod Check
pub mod FaultNumbers
pub mod TomlValues
pub mod TableChecks
pub mod TableLayout
pub mod ConfigText
pub mod ConfigLaws
pub mod private
