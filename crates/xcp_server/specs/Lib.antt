pub mod ConnectionOutcome
pub mod LastHangup
pub mod Report
pub mod ServerEnd
pub mod ServerOutcome
pub mod private
