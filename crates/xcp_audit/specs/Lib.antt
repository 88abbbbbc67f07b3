pub mod CallLine
pub mod Naming
pub mod Printing
pub mod PrintedAudit
pub mod private
