pub mod Datagrams
pub mod Letters
pub mod Numbers
