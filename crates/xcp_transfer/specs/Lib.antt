pub mod TransferValue
pub mod MtaAccess
pub mod Downloads
pub mod Uploads
pub mod MtaRelations
pub mod Laws
pub mod private
