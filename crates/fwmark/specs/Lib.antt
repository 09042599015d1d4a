pub mod Permission
pub mod Mark
pub mod Selection
