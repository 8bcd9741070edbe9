pub mod TemplateName
pub mod Template
pub mod Unsupported
