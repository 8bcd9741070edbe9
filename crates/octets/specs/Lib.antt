pub mod Pages
pub mod Document
