pub mod LingerLimit
pub mod Call
pub mod IdleTimeout
