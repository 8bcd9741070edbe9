pub mod PlainPrefix
