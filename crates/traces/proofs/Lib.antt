mod Texts
mod Settings
mod Forms
mod Digits
mod Places
