mod Places
mod Adding
mod Digits
mod Rows
