mod Digits
mod Underway
