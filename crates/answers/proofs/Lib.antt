mod Puts
mod Lines
