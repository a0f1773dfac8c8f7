mod Fronts
mod Splitting
mod Reading
