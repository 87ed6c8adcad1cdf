pub mod Shown
pub mod Placed
pub mod Words
