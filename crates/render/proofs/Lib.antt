pub mod Sets
pub mod Digits
pub mod Lines
pub mod Words
