pub mod Kept
pub mod Program
pub mod Most
