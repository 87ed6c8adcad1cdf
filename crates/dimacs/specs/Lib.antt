pub mod Clause
pub mod Formed
