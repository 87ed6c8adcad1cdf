pub mod Buffers
pub mod Rising
pub mod Steps
pub mod Whole
