pub mod Lines
pub mod Places
pub mod Numbers
pub mod Heads
pub mod First
