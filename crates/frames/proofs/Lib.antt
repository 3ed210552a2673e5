pub mod Cut
pub mod Decoded
pub mod Promised
pub mod Served
pub mod Spelled
pub mod Dialogue
