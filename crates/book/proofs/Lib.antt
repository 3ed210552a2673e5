pub mod Quoted
pub mod Ranks
pub mod Shifts
pub mod Standing
pub mod Turns
pub mod Worths
