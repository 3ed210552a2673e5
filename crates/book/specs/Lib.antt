pub mod Books
pub mod Flows
pub mod Promise
pub mod Register
pub mod Rows
pub mod Runs
