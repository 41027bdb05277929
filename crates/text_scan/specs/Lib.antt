pub mod Numbers
pub mod Rows
pub mod Scanners
pub mod Internal
