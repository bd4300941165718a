pub mod Decimals
pub mod Words
pub mod Printed
pub mod Turns
pub mod Machine
pub mod Worked
pub mod Claims
