pub mod Operands
pub mod Printed
pub mod Text
