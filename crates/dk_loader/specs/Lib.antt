pub mod Keys
pub mod Look
pub mod Printed
pub mod Programs
pub mod Reading
pub mod Shape
pub mod Workload
pub mod ShapeFaults
