pub mod Terms
pub mod Series
pub mod Largest
pub mod Nears
pub mod Runs
pub mod Worked
pub mod Velocities
