pub mod Stopping
pub mod RampStep
pub mod VelocityStep
pub mod Run
