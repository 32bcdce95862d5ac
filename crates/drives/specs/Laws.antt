pub mod Cia402
