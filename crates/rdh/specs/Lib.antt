pub mod Subfields
pub mod PayloadSize
pub mod Messages
