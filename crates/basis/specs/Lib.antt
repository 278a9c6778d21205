pub mod Pick
pub mod PickLaws
pub mod Each
pub mod Refusals
pub mod Bits
pub mod Bytes
pub mod BytesLaws
