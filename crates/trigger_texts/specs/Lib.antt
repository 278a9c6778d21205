pub mod CounterOrder
pub mod TriggerList
pub mod Mismatches
pub mod FieldMismatches
