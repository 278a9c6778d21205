pub mod Doors
pub mod DoorLaws
