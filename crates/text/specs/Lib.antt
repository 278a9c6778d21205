pub mod Ascii
pub mod Put
pub mod Written
pub mod WrittenLaws
pub mod PutLaws
pub mod Messages
