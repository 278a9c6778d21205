pub mod Link
pub mod Links
pub mod Arrays
pub mod ArraysClaims
pub mod ContinuityClaims
