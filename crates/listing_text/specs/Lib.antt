pub mod ListingText
pub mod ListingTextClaims
