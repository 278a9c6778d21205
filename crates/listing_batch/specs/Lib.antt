pub mod Batches
pub mod Listings
pub mod BatchLaws
pub mod ListingLaws
pub mod JoinLaws
