-- What is defined.
pub mod Following
pub mod Chain
pub mod Walk
pub mod Calls
pub mod PacketLists
pub mod OwnPositions
pub mod CountedHeaders
-- What is stated.
pub mod ChainEntriesClaims
pub mod SkipsClaims
pub mod CallsFollowClaims
pub mod PacketsClaims
pub mod OwnPositionsClaims
pub mod CountedHeadersClaims
pub mod AddedBytesClaims
