pub mod Forms
pub mod PieceLaws
pub mod PlacedPieceLaws
