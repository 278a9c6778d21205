-- Why it holds.
pub mod EndLaws
pub mod FilterPartsLaws
pub mod FilterStepLaws
pub mod FilterThinsLaws
pub mod LinkThinnedLaws
