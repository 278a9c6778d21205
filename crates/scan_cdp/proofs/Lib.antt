pub mod SkipDistanceLaws
