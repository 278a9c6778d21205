pub mod OutcomeLaws
