pub mod HeadersLaws
