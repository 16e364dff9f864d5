pub mod LengthLaws
pub mod ForeseeLaws
