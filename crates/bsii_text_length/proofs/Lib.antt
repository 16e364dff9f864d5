pub mod StringLaws
pub mod ClassLaws
pub mod WordLaws
