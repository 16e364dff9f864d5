pub mod LineLaws
pub mod ValueLaws
