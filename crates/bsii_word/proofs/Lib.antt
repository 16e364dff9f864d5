pub mod Base38
pub mod WordLaws
