-- Laws of the text under the definitions in force, and of the walk that adds it up.
pub mod InForceLaws
pub mod StepLaws
pub mod WalkLaws
pub mod FileLaws
