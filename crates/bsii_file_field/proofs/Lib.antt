-- Laws of the field call.
pub mod FieldCalls
pub mod Parts
