pub mod Measures
pub mod StringMeasures
pub mod WordMeasures
