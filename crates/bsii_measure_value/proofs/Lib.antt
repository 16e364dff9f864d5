pub mod ElementMeasures
pub mod NumberMeasures
pub mod ValueMeasures
pub mod TextSizes
