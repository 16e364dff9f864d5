-- Laws of the index: its bytes (Bytes), record by record as a walk makes it (Walk), ids that are defined once (Once), what a look-up reads of what the walk has
-- read (Defined, Entries), the promises and what they say by themselves (Claims, Says), worked questions and the refusals of each call. Of the forecast: how
-- many words a table must have (Rooms), that each step has a byte (Steps), the promises (Forecasts; Roomy: no call gives 10) and what they say by themselves.
pub mod Bytes
pub mod Walk
pub mod Once
pub mod Defined
pub mod Entries
pub mod Claims
pub mod Says
pub mod Computes
pub mod WorkedIndex
pub mod IndexRefusals
pub mod WorkedForecast
pub mod ForecastRefusals
pub mod Rooms
pub mod Steps
pub mod Forecasts
pub mod Roomy
pub mod ForecastSays
