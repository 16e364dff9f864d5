-- The index beside a save: document 02, E1; FORMAT.md, "The index". The forecast: document 02, E6; FORMAT.md, "The forecast".
pub mod Index
pub mod IndexCalls
pub mod IndexClaims
pub mod IndexRefusals
pub mod WorkedIndex
pub mod Forecast
pub mod ForecastRefusals
pub mod ForecastClaims
pub mod WorkedForecast
