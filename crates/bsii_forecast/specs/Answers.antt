-- What the forecast's answer means.
use Rattle.bsii_format.specs.Replies.{Reply, gives, refuses}
use Rattle.bsii_derived.specs.Forecast as derived
use Rattle.bsii_string.specs.Answers.{fault_is}
use Rattle.bsii_string.specs.declared.answers.Refusal.{Refusal}
use Rattle.bsii_forecast.specs.declared.answers.Forecast.{Forecast}
use Rattle.std.specs.Prelude.{Ok, Err, Result as Outcome}

abbrev pub forecast_is : Outcome Forecast Refusal → Reply derived.Forecast
forecast_is (Ok a) = gives (record {
  table_words = a.table_words;
  text_length = a.text_length;
  index_length = a.index_length;
  largest_block = a.largest_block;
  steps = a.steps;
})
forecast_is (Err f) = refuses (fault_is f)
