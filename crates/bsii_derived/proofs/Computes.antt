-- Opens every definition of the index and of the forecast, and those of the format too.
use Prim.Native.Nat.{ℕ}
use mathlib.Core.List.{List}
use Rattle.bsii_format.proofs.Worked.{computes}
use Rattle.bsii_derived.specs.Index.{index_record, cons_under, cons_index, index_from, index_of, index_record_bytes, index_bytes, index_record_parser, whole, record_at, agreeing}
use Rattle.bsii_derived.specs.IndexCalls.{write_index_call, checked, check_index_call, demand, prototype_head, prototype_with, prototype_at, is_of, block_at, answering, field_by, index_field_call, once, defines_once_call}
use Rattle.bsii_derived.specs.Forecast.{largest_in, forecast_of, foretold, forecast_call}

-- a proof that names it on its unfolding line computes
unfoldable pub computes_index : List ℕ → List ℕ
unfolding computes index_record cons_under cons_index index_from index_of index_record_bytes index_bytes index_record_parser whole record_at agreeing write_index_call checked check_index_call demand prototype_head prototype_with prototype_at is_of block_at answering field_by index_field_call once defines_once_call
computes_index s = s

unfoldable pub computes_forecast : List ℕ → List ℕ
unfolding computes_index largest_in forecast_of foretold forecast_call
computes_forecast s = s
