-- The forecast gives the refusals that specs/ForecastRefusals.antt lists for it: no others, by the definitions' cases, and each of them for a worked file.
use Prim.Native.Nat.{ℕ}
use mathlib.Core.Path.{◌≡◌, refl, sym, ap, ◌∙◌, subst}
use mathlib.Core.Bool.{false}
use mathlib.Core.List.{List}
use lib.Dec.{T}
use Rattle.bsii_format.specs.declared.Cause.{Cause}
use Rattle.bsii_format.specs.Replies.{Fault, refused, Reply, gives, refuses, field_count, enum_value}
use Rattle.bsii_format.specs.File.{BsiiFile}
use Rattle.bsii_format.specs.Text.{value_text}
use Rattle.bsii_format.specs.BlockText.{every_block, file_text}
use Rattle.bsii_format.specs.Calls.{of_file}
use Rattle.bsii_format.specs.Refusals.{among, counted, none as nothing, ◌also◌, Within, GivesExactly}
use Rattle.bsii_format.specs.WorkedCalls.{recounted_file, unlisted_enum_file}
use Rattle.bsii_format.proofs.Readers.{and_left}
use Rattle.bsii_format.proofs.ReplyLaws.{refuses≢gives, refuses_inj}
use Rattle.bsii_format.proofs.CallRefusals.{more_within, call_within, print_numbers, file_within, given, handed}
use Rattle.bsii_derived.specs.Forecast.{foretold, forecast_call}
use Rattle.bsii_derived.specs.ForecastRefusals.{forecast_numbers}
use Rattle.bsii_derived.proofs.Computes.{computes_forecast}

-- of the forecast of a file that was read
pub foretold_within : (f : BsiiFile) → Within print_numbers (foretold f (file_text value_text every_block f))
foretold_within f = go (file_text value_text every_block f) (file_within value_text every_block f)
  where
    go : (q : Reply (List ℕ)) → Within print_numbers q → Within print_numbers (foretold f q)
    go (gives t) h = unfold foretold in tt
    go (refuses x) h = unfold foretold in h

pub forecast_refusals : GivesExactly {Q = ℕ × List ℕ} forecast_numbers (λ q. forecast_call q.0 q.1)
unfolding computes_forecast recounted_file unlisted_enum_file
forecast_refusals = record {
  only = λ q.
      call_within forecast_numbers (λ f at. foretold f (file_text value_text every_block f)) tt
      (λ f at. more_within forecast_numbers print_numbers tt (foretold f (file_text value_text every_block f)) (foretold_within f)) q.0 q.1;
  each = handed (λ words s. (words, s)) (λ words s f e. ap (of_file _) e)
      (given (3, recounted_file) (refused field_count 44) refl also given (3, unlisted_enum_file) (refused enum_value 65) refl also nothing);
  nonzero = refl;
}

-- a cause that is not among those by which a reply may refuse
pub never : (l : List Cause) (c : Cause) → among l c ≡ false → {A : Type 0} (q : Reply A) → Within l q → (x : Fault) → q ≡ refuses x → x.cause ≡ c → ⊥
never l c e (gives a) h x z k = refuses≢gives (sym z)
never l c e (refuses y) h x z k =
    subst T e (subst (λ d. T (among l d)) (ap (λ (f : Fault). f.cause) (refuses_inj z) ∙ k) (and_left (among l y.cause) (counted y) h))
