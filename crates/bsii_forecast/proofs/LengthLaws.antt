-- The text's length by the sum, and by a walk that is lent an empty window: its refusal is the text's, and its end is exact, since the text is too short for a
-- position to reach the cap.
use mathlib.Core.Path.{◌≡◌, refl, ap, ◌∙◌}
use Prim.Native.Nat.{ℕ, ◌-◌, ◌<◌}
use native.Mathlib.Omega.{arith}
use mathlib.Core.Bool.{Bool}
use mathlib.Core.Option.{Option}
use mathlib.Core.List.{List, []}
use lib.ListN.{length}
use Rattle.bsii_format.specs.Replies.{Reply, gives, refuses}
use Rattle.bsii_format.specs.Values.{Value}
use Rattle.bsii_format.specs.Prototypes.{ValuePrototype}
use Rattle.bsii_format.specs.Blocks.{DataBlock}
use Rattle.bsii_format.specs.File.{Record}
use Rattle.bsii_string.specs.declared.answers.Refusal.{Refusal}
use Rattle.bsii_parse.specs.declared.walk.Totals.{Totals}
use Rattle.bsii_window.proofs.Laws.{capped_less}
use Rattle.bsii_measure_block.specs.Sums.{measure_of, sum_is}
use Rattle.bsii_measure_block.specs.declared.sums.Sum.{Sum}
use Rattle.bsii_text.specs.Records.{TextsAre, BsiiWritten}
use Rattle.bsii_forecast.specs.Lengths.{length_is, framed_text, LengthRead, LengthTold}
use Rattle.std.specs.Prelude.{Ok, Err, Result as Outcome}

module _ (text : ValuePrototype → Value → Option (List ℕ)) (prints : DataBlock → List Record → Bool) where
  -- ---- by a walk

  module _ {version : ℕ} {s t : List ℕ} {rows : ℕ} {t' new : List ℕ} where
    pub again_refused : {f : Refusal} → BsiiWritten text prints version s 8 t rows [] (Err f) t' new → LengthRead text prints version s t rows (Err f) t'
    unfolding measure_of
    again_refused {f} h = record {
      answers = λ rooms last rest w b. record { is = go (framed_text text prints last rest) (h.writes rooms last rest w).0; serves = λ n e. cc };
    }
      where
        go : (x : Reply (List ℕ)) → TextsAre [] 0x8000_0000_0000_0000 x (Err f) new → length_is (Err f) ≡ measure_of x
        go (gives x) a = absurd a
        go (refuses x) a = rw a refl

    pub again_length : {e n : ℕ} → BsiiWritten text prints version s 8 t rows [] (Ok e) t' new → n ≡ e - 0x8000_0000_0000_0000 → LengthRead text prints version s t rows (Ok n) t'
    unfolding measure_of
    again_length {e} {n} h l = record {
      answers = λ rooms last rest w b. record {
        is = go (framed_text text prints last rest) b (h.writes rooms last rest w).0;
        serves = λ k q. record { end = w.end; n = w.n; reads = w.reads; entered = (h.writes rooms last rest w).1; lasts = w.lasts };
      };
    }
      where
        go : (o : Reply (List ℕ)) → ((x : List ℕ) → o ≡ gives x → length x < 0x4000_0000_0000_0000) → TextsAre [] 0x8000_0000_0000_0000 o (Ok e) new → length_is (Ok n) ≡ measure_of o
        go (refuses f) b a = absurd a
        go (gives x) b a =
            let end = a.next ∙ capped_less 0x8000_0000_0000_0000 (length x) (omega (arith, b x refl)) in
            let same : n ≡ length x = omega (arith, l, end) in
            ap gives same

  -- ---- by either

  module _ {a : Totals} {s t : List ℕ} {sum : Sum} {r : Outcome ℕ Refusal} where
    pub told_summed : a.rows ≡ a.prototypes → length_is r ≡ sum_is sum.to sum.missing → LengthTold text prints a s t sum r t
    told_summed e l = record { answers = λ rooms last rest w b k. record { is = l ∙ k e; serves = λ n q. w } }

    pub told_again : {t' : List ℕ} → LengthRead text prints a.version s t a.rows r t' → LengthTold text prints a s t sum r t'
    told_again h = record { answers = λ rooms last rest w b k. h.answers rooms last rest w b }
