-- The element call's lacking bytes are exact too: its value's reader extends (proofs/ExtendedFiles.antt).
use mathlib.Core.Path.{◌≡◌, refl, sym, ap, ◌∙◌, subst}
use Prim.Native.Nat.{ℕ, suc}
use native.Mathlib.Omega.{arith}
use mathlib.Core.Option.{Option, none, some, map}
use mathlib.Core.List.{List, ◌++◌}
use lib.ListN.{length, get_elem?}
use Rattle.bsii_format.specs.Replies.{number_of, Fault, short, gives, refuses}
use Rattle.bsii_format.specs.Reader.{Result, ok, fault}
use Rattle.bsii_format.specs.Values.{Value, value_parser}
use Rattle.bsii_format.specs.BlockText.{or_refuse}
use Rattle.bsii_format.specs.Calls.{Datum, datum, elements_of, or_absent, of_value, element_call}
use Rattle.bsii_format.specs.Cuts.{ElementLackingIsExact}
use Rattle.bsii_format.proofs.ReplyLaws.{refuses≢gives, refuses_inj}
use Rattle.bsii_format.proofs.Extends.{From, Cut, Extended}
use Rattle.bsii_format.proofs.ExtendedFiles.{value_extends}

not_absent : (o : Option Datum) {at m : ℕ} {P : Type 0} → or_absent o ≡ refuses (short at m) → P
unfolding or_refuse
not_absent none e = absurd (omega (arith, ap (λ (x : Fault). number_of x.cause) (refuses_inj e)))
not_absent (some d) e = refuses≢gives (sym e)

ran_out : (version t i : ℕ) (s : List ℕ) {at m : ℕ} → element_call version t s i ≡ refuses (short at m) → value_parser version t 0 s ≡ fault (short at m)
unfolding element_call
ran_out version t i s {at} {m} e = go (value_parser version t 0 s) refl e
  where
    go : (q : Result Value) → value_parser version t 0 s ≡ q → of_value i q ≡ refuses (short at m) → value_parser version t 0 s ≡ fault (short at m)
    go (ok v n r) h e = unfold of_value in not_absent (map datum (get_elem? (elements_of v) i)) e
    go (fault x) h e = unfold of_value in h ∙ ap fault (refuses_inj e)

pub element_lacking_is_exact : ElementLackingIsExact
unfolding element_call of_value
element_lacking_is_exact version t i s at m e =
    let cut : (u : List ℕ) → Cut Value u (short at m) (value_parser version t 0 (s ++ u)) =
    λ u. subst (λ q. Extended u q (value_parser version t 0 (s ++ u))) (ran_out version t i s e) ((value_extends version t).extended 0 s u) in
    record {
      fewer = λ u l. rw ((cut u).fewer refl l);
      enough = λ u l p k h. subst (From (suc at)) (ran_out version t i (s ++ u) h) ((cut u).enough refl l) refl;
    }
