-- Bytes whose end was answered, and the number that they are.
use mathlib.Core.Path.{◌≡◌, sym, ap, ◌∙◌}
use Prim.Native.Nat.{ℕ, ◌+◌, ◌-◌, ◌≤◌}
use native.Mathlib.Omega.{arith}
use mathlib.Core.List.{List}
use lib.Dec.{leb, leb→le}
use lib.ListN.{length, take, drop, length-drop}
use Rattle.bsii_format.specs.Reader.{ok, fault, bytes}
use Rattle.bsii_format.specs.Numbers.{little_endian, number}
use Rattle.bsii_format.proofs.Readers.{bytes_exact, map_fault, cond_ok, ok_at}
use Rattle.bsii_format.proofs.Positions.{number_at_law}
use Rattle.bsii_string.specs.Answers.{fault_is, end_of}
use Rattle.bsii_string.specs.declared.answers.Refusal.{Refusal}
use Rattle.bsii_string.proofs.Ends.{next_ok, fault_at_law}
use Rattle.std.specs.Prelude.{Ok, Err}

module _ (w : ℕ) (s : List ℕ) (at : ℕ) where
  pub bytes_there : {next : ℕ} → Ok next ≡ end_of (bytes w at (drop at s)) → (w ≤ length s - at) × (next ≡ at + w)
  unfolding bytes
  bytes_there e =
      let r = next_ok (bytes_exact w) s at e in
      let f = cond_ok (leb w (length (drop at s))) (ok (take w (drop at s)) (at + w) (drop w (drop at s))) _ r.1 in
      (omega (arith, leb→le w (length (drop at s)) f.0, length-drop at s), sym (ok_at f.1))

  pub number_there : {next : ℕ} → Ok next ≡ end_of (bytes w at (drop at s)) → number w at (drop at s) ≡ ok (little_endian (take w (drop at s))) next (drop next s)
  number_there e =
      let f = bytes_there e in
      number_at_law w s at f.0 ∙ ap (λ (n : ℕ). ok (little_endian (take w (drop at s))) n (drop n s)) (sym f.1)

  pub number_cut : {f : Refusal} → Err f ≡ end_of (bytes w at (drop at s)) → fault (fault_is f) ≡ number w at (drop at s)
  unfolding number
  number_cut e = sym (map_fault little_endian (bytes w) at (drop at s) (fault_at_law (bytes w at (drop at s)) e))
