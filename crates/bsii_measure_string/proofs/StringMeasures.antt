-- Strings, measured.
use mathlib.Core.Path.{◌≡◌, sym, ap, ◌∙◌}
use Prim.Native.Nat.{ℕ, ◌+◌, ◌-◌, ◌≤◌}
use native.Mathlib.Omega.{arith}
use mathlib.Core.Bool.{true, false}
use mathlib.Core.List.{List}
use lib.ListN.{length, take, drop}
use Rattle.bsii_format.specs.Replies.{Fault as Refused, not_utf8}
use Rattle.bsii_format.specs.Reader.{Result, ok, fault, after, ◌>>=◌, bytes, verify}
use Rattle.bsii_format.specs.Numbers.{number}
use Rattle.bsii_format.specs.Utf8.{utf8}
use Rattle.bsii_format.specs.Strings.{str_parser}
use Rattle.bsii_format.specs.Text.{string_text}
use Rattle.bsii_format.proofs.Readers.{after_ok}
use Rattle.bsii_format.proofs.Parsers.{number_exact}
use Rattle.bsii_format.proofs.Positions.{moved, bytes_at, bind_ok, verify_ok, verify_not, verify_fault}
use Rattle.bsii_string.specs.Answers.{refused_at, end_of, unchecked_str}
use Rattle.bsii_string.specs.declared.answers.Refusal.{Refusal}
use Rattle.bsii_string.proofs.Ends.{next_ok, fault_at_law}
use Rattle.bsii_string.proofs.Unchecked.{unchecked_str_exact}
use Rattle.bsii_prototype.proofs.Names.{named, number_front, bytes_front}
use Rattle.bsii_prototype.specs.Strings.{unchecked}
use Rattle.bsii_measure_string.specs.Measured.{long_at, measured}
use Rattle.std.specs.Prelude.{Ok, Err}

abbrev text_size : List ℕ → ℕ
text_size t = length (string_text t)

-- ---- the bytes

module _ (s : List ℕ) (start next : ℕ) (h : start ≤ next) (l : next ≤ length s) where
  reads : bytes (next - start) start (drop start s) ≡ ok (take (next - start) (drop start s)) next (drop next s)
  reads = let z : start + (next - start) ≡ next = omega arith in bytes_at (next - start) s start (omega arith) ∙ ap (λ n. ok (take (next - start) (drop start s)) n (drop n s)) z

  pub part_refused : utf8 (take (next - start) (drop start s)) ≡ false → {f : Refusal} → f ≡ refused_at not_utf8 start
      → Err f ≡ measured text_size (verify utf8 not_utf8 (bytes (next - start)) start (drop start s))
  unfolding measured
  part_refused b e = ap Err e ∙ sym (ap (measured text_size) (verify_not utf8 not_utf8 (bytes (next - start)) reads b))

  pub part_next : utf8 (take (next - start) (drop start s)) ≡ true → {long : ℕ} → long ≡ length (string_text (take (next - start) (drop start s)))
      → long_at next long ≡ measured text_size (verify utf8 not_utf8 (bytes (next - start)) start (drop start s))
  unfolding measured
  part_next b e = ap (λ m. long_at next m) e ∙ sym (ap (measured text_size) (verify_ok utf8 not_utf8 (bytes (next - start)) reads b))

-- ---- with its length in front

str_stops : (at : ℕ) (s : List ℕ) {x : Refused} → unchecked_str at s ≡ fault x → str_parser at s ≡ fault x
unfolding unchecked_str str_parser ◌>>=◌ after
str_stops at s {x} e = go (number 4 at s) e
  where
    go : (q : Result ℕ) → after q bytes ≡ fault x → after q (λ n. verify utf8 not_utf8 (bytes n)) ≡ fault x
    go (ok n i r) e = verify_fault utf8 not_utf8 (bytes n) e
    go (fault y) e = e

module _ (s : List ℕ) (at : ℕ) where
  pub string_fault : {f : Refusal} → Err f ≡ end_of (unchecked_str at (drop at s)) → Err f ≡ measured text_size (str_parser at (drop at s))
  unfolding measured
  string_fault h = sym (ap (measured text_size) (str_stops at (drop at s) (fault_at_law (unchecked_str at (drop at s)) h)))

  pub string_place : {n : ℕ} → Ok n ≡ end_of (unchecked_str at (drop at s)) → (at + 4 ≤ n) × (n ≤ length s)
  string_place h = let q = next_ok unchecked_str_exact s at h in let w = named unchecked s at q.1 in (omega (arith, w.end), w.inside)

  -- what is left to do once the length is read
  pub string_part : {n : ℕ} → Ok n ≡ end_of (unchecked_str at (drop at s)) → verify utf8 not_utf8 (bytes (n - (at + 4))) (at + 4) (drop (at + 4) s) ≡ str_parser at (drop at s)
  unfolding str_parser unchecked_str ◌>>=◌
  string_part {n} h =
      let q = next_ok unchecked_str_exact s at h in
      let p = after_ok (number 4 at (drop at s)) bytes q.1 in
      let f = (number_front 4 at (drop at s) p.3).1 in
      let g = bytes_front p.0 p.1 p.2 p.4 in
      let m = moved (number_exact 4) s at p.3 in
      let w : n - (at + 4) ≡ p.0 = omega (arith, f.next, g.next) in
      let i : at + 4 ≡ p.1 = omega (arith, f.next) in
      rw (w, i) (ap (verify utf8 not_utf8 (bytes p.0) p.1) (sym m.rest) ∙ sym (bind_ok (number 4) (λ k. verify utf8 not_utf8 (bytes k)) p.3))
