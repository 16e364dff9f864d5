-- A string at a position, once its length is read.
use mathlib.Core.Path.{◌≡◌, ap, ◌∙◌}
use Prim.Native.Nat.{ℕ, ◌+◌, ◌-◌, ◌≤◌, ◌<◌}
use native.Mathlib.Nat.{add-sub_cancel_left}
use mathlib.Core.Bool.{true, false}
use mathlib.Core.List.{List}
use lib.ListN.{length, take, drop}
use Rattle.bsii_format.specs.Replies.{Fault, not_utf8}
use Rattle.bsii_format.specs.Reader.{ok, fault, fault_at, short_at, bytes, verify, ◌>>=◌}
use Rattle.bsii_format.specs.Numbers.{number}
use Rattle.bsii_format.specs.Utf8.{utf8}
use Rattle.bsii_format.specs.Strings.{str_parser}
use Rattle.bsii_format.proofs.Positions.{bytes_at, bytes_short, bind_ok, bind_fault, verify_ok, verify_not, verify_fault}
use Rattle.bsii_format.proofs.Readers.{after_ok, cond_ok, ok_at}
use Rattle.bsii_string.specs.Answers.{end_of, unchecked_str}
use Rattle.std.specs.Prelude.{Ok}

-- the length itself runs out
pub str_short : (s : List ℕ) (at : ℕ) {x : Fault} → number 4 at s ≡ fault x → str_parser at s ≡ fault x
unfolding str_parser
str_short s at e = bind_fault (number 4) _ e

pub unchecked_short : (s : List ℕ) (at : ℕ) {x : Fault} → number 4 at s ≡ fault x → unchecked_str at s ≡ fault x
unfolding unchecked_str
unchecked_short s at e = bind_fault (number 4) _ e

module _ (s : List ℕ) (at n start : ℕ) (e : number 4 at (drop at s) ≡ ok n start (drop start s)) where
  pub unchecked_cut : length s - start < n → unchecked_str at (drop at s) ≡ short_at start (n - (length s - start))
  unfolding unchecked_str
  unchecked_cut h = bind_ok (number 4) _ e ∙ bytes_short n s start h

  pub unchecked_whole : n ≤ length s - start → unchecked_str at (drop at s) ≡ ok (take n (drop start s)) (start + n) (drop (start + n) s)
  unfolding unchecked_str
  unchecked_whole h = bind_ok (number 4) _ e ∙ bytes_at n s start h

  pub unchecked_rest : unchecked_str at (drop at s) ≡ bytes n start (drop start s)
  unfolding unchecked_str
  unchecked_rest = bind_ok (number 4) _ e

  pub str_cut : {x : Fault} → bytes n start (drop start s) ≡ fault x → str_parser at (drop at s) ≡ fault x
  unfolding str_parser
  str_cut b = bind_ok (number 4) _ e ∙ verify_fault utf8 not_utf8 (bytes n) b

  pub str_not : n ≤ length s - start → utf8 (take n (drop start s)) ≡ false → str_parser at (drop at s) ≡ fault_at not_utf8 start
  unfolding str_parser
  str_not h b = bind_ok (number 4) _ e ∙ verify_not utf8 not_utf8 (bytes n) (bytes_at n s start h) b

  pub str_whole : n ≤ length s - start → utf8 (take n (drop start s)) ≡ true → str_parser at (drop at s) ≡ ok (take n (drop start s)) (start + n) (drop (start + n) s)
  unfolding str_parser
  str_whole h b = bind_ok (number 4) _ e ∙ verify_ok utf8 not_utf8 (bytes n) (bytes_at n s start h) b

-- the part that was lent to the check
pub part : (a n : ℕ) (s : List ℕ) {next : ℕ} → next ≡ a + n → take (next - a) (drop a s) ≡ take n (drop a s)
part a n s e = rw e (simp (add-sub_cancel_left a n))

-- where a string was accepted, the walk that doesn't check it ends at the same place
pub str_past_next : (s : List ℕ) (at : ℕ) {v : List ℕ} {n : ℕ} {r : List ℕ} → str_parser at s ≡ ok v n r → end_of (unchecked_str at s) ≡ Ok n
unfolding str_parser unchecked_str ◌>>=◌ verify end_of
str_past_next s at {v} {n} {r} e =
    let q = after_ok (number 4 at s) (λ k. verify utf8 not_utf8 (bytes k)) e in
    let p = after_ok (bytes q.0 q.1 q.2) _ q.4 in
    let w = cond_ok (utf8 p.0) (ok p.0 p.1 p.2) _ p.4 in
    ap end_of (bind_ok (number 4) bytes q.3 ∙ p.3) ∙ ap Ok (ok_at w.1)
