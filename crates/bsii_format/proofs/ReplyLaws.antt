-- Laws of replies, by cases: what is joined or looked up answers exactly where its parts do, and a call over a file is what it makes of what was read.
use mathlib.Core.Path.{◌≡◌, refl, ap}
use Prim.Native.Nat.{ℕ, ◌≤◌, ◌<◌}
use native.Mathlib.Omega.{arith}
use mathlib.Core.Bool.{Bool, true, false, cond}
use mathlib.Core.Option.{Option, none, some}
use mathlib.Core.List.{List, ◌++◌}
use lib.ListN.{length, drop}
use lib.Dec.{T, leb, le→leb, leb→le}
use Rattle.bsii_format.specs.declared.Cause.{Cause}
use Rattle.bsii_format.specs.Replies.{Fault, Reply, gives, refuses, refusal, output_short}
use Rattle.bsii_format.specs.Reader.{Result, ok, fault, fault_at}
use Rattle.bsii_format.specs.File.{BsiiFile, parse}
use Rattle.bsii_format.specs.Text.{value_text}
use Rattle.bsii_format.specs.BlockText.{joined, or_refuse, every_block, file_text}
use Rattle.bsii_format.specs.Calls.{of_file, text_of, steps_of, steps_in, WriteAnswer, write_answer, text_answer, text_call}
use Rattle.bsii_format.proofs.Readers.{is_true, is_false}

pub refuses≢gives : {A P : Type 0} {f : Fault} {a : A} → ◌≡◌ {A = Reply A} (refuses f) (gives a) → P
refuses≢gives {A} {P} e = let z : ◌≡◌ {A = ℕ} 0 1 = cc in let f : ⊥ = omega arith in absurd f

pub gives_inj : {A : Type 0} {a b : A} → ◌≡◌ {A = Reply A} (gives a) (gives b) → a ≡ b
gives_inj e = cc

pub refuses_inj : {A : Type 0} {f g : Fault} → ◌≡◌ {A = Reply A} (refuses f) (refuses g) → f ≡ g
refuses_inj e = cc

-- ---- texts

pub joined_gives : (a b : Reply (List ℕ)) {x y : List ℕ} → a ≡ gives x → b ≡ gives y → joined a b ≡ gives (x ++ y)
unfolding joined
joined_gives a b e k = rw (e, k)

pub joined_back : (a b : Reply (List ℕ)) {t : List ℕ} → joined a b ≡ gives t → (x : List ℕ) × (y : List ℕ) × (a ≡ gives x) × (b ≡ gives y)
unfolding joined
joined_back (gives x) (gives y) e = (x, y, refl, refl)
joined_back (gives x) (refuses f) e = refuses≢gives e
joined_back (refuses f) b e = refuses≢gives e

pub cond_back : {A : Type 0} (b : Bool) (x : Reply A) (f : Fault) {t : A} → cond b x (refuses f) ≡ gives t → T b × (x ≡ gives t)
cond_back true x f e = (tt, e)
cond_back false x f e = refuses≢gives e

pub or_back : {A : Type 0} (c : Cause) (at : ℕ) (o : Option A) {a : A} → or_refuse c at o ≡ gives a → o ≡ some a
unfolding or_refuse
or_back c at none e = refuses≢gives e
or_back c at (some x) e = ap some (gives_inj e)

-- ---- calls over a file

pub of_read : {A : Type 0} (answer : BsiiFile → ℕ → Reply A) (q : Result BsiiFile) {f : BsiiFile} {at : ℕ} {r : List ℕ} → q ≡ ok f at r → of_file answer q ≡ answer f at
unfolding of_file
of_read answer q e = rw e

pub of_fault : {A : Type 0} (answer : BsiiFile → ℕ → Reply A) (q : Result BsiiFile) {c : Cause} {x : ℕ} → q ≡ fault_at c x → of_file answer q ≡ refusal c x
unfolding of_file
of_fault answer q e = rw e

pub text_read : (words : ℕ) (s : List ℕ) {f : BsiiFile} {at : ℕ} {r : List ℕ} → parse words s ≡ ok f at r → (out : List ℕ)
    → text_call words s out ≡ text_answer (steps_of f) out (file_text value_text every_block f)
unfolding text_call text_of of_file steps_in
text_read words s e out = rw e

pub text_fault : (words : ℕ) (s : List ℕ) {x : Fault} → parse words s ≡ fault x → (out : List ℕ) → text_call words s out ≡ record { reply = refuses x; needed = 0; output = out }
unfolding text_call text_of of_file write_answer
text_fault words s e out = rw e

-- ---- what a call that writes answers, for bytes that were given

module _ {A : Type 0} (answer : List ℕ → A) (out t : List ℕ) where
  -- what holds of the answer with room and of the one without holds of it
  pub write_cases : (P : WriteAnswer A → Type 0) → P (record { reply = gives (answer t); needed = 0; output = t ++ drop (length t) out })
      → P (record { reply = refusal output_short 0; needed = length t; output = out }) → P (write_answer answer out (gives t))
  unfolding write_answer
  write_cases P x y = go (leb (length t) (length out))
    where
      go : (b : Bool) → P (cond b (record { reply = gives (answer t); needed = 0; output = t ++ drop (length t) out }) (record { reply = refusal output_short 0; needed = length t; output = out }))
      go true = x
      go false = y

  pub write_fits : length t ≤ length out → write_answer answer out (gives t) ≡ record { reply = gives (answer t); needed = 0; output = t ++ drop (length t) out }
  unfolding write_answer
  write_fits h = rw (is_true (leb (length t) (length out)) (le→leb (length t) (length out) h))

  pub write_short : length out < length t → write_answer answer out (gives t) ≡ record { reply = refusal output_short 0; needed = length t; output = out }
  unfolding write_answer
  write_short h = rw (is_false (leb (length t) (length out)) (λ z. omega (arith, leb→le (length t) (length out) z)))
