-- What the largest class of a string's bytes says of the string.
use mathlib.Core.Path.{◌≡◌, refl, sym, ap, ◌∙◌}
use Prim.Native.Nat.{ℕ, zero, suc, max, ◌+◌, ◌*◌, ◌≤◌, ◌<◌}
use native.Mathlib.Numerals.{add-one}
use native.Mathlib.Omega.{arith}
use mathlib.Core.Bool.{Bool, true, false, cond, ◌&&◌}
use mathlib.Core.Logic.{⊎_elim}
use mathlib.Core.Option.{some}
use mathlib.Core.List.{List, [], ◌∷◌, ◌++◌}
use lib.ListN.{length, drop, get_or, length-append, drop_of_length-le}
use lib.Seq.{drop-cons}
use borrow.Author.Tests.{lt-ltb, le-ltb, ne_eqb}
use Rattle.bsii_format.specs.Ascii.{ascii}
use Rattle.bsii_format.specs.Utf8.{◌to◌, within, table3_7, trail_of, step, steps, complete, utf8}
use Rattle.bsii_format.specs.Digits.{hex_padded}
use Rattle.bsii_format.specs.Text.{is_bare, all_bare, escaped, string_text}
use Rattle.bsii_format.proofs.Lists.{lt_or_le}
use Rattle.bsii_text_length.proofs.StringLaws.{inside, before, past, bare, bare_text, quoted_text}
use Rattle.bsii_text_length.specs.declared.strings.Class.{Class}
use Rattle.bsii_text_length.specs.declared.strings.Class.TheVariants.{Bare, Quoted, Control, High}
use Rattle.bsii_text_length.specs.Classes.{class_of, rank, larger, worst, escape_size}
use Rattle.bsii_text_length.specs.contracts.strings.ClassOrd.TheImpl as class_ord
use Rattle.std.specs.List.{sum_by}
use Rattle.std.specs.Ordering.{ord_max}
use Rattle.std.proofs.lemmas.List.Sums.{sum_by-cons}

-- ---- the order of the classes

pub rank_larger : (a b : Class) → rank (larger a b) ≡ max (rank a) (rank b)
unfolding larger
rank_larger a b =
    ⊎_elim (λ l. rw (lt-ltb (rank a) (rank b) l) (omega arith)) (λ l. rw (le-ltb (rank a) (rank b) l) (omega arith)) (lt_or_le (rank a) (rank b))

-- std's way to the larger of two, by the derived order
pub max_larger : (a b : Class) → ord_max (class_ord.ghosts).cmp a b ≡ larger a b
unfolding rank larger
max_larger Bare Bare = refl
max_larger Bare Quoted = refl
max_larger Bare Control = refl
max_larger Bare High = refl
max_larger Quoted Bare = refl
max_larger Quoted Quoted = refl
max_larger Quoted Control = refl
max_larger Quoted High = refl
max_larger Control Bare = refl
max_larger Control Quoted = refl
max_larger Control Control = refl
max_larger Control High = refl
max_larger High Bare = refl
max_larger High Quoted = refl
max_larger High Control = refl
max_larger High High = refl

ranked : ℕ → Class
ranked zero = Bare
ranked (suc zero) = Quoted
ranked (suc (suc zero)) = Control
ranked (suc (suc (suc n))) = High

ranked_rank : (a : Class) → ranked (rank a) ≡ a
unfolding rank ranked
ranked_rank Bare = refl
ranked_rank Quoted = refl
ranked_rank Control = refl
ranked_rank High = refl

same_rank : (a b : Class) → rank a ≡ rank b → a ≡ b
same_rank a b e = sym (ranked_rank a) ∙ ap ranked e ∙ ranked_rank b

pub below_high : (a : Class) → (a ≡ High → ⊥) → rank a ≤ 2
unfolding rank
below_high Bare h = omega arith
below_high Quoted h = omega arith
below_high Control h = omega arith
below_high High h = absurd (h refl)

pub beyond_bare : (a : Class) → (a ≡ Bare → ⊥) → 1 ≤ rank a
unfolding rank
beyond_bare Bare h = absurd (h refl)
beyond_bare Quoted h = omega arith
beyond_bare Control h = omega arith
beyond_bare High h = omega arith

-- the least one beside another
pub larger_none : (a : Class) → larger a Bare ≡ a
larger_none a = same_rank (larger a Bare) a (rank_larger a Bare ∙ unfold rank in omega arith)

pub larger_first : (a : Class) → larger Bare a ≡ a
larger_first a = same_rank (larger Bare a) a (rank_larger Bare a ∙ unfold rank in omega arith)

-- ---- a byte

module _ (x : ℕ) where
  pub class_high : 127 < x → High ≡ class_of x
  unfolding class_of
  class_high h = simp (lt-ltb 127 x h)

  pub class_low : x < 32 → Control ≡ class_of x
  unfolding class_of
  class_low h = simp (le-ltb 127 x (omega arith), lt-ltb x 32 h)

  pub class_raw : {b : Bool} → 32 ≤ x → x ≤ 127 → is_bare x ≡ b → cond b Bare Quoted ≡ class_of x
  unfolding class_of
  class_raw h k e = simp (le-ltb 127 x k, le-ltb x 32 h, e)

  -- what its class says
  not_high : rank (class_of x) ≤ 2 → x ≤ 127
  unfolding rank
  not_high h = ⊎_elim (λ l. absurd (omega (arith, ap rank (class_high l)))) (λ l. l) (lt_or_le 127 x)

  not_low : rank (class_of x) ≤ 1 → 32 ≤ x
  unfolding rank
  not_low h = ⊎_elim (λ l. absurd (omega (arith, ap rank (class_low l)))) (λ l. l) (lt_or_le x 32)

  is_bare_law : rank (class_of x) ≤ 0 → is_bare x ≡ true
  unfolding rank
  is_bare_law h = go (is_bare x) refl
    where
      go : (b : Bool) → is_bare x ≡ b → b ≡ true
      go true e = refl
      go false e = absurd (omega (arith, ap rank (class_raw (not_low (omega arith)) (not_high (omega arith)) e)))

  not_bare : 1 ≤ rank (class_of x) → is_bare x ≡ false
  unfolding rank
  not_bare h = ⊎_elim high (λ l. ⊎_elim low (λ k. raw k l) (lt_or_le x 32)) (lt_or_le 127 x)
    where
      high : 127 < x → is_bare x ≡ false
      high l = bare x (past 0x30 0x39 x (omega arith)) (past 0x41 0x5a x (omega arith)) (ne_eqb x 0x5f (λ e. omega arith)) (past 0x61 0x7a x (omega arith))

      low : x < 32 → is_bare x ≡ false
      low l = bare x (before 0x30 0x39 x (omega arith)) (before 0x41 0x5a x (omega arith)) (ne_eqb x 0x5f (λ e. omega arith)) (before 0x61 0x7a x (omega arith))

      raw : 32 ≤ x → x ≤ 127 → is_bare x ≡ false
      raw l k = go (is_bare x) refl
        where
          go : (b : Bool) → is_bare x ≡ b → b ≡ false
          go true e = absurd (omega (arith, ap rank (class_raw l k e)))
          go false e = refl

-- ---- a string

pub worst_bare : (s : List ℕ) → rank (worst s) ≤ 0 → all_bare s ≡ true
unfolding rank worst all_bare
worst_bare [] h = refl
worst_bare (x ∷ s) h = let e = rank_larger (class_of x) (worst s) in ap (λ b. b && all_bare s) (is_bare_law x (omega arith)) ∙ worst_bare s (omega arith)

both : (a b : Bool) → b ≡ false → a && b ≡ false
both true b e = e
both false b e = refl

pub worst_quoted : (s : List ℕ) → 1 ≤ rank (worst s) → all_bare s ≡ false
unfolding rank worst all_bare
worst_quoted [] h = absurd (omega arith)
worst_quoted (x ∷ s) h =
    let e = rank_larger (class_of x) (worst s) in
    ⊎_elim (λ l. both (is_bare x) (all_bare s) (worst_quoted s (omega arith))) (λ l. ap (λ b. b && all_bare s) (not_bare x l)) (lt_or_le (rank (class_of x)) 1)

pub worst_raw : (s : List ℕ) → rank (worst s) ≤ 1 → escaped s ≡ s
unfolding rank worst escaped
worst_raw [] h = refl
worst_raw (x ∷ s) h = let e = rank_larger (class_of x) (worst s) in rw (inside 32 127 x (not_low x (omega arith)) (not_high x (omega arith)), worst_raw s (omega arith))

-- ASCII is UTF-8
ascii_steps : (s : List ℕ) → rank (worst s) ≤ 2 → steps (some []) s ≡ some []
unfolding rank worst steps step trail_of table3_7
ascii_steps [] h = refl
ascii_steps (x ∷ s) h = let e = rank_larger (class_of x) (worst s) in rw (inside 0x00 0x7f x (omega arith) (not_high x (omega arith)), ascii_steps s (omega arith))

pub worst_ascii : (s : List ℕ) → rank (worst s) ≤ 2 → utf8 s ≡ true
unfolding utf8 complete
worst_ascii s h = ap complete (ascii_steps s h)

-- ---- the loops

module _ (s : List ℕ) (i : ℕ) where
  pub worst_more : (all : Class) → i < length s → larger (larger all (class_of (get_or s i 0))) (worst (drop (i + 1) s)) ≡ larger all (worst (drop i s))
  worst_more all h =
      let x = class_of (get_or s i 0) in
      let y = worst (drop (i + 1) s) in
      let e : worst (drop i s) ≡ larger x y = unfold worst in rw (drop-cons s i 0 h, add-one) refl in
      rw e (same_rank (larger (larger all x) y) (larger all (larger x y)) (rw (rank_larger (larger all x) y, rank_larger all x, rank_larger all (larger x y), rank_larger x y) (omega arith)))

  pub worst_none : length s ≤ i → worst (drop i s) ≡ Bare
  unfolding worst
  worst_none h = ap worst (drop_of_length-le s {i = i} h)

-- ---- escapes

escape_size_law : (x : ℕ) → length (cond (within (32 to 127) x) (x ∷ []) (ascii "\\x" ++ hex_padded 2 x)) ≡ escape_size x
escape_size_law x = unfold escape_size hex_padded in go (within (32 to 127) x)
  where
    go : (b : Bool) → length (cond b (x ∷ []) (ascii "\\x" ++ hex_padded 2 x)) ≡ cond b 1 4
    go true = refl
    go false = unfold hex_padded in refl

pub escaped_sum : (s : List ℕ) → sum_by escape_size s ≡ length (escaped s)
unfolding escaped
escaped_sum [] = refl
escaped_sum (x ∷ s) = rw (sum_by-cons escape_size x s, length-append, escape_size_law x, escaped_sum s) refl

pub escape_most : (x : ℕ) → escape_size x ≤ 4
escape_most x = unfold escape_size in go (within (32 to 127) x)
  where
    go : (b : Bool) → cond b 1 4 ≤ 4
    go true = omega arith
    go false = omega arith

pub escapes_most : (s : List ℕ) → sum_by escape_size s ≤ 4 * length s
escapes_most [] = omega arith
escapes_most (x ∷ s) = rw (sum_by-cons escape_size x s) (omega (arith, escape_most x, escapes_most s))

-- ---- the text

pub bare_size : (s : List ℕ) → 0 < length s → rank (worst s) ≤ 0 → length s ≡ length (string_text s)
bare_size s h l = sym (ap length (bare_text s h (worst_bare s l)))

pub escaped_size : (s : List ℕ) → 0 < length s → 1 ≤ rank (worst s) → 2 + length (escaped s) ≡ length (string_text s)
escaped_size s h l = sym (ap length (quoted_text s h (worst_quoted s l)) ∙ simp length-append (omega arith))

pub raw_size : (s : List ℕ) → 0 < length s → rank (worst s) ≡ 1 → 2 + length s ≡ length (string_text s)
raw_size s h l = ap (λ t. 2 + length t) (sym (worst_raw s (omega arith))) ∙ escaped_size s h (omega arith)
