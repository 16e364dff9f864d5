-- All records: what a turn of the writing walk keeps, and the frame.
use mathlib.Core.Path.{◌≡◌, refl, sym, ap, ◌∙◌, subst}
use Prim.Native.Nat.{ℕ, ◌≤◌, ◌<◌}
use mathlib.Core.Bool.{Bool}
use mathlib.Core.Option.{Option}
use mathlib.Core.List.{List, [], ◌++◌, append-nil}
use lib.ListN.{length}
use Rattle.bsii_format.specs.Replies.{Reply, gives, refuses}
use Rattle.bsii_format.specs.Values.{Value}
use Rattle.bsii_format.specs.Prototypes.{ValuePrototype, Prototype}
use Rattle.bsii_format.specs.Blocks.{DataBlock}
use Rattle.bsii_format.specs.File.{Record, define}
use Rattle.bsii_format.specs.BlockText.{joined, file_opening, closing, records_text}
use Rattle.bsii_string.specs.Answers.{fault_is}
use Rattle.bsii_string.specs.declared.answers.Refusal.{Refusal}
use Rattle.bsii_table.specs.Rows.{Rows}
use Rattle.bsii_table.proofs.Relation.{entered_again}
use Rattle.bsii_block.specs.Blocks.{DefinedAt}
use Rattle.bsii_walk.specs.Seek.{WalkAt, Readable}
use Rattle.bsii_window.specs.Window.{Wrote}
use Rattle.bsii_window.proofs.Laws.{then, being, same}
use Rattle.bsii_window.proofs.Loops.{begin}
use Rattle.bsii_window.proofs.Loops as loops
use Rattle.bsii_text.specs.Records.{Stepped, went, ended, refused, RecordWritten, TextsAre, Serves, RecordsWritten, BsiiWritten}
use Rattle.std.specs.Prelude.{Some, None, Option as Answer, Ok, Err, Result as Outcome}
use Rattle.bsii_write_value.specs.Lines.{lines}
use Rattle.bsii_write_value.specs.declared.values.Lines.{Lines}
use Rattle.bsii_write_block.proofs.FieldLaws.{joined_none, joined_behind}

step_same : {a b : Lines} → ◌≡◌ {A = Outcome (Answer Lines) Refusal} (Ok (Some a)) (Ok (Some b)) → a ≡ b
step_same e = cc

-- ---- a text between two others

framed : {old : List ℕ} {to p : ℕ} {mid x : List ℕ} → Wrote old to x p mid → (o : Reply (List ℕ)) (e : ℕ) (out : List ℕ) → TextsAre mid p o (Ok e) out → {y : List ℕ} {r : ℕ} {new : List ℕ} → Wrote out e y r new
    → TextsAre old to (joined (joined (gives x) o) (gives y)) (Ok r) new
unfolding joined
framed w (gives t) e out h v = then (then w h) v
framed w (refuses f) e out h v = absurd h

unframed : (old : List ℕ) (to p : ℕ) (mid x y : List ℕ) (o : Reply (List ℕ)) (g : Refusal) (new : List ℕ) → TextsAre mid p o (Err g) new → TextsAre old to (joined (joined (gives x) o) (gives y)) (Err g) new
unfolding joined
unframed old to p mid x y (gives t) g new h = absurd h
unframed old to p mid x y (refuses f) g new h = h

-- `text` gives the lines of a value; `prints` tells of a block and the records behind it whether it is in the text
module _ (text : ValuePrototype → Value → Option (List ℕ)) (prints : DataBlock → List Record → Bool) where
  -- the records from `at` on, with the text of those in front
  pub record Here (version : ℕ) (s : List ℕ) (rooms rows : ℕ) (last : List Prototype) (old : List ℕ) (to at here : ℕ)
      (t out : List ℕ) (whole : Reply (List ℕ)) : Type 0 where
    pub env : List Prototype
    pub rest : List Record
    pub standing : WalkAt version s rooms rows last t at env rest
    pub done : List ℕ
    pub wrote : Wrote old to done here out
    pub is : whole ≡ joined (gives done) (records_text text prints last at rest)

  module _ (version : ℕ) (s : List ℕ) (start : ℕ) (t₀ : List ℕ) (rows : ℕ) (old : List ℕ) (to : ℕ) where
    pub record Going (at here : ℕ) (t out : List ℕ) : Type 0 where
      pub inside : at ≤ length s
      pub size : length out ≡ length old
      pub table_size : length t ≡ length t₀
      pub walk : (rooms : ℕ) (last : List Prototype) (rest : List Record) → WalkAt version s rooms rows last t₀ start [] rest
          → Here version s rooms rows last old to at here t out (records_text text prints last start rest)

    pub go_start : start ≤ length s → to ≤ 0xffff_ffff_ffff_ffff → length old < 0x8000_0000_0000_0000 → Going start to t₀ old
    go_start h a b = record {
      inside = h;
      size = refl;
      table_size = refl;
      walk = λ rooms last rest w. record {
        env = [];
        rest = rest;
        standing = w;
        done = [];
        wrote = loops.end (begin {x = []} a b) refl;
        is = sym (joined_none (records_text text prints last start rest));
      };
    }

    module _ (at here : ℕ) (t out : List ℕ) (g : Going at here t out) where
      pub go_rows : Readable version s start t₀ rows → Rows t rows
      go_rows w = (g.walk w.rooms w.last w.rest w.standing).standing.entered.valid

      module _ {r : Outcome (Answer Lines) Refusal} {t' new : List ℕ} (h : RecordWritten text prints version s at t rows out here r t' new) where
        -- the turn, for records that the walk started from
        stepped : (rooms : ℕ) (last : List Prototype) (rest : List Record) (w : WalkAt version s rooms rows last t₀ start [] rest)
            → let x = g.walk rooms last rest w in Stepped text prints version s rooms rows last at x.env x.rest out here r t' new
        stepped rooms last rest w = let x = g.walk rooms last rest w in h.steps rooms last x.env x.rest x.standing

        pub go_end : r ≡ Ok None → RecordsWritten text prints version s start t₀ rows old to (Ok here) t' new
        unfolding joined records_text
        go_end z = record {
          writes = λ rooms last rest w. let x = g.walk rooms last rest w in finish rooms last x.done x.wrote (stepped rooms last rest w) z x.is;
          size = h.size ∙ g.size;
          table_size = h.table_size ∙ g.table_size;
        }
          where
            finish : (rooms : ℕ) (last : List Prototype) {env : List Prototype} {rest : List Record} {r : Outcome (Answer Lines) Refusal} {whole : Reply (List ℕ)} (done : List ℕ) → Wrote old to done here out
                → Stepped text prints version s rooms rows last at env rest out here r t' new → r ≡ Ok None → whole ≡ joined (gives done) (records_text text prints last at rest)
                → TextsAre old to whole (Ok here) new × Serves s rows last (Ok here) t'
            finish rooms last done w (went i l x a b c e f) z h = cc
            finish rooms last done w (refused e) z h = cc
            finish rooms last done w (ended e y f) z h = (
              subst (λ (x : Reply (List ℕ)). TextsAre old to x (Ok here) new) (sym (h ∙ ap (λ (l : List Record). joined (gives done) (records_text text prints last at l)) e)) (being (sym (append-nil done)) (subst (λ (n : List ℕ). Wrote old to done here n) (sym y) w)),
              entered_again (DefinedAt s) f,
            )

        pub go_refused : {f : Refusal} → r ≡ Err f → RecordsWritten text prints version s start t₀ rows old to (Err f) t' new
        unfolding joined
        go_refused {f} z = record {
          writes = λ rooms last rest w. let x = g.walk rooms last rest w in (finish rooms last x.done (stepped rooms last rest w) z x.is, tt);
          size = h.size ∙ g.size;
          table_size = h.table_size ∙ g.table_size;
        }
          where
            finish : (rooms : ℕ) (last : List Prototype) {env : List Prototype} {rest : List Record} {r : Outcome (Answer Lines) Refusal} {whole : Reply (List ℕ)} (done : List ℕ)
                → Stepped text prints version s rooms rows last at env rest out here r t' new → r ≡ Err f → whole ≡ joined (gives done) (records_text text prints last at rest) → TextsAre old to whole (Err f) new
            finish rooms last done (went i l x a b c e f) z h = cc
            finish rooms last done (ended e v f) z h = cc
            finish rooms last done (refused {f = g} e) z h =
                let a : g ≡ f = cc in
                subst (λ (x : Reply (List ℕ)). TextsAre old to x (Err f) new) (sym (h ∙ ap (joined (gives done)) e)) (ap fault_is (sym a))

        record On (rooms : ℕ) (last : List Prototype) (rest : List Record) (n m : ℕ) : Type 0 where
          on : at < n
          inside : n ≤ length s
          walk : Here version s rooms rows last old to n m t' new (records_text text prints last start rest)

        goes : (n m : ℕ) → r ≡ Ok (lines n m) → (rooms : ℕ) (last : List Prototype) (rest : List Record) (w : WalkAt version s rooms rows last t₀ start [] rest) → On rooms last rest n m
        goes n m z rooms last rest w = let x = g.walk rooms last rest w in go x.done x.wrote x.is (stepped rooms last rest w) z
          where
            go : {env : List Prototype} {rest₁ : List Record} {r : Outcome (Answer Lines) Refusal} (done : List ℕ) → Wrote old to done here out → records_text text prints last start rest ≡ joined (gives done) (records_text text prints last at rest₁)
                → Stepped text prints version s rooms rows last at env rest₁ out here r t' new → r ≡ Ok (lines n m) → On rooms last rest n m
            go done w h (ended e v f) z = cc
            go done w h (refused e) z = cc
            go {env = env} done w h (went i l {n = a} {r = b} x c d j e f) z =
                let same = step_same z in
                let p : a ≡ n = ap (λ (l : Lines). l.at) same in
                let q : b ≡ m = ap (λ (l : Lines). l.to) same in
                subst (λ (m : ℕ). On rooms last rest n m) q (subst (λ (n : ℕ). On rooms last rest n b) p (record {
                  on = d;
                  inside = j;
                  walk = record {
                    env = define i env;
                    rest = l;
                    standing = c;
                    done = done ++ x;
                    wrote = then w f;
                    is = h ∙ ap (joined (gives done)) e ∙ sym (joined_behind done x (records_text text prints last a l));
                  };
                }))

        pub go_later : (n m : ℕ) → r ≡ Ok (lines n m) → Readable version s start t₀ rows → (at < n) × (n ≤ length s)
        go_later n m z w = let o = goes n m z w.rooms w.last w.rest w.standing in (o.on, o.inside)

        pub go_on : (n m : ℕ) → r ≡ Ok (lines n m) → Readable version s start t₀ rows → Going n m t' new
        go_on n m z w = record {
          inside = (goes n m z w.rooms w.last w.rest w.standing).inside;
          size = h.size ∙ g.size;
          table_size = h.table_size ∙ g.table_size;
          walk = λ rooms last rest x. (goes n m z rooms last rest x).walk;
        }

  -- ---- the frame

  module _ {version : ℕ} (s : List ℕ) (start : ℕ) (t : List ℕ) (rows : ℕ) {old : List ℕ} {p : ℕ} {mid : List ℕ}
      (w : Wrote old 0x8000_0000_0000_0000 file_opening p mid) where
    pub file_written : {e : ℕ} {t' out : List ℕ} → RecordsWritten text prints version s start t rows mid p (Ok e) t' out → {r : ℕ} {new : List ℕ} → Wrote out e closing r new → BsiiWritten text prints version s start t rows old (Ok r) t' new
    file_written {e} {t'} {out} h v = record {
      writes = λ rooms last rest x. let y = h.writes rooms last rest x in (framed w (records_text text prints last start rest) e out y.0 v, y.1);
      size = same v ∙ h.size ∙ same w;
      table_size = h.table_size;
    }

    pub file_refused : {f : Refusal} {t' new : List ℕ} → RecordsWritten text prints version s start t rows mid p (Err f) t' new
        → BsiiWritten text prints version s start t rows old (Err f) t' new
    file_refused {f} {t'} {new} h = record {
      writes = λ rooms last rest x. (unframed old 0x8000_0000_0000_0000 p mid file_opening closing (records_text text prints last start rest) f new (h.writes rooms last rest x).0, tt);
      size = h.size ∙ same w;
      table_size = h.table_size;
    }
