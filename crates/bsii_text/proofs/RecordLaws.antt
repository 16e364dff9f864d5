-- One record of the writing walk.
use mathlib.Core.Path.{◌≡◌, refl, sym, ap, ap₂, ◌∙◌, subst}
use Prim.Native.Nat.{ℕ, ◌+◌, ◌≤◌, ◌<◌}
use native.Mathlib.Omega.{arith}
use mathlib.Core.Bool.{Bool, true, cond}
use mathlib.Core.Option.{Option, none, some}
use mathlib.Core.List.{List, [], ◌∷◌}
use lib.ListN.{length, drop}
use Rattle.bsii_format.specs.Replies.{Reply, gives, refuses}
use Rattle.bsii_format.specs.Reader.{ok}
use Rattle.bsii_format.specs.Strings.{id_parser}
use Rattle.bsii_format.specs.Values.{Value}
use Rattle.bsii_format.specs.Prototypes.{ValuePrototype, Prototype}
use Rattle.bsii_format.specs.Blocks.{DataBlock, get_prototype, data_values_parser}
use Rattle.bsii_format.specs.File.{Record, prototype, block, record_bytes, define, define_all}
use Rattle.bsii_format.specs.BlockText.{joined, block_text, records_text}
use Rattle.bsii_table.specs.Rows.{lookup}
use Rattle.bsii_table.specs.Table.{found_row}
use Rattle.bsii_table.specs.declared.Row.{Row}
use Rattle.bsii_table.proofs.Relation.{entered_at, entered_nothing, still_defined}
use Rattle.bsii_block.specs.Blocks.{DefinedAt}
use Rattle.bsii_walk.specs.Again.{KindAt, PrototypeAgain}
use Rattle.bsii_walk.specs.Seek.{WalkAt}
use Rattle.bsii_walk.specs.declared.records.RecordKind.{RecordKind}
use Rattle.bsii_walk.specs.declared.records.RecordKind.TheVariants.{Defines, Carries}
use Rattle.bsii_walk.proofs.Parts.{stands, block_parts_law}
use Rattle.bsii_walk.proofs.Meeting.{is_prototype_law, is_block_law, is_end}
use Rattle.bsii_walk.proofs.Seeking.{Accepted, the_end, a_record, accepted}
use Rattle.bsii_window.proofs.Loops.{begin}
use Rattle.bsii_window.proofs.Loops as loops
use Rattle.bsii_write_block.specs.Blocks.{WrittenIs, BlockWritten}
use Rattle.bsii_text.specs.Records.{StepIs, BlockStep, PrototypeStep, Stepped, went, ended, refused, RecordWritten}
use Rattle.std.specs.Prelude.{Some, None, Option as Answer, Ok, Err, Result as Outcome}
use Rattle.bsii_string.specs.declared.answers.Refusal.{Refusal}
use Rattle.bsii_write_value.specs.Lines.{lines}
use Rattle.bsii_write_value.specs.declared.values.Lines.{Lines}
use Rattle.bsii_write_block.proofs.FieldLaws.{joined_none}

none≢some : {A P : Type 0} {a : A} → ◌≡◌ {A = Option A} none (some a) → P
none≢some e = let z : ◌≡◌ {A = ℕ} 0 1 = cc in let f : ⊥ = omega arith in absurd f

some_is : {A : Type 0} {a b : A} → ◌≡◌ {A = Option A} (some a) (some b) → a ≡ b
some_is e = cc

-- a block's answer in the record's terms
abbrev pub step_of : Outcome Lines Refusal → Outcome (Answer Lines) Refusal
step_of (Ok l) = Ok (Some l)
step_of (Err f) = Err f

step_is : (old : List ℕ) (to : ℕ) (x : Reply (List ℕ)) (n : ℕ) (w : Outcome Lines Refusal) (new : List ℕ) → WrittenIs old to x n w new → StepIs old to x n (step_of w) new
step_is old to (gives t) n (Ok l) new h = h
step_is old to (gives t) n (Err g) new h = absurd h
step_is old to (refuses f) n (Ok l) new h = absurd h
step_is old to (refuses f) n (Err g) new h = h

-- ---- a prototype

module _ (s : List ℕ) (at : ℕ) (t : List ℕ) (rows id to : ℕ) where
  pub prototype_step_law : {n : ℕ} {t' : List ℕ} → PrototypeAgain s at t rows id (Some n) t' → PrototypeStep s at t rows id to (lines n to) t'
  prototype_step_law {n} w = record {
    steps = λ env last k p h i. let x = w.meets env last k p h i in let e = x.met in (let same : n ≡ h.next = cc in ap (λ (n : ℕ). lines n to) same, x.entered);
    size = w.size;
  }

  pub prototype_not : {t' : List ℕ} → PrototypeAgain s at t rows id None t' → PrototypeStep s at t rows id to None t'
  prototype_not w = record {
    steps = λ env last k p x i. let e = (w.meets env last k p x i).met in cc;
    size = w.size;
  }

-- `text` gives the lines of a value
module _ (text : ValuePrototype → Value → Option (List ℕ)) where
  -- ---- a block

  module _ {version : ℕ} (s : List ℕ) (offset : ℕ) (t : List ℕ) (rows prototype_id at : ℕ) (old : List ℕ) (to : ℕ) where
    pub block_unknown : found_row None ≡ lookup t rows prototype_id → BlockStep text version s offset t rows prototype_id at old to (Ok None) old
    block_unknown e = record { steps = λ env last k p q g h b i j a c d v. none≢some (sym (entered_nothing (DefinedAt s) k prototype_id refl e) ∙ h); size = refl }

    pub block_step_law : {row : Row} → found_row (Some row) ≡ lookup t rows prototype_id → {x y : ℕ} → x ≡ row.in_force → y ≡ row.last → {w : Outcome Lines Refusal} {new : List ℕ}
        → BlockWritten text version s offset at x y old to w new → BlockStep text version s offset t rows prototype_id at old to (step_of w) new
    block_step_law {row} e {x} {y} i j {w} {new} h = record {
      steps = λ env last k p q m l d o c u v n d'.
          let under = entered_at (DefinedAt s) k prototype_id refl e in
          step_is old to (block_text text offset (some q) d) n w new
          (h.writes p q (subst (λ (c : ℕ). DefinedAt s c p) (sym i) (under.3 p m)) (subst (λ (c : ℕ). DefinedAt s c q) (sym j) (subst (DefinedAt s row.last) (some_is (sym under.1 ∙ l)) under.2)) d o c u v n d');
      size = h.size;
    }

  -- `prints` tells of a block and the records behind it whether it is in the text
  module _ (prints : DataBlock → List Record → Bool) where
    -- ---- any record

    records_prototype : (last : List Prototype) (at : ℕ) (p : Prototype) (l : List Record) {n : ℕ} → n ≡ at + length (record_bytes (prototype p))
        → records_text text prints last at (prototype p ∷ l) ≡ joined (gives []) (records_text text prints last n l)
    unfolding records_text
    records_prototype last at p l {n} e = ap (λ (k : ℕ). records_text text prints last k l) (sym e) ∙ sym (joined_none (records_text text prints last n l))

    records_block : (last : List Prototype) (at : ℕ) (b : DataBlock) (l : List Record) {n : ℕ} → prints b l ≡ true → n ≡ at + length (record_bytes (block b)) → {q : Prototype} → get_prototype b.prototype_id last ≡ some q
        → records_text text prints last at (block b ∷ l) ≡ joined (block_text text at (some q) b) (records_text text prints last n l)
    unfolding records_text
    records_block last at b l {n} h e {q} g =
        ap (λ (c : Bool). joined (cond c (block_text text at (get_prototype b.prototype_id last) b) (gives [])) (records_text text prints last (at + length (record_bytes (block b))) l)) h
        ∙ ap₂ (λ (o : Option Prototype) (k : ℕ). joined (block_text text at o b) (records_text text prints last k l)) g (sym e)

    -- a block's answer, said of the records
    finish : {version : ℕ} (s : List ℕ) (at rows : ℕ) (old : List ℕ) (to rooms : ℕ) (last env : List Prototype) (rest : List Record) (n : ℕ) (b : DataBlock) (l : List Record) (r : Outcome (Answer Lines) Refusal) (new t : List ℕ) (o : Reply (List ℕ))
        → StepIs old to o n r new → records_text text prints last at rest ≡ joined o (records_text text prints last n l) → WalkAt version s rooms rows last t n (define (block b) env) l → at < n → n ≤ length s
        → Stepped text prints version s rooms rows last at env rest old to r t new
    unfolding joined
    finish {version} s at rows old to rooms last env rest n b l (Ok (Some r)) new t (gives x) a e w p q =
        subst (λ (i : ℕ). Stepped text prints version s rooms rows last at env rest old to (Ok (lines i r.to)) t new) (sym a.0) (went (block b) l x w p q e a.1)
    finish s at rows old to rooms last env rest n b l (Err g) new t (gives x) a e w p q = absurd a
    finish s at rows old to rooms last env rest n b l (Ok None) new t (gives x) a e w p q = absurd a
    finish s at rows old to rooms last env rest n b l (Ok (Some r)) new t (refuses f) a e w p q = absurd a
    finish s at rows old to rooms last env rest n b l (Err g) new t (refuses f) a e w p q = refused (e ∙ ap refuses (sym a))
    finish s at rows old to rooms last env rest n b l (Ok None) new t (refuses f) a e w p q = absurd a

    module _ {version : ℕ} (s : List ℕ) (at : ℕ) (t : List ℕ) (rows : ℕ) (old : List ℕ) (to : ℕ) (inside : at ≤ length s) {k : Answer RecordKind}
        (e : KindAt s at k) where
      here : (rooms : ℕ) (last env : List Prototype) (rest : List Record) (w : WalkAt version s rooms rows last t at env rest) → Accepted version rooms env at s w.n w.end rest
      here rooms last env rest w = accepted rooms env at s w.n w.end rest w.reads

      pub record_end : k ≡ None → RecordWritten text prints version s at t rows old to (Ok None) t old
      record_end z = record { steps = λ rooms last env rest w. go rooms last env rest w refl (here rooms last env rest w); size = refl; table_size = refl }
        where
          go : (rooms : ℕ) (last env : List Prototype) (rest : List Record) (w : WalkAt version s rooms rows last t at env rest) {l : List Record} → rest ≡ l → Accepted version rooms env at s w.n w.end l
              → Stepped text prints version s rooms rows last at env rest old to (Ok None) t old
          go rooms last env rest w q (the_end h) = ended q refl w.entered
          go rooms last env rest w q (a_record (prototype p) n l h d) = let i = sym z ∙ is_prototype_law version s at t rows e env p n h.reads in cc
          go rooms last env rest w q (a_record (block b) n l h d) = let i = sym z ∙ is_block_law version s at t rows e env b n h.reads in cc

      pub record_prototype : {id : ℕ} → k ≡ Some (Defines id) → {r : Answer Lines} {t' : List ℕ} → to ≤ 0xffff_ffff_ffff_ffff → length old < 0x8000_0000_0000_0000 → PrototypeStep s at t rows id to r t'
          → RecordWritten text prints version s at t rows old to (Ok r) t' old
      unfolding define define_all
      record_prototype {id} z {r} {t'} a c x = record { steps = λ rooms last env rest w. go rooms last env rest w refl (here rooms last env rest w); size = refl; table_size = x.size }
        where
          go : (rooms : ℕ) (last env : List Prototype) (rest : List Record) (w : WalkAt version s rooms rows last t at env rest) {l : List Record} → rest ≡ l → Accepted version rooms env at s w.n w.end l
              → Stepped text prints version s rooms rows last at env rest old to (Ok r) t' old
          go rooms last env rest w q (the_end {l = l} {m = m} {r = u} h) = let i = sym (is_end version s at t rows e env l m u h) ∙ z in cc
          go rooms last env rest w q (a_record (block b) n l h d) = let i = sym z ∙ is_block_law version s at t rows e env b n h.reads in cc
          go rooms last env rest w q (a_record (prototype p) n l h d) =
              let y = stands version env s at n p h.reads in
              let k = sym z ∙ is_prototype_law version s at t rows e env p n h.reads in
              let same : p.id ≡ id = cc in
              let g = x.steps env last w.entered p y.0 same in
              let moves : r ≡ lines n to = g.0 ∙ ap (λ (i : ℕ). lines i to) y.1 in
              subst (λ (r : Answer Lines). Stepped text prints version s rooms rows last at env rest old to (Ok r) t' old) (sym moves)
              (went (prototype p) l [] (record { end = w.end; n = w.n; reads = d; entered = g.1; lasts = w.lasts ∙ ap (λ (m : List Record). define_all m env) q }) h.later (h.inside inside)
              (ap (records_text text prints last at) q ∙ records_prototype last at p l h.place) (loops.end (begin {x = []} a c) refl))

      -- a block is written, so any that can stand here has to be printed
      pub record_block : ((rooms : ℕ) (last env : List Prototype) (b : DataBlock) (l : List Record) → WalkAt version s rooms rows last t at env (block b ∷ l) → prints b l ≡ true)
          → {id next : ℕ} → k ≡ Some (Carries id next) → {r : Outcome (Answer Lines) Refusal} {new : List ℕ} → BlockStep text version s at t rows id next old to r new → RecordWritten text prints version s at t rows old to r t new
      unfolding define define_all
      record_block printed {id} {next} z {r} {new} x = record { steps = λ rooms last env rest w. go rooms last env rest w refl (here rooms last env rest w); size = x.size; table_size = refl }
        where
          go : (rooms : ℕ) (last env : List Prototype) (rest : List Record) (w : WalkAt version s rooms rows last t at env rest) {l : List Record} → rest ≡ l → Accepted version rooms env at s w.n w.end l
              → Stepped text prints version s rooms rows last at env rest old to r t new
          go rooms last env rest w q (the_end {l = l} {m = m} {r = u} h) = let i = sym (is_end version s at t rows e env l m u h) ∙ z in cc
          go rooms last env rest w q (a_record (prototype p) n l h d) = let i = sym (is_prototype_law version s at t rows e env p n h.reads) ∙ z in cc
          go rooms last env rest w q (a_record (block b) n l h d) =
              let y = block_parts_law version env s at n b h.reads in
              let c = sym z ∙ is_block_law version s at t rows e env b n h.reads in
              let i : id ≡ b.prototype_id = cc in
              let j : next ≡ at + length b.head = cc in
              let named = still_defined (block b ∷ l) env b.prototype_id y.found in
              let last_is : get_prototype b.prototype_id last ≡ some named.0 = ap (get_prototype b.prototype_id) (w.lasts ∙ ap (λ (m : List Record). define_all m env) q) ∙ named.1 in
              finish s at rows old to rooms last env rest n b l r new t (block_text text at (some named.0) b)
              (x.steps env last w.entered y.by named.0 (ap (λ (v : ℕ). get_prototype v env) i ∙ y.found) (ap (λ (v : ℕ). get_prototype v last) i ∙ last_is) b j (next + length b.id.raw) refl
              (ap (λ (v : ℕ). id_parser v (drop v s)) j ∙ y.id ∙ ap (λ (v : ℕ). ok b.id.value (v + length b.id.raw) (drop (v + length b.id.raw) s)) (sym j)) n
              (ap (λ (v : ℕ). data_values_parser version y.by.fields (v + length b.id.raw) (drop (v + length b.id.raw) s)) j ∙ y.values))
              (ap (records_text text prints last at) q ∙ records_block last at b l (printed rooms last env b l (subst (WalkAt version s rooms rows last t at env) q w)) h.place last_is)
              (record { end = w.end; n = w.n; reads = d; entered = w.entered; lasts = w.lasts ∙ ap (λ (m : List Record). define_all m env) q }) h.later (h.inside inside)
