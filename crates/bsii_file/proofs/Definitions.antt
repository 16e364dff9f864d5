-- A prototype by its id: the answer at an offset, and for the last definition of an id.
use mathlib.Core.Path.{◌≡◌, refl, sym, ap, ap₂, ◌∙◌, subst}
use Prim.Native.Nat.{ℕ, ◌+◌, ◌-◌}
use native.Mathlib.Omega.{arith}
use mathlib.Core.Option.{Option, map}
use mathlib.Core.List.{List, []}
use lib.ListN.{length, drop}
use Rattle.bsii_format.specs.Prototypes.{Prototype}
use Rattle.bsii_format.specs.Calls.{Placed, prototype_answer, prototypes_in, placed_records, prototype_of, prototype_call, or_absent}
use Rattle.bsii_format.specs.Replies.{absent}
use Rattle.bsii_format.specs.BlockText.{or_refuse}
use Rattle.bsii_format.proofs.Follows.{again}
use Rattle.bsii_string.specs.Answers.{refused_at, end_of, unchecked_str}
use Rattle.bsii_string.specs.declared.answers.Refusal.{Refusal}
use Rattle.bsii_string.proofs.Ends.{next≢fault, next_same}
use Rattle.bsii_prototype.specs.Entries.{fields_with, unchecked_head}
use Rattle.bsii_prototype.specs.Answers.{counted, count_of}
use Rattle.bsii_prototype.specs.declared.answers.Counted.{Counted}
use Rattle.bsii_prototype.proofs.Unchecked.{fields_follow}
use Rattle.bsii_prototype.proofs.Beginnings.{head_past}
use Rattle.bsii_table.specs.Rows.{lookup}
use Rattle.bsii_table.specs.Table.{found_row}
use Rattle.bsii_table.specs.declared.Row.{Row as FoundRow}
use Rattle.bsii_block.specs.Blocks.{DefinedAt}
use Rattle.bsii_parse.specs.Walks.{ReadFile}
use Rattle.bsii_parse.specs.declared.walk.Totals.{Totals}
use Rattle.bsii_walk.proofs.Naming.{head_ends, standing}
use Rattle.bsii_file.specs.Answers.{prototype_is}
use Rattle.bsii_file.specs.Lookups.{PrototypeAt, LastPrototype}
use Rattle.bsii_file.specs.declared.prototypes.PrototypeHead.{PrototypeHead}
use Rattle.bsii_file.proofs.Lookups.{was_read, was_refused, read_answers, unread_refuses, last_at, last_nothing}
use Rattle.std.specs.Prelude.{Ok, Err, Result as Outcome, Some, None}

-- ---- at an offset

module _ {s : List ℕ} {o : ℕ} where
  -- what was accepted is not refused
  pub head_fault : {f : Refusal} → Err f ≡ end_of (unchecked_head o (drop o s)) → (v : Outcome PrototypeHead Refusal) → PrototypeAt s o v
  head_fault e v = record { answers = λ p x. next≢fault (sym (standing s o e p x)) }

  module _ {first : ℕ} (e : Ok first ≡ end_of (unchecked_head o (drop o s))) where
    counts : (p : Prototype) (x : DefinedAt s o p) → (first ≡ x.fields) × (count_of (fields_with unchecked_str first (drop first s)) ≡ counted (length p.fields) x.next)
    unfolding count_of
    counts p x =
        let i : first ≡ x.fields = next_same (standing s o e p x) in
        (i, ap (λ (n : ℕ). count_of (fields_with unchecked_str n (drop n s))) i ∙ ap count_of (again fields_follow x.fields (drop x.fields s) x.list))

    pub list_fault : {f : Refusal} → Err f ≡ count_of (fields_with unchecked_str first (drop first s)) → (v : Outcome PrototypeHead Refusal) → PrototypeAt s o v
    list_fault {f} d v = record { answers = λ p x. refused≢counted (d ∙ (counts p x).1) }
      where
        refused≢counted : {P : Type 0} {a b : ℕ} → ◌≡◌ {A = Outcome Counted Refusal} (Err f) (counted a b) → P
        refused≢counted y = cc

    pub prototype_here : {c : Counted} → Ok c ≡ count_of (fields_with unchecked_str first (drop first s))
        → PrototypeAt s o (Ok (record { name = o + 13; name_size = first - (o + 13); fields = c.count }))
    prototype_here {c} d = record {
      answers = λ p x.
          let k = counts p x in
          let w = head_ends s o (head_past o (drop o s) x.head) in
          ap₂ here (omega (arith, k.0, w.end)) (count_is (d ∙ k.1));
    }
      where
        here : ℕ → ℕ → Outcome PrototypeHead Refusal
        here a b = Ok (record { name = o + 13; name_size = a; fields = b })

        count_is : {b m : ℕ} → ◌≡◌ {A = Outcome Counted Refusal} (Ok c) (counted b m) → c.count ≡ b
        count_is {b} {m} y = let j : c ≡ record { count = b; next = m } = cc in ap (λ (c : Counted). c.count) j

-- ---- the last definition of an id

module _ {s t : List ℕ} {rows id : ℕ} where
  pub last_absent : found_row None ≡ lookup t rows id → LastPrototype s t rows id (Err (refused_at absent 0))
  unfolding or_refuse
  last_absent f = record { answers = λ env k. sym (ap (λ (o : Option (Placed Prototype)). or_absent (map prototype_answer o)) (last_nothing k id f refl)) }

  pub last_answers : {w : FoundRow} → found_row (Some w) ≡ lookup t rows id → {o : ℕ} → o ≡ w.last → {v : Outcome PrototypeHead Refusal} → PrototypeAt s o v → LastPrototype s t rows id v
  unfolding or_refuse prototype_answer
  last_answers f {o} z {v} h = record {
    answers = λ env k.
        let d = last_at k id f refl in
        let x = (subst (λ (n : ℕ). PrototypeAt s n v) z h).answers d.definition d.stands in
        ap prototype_is x ∙ sym (ap (λ (o : Option (Placed Prototype)). or_absent (map prototype_answer o)) d.found);
  }

-- ---- the call

module _ {s t t' : List ℕ} where
  pub call_refused : (id : ℕ) {f : Refusal} → ReadFile s t (Err f) t' → prototype_is (Err f) ≡ prototype_call (length t) s id
  unfolding prototype_call
  call_refused id h = sym (unread_refuses (λ f at. or_absent (prototype_of id f)) (length t) s (was_refused h))

  pub call_answers : {a : Totals} → ReadFile s t (Ok a) t' → {id : ℕ} {v : Outcome PrototypeHead Refusal} → LastPrototype s t' a.rows id v → prototype_is v ≡ prototype_call (length t) s id
  unfolding prototype_call prototype_of
  call_answers h {id} l =
      let w = was_read h in
      l.answers (prototypes_in (placed_records w.file) []) w.kept ∙ sym (read_answers (λ f at. or_absent (prototype_of id f)) w)
