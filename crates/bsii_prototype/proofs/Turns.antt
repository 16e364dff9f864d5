-- One turn of a walk over definitions that were accepted before: what the answer at a position says of the list from there on.
use mathlib.Core.Path.{◌≡◌, refl, sym, ap, ap₂, ◌∙◌, subst}
use Prim.Native.Nat.{ℕ, ◌+◌, ◌-◌, ◌≤◌, ◌<◌}
use native.Mathlib.Omega.{arith}
use mathlib.Core.Bool.{Bool, true, false, cond}
use mathlib.Core.Option.{Option, none, some}
use mathlib.Core.List.{List, [], ◌∷◌}
use lib.ListN.{length, take, drop}
use lib.Dec.{eqb}
use borrow.Author.Tests.{eqb-false}
use Rattle.bsii_format.specs.Reader.{Result, ok, fault, Reader, ◌>>=◌, success, with}
use Rattle.bsii_format.specs.Numbers.{number}
use Rattle.bsii_format.specs.Strings.{str_parser}
use Rattle.bsii_format.specs.Prototypes.{EnumValue, ValuePrototype, enum_values_parser, value_prototype_parser, Fields, cons_field, fields_parser}
use Rattle.bsii_format.proofs.Readers.{after_ok, fault≢ok, ok_val, ok_at, ok_rest, map_ok}
use Rattle.bsii_format.proofs.Parsers.{number_exact, str_exact, value_prototype_exact}
use Rattle.bsii_format.proofs.Positions.{moved, moved_on}
use Rattle.bsii_format.proofs.Follows.{again}
use Rattle.bsii_string.specs.Answers.{unchecked_str}
use Rattle.bsii_string.specs.declared.answers.Refusal.{Refusal}
use Rattle.bsii_prototype.specs.Entries.{enum_values_with, definition_with, entry_with, fields_with}
use Rattle.bsii_prototype.specs.Answers.{entry_of, count_of}
use Rattle.bsii_prototype.specs.declared.answers.Entry.TheVariants.{Field, Last}
use Rattle.bsii_prototype.proofs.Unchecked.{entry_follows, fields_follow, checked_entry, checked_enum_values, checked_fields}
use Rattle.bsii_prototype.proofs.Names.{named, number_front}
use Rattle.bsii_prototype.specs.Strings.{checked}
use Rattle.bsii_prototype.proofs.Entries.{field≢last, field≢bad, last≢bad, entry_none}
use Rattle.bsii_prototype.proofs.Lists.{fields_last, fields_more, fields_bad}
use Rattle.std.specs.Prelude.{Ok, Err}

-- every entry has bytes of its own, inside the file
pub entry_moves : (s : List ℕ) (at : ℕ) {o : Option ValuePrototype} {n : ℕ} {r : List ℕ} → value_prototype_parser at (drop at s) ≡ ok o n r → (at < n) × (n ≤ length s)
entry_moves s at e = moved_on value_prototype_exact (ap (λ (R : Reader (Option ValuePrototype)). R 0 []) checked_entry ∙ entry_none str_parser 0) s at e

-- ---- the parts of a definition that was accepted

-- the type, the name behind its length, and the enum list behind the name
pub record Defined (s : List ℕ) (at : ℕ) (d : ValuePrototype) (n : ℕ) : Type 0 where
  pub name : d.name ≡ take (length d.name) (drop (at + 8) s)
  pub list : enum_values_parser d.type_id (at + 8 + length d.name) (drop (at + 8 + length d.name) s) ≡ ok d.enum_values n (drop n s)
  pub nonzero : d.type_id ≡ 0 → ⊥
  pub later : at < n
  pub inside : n ≤ length s

last≢some : {P : Type 0} {d : ValuePrototype} {i n : ℕ} {q r : List ℕ} → ◌≡◌ {A = Result (Option ValuePrototype)} (ok none i q) (ok (some d) n r) → P
last≢some e = let z : ◌≡◌ {A = ℕ} 0 1 = cc in let f : ⊥ = omega arith in absurd f

module _ (s : List ℕ) (at : ℕ) {d : ValuePrototype} {n : ℕ} {r : List ℕ} (read : value_prototype_parser at (drop at s) ≡ ok (some d) n r) where
  parts : (t i : ℕ) → number 4 at (drop at s) ≡ ok t i (drop i s) → (t ≡ 0 → ⊥) → definition_with str_parser t i (drop i s) ≡ ok (some d) n r → Defined s at d n
  unfolding definition_with ◌>>=◌ success
  parts t i e h f =
      let p = after_ok (str_parser i (drop i s)) _ f in
      let q = after_ok (enum_values_with str_parser t p.1 p.2) _ p.4 in
      let w = named checked s i p.3 in
      let m = moved value_prototype_exact s at read in
      let z = entry_moves s at read in
      let same : d ≡ record { type_id = t; name = p.0; enum_values = q.0 } = some_is (sym (ok_val q.4)) in
      let start : i + 4 ≡ at + 8 = omega (arith, (number_front 4 at (drop at s) e).1.next) in
      let end : p.1 ≡ at + 8 + length p.0 = omega (arith, w.end) in
      let width : p.1 - (i + 4) ≡ length p.0 = omega (arith, w.end) in
      subst (λ (d : ValuePrototype). Defined s at d n) (sym same) (record {
        name = w.place ∙ ap₂ (λ (k j : ℕ). take k (drop j s)) width start;
        list =
            ap (λ (k : ℕ). enum_values_parser t k (drop k s)) (sym end) ∙ ap (λ (R : Reader (List EnumValue)). R p.1 (drop p.1 s)) (checked_enum_values t)
            ∙ ap (enum_values_with str_parser t p.1) (sym w.rest) ∙ q.3 ∙ ap₂ (λ (k : ℕ) (l : List ℕ). ok q.0 k l) (ok_at q.4) (ok_rest q.4 ∙ m.rest);
        nonzero = h;
        later = z.0;
        inside = z.1;
      })
    where
      some_is : {a b : ValuePrototype} → ◌≡◌ {A = Option ValuePrototype} (some a) (some b) → a ≡ b
      some_is e = cc

  pub defined : Defined s at d n
  unfolding entry_with ◌>>=◌ success
  defined =
      let e : entry_with str_parser at (drop at s) ≡ ok (some d) n r = ap (λ (R : Reader (Option ValuePrototype)). R at (drop at s)) (sym checked_entry) ∙ read in
      let q = after_ok (number 4 at (drop at s)) (λ t. cond (eqb t 0) (success none) (definition_with str_parser t)) e in
      let m = moved (number_exact 4) s at q.3 in
      go q.0 q.1 (q.3 ∙ ap (ok q.0 q.1) m.rest) (eqb q.0 0) refl
      (ap (λ (l : List ℕ). cond (eqb q.0 0) (success none) (definition_with str_parser q.0) q.1 l) (sym m.rest) ∙ q.4)
    where
      go : (t i : ℕ) → number 4 at (drop at s) ≡ ok t i (drop i s) → (b : Bool) → eqb t 0 ≡ b
          → cond b (success none) (definition_with str_parser t) i (drop i s) ≡ ok (some d) n r → Defined s at d n
      go t i e true h f = last≢some f
      go t i e false h f = parts t i e (eqb-false t 0 h) f

-- ---- one turn, in the specification's terms

-- the list of definitions at `at`, read as l, is at its end, or it is a definition and the list behind it
pub data Turn (s : List ℕ) (at : ℕ) (l : Fields) (n : ℕ) (r : List ℕ) : Type 0 where
  done : value_prototype_parser at (drop at s) ≡ ok none n r → l.fields ≡ [] → Turn s at l n r
  step : (d : ValuePrototype) (next : ℕ) (rest : Fields) → value_prototype_parser at (drop at s) ≡ ok (some d) next (drop next s)
      → fields_parser next (drop next s) ≡ ok rest n r → l ≡ cons_field (with d (take (next - at) (drop at s))) rest → Turn s at l n r

pub turn : (s : List ℕ) (at : ℕ) {l : Fields} {n : ℕ} {r : List ℕ} → fields_parser at (drop at s) ≡ ok l n r → Turn s at l n r
turn s at {l} {n} {r} read = go (value_prototype_parser at (drop at s)) refl
  where
    walked : fields_with str_parser at (drop at s) ≡ ok l n r
    walked = sym (checked_fields at (drop at s)) ∙ read

    entry : (q : Result (Option ValuePrototype)) → value_prototype_parser at (drop at s) ≡ q → entry_with str_parser at (drop at s) ≡ q
    entry q e = ap (λ (R : Reader (Option ValuePrototype)). R at (drop at s)) (sym checked_entry) ∙ e

    go : (q : Result (Option ValuePrototype)) → value_prototype_parser at (drop at s) ≡ q → Turn s at l n r
    go (ok none i t) e =
        let z = sym (fields_last str_parser str_exact at (drop at s) (entry (ok none i t) e)) ∙ walked in
        done (e ∙ ap₂ (λ (k : ℕ) (v : List ℕ). ok none k v) (ok_at z) (ok_rest z)) (ap (λ (x : Fields). x.fields) (sym (ok_val z)))
    go (ok (some d) i t) e =
        let f = cons_field (with d (take (i - at) (drop at s))) in
        let m = map_ok f (fields_with str_parser) i t (sym (fields_more str_parser str_exact at (drop at s) (entry (ok (some d) i t) e)) ∙ walked) in
        let p = (moved value_prototype_exact s at e).rest in
        step d i m.0 (e ∙ ap (ok (some d) i) p) (checked_fields i (drop i s) ∙ ap (fields_with str_parser i) (sym p) ∙ m.2) (sym m.1)
    go (fault x) e = fault≢ok (sym (fields_bad str_parser str_exact at (drop at s) (entry (fault x) e)) ∙ walked)

-- ---- one turn, by the answer of the second walk

pub record FieldTurn (s : List ℕ) (at t a b next : ℕ) (l : Fields) (n : ℕ) (r : List ℕ) : Type 0 where
  pub field : ValuePrototype
  pub rest : Fields
  -- the definition here, and the list behind it
  pub entry : value_prototype_parser at (drop at s) ≡ ok (some field) next (drop next s)
  pub more : fields_parser next (drop next s) ≡ ok rest n r
  pub list : l ≡ cons_field (with field (take (next - at) (drop at s))) rest
  pub fields : l.fields ≡ with field (take (next - at) (drop at s)) ∷ rest.fields
  -- what the answer gives of it
  pub typed : t ≡ field.type_id
  pub name : take (b - a) (drop a s) ≡ field.name
  pub enums : enum_values_parser t b (drop b s) ≡ ok field.enum_values next (drop next s)
  pub later : at < next
  pub inside : next ≤ length s

module _ (s : List ℕ) (at : ℕ) {l : Fields} {n : ℕ} {r : List ℕ} (read : fields_parser at (drop at s) ≡ ok l n r) where
  unchecked_entry : {o : Option ValuePrototype} {i : ℕ} {q : List ℕ} → value_prototype_parser at (drop at s) ≡ ok o i q
      → entry_of (at + 8) (entry_with unchecked_str at (drop at s)) ≡ entry_of (at + 8) (ok o i q)
  unchecked_entry e = ap (entry_of (at + 8)) (again entry_follows at (drop at s) e)

  pub turn_field : {t a b next : ℕ} → Ok (Field t a b next) ≡ entry_of (at + 8) (entry_with unchecked_str at (drop at s)) → FieldTurn s at t a b next l n r
  unfolding entry_of cons_field
  turn_field {t} {a} {b} {next} e = go (turn s at read)
    where
      go : Turn s at l n r → FieldTurn s at t a b next l n r
      go (done f g) = field≢last (e ∙ unchecked_entry f)
      go (step d i m f g h) =
          let z : Ok (Field t a b next) ≡ Ok (Field d.type_id (at + 8) (at + 8 + length d.name) i) = e ∙ unchecked_entry f in
          let p = defined s at f in
          let ti : t ≡ d.type_id = cc in
          let ai : a ≡ at + 8 = cc in
          let bi : b ≡ at + 8 + length d.name = cc in
          let ni : i ≡ next = cc in
          let width : b - a ≡ length d.name = omega arith in
          subst (λ (k : ℕ). FieldTurn s at t a b k l n r) ni (record {
            field = d;
            rest = m;
            entry = f;
            more = g;
            list = h;
            fields = ap (λ (x : Fields). x.fields) h;
            typed = ti;
            name = ap₂ (λ (k j : ℕ). take k (drop j s)) width ai ∙ sym p.name;
            enums = ap₂ (λ (k j : ℕ). enum_values_parser k j (drop j s)) ti bi ∙ p.list;
            later = p.later;
            inside = p.inside;
          })

  pub turn_last : {next : ℕ} → Ok (Last next) ≡ entry_of (at + 8) (entry_with unchecked_str at (drop at s)) → (l.fields ≡ []) × (next ≡ n)
  unfolding entry_of
  turn_last {next} e = go (turn s at read)
    where
      go : Turn s at l n r → (l.fields ≡ []) × (next ≡ n)
      go (done f g) = let z : Ok (Last next) ≡ Ok (Last n) = e ∙ unchecked_entry f in (g, cc)
      go (step d i m f g h) = field≢last (sym (e ∙ unchecked_entry f))

  -- with no field there, the list is at its end
  pub turn_none : ((t a b i : ℕ) → Ok (Field t a b i) ≡ entry_of (at + 8) (entry_with unchecked_str at (drop at s)) → ⊥) → l.fields ≡ []
  unfolding entry_of
  turn_none h = go (turn s at read)
    where
      go : Turn s at l n r → l.fields ≡ []
      go (done f g) = g
      go (step d i m f g k) = absurd (h d.type_id (at + 8) (at + 8 + length d.name) i (sym (unchecked_entry f)))

  -- what was accepted is not refused
  pub turn_bad : {P : Type 0} {f : Refusal} → Err f ≡ entry_of (at + 8) (entry_with unchecked_str at (drop at s)) → P
  unfolding entry_of
  turn_bad {P} e = go (turn s at read)
    where
      go : Turn s at l n r → P
      go (done f g) = last≢bad (sym (e ∙ unchecked_entry f))
      go (step d i m f g h) = field≢bad (sym (e ∙ unchecked_entry f))

-- ---- the second walk answers as the first did

pub fields_again : (at : ℕ) (s : List ℕ) {l : Fields} {n : ℕ} {r : List ℕ} → fields_parser at s ≡ ok l n r → count_of (fields_with unchecked_str at s) ≡ count_of (fields_parser at s)
fields_again at s e = ap count_of (again fields_follow at s e ∙ sym e)
