-- Whether a list of insertions is allowed, as a function that computes: `allowed` passes exactly the lists that `AllAllowed` allows. Each premise has a
-- test, and the tests are put together as the premises are.
--
-- To try a list, write it down by its bytes (specs/Written.antt; specs/Example.antt has three) and let the checker compute:
--
--     t : allowed 2 (made_all 2 (field 7 1 BYTES (BYTES ∷ []) ∷ block_at 1 BYTES ∷ []) M) M ≡ true
--     unfolding computes_all
--     t = refl
--
-- where 2 is the old save's version and M is `mark_records FILE.records`, FILE the old save's, as `old_file` is the worked one's. A type that no block carries need not be listed.
use mathlib.Core.Path.{◌≡◌, refl, sym, ap, ap₂, ◌∙◌, subst}
use Prim.Native.Nat.{ℕ, ◌≤◌}
use native.Mathlib.Omega.{arith}
use mathlib.Core.Bool.{Bool, true, false, ◌&&◌, ◌||◌, not}
use mathlib.Core.Option.{Option, none, some}
use mathlib.Core.List.{List, [], ◌∷◌}
use lib.ListN.{length, take}
use lib.Dec.{T, leb, eqb}
use Rattle.bsii_format.specs.Reader.{Result, ok, fault, Consumed}
use Rattle.bsii_format.specs.Values.{Element, Value, single, array}
use Rattle.bsii_format.specs.Prototypes.{EnumValue, ValuePrototype, Prototype, value_prototype_parser}
use Rattle.bsii_format.specs.Blocks.{DataValue, DataBlock, get_prototype, data_value_parser}
use Rattle.bsii_format.specs.File.{prototype, block, Step, end, more, record_parser, record_bytes, prototypes_of}
use Rattle.bsii_format.proofs.Readers.{ok_val, ok_at, ok_rest, fault≢ok}
use Rattle.bsii_widening.specs.Marks.{unmark, MarkedRecord, marked_prototype, marked_block, MarkedRecords, new_records}
use Rattle.bsii_widening.specs.Insertions.{next_block, Insertion, a_field, a_prototype, a_block, insert, element_listed, ElementsListed, EnumListed, EnumsListed, has_name, DefinitionAllowed, ValueAllowed, ValuesAllowed, Allowed, AllAllowed}
use Rattle.bsii_widening.proofs.Environments.{none≢some, some_inj}
use Rattle.bsii_widening.proofs.Equal.{Decides, always, never, itself, at_most, both, only_if, restated, number_test, definition_test, value_test, prototype_test, block_test}

-- ---- well-formed bytes

-- the reader's result is one that passes, and no byte of c is left
unfoldable pub is_read : {A : Type 0} → (A → Bool) → List ℕ → Result A → Bool
is_read is c (ok a at []) = is a && eqb at (length c)
is_read is c (ok a at (x ∷ r)) = false
is_read is c (fault f) = false

nil≢cons : {A P : Type 0} {a : A} {l : List A} → ◌≡◌ {A = List A} (a ∷ l) [] → P
nil≢cons {A} {P} e = let z : ◌≡◌ {A = ℕ} 0 1 = cc in let f : ⊥ = omega arith in absurd f

read_decides : {A : Type 0} (is : A → Bool) (v : A) → ((a : A) → Decides (is a) (a ≡ v)) → (c : List ℕ) (q : Result A) → Decides (is_read is c q) (q ≡ ok v (length c) [])
unfolding is_read number_test
read_decides {A} is v d c (ok a at []) =
    restated (λ e. ap₂ (λ (z : A) (n : ℕ). ok z n []) e.0 e.1) (λ e. (ok_val e, ok_at e)) (both (d a) (number_test.decides at (length c)))
read_decides is v d c (ok a at (x ∷ r)) = never (λ e. nil≢cons (ok_rest e))
read_decides is v d c (fault f) = never (λ e. fault≢ok e)

unfoldable pub is_definition : ValuePrototype → Option ValuePrototype → Bool
is_definition d none = false
is_definition d (some e) = definition_test.test e d

definition_decides : (d : ValuePrototype) (o : Option ValuePrototype) → Decides (is_definition d o) (o ≡ some d)
unfolding is_definition
definition_decides d none = never (λ e. none≢some e)
definition_decides d (some e) = restated (λ q. ap some q) some_inj (definition_test.decides e d)

unfoldable pub is_prototype : Prototype → Step → Bool
is_prototype p (end l) = false
is_prototype p (more (block b)) = false
is_prototype p (more (prototype q)) = prototype_test.test q p

prototype_decides : (p : Prototype) (q : Step) → Decides (is_prototype p q) (q ≡ more (prototype p))
unfolding is_prototype
prototype_decides p (end l) = never (λ e. let z : ◌≡◌ {A = ℕ} 0 1 = cc in omega arith)
prototype_decides p (more (block b)) = never (λ e. let z : ◌≡◌ {A = ℕ} 0 1 = cc in omega arith)
prototype_decides p (more (prototype q)) = restated (λ e. ap (λ z. more (prototype z)) e) (λ e. cc) (prototype_test.decides q p)

unfoldable pub is_block : DataBlock → Step → Bool
is_block b (end l) = false
is_block b (more (prototype p)) = false
is_block b (more (block c)) = block_test.test c b

block_decides : (b : DataBlock) (q : Step) → Decides (is_block b q) (q ≡ more (block b))
unfolding is_block
block_decides b (end l) = never (λ e. let z : ◌≡◌ {A = ℕ} 0 1 = cc in omega arith)
block_decides b (more (prototype p)) = never (λ e. let z : ◌≡◌ {A = ℕ} 0 1 = cc in omega arith)
block_decides b (more (block c)) = restated (λ e. ap (λ z. more (block z)) e) (λ e. cc) (block_test.decides c b)

-- ---- enum values

unfoldable pub elements_listed : List EnumValue → List (Consumed Element) → Bool
elements_listed enums [] = true
elements_listed enums (e ∷ l) = element_listed enums e.value && elements_listed enums l

elements_decides : (enums : List EnumValue) (l : List (Consumed Element)) → Decides (elements_listed enums l) (ElementsListed enums l)
unfolding elements_listed
elements_decides enums [] = always
elements_decides enums (e ∷ l) = both (itself (element_listed enums e.value)) (elements_decides enums l)

unfoldable pub enum_listed : ValuePrototype → Value → Bool
enum_listed d (single e) = element_listed d.enum_values e.value
enum_listed d (array l) = elements_listed d.enum_values l

enum_decides : (d : ValuePrototype) (v : Value) → Decides (enum_listed d v) (EnumListed d v)
unfolding enum_listed
enum_decides d (single e) = itself (element_listed d.enum_values e.value)
enum_decides d (array l) = elements_decides d.enum_values l

unfoldable pub enums_listed : List (Consumed ValuePrototype) → List DataValue → Bool
enums_listed [] l = true
enums_listed (f ∷ fs) [] = true
enums_listed (f ∷ fs) (v ∷ l) = enum_listed f.value v.value && enums_listed fs l

enums_decides : (fs : List (Consumed ValuePrototype)) (l : List DataValue) → Decides (enums_listed fs l) (EnumsListed fs l)
unfolding enums_listed
enums_decides [] l = always
enums_decides (f ∷ fs) [] = always
enums_decides (f ∷ fs) (v ∷ l) = both (enum_decides f.value v.value) (enums_decides fs l)

-- ---- (i)

unfoldable pub definition_allowed : ℕ → Consumed ValuePrototype → Option Prototype → Bool
definition_allowed p d none = false
definition_allowed p d (some q) =
    leb p (length q.fields) && (is_read (is_definition d.value) d.raw (value_prototype_parser 0 d.raw) && not (has_name d.value.name q.fields))

definition_allowed_decides : (n p : ℕ) (d : Consumed ValuePrototype) (M : MarkedRecords) (o : Option Prototype) → get_prototype n (prototypes_of (new_records M)) ≡ o
    → Decides (definition_allowed p d o) (DefinitionAllowed n p d M)
unfolding definition_allowed
definition_allowed_decides n p d M none e = never (λ a. none≢some (sym e ∙ a.defined))
definition_allowed_decides n p d M (some q) e =
    restated (λ h. record { of = q; defined = e; position = h.0; well_formed = h.1.0; new_name = h.1.1 })
    (λ a. let is : a.of ≡ q = some_inj (sym a.defined ∙ e) in
    (subst (λ (z : Prototype). p ≤ length z.fields) is a.position, (a.well_formed, subst (λ (z : Prototype). T (not (has_name d.value.name z.fields))) is a.new_name)))
    (both (at_most p (length q.fields))
    (both (read_decides (is_definition d.value) (some d.value) (definition_decides d.value) d.raw (value_prototype_parser 0 d.raw)) (itself (not (has_name d.value.name q.fields)))))

module _ (version : ℕ) where
  unfoldable pub value_allowed : ℕ → Consumed ValuePrototype → DataValue → MarkedRecord → Bool
  value_allowed n d v (marked_prototype m) = true
  value_allowed n d v (marked_block b) =
      not (eqb n b.prototype_id) || (is_read (λ w. value_test.test w v) v.raw (data_value_parser version d.value.type_id 0 v.raw) && enum_listed d.value v.value)

  value_decides : (n : ℕ) (d : Consumed ValuePrototype) (v : DataValue) (m : MarkedRecord) → Decides (value_allowed n d v m) (ValueAllowed version n d v m)
  unfolding value_allowed
  value_decides n d v (marked_prototype m) = always
  value_decides n d v (marked_block b) =
      only_if (eqb n b.prototype_id)
      (both (read_decides (λ w. value_test.test w v) v (λ w. value_test.decides w v) v.raw (data_value_parser version d.value.type_id 0 v.raw)) (enum_decides d.value v.value))

  unfoldable pub values_allowed : ℕ → Consumed ValuePrototype → (ℕ → DataValue) → ℕ → MarkedRecords → Bool
  values_allowed n d v k [] = true
  values_allowed n d v k (m ∷ l) = value_allowed n d (v k) (unmark m) && values_allowed n d v (next_block (unmark m) k) l

  values_decides : (n : ℕ) (d : Consumed ValuePrototype) (v : ℕ → DataValue) (k : ℕ) (M : MarkedRecords) → Decides (values_allowed n d v k M) (ValuesAllowed version n d v k M)
  unfolding values_allowed
  values_decides n d v k [] = always
  values_decides n d v k (m ∷ l) = both (value_decides n d (v k) (unmark m)) (values_decides n d v (next_block (unmark m) k) l)

-- ---- (ii) and (iii)

unfoldable pub is_none : {A : Type 0} → Option A → Bool
is_none none = true
is_none (some a) = false

none_decides : {A : Type 0} (o : Option A) → Decides (is_none o) (o ≡ none)
unfolding is_none
none_decides none = record { proves = λ h. refl; passes = λ e. tt }
none_decides (some a) = never (λ e. none≢some (sym e))

unfoldable pub last_listed : List DataValue → Option Prototype → Bool
last_listed l none = true
last_listed l (some q) = enums_listed q.fields l

last_decides : (l : List DataValue) (o : Option Prototype) → Decides (last_listed l o) ((q : Prototype) → o ≡ some q → EnumsListed q.fields l)
unfolding last_listed
last_decides l none = record { proves = λ h q e. none≢some e; passes = λ h. tt }
last_decides l (some p) =
    restated (λ h q e. subst (λ (z : Prototype). EnumsListed z.fields l) (some_inj e) h) (λ h. h p refl) (enums_decides p.fields l)

-- ---- the list

module _ (version : ℕ) where
  unfoldable pub allowed_one : Insertion → MarkedRecords → Bool
  allowed_one (a_field n p d v) M = definition_allowed p d (get_prototype n (prototypes_of (new_records M))) && values_allowed version n d v 0 M
  allowed_one (a_prototype k p) M = is_read (is_prototype p) (record_bytes (prototype p)) (record_parser version [] 0 (record_bytes (prototype p))) && is_none (get_prototype p.id (prototypes_of (new_records M)))
  allowed_one (a_block k b) M =
      is_read (is_block b) (record_bytes (block b)) (record_parser version (prototypes_of (take k (new_records M))) 0 (record_bytes (block b)))
      && last_listed b.values (get_prototype b.prototype_id (prototypes_of (new_records M)))

  unfoldable pub allowed : List Insertion → MarkedRecords → Bool
  allowed [] M = true
  allowed (i ∷ l) M = allowed_one i M && allowed l (insert i M)

  one_decides : (i : Insertion) (M : MarkedRecords) → Decides (allowed_one i M) (Allowed version i M)
  unfolding allowed_one
  one_decides (a_field n p d v) M =
      restated (λ h. record { definition = h.0; values = h.1 }) (λ a. (a.definition, a.values))
      (both (definition_allowed_decides n p d M (get_prototype n (prototypes_of (new_records M))) refl) (values_decides version n d v 0 M))
  one_decides (a_prototype k p) M =
      restated (λ h. record { well_formed = h.0; undefined = h.1 }) (λ a. (a.well_formed, a.undefined))
      (both (read_decides (is_prototype p) (more (prototype p)) (prototype_decides p) (record_bytes (prototype p)) (record_parser version [] 0 (record_bytes (prototype p))))
      (none_decides (get_prototype p.id (prototypes_of (new_records M)))))
  one_decides (a_block k b) M =
      restated (λ h. record { well_formed = h.0; enums = h.1 }) (λ a. (a.well_formed, a.enums))
      (both (read_decides (is_block b) (more (block b)) (block_decides b) (record_bytes (block b)) (record_parser version (prototypes_of (take k (new_records M))) 0 (record_bytes (block b))))
      (last_decides b.values (get_prototype b.prototype_id (prototypes_of (new_records M)))))

  pub allowed_decides : (l : List Insertion) (M : MarkedRecords) → Decides (allowed l M) (AllAllowed version l M)
  unfolding allowed
  allowed_decides [] M = always
  allowed_decides (i ∷ l) M = both (one_decides i M) (allowed_decides l (insert i M))

  -- the two laws
  pub allowed_proves : (l : List Insertion) (M : MarkedRecords) → T (allowed l M) → AllAllowed version l M
  allowed_proves l M = (allowed_decides l M).proves

  pub allowed_passes : (l : List Insertion) (M : MarkedRecords) → AllAllowed version l M → T (allowed l M)
  allowed_passes l M = (allowed_decides l M).passes
