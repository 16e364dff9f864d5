-- What the premises of demand 3 do not ask: each is met by what 01's words ask, said here by places and members and not by the definitions' own recursion.
-- So no premise can be narrowed unseen. By induction on the list that a premise goes along.
use mathlib.Core.Path.{◌≡◌, refl, sym, ap, ◌∙◌, subst}
use Prim.Native.Nat.{ℕ, zero, suc, ◌+◌, ◌/◌, ◌≤◌}
use native.Mathlib.Omega.{arith}
use mathlib.Core.Bool.{Bool, true, false, cond, ◌||◌, not}
use mathlib.Core.Option.{Option, none, some}
use mathlib.Core.List.{List, [], ◌∷◌, ◌++◌}
use lib.ListN.{length, take, get_or, get_elem?}
use lib.Dec.{T, eqb, eqb→eq, eqb_refl}
use Rattle.bsii_format.specs.Replies.{gives}
use Rattle.bsii_format.specs.Reader.{ok, Consumed, same, WellFormed}
use Rattle.bsii_format.specs.Strings.{is_some}
use Rattle.bsii_format.specs.Types.{Numeric, float, float_vec2, float_vec3, float_vec4, float_vec7, float_vec8, int32, int32_vec3, uint32, uint16, int64, uint64, bool, enum}
use Rattle.bsii_format.specs.Values.{Element, nums, str, word, ident, Value, single, array}
use Rattle.bsii_format.specs.Prototypes.{EnumValue, ValuePrototype, Prototype, value_prototype_parser}
use Rattle.bsii_format.specs.Blocks.{DataValue, DataBlock, find_by, get_prototype, data_value_parser}
use Rattle.bsii_format.specs.File.{BsiiFile, Record, prototype, block, more, record_parser, record_bytes, define, define_all, prototypes_of, distinct_ids, parse}
use Rattle.bsii_format.specs.Text.{first_some, enum_string}
use Rattle.bsii_format.specs.Calls.{Converted, text_call}
use Rattle.bsii_format.proofs.Readers.{same→eq}
use Rattle.bsii_widening.specs.Marks.{old, inserted, unmark, MarkedBlock, marked_prototype, marked_block, MarkedRecords, new_block, new_records}
use Rattle.bsii_widening.specs.Insertions.{Insertion, a_field, a_prototype, a_block, insert, insert_all, numeric_listed, element_listed, ElementsListed, EnumListed, EnumsListed, has_name, ValueAllowed, ValuesAllowed, Allowed, AllAllowed, defines_id, NoIdTwice}
use Rattle.bsii_widening.specs.Claim.{OldSave, new_file, Room}
use Rattle.bsii_widening.specs.Observers.{Old}
use Rattle.bsii_widening.proofs.Environments.{none≢some, some_inj}
use Rattle.bsii_widening.proofs.Lookups.{blocks}

-- the item number i of a list
abbrev pub At : {A : Type 0} → List A → ℕ → A → Type 0
At l i a = get_elem? l i ≡ some a

-- ---- "enum values stand in their lists", and no other value is asked for anything

-- one of the list's pairs has the number n
pub record InList (enums : List EnumValue) (n : ℕ) : Type 0 where
  pub place : ℕ
  pub pair : EnumValue
  pub there : At enums place pair
  pub number : pair.number ≡ n

first_some_law : {A : Type 0} (a b : Option A) → T (is_some b) → T (is_some (first_some a b))
unfolding is_some first_some
first_some_law none b h = h
first_some_law (some x) b h = tt

first_left : {A : Type 0} (a b : Option A) → T (is_some a) → T (is_some (first_some a b))
unfolding is_some first_some
first_left none b h = absurd h
first_left (some x) b h = tt

pair_there : (b : Bool) (s : List ℕ) → T b → T (is_some (cond b (some s) none))
unfolding is_some
pair_there true s h = tt
pair_there false s h = h

in_list : (enums : List EnumValue) (n i : ℕ) (x : EnumValue) → At enums i x → x.number ≡ n → T (is_some (enum_string n enums))
unfolding enum_string
in_list [] n i x e k = none≢some e
in_list (p ∷ l) n zero x e k =
    first_some_law (enum_string n l) (cond (eqb n p.number) (some p.string) none)
    (pair_there (eqb n p.number) p.string (subst (λ m. T (eqb n m)) (sym k ∙ ap (λ (z : EnumValue). z.number) (sym (some_inj e))) (eqb_refl n)))
in_list (p ∷ l) n (suc i) x e k = first_left (enum_string n l) (cond (eqb n p.number) (some p.string) none) (in_list l n i x e k)

any_numbers : (enums : List EnumValue) (k : Numeric) (l : List ℕ) → (k ≡ enum → InList enums (get_or l 0 0)) → T (numeric_listed enums k l)
unfolding numeric_listed
any_numbers enums float l h = tt
any_numbers enums float_vec2 l h = tt
any_numbers enums float_vec3 l h = tt
any_numbers enums float_vec4 l h = tt
any_numbers enums float_vec7 l h = tt
any_numbers enums float_vec8 l h = tt
any_numbers enums int32 l h = tt
any_numbers enums int32_vec3 l h = tt
any_numbers enums uint32 l h = tt
any_numbers enums uint16 l h = tt
any_numbers enums int64 l h = tt
any_numbers enums uint64 l h = tt
any_numbers enums bool l h = tt
any_numbers enums enum l h = let x = h refl in in_list enums (get_or l 0 0) x.place x.pair x.there x.number

-- an element that is an enum's number has it in the list
abbrev pub ElementInList : List EnumValue → Element → Type 0
ElementInList enums e = (l : List ℕ) → e ≡ nums enum l → InList enums (get_or l 0 0)

pub any_element : (enums : List EnumValue) (e : Element) → ElementInList enums e → T (element_listed enums e)
unfolding element_listed
any_element enums (nums k l) h = any_numbers enums k l (λ e. h l (ap (λ z. nums z l) e))
any_element enums (str s) h = tt
any_element enums (word n) h = tt
any_element enums (ident i) h = tt

any_elements : (enums : List EnumValue) (l : List (Consumed Element)) → ((i : ℕ) (e : Consumed Element) → At l i e → ElementInList enums e.value) → ElementsListed enums l
any_elements enums [] h = tt
any_elements enums (e ∷ l) h = (any_element enums e.value (h 0 e refl), any_elements enums l (λ i. h (suc i)))

pub elements_of : Value → List (Consumed Element)
elements_of (single e) = e ∷ []
elements_of (array l) = l

-- each element of the value does so
abbrev pub AllInList : ValuePrototype → Value → Type 0
AllInList d v = (i : ℕ) (e : Consumed Element) → At (elements_of v) i e → ElementInList d.enum_values e.value

any_value : (d : ValuePrototype) (v : Value) → AllInList d v → EnumListed d v
unfolding elements_of
any_value d (single e) h = any_element d.enum_values e.value (h 0 e refl)
any_value d (array l) h = any_elements d.enum_values l h

any_row : (fs : List (Consumed ValuePrototype)) (l : List DataValue)
    → ((i : ℕ) (f : Consumed ValuePrototype) (v : DataValue) → At fs i f → At l i v → AllInList f.value v.value) → EnumsListed fs l
any_row [] l h = tt
any_row (f ∷ fs) [] h = tt
any_row (f ∷ fs) (v ∷ l) h = (any_value f.value v.value (h 0 f v refl refl), any_row fs l (λ i. h (suc i)))

-- ---- (i) "its name none of that prototype's names", "with a well-formed value at the matching spot of every block of that id"

none_of : (a b : Bool) → (T a → ⊥) → T (not b) → T (not (a || b))
none_of true b h k = absurd (h tt)
none_of false b h k = k

any_name : (name : List ℕ) (fs : List (Consumed ValuePrototype)) → ((i : ℕ) (f : Consumed ValuePrototype) → At fs i f → name ≡ f.value.name → ⊥) → T (not (has_name name fs))
unfolding has_name
any_name name [] h = tt
any_name name (f ∷ fs) h =
    none_of (same name f.value.name) (has_name name fs) (λ t. h 0 f refl (same→eq name f.value.name t)) (any_name name fs (λ i. h (suc i)))

abbrev pub GoodFor : ℕ → Consumed ValuePrototype → DataValue → Type 0
GoodFor version d v = WellFormed (data_value_parser version d.value.type_id) v v.raw × AllInList d.value v.value

value_for : (version n : ℕ) (d : Consumed ValuePrototype) (v : DataValue) (b : MarkedBlock) → (b.prototype_id ≡ n → GoodFor version d v) → ValueAllowed version n d v (marked_block b)
value_for version n d v b h t = let g = h (sym (eqb→eq n b.prototype_id t)) in (g.0, any_value d.value v.value g.1)

-- the number of the first block here is k
any_values : (version n : ℕ) (d : Consumed ValuePrototype) (v : ℕ → DataValue) (k : ℕ) (M : MarkedRecords)
    → ((i j : ℕ) (b : DataBlock) → j ≡ k + i → At (blocks (new_records M)) i b → b.prototype_id ≡ n → GoodFor version d (v j)) → ValuesAllowed version n d v k M
unfolding new_records unmark blocks
any_values version n d v k [] h = tt
any_values version n d v k (old (marked_prototype m) ∷ l) h = (tt, any_values version n d v k l h)
any_values version n d v k (inserted (marked_prototype m) ∷ l) h = (tt, any_values version n d v k l h)
any_values version n d v k (old (marked_block b) ∷ l) h =
    (value_for version n d (v k) b (h 0 k (new_block b) (omega arith) refl), any_values version n d v (suc k) l (λ i j c z. h (suc i) j c (omega arith)))
any_values version n d v k (inserted (marked_block b) ∷ l) h =
    (value_for version n d (v k) b (h 0 k (new_block b) (omega arith) refl), any_values version n d v (suc k) l (λ i j c z. h (suc i) j c (omega arith)))

pub any_field : (version n p : ℕ) (d : Consumed ValuePrototype) (v : ℕ → DataValue) (M : MarkedRecords) (q : Prototype) → get_prototype n (prototypes_of (new_records M)) ≡ some q → p ≤ length q.fields
    → WellFormed value_prototype_parser (some d.value) d.raw → ((i : ℕ) (f : Consumed ValuePrototype) → At q.fields i f → d.value.name ≡ f.value.name → ⊥)
    → ((i : ℕ) (b : DataBlock) → At (blocks (new_records M)) i b → b.prototype_id ≡ n → GoodFor version d (v i)) → Allowed version (a_field n p d v) M
any_field version n p d v M q e m w name values = record {
  definition = record { of = q; defined = e; position = m; well_formed = w; new_name = any_name d.value.name q.fields name };
  values = any_values version n d v 0 M (λ i j b z. subst (λ x. At (blocks (new_records M)) x b → b.prototype_id ≡ n → GoodFor version d (v j)) (omega arith) (values j b));
}

-- ---- (ii) "a whole prototype under an id that the file defines nowhere"

-- no prototype of the list has the id n
abbrev pub Nowhere : ℕ → List Record → Type 0
Nowhere n l = (i : ℕ) (q : Prototype) → At l i (prototype q) → q.id ≡ n → ⊥

unknown : (n : ℕ) (l : List Record) (env : List Prototype) → get_prototype n env ≡ none → Nowhere n l → get_prototype n (define_all l env) ≡ none
unfolding define_all define find_by
unknown n [] env e h = e
unknown n (block b ∷ l) env e h = unknown n l env e (λ i. h (suc i))
unknown n (prototype p ∷ l) env e h = unknown n l (p ∷ env) (go (eqb n p.id) (λ t. h 0 p refl (sym (eqb→eq n p.id t)))) (λ i. h (suc i))
  where
    go : (b : Bool) → (T b → ⊥) → cond b (some p) (get_prototype n env) ≡ none
    go true f = absurd (f tt)
    go false f = e

pub any_prototype : (version k : ℕ) (p : Prototype) (M : MarkedRecords) → WellFormed (record_parser version []) (more (prototype p)) (record_bytes (prototype p)) → Nowhere p.id (new_records M) → Allowed version (a_prototype k p) M
unfolding prototypes_of find_by
any_prototype version k p M w h = record { well_formed = w; undefined = unknown p.id (new_records M) [] refl h }

-- ---- (iii) "a whole block after its prototype"

pub any_block : (version k : ℕ) (b : DataBlock) (M : MarkedRecords) → WellFormed (record_parser version (prototypes_of (take k (new_records M)))) (more (block b)) (record_bytes (block b))
    → ((q : Prototype) (i : ℕ) (f : Consumed ValuePrototype) (v : DataValue) → get_prototype b.prototype_id (prototypes_of (new_records M)) ≡ some q → At q.fields i f → At b.values i v → AllInList f.value v.value)
    → Allowed version (a_block k b) M
any_block version k b M w h = record { well_formed = w; enums = λ q e. any_row q.fields b.values (λ i f v. h q i f v e) }

-- ---- the list, "the empty one included", and the save

pub any_list : (version : ℕ) (l : List Insertion) (M : MarkedRecords) → ((a : List Insertion) (i : Insertion) (b : List Insertion) → l ≡ a ++ (i ∷ b) → Allowed version i (insert_all a M)) → AllAllowed version l M
unfolding insert_all
any_list version [] M h = tt
any_list version (i ∷ l) M h = (h [] i l refl, any_list version l (insert i M) (λ a j b e. h (i ∷ a) j b (ap (λ z. i ∷ z) e)))

not_defined : (n : ℕ) (l : List Record) → Nowhere n l → T (not (defines_id n l))
unfolding defines_id
not_defined n [] h = tt
not_defined n (block b ∷ l) h = not_defined n l (λ i. h (suc i))
not_defined n (prototype p ∷ l) h = none_of (eqb n p.id) (defines_id n l) (λ t. h 0 p refl (sym (eqb→eq n p.id t))) (not_defined n l (λ i. h (suc i)))

-- "defines no prototype id twice": two prototypes of one id are one
pub any_once : (l : List Record) → ((i j : ℕ) (p q : Prototype) → At l i (prototype p) → At l j (prototype q) → p.id ≡ q.id → i ≡ j) → NoIdTwice l
any_once [] h = tt
any_once (block b ∷ l) h = any_once l (λ i j p q x y e. let z = h (suc i) (suc j) p q x y e in omega arith)
any_once (prototype p ∷ l) h = (
  not_defined p.id l (λ i q x e. let z = h 0 (suc i) p q refl x (sym e) in omega arith),
  any_once l (λ i j p q x y e. let z = h (suc i) (suc j) p q x y e in omega arith),
)

pub any_save : {words : ℕ} {s out : List ℕ} {f : BsiiFile} {at : ℕ} {r : List ℕ} {made : Converted} → parse words s ≡ ok f at r → (text_call words s out).reply ≡ gives made → NoIdTwice f.records
    → OldSave words s out f at r made
any_save e t o = record { reads = e; converts = t; once = o }

pub any_read : {words : ℕ} {s : List ℕ} {f : BsiiFile} {at : ℕ} {r : List ℕ} → parse words s ≡ ok f at r → NoIdTwice f.records → Old words s f at r
any_read e o = record { reads = e; once = o }

pub any_room : {limit words : ℕ} {f : BsiiFile} {r : List ℕ} {M : MarkedRecords} → length (new_file f r M) ≤ limit → distinct_ids (prototypes_of (new_records M)) ≤ words / 3 → Room limit words f r M
any_room h k = record { file = h; table = k }
