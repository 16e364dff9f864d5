-- Two lists of definitions side by side: what a turn keeps.
use mathlib.Core.Path.{◌≡◌, refl, sym, ap₂, ◌∙◌}
use Prim.Native.Nat.{ℕ, ◌-◌}
use mathlib.Core.Bool.{true, false}
use mathlib.Core.List.{List}
use lib.Dec.{eqb, eqb-suc-zero, eqb-zero-suc, eqb-suc-suc}
use lib.ListN.{length, take, drop}
use Rattle.bsii_format.specs.Reader.{ok, Consumed, with}
use Rattle.bsii_format.specs.Prototypes.{ValuePrototype, Fields, fields_parser}
use Rattle.bsii_prototype.specs.Accepted.{entry_at}
use Rattle.bsii_prototype.specs.declared.answers.Entry.TheVariants.{Field}
use Rattle.bsii_prototype.proofs.Turns.{turn_field, turn_none}
use Rattle.bsii_prototype.proofs.Inside.{field_inside}
use Rattle.bsii_definition.specs.Pairs.{definition, Begins, Describes, Paired, PairIs, both, ends, last_longer, last_shorter, PairOf, SameCount}
use Rattle.bsii_definition.specs.declared.pairs.Definition.{Definition}
use Rattle.bsii_definition.specs.declared.pairs.Pair.TheVariants.{Both, Ends, Uneven}
use Rattle.std.specs.Prelude.{Ok}

-- ---- one list

module _ (s : List ℕ) (at : ℕ) {type a b next : ℕ} (f : Ok (Field type a b next) ≡ entry_at s at)
    {l : Fields} {n : ℕ} {t : List ℕ} (e : fields_parser at (drop at s) ≡ ok l n t) where
  -- the definition, with its bytes
  pub here : Consumed ValuePrototype
  here = with (turn_field s at e f).field (take (next - at) (drop at s))

  pub begins : Begins s next here l n t
  unfolding here
  begins = let y = turn_field s at e f in record { rest = y.rest; more = y.more; fields = y.fields }

  pub typed : type ≡ here.value.type_id
  unfolding here
  typed = (turn_field s at e f).typed

  pub describes : Describes s (definition type a b) here.value
  unfolding here
  describes = let y = turn_field s at e f in record { typed = y.typed; name = y.name; end = next; enums = y.enums }

-- ---- both lists

-- no definition there
abbrev pub Ended : List ℕ → ℕ → Type 0
Ended s at = (type a b next : ℕ) → Ok (Field type a b next) ≡ entry_at s at → ⊥

module _ (s : List ℕ) (field last_field : ℕ) where
  pub pair_ends : Ended s field → Ended s last_field → PairOf s field last_field Ends
  pair_ends h k = record { is = λ l n t e m o u g. ends (turn_none s field e h) (turn_none s last_field g k); inside = tt }

  pub pair_longer : {type a b next : ℕ} → Ended s field → Ok (Field type a b next) ≡ entry_at s last_field → PairOf s field last_field Uneven
  pair_longer h k = record { is = λ l n t e m o u g. last_longer (turn_none s field e h) (begins s last_field k g).fields; inside = tt }

  module _ {type a b next : ℕ} (f : Ok (Field type a b next) ≡ entry_at s field) where
    pub pair_shorter : Ended s last_field → PairOf s field last_field Uneven
    pair_shorter k = record { is = λ l n t e m o u g. last_shorter (begins s field f e).fields (turn_none s last_field g k); inside = tt }

    pub pair_both : {lastType c d lastNext : ℕ} → Ok (Field lastType c d lastNext) ≡ entry_at s last_field
        → PairOf s field last_field (Both type (definition lastType c d) next lastNext)
    pair_both k = record {
      is = λ l n t e m o u g. both (record {
        in_force = here s field f e;
        begins = begins s field f e;
        typed = typed s field f e;
        last = here s last_field k g;
        last_begins = begins s last_field k g;
        describes = describes s last_field k g;
      });
      inside = let p = field_inside s field f in let q = field_inside s last_field k in (p.0, p.1, q.2, q.3);
    }

-- ---- how many there are

-- of both lists what is left differs in length if they do
pub record Rest (s : List ℕ) (field lastField : ℕ) (l : Fields) (n : ℕ) (t : List ℕ) (m : Fields) (o : ℕ) (u : List ℕ) : Type 0 where
  pub fields : Fields
  pub read : fields_parser field (drop field s) ≡ ok fields n t
  pub last_fields : Fields
  pub last_read : fields_parser lastField (drop lastField s) ≡ ok last_fields o u
  pub same : eqb (length last_fields.fields) (length fields.fields) ≡ eqb (length m.fields) (length l.fields)

pub record Counting (s : List ℕ) (fields last_fields field lastField : ℕ) : Type 0 where
  pub rest : (l : Fields) (n : ℕ) (t : List ℕ) → fields_parser fields (drop fields s) ≡ ok l n t
      → (m : Fields) (o : ℕ) (u : List ℕ) → fields_parser last_fields (drop last_fields s) ≡ ok m o u → Rest s field lastField l n t m o u

pub count_start : (s : List ℕ) (fields last_fields : ℕ) → Counting s fields last_fields fields last_fields
count_start s fields last_fields = record { rest = λ l n t e m o u f. record { fields = l; read = e; last_fields = m; last_read = f; same = refl } }

module _ (s : List ℕ) (fields last_fields field lastField : ℕ) (k : Counting s fields last_fields field lastField) where
  -- what a pair says of the lengths of the lists that are left
  pub count_ends : PairOf s field lastField Ends → SameCount s fields last_fields true
  count_ends p = record {
    is = λ l n t e m o u f.
        let x = k.rest l n t e m o u f in
        go x (p.is x.fields n t x.read x.last_fields o u x.last_read) ∙ x.same;
  }
    where
      go : {l : Fields} {n : ℕ} {t : List ℕ} {m : Fields} {o : ℕ} {u : List ℕ} (x : Rest s field lastField l n t m o u)
          → PairIs s x.fields n t x.last_fields o u Ends → true ≡ eqb (length x.last_fields.fields) (length x.fields.fields)
      go x (ends p q) = sym (ap₂ (λ (c d : List (Consumed ValuePrototype)). eqb (length c) (length d)) q p)

  pub count_uneven : PairOf s field lastField Uneven → SameCount s fields last_fields false
  count_uneven p = record {
    is = λ l n t e m o u f.
        let x = k.rest l n t e m o u f in
        go x (p.is x.fields n t x.read x.last_fields o u x.last_read) ∙ x.same;
  }
    where
      go : {l : Fields} {n : ℕ} {t : List ℕ} {m : Fields} {o : ℕ} {u : List ℕ} (x : Rest s field lastField l n t m o u) → PairIs s x.fields n t x.last_fields o u Uneven
          → false ≡ eqb (length x.last_fields.fields) (length x.fields.fields)
      go x (last_longer p {fs = fs} q) = sym (ap₂ (λ (c d : List (Consumed ValuePrototype)). eqb (length c) (length d)) q p ∙ eqb-suc-zero (length fs))
      go x (last_shorter {fs = fs} p q) = sym (ap₂ (λ (c d : List (Consumed ValuePrototype)). eqb (length c) (length d)) q p ∙ eqb-zero-suc (length fs))

  pub count_on : {type : ℕ} {last : Definition} {next lastNext : ℕ} → PairOf s field lastField (Both type last next lastNext) → Counting s fields last_fields next lastNext
  count_on p = record {
    rest = λ l n t e m o u f.
        let x = k.rest l n t e m o u f in
        let y = paired (p.is x.fields n t x.read x.last_fields o u x.last_read) in
        record {
          fields = y.begins.rest;
          read = y.begins.more;
          last_fields = y.last_begins.rest;
          last_read = y.last_begins.more;
          same =
              sym (eqb-suc-suc (length y.last_begins.rest.fields) (length y.begins.rest.fields))
              ∙ sym (ap₂ (λ (c d : List (Consumed ValuePrototype)). eqb (length c) (length d)) y.last_begins.fields y.begins.fields) ∙ x.same;
        };
  }
    where
      paired : {l : Fields} {n : ℕ} {t : List ℕ} {m : Fields} {o : ℕ} {u : List ℕ} {type : ℕ} {last : Definition} {next lastNext : ℕ}
          → PairIs s l n t m o u (Both type last next lastNext) → Paired s type last next lastNext l n t m o u
      paired (both p) = p
