-- How many words a table must have. With fewer a file is read as with more, or stops at a prototype by 10. A prototype has 17 bytes at least, so a file of n
-- bytes has at most n / 17 of them.
use mathlib.Core.Path.{◌≡◌, refl, sym, ap, ◌∙◌}
use mathlib.Core.Logic.{⊎_elim}
use Prim.Native.Nat.{ℕ, zero, suc, ◌+◌, ◌*◌, ◌/◌, ◌≤◌, ◌<◌}
use native.Mathlib.Omega.{arith}
use mathlib.Core.Bool.{Bool, true, false, cond}
use mathlib.Core.List.{List, [], ◌∷◌, ◌++◌}
use lib.ListN.{length, take, drop, length-append, length-drop}
use lib.Dec.{T, leb, eqb, leb→le, le→leb}
use Rattle.bsii_format.specs.declared.Cause.{Cause}
use Rattle.bsii_format.specs.Replies.{input_long, invalid_header, table_full}
use Rattle.bsii_format.specs.Reader.{Result, ok, fault, fault_at, Reader, after, ◌>>=◌, success, exhausted, ◌<$>◌, bytes, Consumed, consumed}
use Rattle.bsii_format.specs.Numbers.{little_endian, number, le_u8, le_u32}
use Rattle.bsii_format.specs.Strings.{is_some, str_parser}
use Rattle.bsii_format.specs.Prototypes.{Prototype, value_prototype_parser}
use Rattle.bsii_format.specs.Blocks.{get_prototype}
use Rattle.bsii_format.specs.File.{Record, prototype, block, Head, defining, head_parser, Step, end, more, record_parser, define, distinct_ids, prototypes_of, has_room, Records, cons_record, records_then, records_from, records_parser, header_parser, BsiiFile, bsii_file, bsii_parser, length_limit, parse, fields_bytes, record_bytes}
use Rattle.bsii_format.proofs.Readers.{Fits, consumed_took, fault≢ok, ok_val, ok_rest, map_ok, after_ok, cond_ok, is_true}
use Rattle.bsii_format.proofs.Parsers.{header_exact}
use Rattle.bsii_format.proofs.Lists.{lt_or_le}
use Rattle.bsii_format.proofs.Records.{GoodEnd, GoodRecord, record_good, room_for, step_bytes}
use Rattle.bsii_format.proofs.File.{parse_ok, file_good}
use Rattle.bsii_format.proofs.Refusals.{record_numbers, Told, more_told, cond_told, more_only, success_only, after_only, consumed_only, record_only, header_only}
use Rattle.bsii_derived.specs.IndexCalls.{demand, prototype_head}
use Rattle.bsii_derived.proofs.Defined.{head_demanded}

-- ---- fewer rooms

-- q is p, or 10 at some prototype
pub data Starved (A : Type 0) : Result A → Result A → Type 0 where
  alike : {q : Result A} → Starved A q q
  full : {x : ℕ} {p : Result A} → Starved A (fault_at table_full x) p

after_starved : {A B : Type 0} (g : A → Reader B) {q p : Result A} → Starved A q p → Starved B (after q g) (after p g)
unfolding after
after_starved g alike = alike
after_starved g (full {x = x}) = full

-- both read on behind the same
behind_starved : {A B : Type 0} (q : Result A) (g h : A → Reader B) → ((a : A) (at : ℕ) (s : List ℕ) → Starved B (g a at s) (h a at s)) → Starved B (after q g) (after q h)
unfolding after
behind_starved (ok a at s) g h k = k a at s
behind_starved (fault x) g h k = alike

module _ {rooms many : ℕ} (h : rooms ≤ many) where
  room_too : (env : List Prototype) (r : Record) → T (has_room rooms env r) → T (has_room many env r)
  unfolding has_room
  room_too env (prototype p) t = le→leb (distinct_ids (p ∷ env)) many (omega (arith, leb→le (distinct_ids (p ∷ env)) rooms t))
  room_too env (block b) t = tt

  then_starved : (env : List Prototype) (start : ℕ) (q p : List Prototype → Reader Records) → ((e : List Prototype) (at : ℕ) (s : List ℕ) → Starved Records (q e at s) (p e at s))
      → (z : Step) (at : ℕ) (s : List ℕ) → Starved Records (records_then rooms env start q z at s) (records_then many env start p z at s)
  unfolding records_then ◌<$>◌ ◌>>=◌
  then_starved env start q p k (end l) at s = alike
  then_starved env start q p k (more r) at s = go (has_room rooms env r) (room_too env r)
    where
      go : (b : Bool) → (T b → T (has_room many env r))
          → Starved Records (cond b (cons_record r <$> q (define r env)) (λ at s. fault_at table_full start) at s)
          (cond (has_room many env r) (cons_record r <$> p (define r env)) (λ at s. fault_at table_full start) at s)
      go true t = rw (is_true (has_room many env r) (t tt)) (after_starved _ (k (define r env) at s))
      go false t = full

  records_starved : (version n : ℕ) (env : List Prototype) (at : ℕ) (s : List ℕ) → Starved Records (records_from version rooms n env at s) (records_from version many n env at s)
  unfolding records_from
  records_starved version zero env at s = alike
  records_starved version (suc n) env at s =
      behind_starved (record_parser version env at s) _ _
      (then_starved env at (λ e. records_from version rooms n e) (λ e. records_from version many n e) (records_starved version n))

  file_starved : (at : ℕ) (s : List ℕ) → Starved BsiiFile (bsii_parser rooms at s) (bsii_parser many at s)
  unfolding bsii_parser records_parser ◌>>=◌ ◌<$>◌
  file_starved at s =
      behind_starved (consumed header_parser at s) _ _ (λ a i t. after_starved _ (records_starved a.value (length t) [] i t))

pub parse_starved : (words words' : ℕ) → words / 3 ≤ words' / 3 → (s : List ℕ) → Starved BsiiFile (parse words s) (parse words' s)
unfolding parse
parse_starved words words' h s = go (leb (length s) length_limit)
  where
    go : (b : Bool) → Starved BsiiFile (cond b (bsii_parser (words / 3) 0 s) (fault_at input_long 0)) (cond b (bsii_parser (words' / 3) 0 s) (fault_at input_long 0))
    go true = file_starved h 0 s
    go false = alike

-- what is read with two tables is one file
pub read_alike : (words words' : ℕ) (s : List ℕ) {f f' : BsiiFile} {at at' : ℕ} {r r' : List ℕ} → parse words s ≡ ok f at r → parse words' s ≡ ok f' at' r' → f ≡ f'
read_alike words words' s {f} {f'} {at} {at'} {r} {r'} e e' =
    ⊎_elim (λ h. go (parse_starved words words' (omega (arith, h)) s) e e') (λ h. sym (go (parse_starved words' words h s) e' e)) (lt_or_le (words / 3) (words' / 3))
  where
    go : {g g' : BsiiFile} {i i' : ℕ} {k k' : List ℕ} {q p : Result BsiiFile} → Starved BsiiFile q p → q ≡ ok g i k → p ≡ ok g' i' k' → g ≡ g'
    go alike e e' = ok_val (sym e ∙ e')
    go full e e' = fault≢ok e

-- and with fewer words than its ids ask for it is read with none
pub full_below : (words words' : ℕ) (s : List ℕ) {f : BsiiFile} {at : ℕ} {r : List ℕ} → parse words' s ≡ ok f at r → words < 3 * distinct_ids (prototypes_of f.records)
    → (x : ℕ) × (parse words s ≡ fault_at table_full x)
unfolding prototypes_of
full_below words words' s {f} {at} {r} e h =
    go (parse_starved words words' (omega (arith, few, roomed words' e)) s) refl e
  where
    few : words / 3 < distinct_ids (prototypes_of f.records)
    few = omega arith

    roomed : (n : ℕ) → parse n s ≡ ok f at r → distinct_ids (prototypes_of f.records) ≤ n / 3
    roomed n e = (file_good (n / 3) s f at r (parse_ok n s e).1).good.roomed

    go : {q p : Result BsiiFile} → Starved BsiiFile q p → parse words s ≡ q → p ≡ ok f at r → (x : ℕ) × (parse words s ≡ fault_at table_full x)
    go alike z k = absurd (omega (arith, few, roomed words (z ∙ k)))
    go (full {x = x}) z k = (x, z)

-- ---- a prototype has 17 bytes at least

number_rest : (w at : ℕ) (s : List ℕ) {v at' : ℕ} {r : List ℕ} → number w at s ≡ ok v at' r → w + length r ≡ length s
unfolding number bytes
number_rest w at s e =
    let m = map_ok little_endian (bytes w) at s e in
    let c = cond_ok (leb w (length s)) (ok (take w s) (at + w) (drop w s)) _ m.2 in
    omega (arith, leb→le w (length s) c.0, length-drop w s, ap length (ok_rest c.1))

demanded_rest : (w n b at : ℕ) (s : List ℕ) {v at' : ℕ} {r : List ℕ} → demand n b (number w) at s ≡ ok v at' r → w + length r ≡ length s
unfolding demand
demanded_rest w n b at s e =
    let x = after_ok (number w at s) _ e in
    let c = cond_ok (eqb x.0 n) (ok x.0 x.1 x.2) _ x.4 in
    number_rest w at s (x.3 ∙ c.1)

-- number, mark, id, the name's length
head_long : {id : ℕ} {name c : List ℕ} → Fits Head head_parser (defining id name) c → 13 ≤ length c
unfolding prototype_head str_parser ◌>>=◌
head_long {c = c} h =
    let s = c ++ [] in
    let z = after_ok (demand 0 0 le_u32 0 s) _ (head_demanded 0 0 s (h.reads 0 [])) in
    let m = after_ok (demand 1 0 le_u8 z.1 z.2) _ z.4 in
    let n = after_ok (le_u32 m.1 m.2) _ m.4 in
    let l = after_ok (str_parser n.1 n.2) _ n.4 in
    let k = after_ok (le_u32 n.1 n.2) _ l.3 in
    omega (arith, length-append c [], demanded_rest 4 0 0 0 s z.3, demanded_rest 1 1 0 z.1 z.2 m.3, number_rest 4 m.1 m.2 n.3, number_rest 4 n.1 n.2 k.3)

end_long : {c : List ℕ} → GoodEnd c → 4 ≤ length c
unfolding value_prototype_parser ◌>>=◌
end_long {c} h = let x = after_ok (le_u32 0 (c ++ [])) _ (h.reads 0 []) in omega (arith, length-append c [], number_rest 4 0 (c ++ []) x.3)

-- a record brings no more ids than its bytes allow
record_room : (version : ℕ) (env : List Prototype) (i : Record) → GoodRecord version env i → 17 * distinct_ids (define i env) ≤ 17 * distinct_ids env + length (record_bytes i)
unfolding define distinct_ids record_bytes
record_room version env (prototype p) g = rw (length-append, length-append) (go (is_some (get_prototype p.id env)))
  where
    go : (b : Bool) → 17 * cond b (distinct_ids env) (suc (distinct_ids env)) ≤ 17 * distinct_ids env + (length p.head + (length (fields_bytes p.fields) + length p.terminator))
    go true = omega arith
    go false = omega (arith, head_long g.head, end_long g.last)
record_room version env (block b) g = omega arith

-- ---- a table by the file's length

module _ (version rooms : ℕ) where
  -- room for the ids so far and for those that the bytes left can bring
  abbrev Ample : List Prototype → List ℕ → Type 0
  Ample env s = 17 * distinct_ids env + length s < 17 * suc rooms

  then_roomy : (env : List Prototype) (at : ℕ) (s : List ℕ) → Ample env s → (rest : List Prototype → Reader Records)
      → ((e : List Prototype) (i : ℕ) (r : List ℕ) → Ample e r → Told record_numbers (rest e i r))
      → (q : Result Step) → record_parser version env at s ≡ q → Told record_numbers q → Told record_numbers (after q (records_then rooms env at rest))
  unfolding after records_then success step_bytes ◌<$>◌ ◌>>=◌
  then_roomy env at s h rest k (fault x) e t = t
  then_roomy env at s h rest k (ok (end l) i r) e t = tt
  then_roomy env at s h rest k (ok (more z) i r) e t =
      let x = record_good env at s (more z) i r e in
      let left : Ample (define z env) r = omega (arith, h, record_room version env z x.good, simp length-append at (ap length x.front)) in
      rw (is_true (has_room rooms env z) (room_for rooms z env (omega (arith, left)))) (after_only {l = record_numbers} (rest (define z env) i r) (λ l. success (cons_record z l)) (k (define z env) i r left) (λ l. success_only (cons_record z l)))

  records_roomy : (n : ℕ) (env : List Prototype) (at : ℕ) (s : List ℕ) → Ample env s → Told record_numbers (records_from version rooms n env at s)
  unfolding records_from exhausted
  records_roomy zero env at s h = tt
  records_roomy (suc n) env at s h =
      then_roomy env at s h (λ e. records_from version rooms n e) (records_roomy n) (record_parser version env at s) refl ((record_only version env).only at s)

-- the numbers of a file but 10
abbrev pub roomy_numbers : List Cause
roomy_numbers = input_long ∷ invalid_header ∷ record_numbers

file_roomy : (rooms : ℕ) (s : List ℕ) → length s < 17 * suc rooms → Told roomy_numbers (bsii_parser rooms 0 s)
unfolding bsii_parser ◌>>=◌ ◌<$>◌ records_parser distinct_ids
file_roomy rooms s h = go (consumed header_parser 0 s) refl ((consumed_only (more_only roomy_numbers _ tt header_only)).only 0 s)
  where
    go : (q : Result (Consumed ℕ)) → consumed header_parser 0 s ≡ q → Told roomy_numbers q → Told roomy_numbers (after q (λ h. bsii_file h <$> records_parser h.value rooms))
    go (fault x) e t = unfold after in t
    go (ok a i r) e t =
        unfold after ◌<$>◌ ◌>>=◌ records_parser distinct_ids in
        let x = consumed_took header_exact 0 s a i r e in
        after_only {l = roomy_numbers} (records_from a.value rooms (length r) [] i r) (λ l. success (bsii_file a l))
        (more_told roomy_numbers record_numbers tt (records_from a.value rooms (length r) [] i r) (records_roomy a.value rooms (length r) [] i r (omega (arith, h, simp length-append at (ap length x.front)))))
        (λ l. success_only (bsii_file a l))

pub parse_roomy : (words : ℕ) (s : List ℕ) → 3 * (length s / 17) ≤ words → Told roomy_numbers (parse words s)
unfolding parse
parse_roomy words s h = cond_told roomy_numbers (leb (length s) length_limit) (bsii_parser (words / 3) 0 s) (fault_at input_long 0) (file_roomy (words / 3) s long) tt
  where
    long : length s < 17 * suc (words / 3)
    long = omega arith
