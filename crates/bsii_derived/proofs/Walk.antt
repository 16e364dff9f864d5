-- The index as a walk makes it, record by record: behind the records passed stands that of one more block; and how far any bytes agree with them.
use mathlib.Core.Path.{◌≡◌, refl, sym, ap, ◌∙◌, subst}
use Prim.Native.Nat.{ℕ, suc, ◌+◌, ◌*◌, ◌≤◌, ◌<◌}
use native.Mathlib.Nat.{add-zero, zero-mul, suc-mul}
use native.Mathlib.Omega.{arith}
use mathlib.Core.Bool.{Bool, true, false, cond}
use mathlib.Core.Option.{Option, none, some}
use mathlib.Core.List.{List, [], ◌∷◌, ◌++◌, append-nil, append_assoc}
use lib.ListN.{length, take, drop, length-append, length-drop, take-append-drop}
use lib.Seq.{drop-drop, take_at, drop_at}
use lib.Dec.{T}
use Rattle.bsii_format.specs.Reader.{same}
use Rattle.bsii_format.specs.Prototypes.{Prototype}
use Rattle.bsii_format.specs.Blocks.{DataBlock}
use Rattle.bsii_format.specs.File.{Record, prototype, block, record_bytes, records_bytes}
use Rattle.bsii_format.specs.Calls.{Placed, placed, cons_prototype, prototypes_in}
use Rattle.bsii_format.proofs.Readers.{is_true, is_false, same→eq, same_refl}
use Rattle.bsii_derived.specs.Index.{IndexRecord, index_record, in_force, cons_under, cons_index, index_from, index_record_bytes, index_bytes, agreeing}
use Rattle.bsii_derived.proofs.Bytes.{record_length, index_length_law}
use Rattle.bsii_derived.proofs.Entries.{size_of}

-- ---- the records of an index

cons_append : (env : List (Placed Prototype)) (at : ℕ) (x : Record) (l m : List IndexRecord) → cons_index env at x (l ++ m) ≡ cons_index env at x l ++ m
unfolding cons_index
cons_append env at (prototype p) l m = refl
cons_append env at (block b) l m = go (in_force b.prototype_id env)
  where
    go : (o : Option (Placed Prototype)) → cons_under at b o (l ++ m) ≡ cons_under at b o l ++ m
    go none = unfold cons_under in refl
    go (some p) = unfold cons_under in refl

pub index_append : (at : ℕ) (l m : List Record) (env : List (Placed Prototype)) → index_from env (placed size_of at (l ++ m))
    ≡ index_from env (placed size_of at l) ++ index_from (prototypes_in (placed size_of at l) env) (placed size_of (at + length (records_bytes l)) m)
unfolding index_from placed prototypes_in records_bytes
index_append at [] m env = ap (λ n. index_from env (placed size_of n m)) (sym (add-zero at))
index_append at (x ∷ l) m env =
    let e : at + size_of x + length (records_bytes l) ≡ at + length (record_bytes x ++ records_bytes l) = rw length-append (omega arith) in
    let env' = cons_prototype at x env in
    ap (cons_index env at x)
    (index_append (at + size_of x) l m env'
    ∙ ap (λ n. index_from env' (placed size_of (at + size_of x) l) ++ index_from (prototypes_in (placed size_of (at + size_of x) l) env') (placed size_of n m)) e)
    ∙ cons_append env at x (index_from env' (placed size_of (at + size_of x) l)) _

pub index_prototype : (at : ℕ) (l : List Record) (p : Prototype) (env : List (Placed Prototype))
    → index_from env (placed size_of at (l ++ (prototype p ∷ []))) ≡ index_from env (placed size_of at l)
unfolding index_from placed cons_index
index_prototype at l p env = index_append at l (prototype p ∷ []) env ∙ append-nil (index_from env (placed size_of at l))

pub index_block : (at : ℕ) (l : List Record) (b : DataBlock) (env : List (Placed Prototype)) {p : Placed Prototype} → in_force b.prototype_id (prototypes_in (placed size_of at l) env) ≡ some p
    → index_from env (placed size_of at (l ++ (block b ∷ []))) ≡ index_from env (placed size_of at l) ++ (index_record (at + length (records_bytes l)) b p ∷ [])
unfolding index_from placed cons_index cons_under
index_block at l b env e =
    index_append at l (block b ∷ []) env ∙ ap (λ o. index_from env (placed size_of at l) ++ cons_under (at + length (records_bytes l)) b o []) e

module _ (w : ℕ) where
  -- ---- their bytes

  pub bytes_append : (l m : List IndexRecord) → index_bytes w (l ++ m) ≡ index_bytes w l ++ index_bytes w m
  unfolding index_bytes
  bytes_append [] m = refl
  bytes_append (r ∷ l) m = ap (λ z. index_record_bytes w r ++ z) (bytes_append l m) ∙ sym (append_assoc (index_record_bytes w r) (index_bytes w l) (index_bytes w m))

  -- ---- how far any bytes agree

  pub agreeing_few : (l : List IndexRecord) (i : List ℕ) → agreeing w l i ≤ length l
  unfolding agreeing
  agreeing_few [] i = omega arith
  agreeing_few (r ∷ l) i = go (same (index_record_bytes w r) (take (4 * w) i)) (agreeing_few l (drop (4 * w) i))
    where
      go : (b : Bool) → agreeing w l (drop (4 * w) i) ≤ length l → cond b (suc (agreeing w l (drop (4 * w) i))) 0 ≤ suc (length l)
      go true h = omega (arith, h)
      go false h = omega arith

  -- a difference is not made up for behind it
  pub agreeing_stays : (l m : List IndexRecord) (i : List ℕ) → agreeing w l i < length l → agreeing w (l ++ m) i ≡ agreeing w l i
  unfolding agreeing
  agreeing_stays [] m i h = absurd (omega (arith, h))
  agreeing_stays (r ∷ l) m i h = go (same (index_record_bytes w r) (take (4 * w) i)) h (λ k. agreeing_stays l m (drop (4 * w) i) k)
    where
      go : (b : Bool) → cond b (suc (agreeing w l (drop (4 * w) i))) 0 < suc (length l)
          → (agreeing w l (drop (4 * w) i) < length l → agreeing w (l ++ m) (drop (4 * w) i) ≡ agreeing w l (drop (4 * w) i))
          → cond b (suc (agreeing w (l ++ m) (drop (4 * w) i))) 0 ≡ cond b (suc (agreeing w l (drop (4 * w) i))) 0
      go true k f = ap suc (f (omega (arith, k)))
      go false k f = refl

  pub agreeing_goes : (l m : List IndexRecord) (i : List ℕ) → agreeing w l i ≡ length l → agreeing w (l ++ m) i ≡ length l + agreeing w m (drop (length l * (4 * w)) i)
  unfolding agreeing
  agreeing_goes [] m i h = ap (λ n. agreeing w m (drop n i)) (sym (zero-mul (4 * w))) ∙ omega arith
  agreeing_goes (r ∷ l) m i h = go (same (index_record_bytes w r) (take (4 * w) i)) h (λ k. agreeing_goes l m (drop (4 * w) i) k)
    where
      behind : drop (length l * (4 * w)) (drop (4 * w) i) ≡ drop (suc (length l) * (4 * w)) i
      behind =
          let e : 4 * w + length l * (4 * w) ≡ suc (length l) * (4 * w) = omega (arith, suc-mul (length l) (4 * w)) in
          drop-drop (length l * (4 * w)) (4 * w) i ∙ ap (λ n. drop n i) e

      go : (b : Bool) → cond b (suc (agreeing w l (drop (4 * w) i))) 0 ≡ suc (length l)
          → (agreeing w l (drop (4 * w) i) ≡ length l → agreeing w (l ++ m) (drop (4 * w) i) ≡ length l + agreeing w m (drop (length l * (4 * w)) (drop (4 * w) i)))
          → cond b (suc (agreeing w (l ++ m) (drop (4 * w) i))) 0 ≡ suc (length l) + agreeing w m (drop (suc (length l) * (4 * w)) i)
      go true k f = ap suc (f (omega (arith, k))) ∙ ap (λ z. suc (length l + agreeing w m z)) behind ∙ omega arith
      go false k f = absurd (omega (arith, k))

  -- all records agree and nothing stands behind them: these are the bytes
  pub agreeing_all : (l : List IndexRecord) (i : List ℕ) → agreeing w l i ≡ length l → length i ≡ length l * (4 * w) → index_bytes w l ≡ i
  unfolding agreeing index_bytes
  agreeing_all [] [] h k = refl
  agreeing_all [] (x ∷ i) h k = absurd (omega (arith, k, zero-mul (4 * w)))
  agreeing_all (r ∷ l) i h k =
      go (same (index_record_bytes w r) (take (4 * w) i)) refl h
      (λ z. agreeing_all l (drop (4 * w) i) z (omega (arith, length-drop (4 * w) i, k, suc-mul (length l) (4 * w))))
    where
      go : (b : Bool) → same (index_record_bytes w r) (take (4 * w) i) ≡ b → cond b (suc (agreeing w l (drop (4 * w) i))) 0 ≡ suc (length l)
          → (agreeing w l (drop (4 * w) i) ≡ length l → index_bytes w l ≡ drop (4 * w) i) → index_record_bytes w r ++ index_bytes w l ≡ i
      go true e z f =
          let x = same→eq (index_record_bytes w r) (take (4 * w) i) (subst T (sym e) tt) in
          ap (λ a. a ++ index_bytes w l) x ∙ ap (λ a. take (4 * w) i ++ a) (f (omega (arith, z))) ∙ take-append-drop (4 * w) i
      go false e z f = absurd (omega (arith, z))

  pub agreeing_own : (l : List IndexRecord) → agreeing w l (index_bytes w l) ≡ length l
  unfolding agreeing index_bytes
  agreeing_own [] = refl
  agreeing_own (r ∷ l) =
      rw (
        take_at (index_record_bytes w r) (index_bytes w l) (4 * w) (record_length w r),
        drop_at (index_record_bytes w r) (index_bytes w l) (4 * w) (record_length w r),
        is_true (same (index_record_bytes w r) (index_record_bytes w r)) (same_refl (index_record_bytes w r)),
      ) (ap suc (agreeing_own l))

  pub same_all : (l : List IndexRecord) (i : List ℕ) → agreeing w l i ≡ length l → length i ≡ length l * (4 * w) → same (index_bytes w l) i ≡ true
  same_all l i h k = ap (same (index_bytes w l)) (sym (agreeing_all l i h k)) ∙ is_true (same (index_bytes w l) (index_bytes w l)) (same_refl (index_bytes w l))

  pub differing : (l : List IndexRecord) (i : List ℕ) → (agreeing w l i ≡ length l → length i ≡ length l * (4 * w) → ⊥) → same (index_bytes w l) i ≡ false
  differing l i h = is_false (same (index_bytes w l) i) (λ t.
      let e = same→eq (index_bytes w l) i t in
      h (ap (agreeing w l) (sym e) ∙ agreeing_own l) (ap length (sym e) ∙ index_length_law w l))
