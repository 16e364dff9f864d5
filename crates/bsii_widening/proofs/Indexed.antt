-- The index survives every allowed list: by a checked index a file answers as by the walk (bsii_derived, `looks_as_walk`), for the old file and for the new
-- one, so what was found is found by `field_survives`; write and check read the whole file first and stop where every such call does.
use mathlib.Core.Path.{◌≡◌, refl, sym, ap, ◌∙◌, subst}
use Prim.Native.Nat.{ℕ, ◌*◌, ◌^◌, ◌≤◌}
use native.Mathlib.Omega.{arith}
use mathlib.Core.Bool.{Bool, true, false, cond}
use mathlib.Core.Option.{Option, none, some}
use mathlib.Core.List.{List, [], ◌∷◌, ◌++◌}
use lib.ListN.{length}
use lib.Dec.{eqb, eqb_refl, lit≤}
use Rattle.bsii_format.specs.Replies.{number_of, Reply, gives, refusal, unlisted_type, misfit}
use Rattle.bsii_format.specs.Reader.{ok, same}
use Rattle.bsii_format.specs.Strings.{is_some}
use Rattle.bsii_format.specs.Prototypes.{Prototype}
use Rattle.bsii_format.specs.Blocks.{find_by, get_prototype}
use Rattle.bsii_format.specs.File.{BsiiFile, Record, prototype, block, define, define_all, prototypes_of, file_bytes, length_limit, parse}
use Rattle.bsii_format.specs.Calls.{or_absent, field_of, WriteAnswer, write_answer}
use Rattle.bsii_format.proofs.ReplyLaws.{refuses≢gives, of_read, write_fits}
use Rattle.bsii_derived.specs.Index.{index_width, IndexRecord, index_of, index_bytes, index_bytes_of, agreeing}
use Rattle.bsii_derived.specs.IndexCalls.{write_index_call, checked, check_index_call, index_field_call, once, defines_once_call}
use Rattle.bsii_derived.proofs.Claims.{was_read, checks_exactly, looks_as_walk, fits_file}
use Rattle.bsii_widening.specs.Marks.{MarkedRecords, new_records, mark_records}
use Rattle.bsii_widening.specs.Insertions.{Insertion, a_field, insert, AllAllowed, defines_id, NoIdTwice}
use Rattle.bsii_widening.specs.Parts.{renumber}
use Rattle.bsii_widening.specs.Claim.{widened, new_save, new_file, Room, first_carried}
use Rattle.bsii_widening.specs.Observers.{Old}
use Rattle.bsii_widening.specs.Indexed.{StillIndexed, IndexLastUnlisted, IndexSurvives, OwnIndexSurvives}
use Rattle.bsii_widening.proofs.Environments.{none≢some}
use Rattle.bsii_widening.proofs.Once.{Apart, apart_prototype, not_both, nor_left}
use Rattle.bsii_widening.proofs.Unlisted.{no_values}
use Rattle.bsii_widening.proofs.Core.{widens, once_widened, all_stop}
use Rattle.bsii_widening.proofs.Lengths.{no_shorter}
use Rattle.bsii_widening.proofs.Survives.{field_survives}
use Rattle.bsii_widening.proofs.Demand3.{one_more, one_more_allowed}
use Rattle.bsii_widening.proofs.Exactly.{both_ways, same_number, not_seven}

-- ---- "defines no prototype id twice", as the call counts it

once_all : (l : List Record) (env : List Prototype) → NoIdTwice l → Apart env l → once env ≡ true → once (define_all l env) ≡ true
unfolding define_all define defines_id
once_all [] env o a e = e
once_all (block b ∷ l) env o a e = once_all l env o a e
once_all (prototype p ∷ l) env o a e = once_all l (p ∷ env) o.1 (apart_prototype env p l a o.0) (go (get_prototype p.id env) refl)
  where
    go : (q : Option Prototype) → get_prototype p.id env ≡ q → once (p ∷ env) ≡ true
    go none h = unfold once is_some in rw h e
    go (some q) h = absurd (not_both (eqb p.id p.id) (eqb_refl p.id) (nor_left (eqb p.id p.id) (defines_id p.id l) (a p.id q h)))

once_counted : (l : List Record) → NoIdTwice l → once (prototypes_of l) ≡ true
unfolding prototypes_of find_by once
once_counted l o = once_all l [] o (λ m q z. none≢some z) refl

-- ---- after a list

module _ (w : ℕ) {words : ℕ} {s : List ℕ} {f : BsiiFile} {at : ℕ} {r : List ℕ} (o : Old words s f at r) where
  still_indexed : (l : List Insertion) → AllAllowed f.header.value l (mark_records f.records) → (words' : ℕ) → Room length_limit words' f r (widened f l)
      → length (new_file f r (widened f l)) ≤ 256 ^ w → StillIndexed w words s f r words' (widened f l)
  unfolding write_index_call defines_once_call
  still_indexed l a words' m held =
      let M = widened f l in
      let new : List ℕ = new_file f r M in
      let read = (widens o l a m).reads in
      let old_held : length s ≤ 256 ^ w = omega (arith, held, no_shorter o l) in
      let written : (space : List ℕ) → write_index_call w words' new space ≡ write_answer length space (gives (index_bytes_of w (new_save f M))) =
      λ space. ap (write_answer length space) (of_read (λ f at. gives (index_bytes_of w f)) (parse words' new) read) in
      let new-once = once_counted (new_records M) (once_widened o l a) in
      record {
        writes = λ space k. ap (λ (z : WriteAnswer ℕ). z.reply) (written space ∙ write_fits length space (index_bytes_of w (new_save f M)) k);
        written = written;
        fits = (checks_exactly w words' new (index_bytes_of w (new_save f M))).1 (new_save f M, length (file_bytes (new_save f M)), r, read, refl);
        once = of_read (λ f at. gives (cond (once (prototypes_of f.records)) 1 0)) (parse words' new) read ∙ ap (λ b. gives (cond b 1 0)) new-once;
        found = λ i i' c c' k name b e.
            let old-walk = looks_as_walk (was_read words s o.reads) w old_held (once_counted f.records o.once) k name in
            let new-walk = looks_as_walk (was_read words' new read) w held new-once (renumber M k) name in
            let x = field_survives k name words s f at r o b (sym old-walk ∙ ap (λ z. index_field_call w s z k name) (sym (fits_file w words s i c o.reads)) ∙ e) l a tt words' m in
            let y = sym (of_read (λ f at. or_absent (field_of (renumber M k) name f)) (parse words' new) read) ∙ x.1 in
            (x.0, ap (λ z. index_field_call w new z (renumber M k) name) (fits_file w words' new i' c' read) ∙ new-walk ∙ y, x.2.0, x.2.1);
      }

-- the file as the length limit has room for it
in_limit : {limit words : ℕ} {f : BsiiFile} {r : List ℕ} {M : MarkedRecords} → limit ≤ length_limit → Room limit words f r M → Room length_limit words f r M
in_limit h m = record { file = omega (arith, h, m.file); table = m.table }

by_limit : {w limit : ℕ} → limit ≤ length_limit → limit ≤ 256 ^ w → {words : ℕ} {s : List ℕ} {f : BsiiFile} {at : ℕ} {r : List ℕ} → Old words s f at r → (l : List Insertion)
    → AllAllowed f.header.value l (mark_records f.records) → (words' : ℕ) → Room limit words' f r (widened f l) → StillIndexed w words s f r words' (widened f l)
by_limit {w} short held o l a words' m = still_indexed w o l a words' (in_limit short m) (omega (arith, held, m.file))

-- ---- after the last definition

checked_not_seven : (w : ℕ) (l : List IndexRecord) (i : List ℕ) (x : ℕ) → checked w l i ≡ refusal unlisted_type x → ⊥
unfolding checked
checked_not_seven w l i x e = go (same (index_bytes w l) i) e
  where
    go : (b : Bool) → ◌≡◌ {A = Reply (Unit {0})} (cond b (gives tt) (refusal misfit (agreeing w l i * (4 * w)))) (refusal unlisted_type x) → ⊥
    go true z = refuses≢gives (sym z)
    go false z = let y : number_of misfit ≡ number_of unlisted_type = same_number z in omega arith

module _ {w limit : ℕ} (short : limit ≤ length_limit) (held : limit ≤ 256 ^ w) {words : ℕ} {s : List ℕ} {f : BsiiFile} {at : ℕ} {r : List ℕ} (o : Old words s f at r) (l : List Insertion) (a : AllAllowed f.header.value l (mark_records f.records)) (words' : ℕ) where
  index_last : IndexLastUnlisted w limit words s f r words' (widened f l)
  unfolding write_index_call check_index_call write_answer
  index_last n p d v b u m = record {
    write_stops = write_stops_law;
    check_stops = check_stops_law;
    write_exactly = λ space. both_ways (write_index_call w words' (new_file f r M) space).reply first (λ x e. ap (λ (z : WriteAnswer ℕ). z.reply) (write_stops_law x e space))
        (λ x e z. not_seven length space (index_bytes_of w (new_save f M)) x (sym (ap (λ (y : WriteAnswer ℕ). y.reply) ((unused e).written space)) ∙ z));
    check_exactly = λ i. both_ways (check_index_call w words' (new_file f r M) i) first (λ x e. check_stops_law x e i) (λ x e z. checks_on e i x z);
    unused = unused;
  }
    where
      M : MarkedRecords
      M = insert (a_field n p d v) (widened f l)

      first : Option ℕ
      first = first_carried n p (length f.header.raw) (new_records M)

      write_stops_law : (x : ℕ) → first ≡ some x → (space : List ℕ) → write_index_call w words' (new_file f r M) space ≡ record { reply = refusal unlisted_type x; needed = 0; output = space }
      write_stops_law x e space = ap (write_answer length space) (all_stop (λ f at. gives (index_bytes_of w f)) words s f at r o l a words' n p d v b u (in_limit short m) x e)

      check_stops_law : (x : ℕ) → first ≡ some x → (i : List ℕ) → check_index_call w words' (new_file f r M) i ≡ refusal unlisted_type x
      check_stops_law x e i = all_stop (λ f at. checked w (index_of f) i) words s f at r o l a words' n p d v b u (in_limit short m) x e

      longer : widened f (l ++ (a_field n p d v ∷ [])) ≡ M
      longer = unfold widened in one_more l (a_field n p d v) (mark_records f.records)

      longer_allowed : first ≡ none → AllAllowed f.header.value (l ++ (a_field n p d v ∷ [])) (mark_records f.records)
      longer_allowed e =
          one_more_allowed f.header.value l (a_field n p d v) (mark_records f.records) a
          (record { definition = unfold widened in b; values = unfold widened insert in no_values f.header.value n p d v 0 (length f.header.raw) (widened f l) e })

      unused : first ≡ none → StillIndexed w words s f r words' M
      unused e = subst (StillIndexed w words s f r words') longer (by_limit short held o (l ++ (a_field n p d v ∷ [])) (longer_allowed e) words' (subst (Room limit words' f r) (sym longer) m))

      -- where no block carries it, the file is read, and check gives 14 or fits
      checks_on : first ≡ none → (i : List ℕ) (x : ℕ) → check_index_call w words' (new_file f r M) i ≡ refusal unlisted_type x → ⊥
      checks_on e i x z =
          let q = subst (λ N. parse words' (new_file f r N) ≡ ok (new_save f N) (length (file_bytes (new_save f N))) r) longer
          (widens o (l ++ (a_field n p d v ∷ [])) (longer_allowed e) (subst (Room length_limit words' f r) (sym longer) (in_limit short m))).reads in
          checked_not_seven w (index_of (new_save f M)) i x (sym (of_read (λ f at. checked w (index_of f) i) (parse words' (new_file f r M)) q) ∙ z)

pub index_survives : IndexSurvives
index_survives w limit short held words s f at r o l a words' = (by_limit short held o l a words', index_last short held o l a words')

pub own_index_survives : OwnIndexSurvives
own_index_survives = index_survives index_width length_limit (lit≤ tt) (lit≤ tt)
