-- Each index call gives the refusals that specs/IndexRefusals.antt lists for it: no others, by the definitions' cases, and each of them for a worked question.
use Prim.Native.Nat.{ℕ, ◌*◌, ◌<◌}
use native.Mathlib.Omega.{arith}
use mathlib.Core.Path.{◌≡◌, refl, ap}
use mathlib.Core.Bool.{Bool, true, false, cond}
use mathlib.Core.Option.{Option, none, some, map}
use mathlib.Core.List.{List, [], ◌∷◌}
use lib.ListN.{length, drop, set}
use lib.Dec.{leb, eqb, leb→le}
use Rattle.bsii_format.specs.Ascii.{ascii}
use Rattle.bsii_format.specs.Replies.{refused, short, Reply, gives, refusal, not_utf8, zero_digit, undefined_prototype, unlisted_type, output_short, input_long, absent, misfit}
use Rattle.bsii_format.specs.Reader.{Result, ok, fault, fault_at, Reader, same}
use Rattle.bsii_format.specs.Numbers.{le_u32}
use Rattle.bsii_format.specs.Prototypes.{Prototype}
use Rattle.bsii_format.specs.Blocks.{DataBlock}
use Rattle.bsii_format.specs.File.{prototypes_of, length_limit, parse}
use Rattle.bsii_format.specs.Calls.{of_file, write_answer, field_answer, field_under}
use Rattle.bsii_format.specs.Refusals.{value_numbers, none as nothing, ◌also◌, Within, GivesExactly}
use Rattle.bsii_format.proofs.Readers.{is_false}
use Rattle.bsii_format.proofs.Refusals.{Told, cond_told, Only, more_only, success_only, after_only, bind_only, map_only, verify_only, consumed_only, number_only, str_only, id_only, fields_only, values_only}
use Rattle.bsii_format.proofs.CallRefusals.{more_within, or_within, call_within, written_within, given, handed, long}
use Rattle.bsii_derived.specs.Index.{IndexRecord, index_of, index_bytes, index_bytes_of, record_at, agreeing}
use Rattle.bsii_derived.specs.IndexCalls.{write_index_call, checked, check_index_call, demand, prototype_head, prototype_with, prototype_at, is_of, block_at, answering, field_by, index_field_call, once, defines_once_call}
use Rattle.bsii_derived.specs.IndexRefusals.{write_numbers, check_numbers, index_field_numbers, once_numbers}
use Rattle.bsii_derived.specs.WorkedIndex.{save_a, bad_string, index_a, offsets}
use Rattle.bsii_derived.proofs.Computes.{computes_index}

-- ---- write, check, once; a question is the number of bytes of a number and of table words, the file, and what else is lent

write_within : (w words : ℕ) (s space : List ℕ) → Within write_numbers (write_index_call w words s space).reply
unfolding write_index_call
write_within w words s space =
    written_within write_numbers tt length space (of_file (λ f at. gives (index_bytes_of w f)) (parse words s))
    (call_within write_numbers (λ f at. gives (index_bytes_of w f)) tt (λ f at. tt) words s)

pub write_refusals : GivesExactly {Q = ℕ × ℕ × List ℕ × List ℕ} write_numbers (λ q. (write_index_call q.0 q.1 q.2 q.3).reply)
unfolding computes_index save_a
write_refusals = record {
  only = λ q. write_within q.0 q.1 q.2 q.3;
  each = handed (λ words s. (3, words, s, [])) (λ words s f e. ap (λ q. (write_answer {A = ℕ} length [] (of_file (λ f at. gives (index_bytes_of 3 f)) q)).reply) e)
      (given (3, 3, save_a, []) (refused output_short 0) refl also nothing);
  nonzero = refl;
}

pub checked_within : (w : ℕ) (l : List IndexRecord) (i : List ℕ) → Within (misfit ∷ []) (checked w l i)
unfolding checked
checked_within w l i = go (same (index_bytes w l) i)
  where
    go : (b : Bool) → Within (misfit ∷ []) (cond b (gives tt) (refusal {A = Unit {0}} misfit (agreeing w l i * (4 * w))))
    go true = tt
    go false = tt

pub check_refusals : GivesExactly {Q = ℕ × ℕ × List ℕ × List ℕ} check_numbers (λ q. check_index_call q.0 q.1 q.2 q.3)
unfolding computes_index save_a
check_refusals = record {
  only = λ q.
      call_within check_numbers (λ f at. checked q.0 (index_of f) q.3) tt
      (λ f at. more_within check_numbers (misfit ∷ []) tt (checked q.0 (index_of f) q.3) (checked_within q.0 (index_of f) q.3)) q.1 q.2;
  each = handed (λ words s. (3, words, s, [])) (λ words s f e. ap (of_file (λ f at. checked 3 (index_of f) [])) e)
      (given (3, 3, save_a, []) (refused misfit 0) refl also nothing);
  nonzero = refl;
}

pub once_refusals : GivesExactly {Q = ℕ × List ℕ} once_numbers (λ q. defines_once_call q.0 q.1)
unfolding defines_once_call of_file
once_refusals = record {
  only = λ q. call_within once_numbers (λ f at. gives (cond (once (prototypes_of f.records)) 1 0)) tt (λ f at. tt) q.0 q.1;
  each = handed (λ words s. (words, s)) (λ words s f e. ap (of_file _) e) nothing;
  nonzero = refl;
}

-- ---- look up

-- what a value is refused with, the look-up is
in_look : {A : Type 0} {R : Reader A} → Only value_numbers A R → Only index_field_numbers A R
in_look h = more_only index_field_numbers value_numbers tt h

demand_only : (n b : ℕ) {R : Reader ℕ} → Only index_field_numbers ℕ R → Only index_field_numbers ℕ (demand n b R)
unfolding demand
demand_only n b {R} h = record {
  only = λ at s. after_only {l = index_field_numbers} (R at s) _ (h.only at s) (λ a. record { only = λ i t. cond_told index_field_numbers (eqb a n) (ok a i t) (fault_at undefined_prototype b) tt tt });
}

prototype_only : (b : ℕ) → Only index_field_numbers Prototype (prototype_at b)
unfolding prototype_at prototype_head
prototype_only b =
    bind_only _ (consumed_only (bind_only _ (demand_only 0 b (number_only 4 tt)) (λ z. bind_only _ (demand_only 1 b (number_only 1 tt)) (λ m. bind_only _ (number_only 4 tt) (λ n. bind_only _ (in_look str_only) (λ l. success_only _))))))
    (λ h. map_only (prototype_with h) (in_look fields_only))

block_only : (version : ℕ) (p : Prototype) → Only index_field_numbers DataBlock (block_at version p)
unfolding block_at
block_only version p =
    bind_only _ (consumed_only (verify_only (is_of p) undefined_prototype tt (number_only 4 tt)))
    (λ h. bind_only _ (consumed_only (in_look id_only)) (λ i. bind_only _ (in_look (values_only version p.fields)) (λ l. success_only _)))

answering_within : {A B : Type 0} (q : Result A) (answer : A → Reply B) → Told index_field_numbers q → ((a : A) → Within index_field_numbers (answer a)) → Within index_field_numbers (answering q answer)
unfolding answering
answering_within (ok a at s) answer h k = k a
answering_within (fault f) answer h k = h

look_within : (s name : List ℕ) (o : Option IndexRecord) → Within index_field_numbers (field_by s name o)
unfolding field_by
look_within s name none = tt
look_within s name (some r) =
    answering_within (le_u32 4 (drop 4 s)) _ ((number_only {l = index_field_numbers} 4 tt).only 4 (drop 4 s)) (λ version.
    answering_within (prototype_at r.offset r.prototype (drop r.prototype s)) _ ((prototype_only r.offset).only r.prototype (drop r.prototype s)) (λ p.
    answering_within (block_at version p r.offset (drop r.offset s)) _ ((block_only version p).only r.offset (drop r.offset s)) (λ b.
    or_within index_field_numbers absent 0 tt (map field_answer (field_under name (record { offset = r.offset; it = b }) (some p))))))

field_within : (w : ℕ) (s i : List ℕ) (k : ℕ) (name : List ℕ) → Within index_field_numbers (index_field_call w s i k name)
unfolding index_field_call
field_within w s i k name = go (leb (length s) length_limit)
  where
    go : (b : Bool) → Within index_field_numbers (cond b (field_by s name (record_at w i k)) (refusal input_long 0))
    go true = look_within s name (record_at w i k)
    go false = tt

too_long : (s : List ℕ) → length_limit < length s → index_field_call 3 s [] 0 [] ≡ refusal input_long 0
unfolding index_field_call
too_long s h = rw (is_false (leb (length s) length_limit) (λ t. omega (arith, leb→le (length s) length_limit t)))

pub index_field_refusals : GivesExactly {Q = ℕ × List ℕ × List ℕ × (ℕ × List ℕ)} index_field_numbers (λ q. index_field_call q.0 q.1 q.2 q.3.0 q.3.1)
unfolding computes_index save_a bad_string index_a
index_field_refusals = record {
  only = λ q. field_within q.0 q.1 q.2 q.3.0 q.3.1;
  each =
      given (3, (long length_limit).0, [], (0, [])) (refused input_long 0) (too_long (long length_limit).0 (long length_limit).1)
      also given (3, save_a, index_a, (2, ascii "n")) (refused absent 0) refl
      also given (3, save_a, offsets 60 8, (0, ascii "n")) (short 60 2) refl
      also given (3, bad_string, offsets 44 8, (0, ascii "n")) (refused not_utf8 55) refl
      also given (3, set save_a 47 38, index_a, (1, ascii "n")) (refused zero_digit 47) refl
      also given (3, save_a, offsets 42 42, (0, ascii "n")) (refused undefined_prototype 42) refl
      also given (3, set save_a 22 8, index_a, (0, ascii "n")) (refused unlisted_type 40) refl
      also nothing;
  nonzero = refl;
}
