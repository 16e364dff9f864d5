-- Each call gives the refusals that specs/Refusals.antt lists for it: no others, by the definitions' cases, and each of them for a worked file.
use Prim.Native.Nat.{ℕ, suc, ◌+◌, ◌<◌}
use native.Mathlib.Omega.{arith}
use mathlib.Core.Path.{◌≡◌, refl, ap}
use mathlib.Core.Bool.{Bool, true, false, cond, ◌&&◌}
use mathlib.Core.Option.{Option, none, some, map}
use mathlib.Core.List.{List, [], ◌∷◌, ◌++◌}
use lib.ListN.{length, take, replicate, get_elem?, length-replicate}
use lib.Dec.{T, leb, eqb, leb→le}
use Rattle.bsii_format.specs.declared.Cause.{Cause}
use Rattle.bsii_format.specs.Ascii.{ascii}
use Rattle.bsii_format.specs.Replies.{Fault, refused, short, Reply, gives, refuses, refusal, invalid_header, not_utf8, zero_digit, undefined_prototype, unlisted_type, field_count, enum_value, table_full, output_short, input_long, absent, bad_mark}
use Rattle.bsii_format.specs.Reader.{Result, ok, fault, fault_at, Consumed}
use Rattle.bsii_format.specs.Prototypes.{ValuePrototype, Prototype}
use Rattle.bsii_format.specs.Values.{Value, value_parser}
use Rattle.bsii_format.specs.Blocks.{DataValue, DataBlock, get_prototype}
use Rattle.bsii_format.specs.File.{Record, prototype, block, record_bytes, prototypes_of, BsiiFile, length_limit, parse}
use Rattle.bsii_format.specs.Text.{value_text}
use Rattle.bsii_format.specs.BlockText.{joined, or_refuse, values_offset, fields_text, block_text, every_block, records_text, file_text}
use Rattle.bsii_format.specs.Calls.{of_file, or_absent, blocks_of, reading_of, reading_call, prototype_of, prototype_call, block_answer, block_call, blocks_by_prototype_name, named_block_call, field_of, field_call, datum, elements_of, of_value, element_call, steps_in, write_answer, text_of, converted, text_answer, text_call}
use Rattle.bsii_format.specs.Refusals.{file_numbers, reading_numbers, lookup_numbers, element_numbers, value_numbers, text_numbers, among, counted, Each, none as nothing, ◌also◌, Within, Gives, GivesExactly}
use Rattle.bsii_format.specs.Worked.{le, u32, u64, worked_file}
use Rattle.bsii_format.specs.WorkedCalls.{worked_with, shortened_file, unlisted_enum_file}
use Rattle.bsii_format.proofs.Readers.{and_both, is_false}
use Rattle.bsii_format.proofs.ReplyLaws.{write_cases}
use Rattle.bsii_format.proofs.Worked.{computes}
use Rattle.bsii_format.proofs.Refusals.{all_among, told_all, Told, value_only, parse_told}

-- ---- no others

pub more_within : (l k : List Cause) → T (all_among l k) → {A : Type 0} (q : Reply A) → Within k q → Within l q
more_within l k h (gives a) t = tt
more_within l k h (refuses f) t = told_all l k h f t

module _ (l : List Cause) where
  pub or_within : {A : Type 0} (c : Cause) (at : ℕ) → T (among l c && counted (refused c 0)) → (o : Option A) → Within l (or_refuse c at o)
  unfolding or_refuse
  or_within c at h none = h
  or_within c at h (some a) = tt

  -- a call that takes a file: the file's refusals are among its own, and so is what it makes of an accepted file
  pub call_within : {A : Type 0} (answer : BsiiFile → ℕ → Reply A) → T (all_among l file_numbers) → ((f : BsiiFile) (at : ℕ) → Within l (answer f at)) → (words : ℕ) (s : List ℕ)
      → Within l (of_file answer (parse words s))
  call_within answer h k words s = go (parse words s) (parse_told words s)
    where
      go : (q : Result BsiiFile) → Told file_numbers q → Within l (of_file answer q)
      go (ok f at r) t = unfold of_file in k f at
      go (fault x) t = unfold of_file in told_all l file_numbers h x t

  -- a call that writes: 11 too
  pub written_within : T (among l output_short) → {A : Type 0} (answer : List ℕ → A) (out : List ℕ) (q : Reply (List ℕ)) → Within l q → Within l (write_answer answer out q).reply
  written_within h answer out (gives t) k = write_cases answer out t (λ a. Within l a.reply) tt (and_both (among l output_short) true h tt)
  written_within h answer out (refuses f) k = unfold write_answer in k

element_within : (version t : ℕ) (s : List ℕ) (i : ℕ) → Within element_numbers (element_call version t s i)
unfolding element_call
element_within version t s i = go (value_parser version t 0 s) ((value_only version t).only 0 s)
  where
    go : (q : Result Value) → Told value_numbers q → Within element_numbers (of_value i q)
    go (ok v at r) h = unfold of_value in or_within element_numbers _ _ tt (map datum (get_elem? (elements_of v) i))
    go (fault x) h = unfold of_value in told_all element_numbers value_numbers tt x h

-- of the text of a file that was read: 8 and 9, and 6, which no such file has
abbrev pub print_numbers : List Cause
print_numbers = undefined_prototype ∷ field_count ∷ enum_value ∷ []

cond_within : {A B : Type 0} (g : A → Reply B) (b : Bool) (x y : A) → Within print_numbers (g x) → Within print_numbers (g y) → Within print_numbers (g (cond b x y))
cond_within g true x y h k = h
cond_within g false x y h k = k

joined_within : (a b : Reply (List ℕ)) → Within print_numbers a → Within print_numbers b → Within print_numbers (joined a b)
unfolding joined
joined_within (gives a) (gives b) h k = tt
joined_within (gives a) (refuses f) h k = k
joined_within (refuses f) b h k = h

-- text between an opening and a closing
framed_within : (a c : List ℕ) (q : Reply (List ℕ)) → Within print_numbers q → Within print_numbers (joined (joined (gives a) q) (gives c))
framed_within a c q h = joined_within (joined (gives a) q) (gives c) (joined_within (gives a) q tt h) tt

module _ (text : ValuePrototype → Value → Option (List ℕ)) where
  fields_within : (at : ℕ) (fs : List (Consumed ValuePrototype)) (l : List DataValue) → Within print_numbers (fields_text text at fs l)
  unfolding fields_text
  fields_within at [] l = tt
  fields_within at (f ∷ fs) [] = tt
  fields_within at (f ∷ fs) (v ∷ l) = joined_within _ _ (or_within print_numbers _ at tt (text f.value v.value)) (fields_within (at + length v.raw) fs l)

  block_within : (at : ℕ) (o : Option Prototype) (b : DataBlock) → Within print_numbers (block_text text at o b)
  unfolding block_text
  block_within at none b = tt
  block_within at (some p) b =
      cond_within (λ q. q) (eqb (length p.fields) (length b.values)) _ _
      (framed_within _ _ _ (fields_within (values_offset at b) p.fields b.values)) tt

  module _ (prints : DataBlock → List Record → Bool) where
    records_within : (last : List Prototype) (at : ℕ) (l : List Record) → Within print_numbers (records_text text prints last at l)
    unfolding records_text
    records_within last at [] = tt
    records_within last at (prototype p ∷ l) = records_within last (at + length (record_bytes (prototype p))) l
    records_within last at (block b ∷ l) =
        joined_within _ _ (cond_within (λ q. q) (prints b l) _ (gives []) (block_within at (get_prototype b.prototype_id last) b) tt)
        (records_within last (at + length (record_bytes (block b))) l)

    pub file_within : (f : BsiiFile) → Within print_numbers (file_text text prints f)
    unfolding file_text
    file_within f = framed_within _ _ _ (records_within (prototypes_of f.records) (length f.header.raw) f.records)

text_within : (words : ℕ) (s out : List ℕ) → Within text_numbers (text_call words s out).reply
unfolding text_call text_of
text_within words s out =
    written_within text_numbers tt (converted (steps_in (parse words s))) out (of_file (λ f at. file_text value_text every_block f) (parse words s))
    (call_within text_numbers (λ f at. file_text value_text every_block f) tt
    (λ f at. more_within text_numbers print_numbers tt (file_text value_text every_block f) (file_within value_text every_block f)) words s)

-- ---- each of them

abbrev pub given : {Q A : Type 0} {call : Q → Reply A} (q : Q) (f : Fault) → call q ≡ refuses f → Gives call f.cause
given q f e = record { question = q; fault = f; refused = e; caused = refl }

-- a table's words and a file, whose first fault has the cause c
record Faulty (c : Cause) : Type 0 where
  words : ℕ
  file : List ℕ
  first : Fault
  faulty : parse words file ≡ fault first
  caused : first.cause ≡ c

abbrev faults : (words : ℕ) (file : List ℕ) (f : Fault) → parse words file ≡ fault f → Faulty f.cause
faults words file f e = record { words = words; file = file; first = f; faulty = e; caused = refl }

pub parse_long : (words : ℕ) (s : List ℕ) → length_limit < length s → parse words s ≡ fault_at input_long 0
unfolding parse
parse_long words s h = rw (is_false (leb (length s) length_limit) (λ t. omega (arith, leb→le (length s) length_limit t)))

-- shut, so that no list of sixteen million bytes is computed
pub long : (n : ℕ) → (s : List ℕ) × (n < length s)
long n = (replicate (suc n) 0, rw length-replicate (omega arith))

-- FORMAT.md, "A worked file": "Damaged or starved"
file_faults : Each Faulty file_numbers
unfolding computes
file_faults =
    faults 3 (long length_limit).0 (refused input_long 0) (parse_long 3 (long length_limit).0 (long length_limit).1)
    also faults 3 (worked_with 0 0x58) (refused invalid_header 0) refl
    also faults 3 (take 70 worked_file) (short 69 3) refl
    also faults 3 (worked_with 33 0xff) (refused not_utf8 33) refl
    also faults 3 (worked_with 53 38) (refused zero_digit 53) refl
    also faults 3 (worked_with 48 8) (refused undefined_prototype 48) refl
    also faults 3 (worked_with 25 0x08) (refused unlisted_type 61) refl
    also faults 2 worked_file (refused table_full 8) refl
    also faults 3 (worked_with 12 2) (refused bad_mark 12) refl
    also nothing

each_map : {P Q : Cause → Type 0} → ((c : Cause) → P c → Q c) → {l : List Cause} → Each P l → Each Q l
each_map g nothing = nothing
each_map g (h also k) = g _ h also each_map g k

each_append : {P : Cause → Type 0} {l k : List Cause} → Each P l → Each P k → Each P (l ++ k)
each_append nothing e = e
each_append (h also d) e = h also each_append d e

-- a call that hands the file's first fault on gives each of the file's refusals, and those of its own
pub handed : {Q A : Type 0} {call : Q → Reply A} (ask : ℕ → List ℕ → Q) → ((words : ℕ) (s : List ℕ) (f : Fault) → parse words s ≡ fault f → call (ask words s) ≡ refuses f)
    → {own : List Cause} → Each (Gives call) own → Each (Gives call) (file_numbers ++ own)
handed ask h own = each_append (each_map (λ c x. record { question = ask x.words x.file; fault = x.first; refused = h x.words x.file x.first x.faulty; caused = x.caused }) file_faults) own

-- ---- the calls; a question is the number of table words, the file, and what else is asked

pub reading_refusals : GivesExactly {Q = ℕ × List ℕ} reading_numbers (λ q. reading_call q.0 q.1)
unfolding reading_call of_file
reading_refusals = record {
  only = λ q. call_within reading_numbers (λ f at. gives (reading_of f at)) tt (λ f at. tt) q.0 q.1;
  each = handed (λ words s. (words, s)) (λ words s f e. ap (of_file _) e) nothing;
  nonzero = refl;
}

-- a look-up, of which x is not in the worked file
lookup_refusals : {X A : Type 0} (find : X → BsiiFile → Option A) (x : X) → of_file (λ f at. or_absent (find x f)) (parse 3 worked_file) ≡ refusal absent 0
    → GivesExactly {Q = ℕ × List ℕ × X} lookup_numbers (λ q. of_file (λ f at. or_absent (find q.2 f)) (parse q.0 q.1))
unfolding of_file
lookup_refusals find x e = record {
  only = λ q. call_within lookup_numbers _ tt (λ f at. or_within lookup_numbers _ _ tt (find q.2 f)) q.0 q.1;
  each = handed (λ words s. (words, s, x)) (λ words s f e. ap (of_file _) e) (given (3, worked_file, x) (refused absent 0) e also nothing);
  nonzero = refl;
}

pub prototype_refusals : GivesExactly {Q = ℕ × List ℕ × ℕ} lookup_numbers (λ q. prototype_call q.0 q.1 q.2)
unfolding computes
prototype_refusals = lookup_refusals prototype_of 8 refl

pub block_refusals : GivesExactly {Q = ℕ × List ℕ × ℕ} lookup_numbers (λ q. block_call q.0 q.1 q.2)
unfolding computes
block_refusals = lookup_refusals (λ k f. map block_answer (get_elem? (blocks_of f) k)) 1 refl

pub named_block_refusals : GivesExactly {Q = ℕ × List ℕ × (List ℕ × ℕ)} lookup_numbers (λ q. named_block_call q.0 q.1 q.2.0 q.2.1)
unfolding computes
named_block_refusals = lookup_refusals (λ x f. get_elem? (blocks_by_prototype_name x.0 f) x.1) (ascii "trip", 1) refl

pub field_refusals : GivesExactly {Q = ℕ × List ℕ × (ℕ × List ℕ)} lookup_numbers (λ q. field_call q.0 q.1 q.2.0 q.2.1)
unfolding computes
field_refusals = lookup_refusals (λ x f. field_of x.0 x.1 f) (0, ascii "x") refl

-- version, type, slice and index
pub element_refusals : GivesExactly {Q = ℕ × ℕ × List ℕ × ℕ} element_numbers (λ q. element_call q.0 q.1 q.2 q.3)
unfolding computes
element_refusals = record {
  only = λ q. element_within q.0 q.1 q.2 q.3;
  each =
      given (2, 0x27, [], 0) (short 0 4) refl
      also given (2, 0x01, u32 1 ++ le 1 0xff, 0) (refused not_utf8 4) refl
      also given (2, 0x03, u64 38, 0) (refused zero_digit 0) refl
      also given (2, 0x08, [], 0) (refused unlisted_type 0) refl
      also given (2, 0x27, u32 0, 1) (refused absent 0) refl
      also nothing;
  nonzero = refl;
}

-- and an output
pub text_refusals : GivesExactly {Q = ℕ × List ℕ × List ℕ} text_numbers (λ q. (text_call q.0 q.1 q.2).reply)
unfolding computes shortened_file unlisted_enum_file
text_refusals = record {
  only = λ q. text_within q.0 q.1 q.2;
  each =
      handed (λ words s. (words, s, [])) (λ words s f e. ap (λ q. (text_answer (steps_in q) [] (of_file (λ f at. file_text value_text every_block f) q)).reply) e)
      (
      given (3, shortened_file, []) (refused field_count 48) refl
      also given (3, unlisted_enum_file, []) (refused enum_value 65) refl
      also given (3, worked_file, []) (refused output_short 0) refl
      also nothing
      );
  nonzero = refl;
}
