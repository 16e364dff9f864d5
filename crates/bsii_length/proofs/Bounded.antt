-- No text of a file within the length limit has 2^62 bytes, half of what the writers' positions count exactly behind a window's start. A line has at most 2^36 bytes, since names and
-- strings stand in the file; a value has no more lines than bytes; so the text is at most 2^36 times the file's bytes and the 13 of the file's own lines.
use mathlib.Core.Path.{◌≡◌, refl, ap, ◌∙◌, subst}
use Prim.Native.Nat.{ℕ, ◌+◌, ◌*◌, ◌/◌, ◌≤◌, ◌<◌}
use native.Mathlib.Omega.{arith}
use mathlib.Core.Bool.{Bool, true, false, cond}
use mathlib.Core.Option.{Option, none, some}
use mathlib.Core.List.{List, []}
use lib.ListN.{length, get_or, length-append}
use lib.Seq.{get_or-append-add}
use Rattle.bsii_format.specs.Replies.{Reply, gives}
use Rattle.bsii_format.specs.Reader.{Result, ok, fault, ◌<$>◌}
use Rattle.bsii_format.specs.Prototypes.{Prototype}
use Rattle.bsii_format.specs.Blocks.{DataBlock, get_prototype}
use Rattle.bsii_format.specs.File.{Record, prototype, block, record_bytes, prototypes_of, records_parser, header_parser, BsiiFile, bsii_file, bsii_parser, length_limit, parse}
use Rattle.bsii_format.specs.Text.{value_text}
use Rattle.bsii_format.specs.BlockText.{joined, closing, file_opening, block_text, every_block, records_text, file_text}
use Rattle.bsii_format.specs.Calls.{of_file, text_of}
use Rattle.bsii_format.proofs.Parsers.{header_exact}
use Rattle.bsii_format.proofs.File.{parse_ok}
use Rattle.bsii_length.specs.Bounds.{line_bound, text_bound}
use Rattle.bsii_length.proofs.Taken.{Takes, bind_takes, map_takes, consumed_takes, Row, nil, cons, Every}
use Rattle.bsii_length.proofs.Lines.{answered, joined_size, ShortPrototype}
use Rattle.bsii_length.proofs.Records.{Of, FineRecord, records_from_takes, defined, found}

-- of a header nothing has to be known
header_takes : Takes ℕ header_parser (λ v n. Unit {0})
header_takes = record {
  taken = λ at s v at' r i e.
      let t = header_exact.took at s v at' r e in
      let long : length s ≡ length t.0 + length r = ap length t.1.front ∙ length-append t.0 r in
      record {
        size = length t.0;
        long = long;
        rest = record {
          bytes = λ j. subst (λ x. x < 256) (ap (λ l. get_or l (length t.0 + j) 0) t.1.front ∙ get_or-append-add t.0 r j 0) (i.bytes (length t.0 + j));
          short = omega (arith, i.short);
        };
        holds = tt;
      };
}

file_takes : (rooms : ℕ) → Takes BsiiFile (bsii_parser rooms) (λ f n. (m : ℕ) × Row Record FineRecord f.records m × (m ≤ n))
unfolding bsii_parser bsii_file records_parser
file_takes rooms =
    bind_takes (λ h. bsii_file h <$> records_parser h.value rooms) (consumed_takes header_takes)
    (λ h n l p. map_takes {R = records_parser h.value rooms} (bsii_file h) (record { taken = λ at s. (records_from_takes h.value rooms (length s) []).taken at s })
    (λ q k z g. (g.size, g.row, omega (arith, g.within))))

-- a block that is not printed has no text
chosen_size : (c : Bool) (q : Reply (List ℕ)) {n : ℕ} → answered q ≤ n → answered (cond c q (gives [])) ≤ n
chosen_size true q h = h
chosen_size false q h = omega arith

module _ (prints : DataBlock → List Record → Bool) where
  records_size : (last : List Prototype) → Every Prototype ShortPrototype last → (at : ℕ) {l : List Record} {n : ℕ} → Row Record FineRecord l n
      → answered (records_text value_text prints last at l) ≤ line_bound * n
  unfolding records_text
  records_size last h at nil = omega arith
  records_size last h at (cons {a = prototype p} g k) = omega (arith, records_size last h (at + length (record_bytes (prototype p))) k)
  records_size last h at (cons {a = block b} {n = m} {l = l} g k) =
      let here = block_text value_text at (get_prototype b.prototype_id last) b in
      omega (
        arith,
        joined_size (cond (prints b l) here (gives [])) (records_text value_text prints last (at + length (record_bytes (block b))) l),
        chosen_size (prints b l) here (one (get_prototype b.prototype_id last) (found b.prototype_id h)),
        records_size last h (at + length (record_bytes (block b))) k,
      )
    where
      one : (o : Option Prototype) → Of ShortPrototype o → answered (block_text value_text at o b) ≤ line_bound * m
      one none u = unfold block_text in omega arith
      one (some p) u = g.text at p u

  file_size : (f : BsiiFile) (n : ℕ) → Row Record FineRecord f.records n → answered (file_text value_text prints f) ≤ line_bound * n + 13
  unfolding file_text prototypes_of file_opening closing
  file_size f n g =
      let body = records_text value_text prints (prototypes_of f.records) (length f.header.raw) f.records in
      omega (
        arith,
        joined_size (joined (gives file_opening) body) (gives closing),
        joined_size (gives file_opening) body,
        records_size (prototypes_of f.records) (defined [] g nil) (length f.header.raw) g,
      )

-- The premise on bytes holds for a slice. The definitions take lists of any numbers, and a number that is read from such a list has no bound.
text_size_law : (words : ℕ) (s t : List ℕ) → ((i : ℕ) → get_or s i 0 < 256) → text_of words s ≡ gives t → length t ≤ line_bound * length s + 13
unfolding text_of
text_size_law words s t h e = go (parse words s) refl e
  where
    go : (q : Result BsiiFile) → parse words s ≡ q → of_file (λ f at. file_text value_text every_block f) q ≡ gives t → length t ≤ line_bound * length s + 13
    go (ok f at r) p e =
        let y = parse_ok words s p in
        let x = (file_takes (words / 3)).taken 0 s f at r (record { bytes = h; short = y.0 }) y.1 in
        unfold of_file in omega (arith, ap answered e, file_size every_block f x.holds.0 x.holds.1, x.holds.2, x.long)
    go (fault x) p e = unfold of_file in omega (arith, ap answered e)

pub text_bounded : (words : ℕ) (s t : List ℕ) → ((i : ℕ) → get_or s i 0 < 256) → length s ≤ length_limit → text_of words s ≡ gives t → length t < text_bound
text_bounded words s t h l e = omega (arith, text_size_law words s t h e)
