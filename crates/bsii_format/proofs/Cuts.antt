-- The statements of specs/Cuts.antt, from what appended bytes change of a file's reading (proofs/ExtendedFiles.antt). A cut is a file to which the bytes that
-- were cut off are appended: what it reads whole, or refuses by another cause than 3, the whole save would too.
use mathlib.Core.Path.{◌≡◌, refl, sym, ap, ◌∙◌, subst}
use Prim.Native.Nat.{ℕ, suc, ◌+◌, ◌*◌, ◌/◌, ◌≤◌, ◌<◌}
use native.Mathlib.Nat.{le-div_iff_mul-le, zero-add}
use native.Mathlib.Decide.{dec_lt}
use native.Mathlib.Omega.{arith}
use mathlib.Core.List.{List, [], ◌++◌, append-nil}
use lib.ListN.{length, take, drop, length-append, length-take, take-append-drop, length-drop}
use lib.Seq.{length-take-le, take-append-le}
use Rattle.bsii_format.specs.declared.Cause.{Cause}
use Rattle.bsii_format.specs.Ascii.{ascii}
use Rattle.bsii_format.specs.Replies.{number_of, malformed, invalid_header, Fault, short, gives, refuses}
use Rattle.bsii_format.specs.Reader.{Result, ok, fault, fault_at, ◌>>=◌, after, consumed, same, tag}
use Rattle.bsii_format.specs.File.{header_parser, distinct_ids, prototypes_of, BsiiFile, bsii_parser, length_limit, parse, file_bytes}
use Rattle.bsii_format.specs.Calls.{of_file, Reading, reading_of, reading_call}
use Rattle.bsii_format.specs.Cuts.{LackingIsExact, OthersAreFinal, CutsAreShort}
use Rattle.bsii_format.proofs.Causes.{cause_discrete}
use Rattle.bsii_format.proofs.Readers.{fault≢ok, ok_at, fault_is_law, is_false, same→eq}
use Rattle.bsii_format.proofs.ReplyLaws.{refuses≢gives, gives_inj, refuses_inj}
use Rattle.bsii_format.proofs.File.{file_fits, file_good, parse_short, parse_ok}
use Rattle.bsii_format.proofs.CallRefusals.{parse_long}
use Rattle.bsii_format.proofs.Extends.{From, Cut, Extended}
use Rattle.bsii_format.proofs.ExtendedFiles.{file_extended}

-- ---- what a reading call says of the file

module _ (words : ℕ) (s : List ℕ) where
  read : {a : Reading} → reading_call words s ≡ gives a → (f : BsiiFile) × (at : ℕ) × (r : List ℕ) × (parse words s ≡ ok f at r) × (reading_of f at ≡ a)
  unfolding reading_call
  read {a} e = go (parse words s) refl e
    where
      go : (q : Result BsiiFile) → parse words s ≡ q → of_file (λ f at. gives (reading_of f at)) q ≡ gives a
          → (f : BsiiFile) × (at : ℕ) × (r : List ℕ) × (parse words s ≡ ok f at r) × (reading_of f at ≡ a)
      go (ok f at r) h e = unfold of_file in (f, at, r, h, gives_inj e)
      go (fault x) h e = unfold of_file in refuses≢gives e

  faulty : {x : Fault} → reading_call words s ≡ refuses x → parse words s ≡ fault x
  unfolding reading_call
  faulty {x} e = go (parse words s) refl e
    where
      go : (q : Result BsiiFile) → parse words s ≡ q → of_file (λ f at. gives (reading_of f at)) q ≡ refuses x → parse words s ≡ fault x
      go (ok f at r) h e = unfold of_file in refuses≢gives (sym e)
      go (fault y) h e = unfold of_file in h ∙ ap fault (refuses_inj e)

  module _ (h : length s ≤ length_limit) {x : Fault} where
    file_faulty : reading_call words s ≡ refuses x → bsii_parser (words / 3) 0 s ≡ fault x
    file_faulty e = sym (parse_short words s h) ∙ faulty e

    refused_file : bsii_parser (words / 3) 0 s ≡ fault x → reading_call words s ≡ refuses x
    unfolding reading_call of_file
    refused_file e = rw (parse_short words s h, e)

  -- a file that is refused by 3 is no longer than the limit, since 12 would come first
  within : {at m : ℕ} → reading_call words s ≡ refuses (short at m) → length s ≤ length_limit
  within e = go (dec_lt length_limit (length s))
    where
      go : Dec (length_limit < length s) → length s ≤ length_limit
      go (yes h) = absurd (omega (arith, ap (λ (x : Fault). number_of x.cause) (fault_is_law (sym (parse_long words s h) ∙ faulty e))))
      go (no h) = omega arith

-- a file without the whole of `BSII` is refused by 1
header_short : (rooms : ℕ) (s : List ℕ) → length s < 4 → bsii_parser rooms 0 s ≡ fault_at invalid_header 0
unfolding bsii_parser header_parser ◌>>=◌ consumed tag after
header_short rooms s h =
    rw (is_false (same (take 4 s) (ascii "BSII")) (λ k. omega (arith, length-take 4 s, ap length (same→eq (take 4 s) (ascii "BSII") k))))

-- ---- the lacking bytes

lacks_header : (rooms : ℕ) (s : List ℕ) {at m : ℕ} → bsii_parser rooms 0 s ≡ fault (short at m) → 4 ≤ length s
lacks_header rooms s e = go (dec_lt (length s) 4)
  where
    go : Dec (length s < 4) → 4 ≤ length s
    go (yes h) = absurd (omega (arith, ap (λ (x : Fault). number_of x.cause) (fault_is_law (sym (header_short rooms s h) ∙ e))))
    go (no h) = omega arith

cut_file : (rooms : ℕ) (s t : List ℕ) {x : Fault} → 4 ≤ length s → bsii_parser rooms 0 s ≡ fault x → Cut BsiiFile t x (bsii_parser rooms 0 (s ++ t))
cut_file rooms s t h e = subst (λ q. Extended t q (bsii_parser rooms 0 (s ++ t))) e (file_extended rooms s t h)

pub lacking_is_exact : LackingIsExact
lacking_is_exact words s at m e =
    let b = file_faulty words s (within words s e) e in
    let cut : (t : List ℕ) → Cut BsiiFile t (short at m) (bsii_parser (words / 3) 0 (s ++ t)) =
    λ t. cut_file (words / 3) s t (lacks_header (words / 3) s b) b in
    record {
      fewer = λ t l h. refused_file words (s ++ t) h ((cut t).fewer refl l);
      enough = λ t l p k i. subst (From (suc at)) (file_faulty words (s ++ t) (within words (s ++ t) i) i) ((cut t).enough refl l) refl;
    }

pub others_are_final : OthersAreFinal
others_are_final words s x e other four t h =
    let l : length s ≤ length_limit = omega (arith, length-append s t) in
    refused_file words (s ++ t) h ((cut_file (words / 3) s t four (file_faulty words s l e)).final other)

-- ---- cuts

as_short : (x : Fault) → x.cause ≡ malformed → x ≡ short x.offset x.lacking
as_short x e = ap (λ (c : Cause). record { cause = c; offset = x.offset; lacking = x.lacking }) e

-- a cut inside what is read of a file, its end record included, runs out, in an item that stands in the file
cut_short : (rooms : ℕ) (s : List ℕ) {f : BsiiFile} {at : ℕ} {r : List ℕ} → bsii_parser rooms 0 s ≡ ok f at r → (k : ℕ) → 4 ≤ k → k < at → k ≤ length s
    → (i : ℕ) × (m : ℕ) × (bsii_parser rooms 0 (take k s) ≡ fault (short i m)) × (k + m ≤ length s)
cut_short rooms s {f} {at} {r} e k low high inside =
    go (bsii_parser rooms 0 (take k s)) refl (file_extended rooms (take k s) (drop k s) (rw (length-take-le k s inside) low))
  where
    whole : bsii_parser rooms 0 (take k s ++ drop k s) ≡ ok f at r
    whole = ap (bsii_parser rooms 0) (take-append-drop k s) ∙ e

    caused : (x : Fault) → Cut BsiiFile (drop k s) x (bsii_parser rooms 0 (take k s ++ drop k s)) → Dec (x.cause ≡ malformed) → x.cause ≡ malformed
    caused x z (yes n) = n
    caused x z (no n) = fault≢ok (sym (z.final n) ∙ whole)

    held : (x : Fault) → Cut BsiiFile (drop k s) x (bsii_parser rooms 0 (take k s ++ drop k s)) → x.cause ≡ malformed
        → Dec (length (drop k s) < x.lacking) → k + x.lacking ≤ length s
    held x z n (yes l) = fault≢ok (sym (z.fewer n l) ∙ whole)
    held x z n (no l) = omega (arith, length-drop k s)

    go : (q : Result BsiiFile) → bsii_parser rooms 0 (take k s) ≡ q → Extended (drop k s) q (bsii_parser rooms 0 (take k s ++ drop k s))
        → (i : ℕ) × (m : ℕ) × (bsii_parser rooms 0 (take k s) ≡ fault (short i m)) × (k + m ≤ length s)
    go (ok g n l) h z =
        let x = file_good rooms (take k s) g n l h in
        absurd (omega (arith, x.place, ok_at (sym z ∙ whole), ap length x.front, length-append (file_bytes g) l, length-take-le k s inside))
    go (fault x) h z =
        let n = caused x z (cause_discrete x.cause malformed) in
        (x.offset, x.lacking, h ∙ ap fault (as_short x n), held x z n (dec_lt (length (drop k s)) x.lacking))

-- what is read of a file, without the bytes behind it, is read with every table that has room
roomy : (rooms other : ℕ) (s : List ℕ) {f : BsiiFile} {at : ℕ} {r : List ℕ} → bsii_parser rooms 0 s ≡ ok f at r
    → distinct_ids (prototypes_of f.records) ≤ other
    → bsii_parser other 0 (file_bytes f) ≡ ok f at []
unfolding prototypes_of
roomy rooms other s {f} {at} {r} e h =
    let g = file_good rooms s f at r e in
    let fits = file_fits other f (record { header = g.good.header; records = g.good.records; roomed = h; last = g.good.last }) in
    ap (bsii_parser other 0) (sym (append-nil (file_bytes f))) ∙ fits.reads 0 [] ∙ ap (λ n. ok f n []) (zero-add (length (file_bytes f)) ∙ sym g.place)

pub cuts_are_short : CutsAreShort
unfolding reading_of
cuts_are_short words s a e room h k low high =
    let q = read words s e in
    let p = parse_ok words s q.3 in
    let g = file_good (words / 3) s q.0 q.1 q.2 p.1 in
    let ids : distinct_ids (prototypes_of q.0.records) ≡ a.prototypes = ap (λ (a : Reading). a.prototypes) q.4 in
    let next : q.1 ≡ a.next = ap (λ (a : Reading). a.next) q.4 in
    let b = file_bytes q.0 in
    let inside : k ≤ length b = omega (arith, g.place) in
    let whole = roomy (words / 3) (room / 3) s p.1 ((le-div_iff_mul-le (omega arith)).1 (omega arith)) in
    let c = cut_short (room / 3) b whole k low (omega arith) inside in
    let cut : take k s ≡ take k b = ap (take k) g.front ∙ take-append-le k b q.2 inside in
    let limit : length (take k b) ≤ length_limit = omega (arith, length-take-le k b inside, p.0, ap length g.front, length-append b q.2) in
    let told = refused_file room (take k b) limit {x = short c.0 c.1} c.2 in
    (c.0, c.1, subst (λ z. reading_call room z ≡ refuses (short c.0 c.1)) (sym cut) told, omega (arith, c.3, g.place))

-- ---- what follows from the statements

-- two counts at one place differ by the bytes between them
pub counts_down : (words : ℕ) (s t : List ℕ) (at m k : ℕ) → reading_call words s ≡ refuses (short at m) → reading_call words (s ++ t) ≡ refuses (short at k)
    → m ≡ length t + k
counts_down words s t at m k e i = go (dec_lt (length t) m)
  where
    go : Dec (length t < m) → m ≡ length t + k
    go (yes h) =
        let z = (lacking_is_exact words s at m e).fewer t h (within words (s ++ t) i) in
        omega (arith, ap (λ (x : Fault). x.lacking) (refuses_inj (sym z ∙ i)))
    go (no h) = absurd (omega (arith, (lacking_is_exact words s at m e).enough t (omega arith) at k i))

-- a file that some bytes complete to an accepted one is accepted itself or refused by 3, and no more bytes lack than those
pub completed : (words : ℕ) (s t : List ℕ) (f : Fault) (a : Reading) → reading_call words s ≡ refuses f → 4 ≤ length s → reading_call words (s ++ t) ≡ gives a
    → (f.cause ≡ malformed) × (f.lacking ≤ length t)
completed words s t f a e four i = go (cause_discrete f.cause malformed)
  where
    limit : length (s ++ t) ≤ length_limit
    limit = (parse_ok words (s ++ t) (read words (s ++ t) i).3).0

    go : Dec (f.cause ≡ malformed) → (f.cause ≡ malformed) × (f.lacking ≤ length t)
    go (yes n) = (n, up (dec_lt (length t) f.lacking))
      where
        up : Dec (length t < f.lacking) → f.lacking ≤ length t
        up (yes h) = refuses≢gives (sym ((lacking_is_exact words s f.offset f.lacking (e ∙ ap refuses (as_short f n))).fewer t h limit) ∙ i)
        up (no h) = omega arith
    go (no n) = refuses≢gives (sym (others_are_final words s f e n four t limit) ∙ i)

-- a cut of an accepted save is refused by no other cause
pub cut_number : (words : ℕ) (s : List ℕ) (a : Reading) (room k : ℕ) (f : Fault) → reading_call words s ≡ gives a → 3 * a.prototypes ≤ room → 4 ≤ k → k < a.next
    → reading_call room (take k s) ≡ refuses f → f.cause ≡ malformed
cut_number words s a room k f e h low high i =
    let c = cuts_are_short words s a e room h k low high in
    ap (λ (x : Fault). x.cause) (refuses_inj (sym i ∙ c.2))
