-- A definition that was accepted, read with one test for its first eight bytes.
use mathlib.Core.Path.{◌≡◌, sym, ap, ◌∙◌}
use Prim.Native.Nat.{ℕ, ◌+◌, ◌≤◌, ◌<◌}
use native.Mathlib.Omega.{arith}
use mathlib.Core.List.{List}
use lib.ListN.{length, take, drop}
use Rattle.bsii_format.specs.Reader.{ok}
use Rattle.bsii_format.specs.Numbers.{little_endian, number}
use Rattle.bsii_format.proofs.Positions.{number_at_law}
use Rattle.bsii_string.specs.Answers.{end_of, unchecked_str}
use Rattle.bsii_string.proofs.Texts.{unchecked_cut, unchecked_whole}
use Rattle.bsii_prototype.specs.Entries.{enum_values_with, entry_with}
use Rattle.bsii_prototype.specs.Answers.{entry_of}
use Rattle.bsii_prototype.specs.Accepted.{entry_at, AcceptedIs}
use Rattle.bsii_prototype.specs.declared.answers.Entry.TheVariants.{Field}
use Rattle.bsii_prototype.specs.Strings.{unchecked}
use Rattle.bsii_prototype.proofs.Inside.{field_inside}
use Rattle.bsii_prototype.proofs.Entries.{field≢last, field≢bad, field_is_law, entry_last, list_none, name_bad, list_bad, field_whole, definition_entry}
use Rattle.bsii_string.specs.declared.answers.Refusal.{Refusal}
use Rattle.std.specs.Prelude.{Ok, Err, Some, None}

module _ (s : List ℕ) (at : ℕ) where
  -- a definition has eight bytes
  pub accepted_short : length s < at + 8 → AcceptedIs s at None
  accepted_short h u a b i e = omega (arith, field_inside s at e, (field_is_law (at + 8) (entry_with unchecked_str at (drop at s)) e).start)

  module _ (room : at + 8 ≤ length s) {t : ℕ} (p : t ≡ little_endian (take 4 (drop at s))) where
    typed : number 4 at (drop at s) ≡ ok t (at + 4) (drop (at + 4) s)
    typed = number_at_law 4 s at (omega arith) ∙ ap (λ (k : ℕ). ok k (at + 4) (drop (at + 4) s)) (sym p)

    pub accepted_last : t ≡ 0 → AcceptedIs s at None
    unfolding entry_of
    accepted_last h u a b i e = field≢last (e ∙ ap (entry_of (at + 8)) (entry_last unchecked_str at (drop at s) typed h))

    module _ (h : t ≡ 0 → ⊥) {n : ℕ} (q : n ≡ little_endian (take 4 (drop (at + 4) s))) where
      sized : number 4 (at + 4) (drop (at + 4) s) ≡ ok n (at + 8) (drop (at + 8) s)
      sized =
          let k : at + 4 + 4 ≡ at + 8 = omega arith in
          number_at_law 4 s (at + 4) (omega arith) ∙ ap (λ (m : ℕ). ok m (at + 4 + 4) (drop (at + 4 + 4) s)) (sym q) ∙ ap (λ (i : ℕ). ok n i (drop i s)) k

      pub accepted_cut : length s < at + 8 + n → AcceptedIs s at None
      unfolding end_of
      accepted_cut k u a b i e =
          field≢bad (e ∙ sym (name_bad unchecked s (at + 4) t (sym (ap end_of (unchecked_cut s (at + 4) n (at + 8) sized (omega arith)))) ∙ definition_entry unchecked_str s at typed h))

      module _ (k : at + 8 + n ≤ length s) where
        named : Ok (at + 8 + n) ≡ end_of (unchecked_str (at + 4) (drop (at + 4) s))
        unfolding end_of
        named = sym (ap end_of (unchecked_whole s (at + 4) n (at + 8) sized (omega arith)))

        whole : {i : ℕ} → Ok i ≡ end_of (enum_values_with unchecked_str t (at + 8 + n) (drop (at + 8 + n) s)) → Ok (Field t (at + 8) (at + 8 + n) i) ≡ entry_at s at
        whole {i} e =
            let j : at + 8 ≡ at + 4 + 4 = omega arith in
            ap (λ (a : ℕ). Ok (Field t a (at + 8 + n) i)) j ∙ field_whole unchecked s (at + 4) t named e ∙ definition_entry unchecked_str s at typed h

        pub accepted_plain : (t ≡ 0x37 → ⊥) → AcceptedIs s at (Some (record { type_id = t; name_end = at + 8 + n; next = at + 8 + n }))
        unfolding end_of
        accepted_plain g = (h, whole (sym (ap end_of (list_none unchecked_str (at + 8 + n) (drop (at + 8 + n) s) t g))))

        module _ (g : t ≡ 0x37) where
          -- the list, by the type that has one
          list : end_of (enum_values_with unchecked_str 0x37 (at + 8 + n) (drop (at + 8 + n) s)) ≡ end_of (enum_values_with unchecked_str t (at + 8 + n) (drop (at + 8 + n) s))
          list = ap (λ (k : ℕ). end_of (enum_values_with unchecked_str k (at + 8 + n) (drop (at + 8 + n) s))) (sym g)

          pub accepted_unlisted : {f : Refusal} → Err f ≡ end_of (enum_values_with unchecked_str 0x37 (at + 8 + n) (drop (at + 8 + n) s)) → AcceptedIs s at None
          accepted_unlisted e u a b j w = field≢bad (w ∙ sym (list_bad unchecked s (at + 4) t named (e ∙ list) ∙ definition_entry unchecked_str s at typed h))

          pub accepted_listed : {i : ℕ} → Ok i ≡ end_of (enum_values_with unchecked_str 0x37 (at + 8 + n) (drop (at + 8 + n) s))
              → AcceptedIs s at (Some (record { type_id = t; name_end = at + 8 + n; next = i }))
          accepted_listed e = (h, whole (e ∙ list))
