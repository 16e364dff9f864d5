-- One record more against an index: it counts where all in front of it agree, and its own bytes stand behind theirs.
use mathlib.Core.Path.{◌≡◌, sym, ap, ◌∙◌, subst}
use Prim.Native.Nat.{ℕ, ◌+◌, ◌*◌, ◌≤◌, ◌<◌}
use native.Mathlib.Nat.{mul-le-mul}
use native.Mathlib.Omega.{arith}
use mathlib.Core.Bool.{Bool, true, false, cond}
use mathlib.Core.List.{List, [], ◌∷◌}
use lib.ListN.{length, take, drop}
use Rattle.bsii_format.specs.Reader.{same}
use Rattle.bsii_format.specs.File.{length_limit}
use Rattle.bsii_derived.specs.Index.{index_record_bytes, agreeing}
use Rattle.bsii_derived.proofs.Walk.{agreeing_few, agreeing_stays, agreeing_goes}
use Rattle.bsii_index_record.specs.Records.{record_is, Agrees}
use Rattle.bsii_index_record.specs.declared.IndexRecord.{IndexRecord}

module _ {i : List ℕ} {w agreed number : ℕ} {e : IndexRecord} where
  pub agree_differs : (agreed ≡ number → ⊥) → Agrees i w agreed number e agreed
  agree_differs h = record {
    next = λ l a n.
        a
        ∙ sym (agreeing_stays w l (record_is e ∷ []) i
        (let x = agreeing_few w l i in let y : agreeing w l i ≡ length l → ⊥ = λ z. h (a ∙ z ∙ sym n) in below x y));
  }
    where
      below : {a b : ℕ} → a ≤ b → (a ≡ b → ⊥) → a < b
      below x y = omega arith

  -- the bytes of record number `agreed`
  more : agreed ≡ number → (b : Bool) → same (index_record_bytes w (record_is e)) (take (4 * w) (drop (agreed * (4 * w)) i)) ≡ b → Agrees i w agreed number e (agreed + cond b 1 0)
  unfolding agreeing
  more h b t = record {
    next = λ l a n.
        let z : agreeing w l i ≡ length l = sym a ∙ h ∙ n in
        ap (λ m. m + cond b 1 0) (h ∙ n)
        ∙ ap (λ (x : Bool). length l + cond x 1 0) (sym t ∙ ap (λ m. same (index_record_bytes w (record_is e)) (take (4 * w) (drop (m * (4 * w)) i))) (h ∙ n))
        ∙ sym (agreeing_goes w l (record_is e ∷ []) i z);
  }

  pub agree_more : agreed ≡ number → true ≡ same (index_record_bytes w (record_is e)) (take (4 * w) (drop (agreed * (4 * w)) i)) → Agrees i w agreed number e (agreed + 1)
  agree_more h t = more h true (sym t)

  pub agree_less : agreed ≡ number → false ≡ same (index_record_bytes w (record_is e)) (take (4 * w) (drop (agreed * (4 * w)) i)) → Agrees i w agreed number e agreed
  agree_less h t = let z : agreed + 0 ≡ agreed = omega arith in subst (λ r. Agrees i w agreed number e r) z (more h false (sym t))

-- where a record starts
pub few_bytes : (n w : ℕ) → n ≤ length_limit → w ≤ 4 → n * (4 * w) ≤ 268_435_456
few_bytes n w h k = let z : n * (4 * w) ≤ length_limit * 16 = let y : 4 * w ≤ 16 = omega arith in mul-le-mul h y in omega (arith, z)
