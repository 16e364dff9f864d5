-- `_nameless` takes nine bytes and the groups the rest of the length, so groups filled in up to the end start right behind it: the two stores are one.
use Prim.Native.Nat.{ℕ, ◌+◌, ◌-◌}
use mathlib.Core.Path.{◌≡◌, ap, ◌∙◌}
use native.Mathlib.Omega.{arith}
use lib.Seq.{sets}
use lib.ListN.{length}
use Rattle.bsii_format.specs.Text.{groups, id_text}
use Rattle.bsii_window.proofs.Stores.{stored_then, stored_same}
use Rattle.bsii_write_id.proofs.IdLaws.{nameless_behind}
use Rattle.bsii_write_id.proofs.ids.store_nameless.Goals as goal

pub fill_groups-requires : goal.fill_groups-requires
fill_groups-requires c =
    let k = c.nameless_length.ensures in
    (omega (arith, k.0, nameless_behind c.args.n), omega (arith, k.1, stored_same c.store_text.ensures))

pub returns : goal.returns
unfolding id_text
returns c =
    let a = c.args in
    let s = c.store_text in
    let k = c.nameless_length in
    let z : a.to + k.result - length (groups 3 a.n) ≡ s.result = omega (arith, s.ensures.next, k.ensures.0, nameless_behind a.n) in (
      stored_then s.ensures (record {
        next = omega (arith, s.ensures.next, k.ensures.0, nameless_behind a.n);
        output = c.fill_groups.ensures ∙ ap (λ (i : ℕ). sets s.new.out i (groups 3 a.n)) z;
      }),
      omega (arith, k.ensures.1),
    )
