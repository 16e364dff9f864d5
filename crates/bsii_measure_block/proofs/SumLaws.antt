-- Texts one behind the other, and their lengths.
use mathlib.Core.Path.{◌≡◌, refl, ap}
use Rattle.std.specs.Prelude.{Some, None, Option}
use Rattle.std.specs.Option.{option_or}
use Prim.Native.Nat.{ℕ, ◌+◌}
use native.Mathlib.Nat.{add-zero, add_assoc}
use mathlib.Core.List.{List, [], append_assoc, append-nil}
use lib.ListN.{length-append}
use Rattle.bsii_format.specs.Replies.{Reply, gives, refuses, refusal, enum_value}
use Rattle.bsii_format.specs.BlockText.{joined}
use Rattle.bsii_measure_block.specs.Sums.{measure_of, plus, sum_is}

pub joined_none : (a : Reply (List ℕ)) → joined a (gives []) ≡ a
unfolding joined
joined_none (gives a) = ap gives (append-nil a)
joined_none (refuses f) = refl

pub none_joined : (a : Reply (List ℕ)) → joined (gives []) a ≡ a
unfolding joined
none_joined (gives a) = refl
none_joined (refuses f) = refl

pub joined_assoc : (a b c : Reply (List ℕ)) → joined (joined a b) c ≡ joined a (joined b c)
unfolding joined
joined_assoc (gives a) (gives b) (gives c) = ap gives (append_assoc a b c)
joined_assoc (gives a) (gives b) (refuses f) = refl
joined_assoc (gives a) (refuses f) c = refl
joined_assoc (refuses f) b c = refl

pub measure_joined : (a b : Reply (List ℕ)) → measure_of (joined a b) ≡ plus (measure_of a) (measure_of b)
unfolding joined measure_of plus
measure_joined (gives a) (gives b) = ap gives (length-append a b)
measure_joined (gives a) (refuses f) = refl
measure_joined (refuses f) b = refl

pub plus_assoc : (a b c : Reply ℕ) → plus (plus a b) c ≡ plus a (plus b c)
unfolding plus
plus_assoc (gives a) (gives b) (gives c) = ap gives (add_assoc a b c)
plus_assoc (gives a) (gives b) (refuses f) = refl
plus_assoc (gives a) (refuses f) c = refl
plus_assoc (refuses f) b c = refl

pub plus_none : (a : Reply ℕ) → plus a (gives 0) ≡ a
unfolding plus
plus_none (gives a) = ap gives (add-zero a)
plus_none (refuses f) = refl

-- ---- the two numbers of a sum

pub sum_more : (to : ℕ) (missing : Option ℕ) (m : ℕ) → plus (sum_is to missing) (gives m) ≡ sum_is (to + m) missing
unfolding plus sum_is
sum_more to None m = refl
sum_more to (Some o) m = refl

pub sum_missing : (to : ℕ) (missing : Option ℕ) (at : ℕ) → plus (sum_is to missing) (refusal enum_value at) ≡ sum_is to (option_or missing (Some at))
unfolding plus sum_is
sum_missing to None at = refl
sum_missing to (Some o) at = refl
