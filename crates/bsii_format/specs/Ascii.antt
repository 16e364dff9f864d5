-- Byte constants written as text, so that they can be read: `ascii "BSII"` is 66, 83, 73, 73.
use Rattle.std.specs.Prelude.{ℕ, List, [], ◌∷◌}
use Prim.Native.Char.{code}
use Prim.Native.String.{String, [] as nilS, ◌∷◌ as consS}

-- the characters of a text as bytes; every literal of these definitions is ASCII
abbrev pub ascii : String → List ℕ
ascii nilS = []
ascii (consS c s) = code c ∷ ascii s
