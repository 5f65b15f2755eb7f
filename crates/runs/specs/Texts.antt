-- A text between quotes as bytes. Assumes nothing.
use Rattle.std.specs.Prelude.{ℕ}
use Prim.Native.Char.{code}
use Prim.Native.String.{String, [], ◌∷◌}
use mathlib.Core.List as list
use Rattle.characters.specs.Utf8.{utf8}

-- the bytes of a text, each of whose characters is ASCII
unfoldable pub bytes : String → list.List ℕ
bytes [] = list.[]
bytes (c ∷ s) = list.◌∷◌ (code c) (bytes s)

-- those of any text, in UTF-8
unfoldable pub wide_bytes : String → list.List ℕ
wide_bytes [] = list.[]
wide_bytes (c ∷ s) = list.◌++◌ (utf8 (code c)) (wide_bytes s)
