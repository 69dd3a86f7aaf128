-- The bytes of a text in ASCII.
use Rattle.std.specs.Prelude.{ℕ, List, [] as nothing, ◌∷◌ as ◌then◌}
use Prim.Native.Char.{code}
use Prim.Native.String.{String, [], ◌∷◌}

abbrev pub ascii : String → List ℕ
ascii [] = nothing
ascii (c ∷ s) = code c then ascii s
