-- `octet_at` meets its contract.
use Prim.Native.Nat.{ℕ}
use mathlib.Core.Path.{ap, ◌∙◌}
use mathlib.Core.List.{List}
use native.Mathlib.Omega.{arith}
use Rattle.console_words.specs.Numbers.{number_of, octet_of}
use Rattle.console_words.proofs.WordLaws.{found_before, found-rest}
use Rattle.console_words.proofs.octet_at.Goals as goal

pub returns : goal.returns
returns c =
    let f = c.find-end.ensures in
    record {
      later = omega (arith, f.place);
      inside = f.in_bounds;
      spelt = c.read_octet-value.ensures ∙ ap (λ (l : List ℕ). octet_of (number_of l)) (found_before _ _ 46 _ f.place);
      rest = found-rest _ _ 46 _ f.place;
    }
