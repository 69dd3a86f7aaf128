-- `skip_spaces` meets its contract.
use Prim.Native.Nat.{ℕ, ◌+◌, ◌-◌}
use native.Mathlib.Omega.{arith}
use mathlib.Core.List.{List}
use mathlib.Core.Path.{◌≡◌, sym, ap, ◌∙◌}
use lib.ListN.{length, drop, length-drop}
use lib.Seq.{drop-drop, take_all}
use Rattle.std.specs.Prelude.{◌==◌}
use Rattle.std.specs.List.{prefix_len, take_while}
use Rattle.std.proofs.lemmas.List.Folds.{length-prefix_len}
use Rattle.console_words.proofs.WordLaws.{spaces-skipped}
use Rattle.console_words.proofs.skip_spaces.Goals as goal

pub returns : goal.returns
returns c =
    let s = c.args.s.now in
    let from = c.args.from in
    let xs = drop from s in
    let count : c.spaces.result ≡ prefix_len (λ (x : ℕ). x == 32) xs = c.spaces.ensures.count ∙ ap (λ (l : List ℕ). length (take_while (λ (x : ℕ). x == 32) l)) (take_all (length s - from) xs (omega (arith, length-drop from s))) ∙ length-prefix_len _ xs in
    (omega arith, omega (arith, length-drop from s), ap (λ (k : ℕ). drop (from + k) s) count ∙ sym (drop-drop _ from s) ∙ spaces-skipped xs)
