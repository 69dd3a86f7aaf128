use Prim.Native.Nat.{ℕ, ◌-◌, ◌<◌}
use mathlib.Core.Path.{◌≡◌}
use mathlib.Core.List.{List}
use lib.ListN.{length}
use Rattle.prefix.specs.Prefixes.{end}
use Rattle.image.specs.declared.Head.{Head}
use Rattle.image.specs.declared.Form.{Form}
use Rattle.image_check.specs.declared.Pass.{Pass}
use Rattle.image_check.specs.Inner.{nth_pool, Begun}
use Rattle.image_check.specs.InnerPass.{Left, Reached}
use Rattle.image_check.proofs.ScanLaws.{Along}
use Rattle.image_check.proofs.in_pool.Given as goal

-- The pass stands in the pool from `low₀` to `stop`, which it came to at p.
abbrev pub Known : Form → List ℕ → ℕ → ℕ → ℕ → ℕ → Pass → ℕ → Pass → Type 0
Known form s last time stop low₀ p low q = (x : Head) (n k : ℕ) → Begun x s n → x.last ≡ last → k < n → low₀ ≡ (nth_pool s k).network → stop ≡ end (nth_pool s k) → Reached form x s n time k p → Along form x s n time k low q

abbrev pub invariant-loop-pass : goal.invariant-loop-pass
invariant-loop-pass l = Left l.form l.s l.pass × Known l.form l.s l.last l.time l.stop l.initial.low l.initial.pass l.low l.pass

abbrev pub decreases-loop-pass : goal.decreases-loop-pass
decreases-loop-pass l = length l.s - l.pass.at
