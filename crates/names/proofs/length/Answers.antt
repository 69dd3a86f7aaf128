-- `names::length` meets its contract.
use Prim.Native.Nat.{ℕ, ◌+◌}
use mathlib.Core.Path.{sym, ap, ◌∙◌}
use native.Mathlib.Omega.{arith}
use Rattle.names.proofs.WordLaws.{word-short, length-first, length-second, length-third}
use Rattle.names.proofs.length.Goals as goal

pub overflow_add-result : goal.overflow_add-result
overflow_add-result c = omega (arith, c.word_length.ensures, word-short c.args.n.third)

pub returns-then-n-ne0 : goal.returns-then-n-ne0
returns-then-n-ne0 c = ap (λ (m : ℕ). 16 + m) c.word_length.ensures ∙ sym (length-third c.args.n c.if-n-ne0.true)

pub overflow_add-result-then-n-ne0-2 : goal.overflow_add-result-then-n-ne0-2
overflow_add-result-then-n-ne0-2 c = omega (arith, c.word_length-then-n-ne0-2.ensures, word-short c.args.n.second)

pub returns-then-n-ne0-2 : goal.returns-then-n-ne0-2
returns-then-n-ne0-2 c = ap (λ (m : ℕ). 8 + m) c.word_length-then-n-ne0-2.ensures ∙ sym (length-second c.args.n c.if-n-ne0.false c.if-n-ne0-2.true)

pub returns : goal.returns
returns c = c.word_length-2.ensures ∙ sym (length-first c.args.n c.if-n-ne0.false c.if-n-ne0-2.false)
