-- `fill` meets its contract: what is written so far begins a text that the pattern spells.
use Prim.Native.Nat.{ℕ, ◌-◌, ◌≤◌, ◌<◌}
use mathlib.Core.Path.{◌≡◌, refl, sym, ap, ◌∙◌}
use mathlib.Core.List.{List, [], ◌∷◌}
use native.Mathlib.Omega.{arith}
use lib.ListN.{length, take, drop, get_or, length-set}
use lib.Seq.{take_all}
use borrow.Author.Rules.{rules}
use Rattle.console_text.proofs.TextLaws.{filling-none, filling-byte, filling-number, filling-all}
use Rattle.console_text.proofs.fill.Goals as goal

-- The number that is taken, and those that are left.
taken : (ns : List ℕ) → 1 ≤ length ns → ns ≡ get_or ns 0 0 ∷ take (length ns - 1) (drop 1 ns)
taken [] h = absurd (omega arith)
taken (n ∷ ns) h = ap (λ (more : List ℕ). n ∷ more) (sym (take_all (length (n ∷ ns) - 1) ns (omega arith)))

-- None is left.
nothing : (ns : List ℕ) → length ns < 1 → ns ≡ []
nothing [] h = refl
nothing (n ∷ ns) h = absurd (omega arith)

pub loop-c-init : goal.loop-c-init
loop-c-init c = (omega arith, refl, filling-none _ _ _ _)

pub loop-c-preserved-in-len1-up : goal.loop-c-preserved-in-len1-up
loop-c-preserved-in-len1-up c =
    let l = c.loop-c in
    let ran = c.decimal-end in
    let is = taken l.left.now c.in-len1-up.len_at_least in
    (omega (arith, ap length is, ran.ensures.lower_bound), search rules, filling-number _ _ _ _ _ _ _ _ l.invariant.2 (omega arith) c.from.result _ _ _ (omega arith) (is ∙ ap (λ (n : ℕ). n ∷ take (length l.left.now - 1) (drop 1 l.left.now)) (sym c.from.ensures)) ran.ensures.lower_bound.0 ran.ensures.decimal)

pub loop-c-preserved : goal.loop-c-preserved
loop-c-preserved c =
    let l = c.loop-c in
    (omega arith, simp length-set (search rules), filling-byte _ _ _ _ _ _ _ _ l.invariant.2 (omega arith) (λ e. nothing l.left.now (omega arith)))

pub returns : goal.returns
returns c = let l = c.loop-c in record { upper_bound = search rules; filled = filling-all _ _ _ _ _ _ _ _ l.invariant.2 (omega arith) }
