-- A default length that a byte cannot hold is outside open's rules, as 0 is: 0 may stand for it.
-- Assumes nothing.
use Prim.Native.Nat.{ℕ, ◌≤◌}
use mathlib.Core.Path.{◌≡◌, refl, sym, ap, ◌∙◌}
use mathlib.Core.Logic.{⊎_elim}
use mathlib.Core.Bool.{true, false, cond}
use mathlib.Core.List.{List}
use native.Mathlib.Omega.{arith}
use lib.Dec.{ltb}
use borrow.Author.Tests.{ltb-true, leb-true}
use Rattle.lists.proofs.Tests.{bool_cases, cond-true, cond-false, not-true⇒false, and-list-to}
use Rattle.table.specs.Table.{head_ok, head_rules}
use Rattle.table_open.specs.Open.{open_ok}
use Rattle.table_open.proofs.OpenLaws.{open_ok-to}

abbrev Far : ℕ → Type 0
Far len = (n : ℕ) → 1 ≤ n → n ≤ 30 → n ≡ len → ⊥

module _ (networks lengths : List ℕ) (term start : ℕ) where
  open-far : (len : ℕ) → Far len → open_ok networks lengths term len start ≡ false
  unfolding head_ok
  open-far len far =
      not-true⇒false (open_ok networks lengths term len start) (λ e.
      let rules = and-list-to (head_rules term len start) (open_ok-to networks lengths term len start e).head in
      far len (leb-true 1 len rules.1.1.0) (leb-true len 30 rules.1.1.1.0) refl)

  pub open-length : (len : ℕ) → open_ok networks lengths term (cond (ltb 255 len) 0 len) start ≡ open_ok networks lengths term len start
  open-length len =
      ⊎_elim
      (λ (h : ltb 255 len ≡ true).
      ap (λ (n : ℕ). open_ok networks lengths term n start) (cond-true (ltb 255 len) 0 len h)
      ∙ open-far 0 (λ n a b e. omega arith) ∙ sym (open-far len (λ n a b e. omega (arith, ltb-true 255 len h))))
      (λ (h : ltb 255 len ≡ false). ap (λ (n : ℕ). open_ok networks lengths term n start) (cond-false (ltb 255 len) 0 len h))
      (bool_cases (ltb 255 len))
