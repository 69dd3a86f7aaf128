-- The clauses of `levels`, at a length that is above `stop`; and that an exact fit stays.
-- Assumes nothing.
use Prim.Native.Nat.{ℕ, zero, suc, ◌+◌, ◌-◌, ◌%◌, ◌≤◌, ◌<◌}
use mathlib.Core.Path.{◌≡◌, refl, ap}
use mathlib.Core.Bool.{Bool, true, false, cond}
use mathlib.Core.Option.{Option, some}
use native.Mathlib.Omega.{arith}
use lib.Dec.{leb, ltb, eqb}
use borrow.Author.Tests.{eq-eqb, ne_eqb, lt-ltb, le-ltb, le-leb, lt-leb}
use Rattle.prefix.specs.declared.Prefix.{Prefix}
use Rattle.prefix.specs.Prefixes.{size, prefix}
use Rattle.prefix.proofs.Nesting.{aligned-down}
use Rattle.free_space.specs.Scan.{round_up, round_down, length_of, levels, in_gap}

module _ (a b stop len : ℕ) (best : Option Prefix) (above : stop < len) where
  steps : len - stop ≡ suc (len - 1 - stop)
  steps = omega arith

  here : stop + suc (len - 1 - stop) ≡ len
  here = omega arith

  next : stop + (len - 1 - stop) ≡ len - 1
  next = omega arith

  -- The start is no multiple of twice the size.
  pub levels-low : (a % size (len - 1) ≡ 0 → ⊥) → levels a b stop (len - stop) best ≡ some (prefix a len)
  levels-low odd =
      let e : eqb (a % size (stop + (len - 1 - stop))) 0 ≡ false = rw next (ne_eqb _ _ odd) in
      rw (steps, e, here)

  -- The start is one, the end is none.
  pub levels-high : a % size (len - 1) ≡ 0 → (b % size (len - 1) ≡ 0 → ⊥) → levels a b stop (len - stop) best ≡ some (prefix (b - size len) len)
  levels-high even odd =
      let e : eqb (a % size (stop + (len - 1 - stop))) 0 ≡ true = rw next (eq-eqb _ _ even) in
      let f : eqb (b % size (stop + (len - 1 - stop))) 0 ≡ false = rw next (ne_eqb _ _ odd) in
      rw (steps, e, f, here)

  -- Both are.
  pub levels-on : a % size (len - 1) ≡ 0 → b % size (len - 1) ≡ 0 → levels a b stop (len - stop) best ≡ levels a b stop (len - 1 - stop) best
  levels-on even even' =
      let e : eqb (a % size (stop + (len - 1 - stop))) 0 ≡ true = rw next (eq-eqb _ _ even) in
      let f : eqb (b % size (stop + (len - 1 - stop))) 0 ≡ true = rw next (eq-eqb _ _ even') in
      rw (steps, e, f)

pub levels-done : (a b stop len : ℕ) (best : Option Prefix) → len ≤ stop → levels a b stop (len - stop) best ≡ best
levels-done a b stop len best h = let e : len - stop ≡ 0 = omega arith in ap (λ (x : ℕ). levels a b stop x best) e

-- Where both ends are multiples of the best's size, every level passes on.
pub levels-none : (a b stop n : ℕ) (best : Option Prefix) → a % size stop ≡ 0 → b % size stop ≡ 0 → levels a b stop n best ≡ best
levels-none a b stop zero best e f = refl
levels-none a b stop (suc n) best e f =
    let u : eqb (a % size (stop + n)) 0 ≡ true = eq-eqb _ _ (aligned-down a (32 - (stop + n)) (32 - stop) (omega arith) e) in
    let v : eqb (b % size (stop + n)) 0 ≡ true = eq-eqb _ _ (aligned-down b (32 - (stop + n)) (32 - stop) (omega arith) f) in
    rw (u, v) (levels-none a b stop n best e f)

-- the cases of a gap

module _ (l : ℕ) (best : Option Prefix) (a b : ℕ) where
  pub gap-small : b < a + size l → in_gap l best a b ≡ best
  gap-small h = rw (lt-ltb b (a + size l) h)

  -- Nothing better at its ends.
  pub gap-nothing : levels (round_up l a) (round_down l b) (length_of best) (l - length_of best) best ≡ best → in_gap l best a b ≡ best
  gap-nothing = go (ltb b (a + size l)) (leb (round_down l b) (round_up l a))
    where
      go : (t u : Bool) {x : Option Prefix} → x ≡ best → cond t best (cond u best x) ≡ best
      go true u p = refl
      go false true p = refl
      go false false p = p

  pub gap-empty : a + size l ≤ b → round_down l b ≤ round_up l a → in_gap l best a b ≡ best
  gap-empty h k = rw (le-ltb b (a + size l) h, le-leb (round_down l b) (round_up l a) k)

  pub gap_ends : a + size l ≤ b → round_up l a < round_down l b → in_gap l best a b ≡ levels (round_up l a) (round_down l b) (length_of best) (l - length_of best) best
  gap_ends h k = rw (le-ltb b (a + size l) h, lt-leb (round_down l b) (round_up l a) k)

-- an exact fit stays

pub gap-exact : (l : ℕ) (best : Option Prefix) (a b : ℕ) → length_of best ≡ l → in_gap l best a b ≡ best
gap-exact l best a b e = gap-nothing l best a b (levels-done (round_up l a) (round_down l b) (length_of best) l best (omega arith))
