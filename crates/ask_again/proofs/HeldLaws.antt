-- Laws of the search for the next lease that a client holds.
-- Assumes nothing.
use Prim.Native.Nat.{ℕ, zero, suc, ◌+◌, ◌-◌, ◌*◌, ◌≤◌, ◌<◌}
use native.Mathlib.Omega.{arith}
use mathlib.Core.Path.{◌≡◌, subst}
use mathlib.Core.Logic.{⊎_elim}
use mathlib.Core.Bool.{true, false}
use mathlib.Core.List.{List, [], ◌∷◌}
use lib.Dec.{ltb}
use lib.ListN.{drop}
use borrow.Author.Tests.{ne_eqb, ltb-true, ltb-false}
use Rattle.lists.specs.Lists.{and}
use Rattle.lists.proofs.Tests.{bool_cases}
use Rattle.table.specs.declared.Lease.{Lease}
use Rattle.image.specs.Image.{lease_size}
use Rattle.image.specs.Reading.{lease_in}
use Rattle.ledger.specs.Ledger.{held_by?}
use Rattle.ask_again.specs.InnerGiving.{held_at?, OthersAt}

-- Another client's lease is not one.
pub another's : (x : Lease) (client now : ℕ) → (x.client ≡ client → ⊥) → and (held_by? client x ∷ ltb now x.expires ∷ []) ≡ false
another's x client now k = rw (ne_eqb x.client client k)

-- A fact of each of four.
pub each-of-four : (P : ℕ → Type 0) → P 0 → P 1 → P 2 → P 3 → (m : ℕ) → m < 4 → P m
each-of-four P a b c d zero h = a
each-of-four P a b c d (suc zero) h = b
each-of-four P a b c d (suc (suc zero)) h = c
each-of-four P a b c d (suc (suc (suc zero))) h = d
each-of-four P a b c d (suc (suc (suc (suc m)))) h = absurd (omega arith)

module _ (image : List ℕ) (from client now i k : ℕ) (past : (m : ℕ) → m < k → i ≤ m → held_at? image (from + lease_size * m) client now ≡ false) where
  -- Four more that are other clients'.
  pub four-past : OthersAt image (from + lease_size * k) client → (m : ℕ) → m < k + 4 → i ≤ m → held_at? image (from + lease_size * m) client now ≡ false
  four-past others m h l =
      ⊎_elim
      (λ (b : ltb m k ≡ true). past m (ltb-true m k b) l)
      (λ (b : ltb m k ≡ false).
      let above : k ≤ m = ltb-false m k b in
      let place : from + lease_size * k + lease_size * (m - k) ≡ from + lease_size * m = omega arith in
      another's (lease_in (drop (from + lease_size * m) image)) client now (subst (λ (at : ℕ). (lease_in (drop at image)).client ≡ client → ⊥) place (others (m - k) (omega arith))))
      (bool_cases (ltb m k))
