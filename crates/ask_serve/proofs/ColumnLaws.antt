-- Laws of what the columns have, place for place with the requests.
-- Assumes nothing.
use Prim.Native.Nat.{ℕ, zero, suc, ◌≤◌, ◌<◌}
use mathlib.Core.Path.{◌≡◌, refl, ap, ◌∙◌}
use mathlib.Core.Logic.{⊎_elim}
use mathlib.Core.Bool.{true, false}
use mathlib.Core.List.{List, [], ◌∷◌, ◌++◌, map}
use mathlib.Core.Option.{Option, none, some}
use native.Mathlib.Omega.{arith}
use lib.Dec.{eqb}
use lib.ListN.{length, set, get_or}
use Rattle.lists.specs.Lists.{cat_maybes}
use Rattle.lists.proofs.Tests.{bool_cases}
use Rattle.names.specs.declared.Name.{Name}
use Rattle.table.specs.declared.Lease.{Lease}
use Rattle.ask_serve.specs.Granting.{offer_in, offers_in, leases_in}

module _ (client expires : ℕ) (name : Name) where
  -- One request more.
  pub offers-in-snoc : (ns ls fs : List ℕ) (f j : ℕ) → length fs ≡ j → j < length ns → j < length ls
      → offers_in client expires name ns ls (fs ++ (f ∷ [])) ≡ offers_in client expires name ns ls fs ++ (offer_in client expires name (get_or ns j 0) (get_or ls j 0) f ∷ [])
  offers-in-snoc [] ls fs f j e hn hl = absurd (omega arith)
  offers-in-snoc (n ∷ ns) [] fs f j e hn hl = absurd (omega arith)
  offers-in-snoc (n ∷ ns) (l ∷ ls) [] f zero e hn hl = refl
  offers-in-snoc (n ∷ ns) (l ∷ ls) [] f (suc j) e hn hl = absurd (omega arith)
  offers-in-snoc (n ∷ ns) (l ∷ ls) (g ∷ fs) f zero e hn hl = absurd (omega arith)
  offers-in-snoc (n ∷ ns) (l ∷ ls) (g ∷ fs) f (suc j) e hn hl =
      ap (λ (os : List (Option Lease)). offer_in client expires name n l g ∷ os) (offers-in-snoc ns ls fs f j (omega arith) (omega arith) (omega arith))

  pub offers-in-length : (ns ls fs : List ℕ) → length fs ≤ length ns → length fs ≤ length ls → length (offers_in client expires name ns ls fs) ≡ length fs
  offers-in-length ns ls [] hn hl = refl
  offers-in-length [] ls (f ∷ fs) hn hl = absurd (omega arith)
  offers-in-length (n ∷ ns) [] (f ∷ fs) hn hl = absurd (omega arith)
  offers-in-length (n ∷ ns) (l ∷ ls) (f ∷ fs) hn hl = ap suc (offers-in-length ns ls fs (omega arith) (omega arith))

  -- What stands behind the requests does not matter.
  pub networks-behind : (ns ls fs : List ℕ) (k n : ℕ) → length fs ≤ k → offers_in client expires name (set ns k n) ls fs ≡ offers_in client expires name ns ls fs
  networks-behind ns ls [] k n h = refl
  networks-behind [] ls (f ∷ fs) k n h = refl
  networks-behind (m ∷ ns) [] (f ∷ fs) zero n h = absurd (omega arith)
  networks-behind (m ∷ ns) [] (f ∷ fs) (suc k) n h = refl
  networks-behind (m ∷ ns) (l ∷ ls) (f ∷ fs) zero n h = absurd (omega arith)
  networks-behind (m ∷ ns) (l ∷ ls) (f ∷ fs) (suc k) n h = ap (λ (os : List (Option Lease)). offer_in client expires name m l f ∷ os) (networks-behind ns ls fs k n (omega arith))

  pub lengths-behind : (ns ls fs : List ℕ) (k l : ℕ) → length fs ≤ k → offers_in client expires name ns (set ls k l) fs ≡ offers_in client expires name ns ls fs
  lengths-behind ns ls [] k l h = refl
  lengths-behind [] ls (f ∷ fs) k l h = refl
  lengths-behind (n ∷ ns) [] (f ∷ fs) k l h = refl
  lengths-behind (n ∷ ns) (m ∷ ls) (f ∷ fs) zero l h = absurd (omega arith)
  lengths-behind (n ∷ ns) (m ∷ ls) (f ∷ fs) (suc k) l h = ap (λ (os : List (Option Lease)). offer_in client expires name n m f ∷ os) (lengths-behind ns ls fs k l (omega arith))

-- HOW MANY

-- As many as there are places with a lease.
module _ (client expires : ℕ) (name : Name) where
  one-held : (n l f : ℕ) (os : List (Option Lease)) (k : ℕ) (ls : List ℕ) → length (cat_maybes os) ≡ leases_in ls k → length (cat_maybes (offer_in client expires name n l f ∷ os)) ≡ leases_in (l ∷ ls) (suc k)
  one-held n l f os k ls e = ⊎_elim (λ (z : eqb l 0 ≡ true). rw z e) (λ (z : eqb l 0 ≡ false). rw z (ap suc e)) (bool_cases (eqb l 0))

  pub offers-many : (ns ls fs : List ℕ) → length fs ≤ length ns → length fs ≤ length ls → length (cat_maybes (offers_in client expires name ns ls fs)) ≡ leases_in ls (length fs)
  offers-many ns ls [] hn hl = refl
  offers-many [] ls (f ∷ fs) hn hl = absurd (omega arith)
  offers-many (n ∷ ns) [] (f ∷ fs) hn hl = absurd (omega arith)
  offers-many (n ∷ ns) (l ∷ ls) (f ∷ fs) hn hl = one-held n l f (offers_in client expires name ns ls fs) (length fs) ls (offers-many ns ls fs (omega arith) (omega arith))

  -- No place has a lease.
  pub offers-none : (ns ls fs : List ℕ) → length fs ≤ length ns → length fs ≤ length ls → leases_in ls (length fs) ≡ 0 → offers_in client expires name ns ls fs ≡ map (λ f. none) fs
  offers-none ns ls fs hn hl z = only_none (offers_in client expires name ns ls fs) (offers-many ns ls fs hn hl ∙ z) ∙ same_length ns ls fs hn hl
    where
      only_none : (os : List (Option Lease)) → length (cat_maybes os) ≡ 0 → os ≡ map (λ o. none) os
      only_none [] e = refl
      only_none (none ∷ os) e = ap (λ (ps : List (Option Lease)). none ∷ ps) (only_none os e)
      only_none (some x ∷ os) e = absurd (omega arith)

      same_length : (ns ls fs : List ℕ) → length fs ≤ length ns → length fs ≤ length ls → ◌≡◌ {A = List (Option Lease)} (map (λ o. none) (offers_in client expires name ns ls fs)) (map (λ f. none) fs)
      same_length ns ls [] a b = refl
      same_length [] ls (f ∷ fs) a b = absurd (omega arith)
      same_length (n ∷ ns) [] (f ∷ fs) a b = absurd (omega arith)
      same_length (n ∷ ns) (l ∷ ls) (f ∷ fs) a b = ap (λ (ps : List (Option Lease)). none ∷ ps) (same_length ns ls fs (omega arith) (omega arith))
