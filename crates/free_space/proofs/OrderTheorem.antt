-- Two orders of one list that can be packed leave as many whole free prefixes of each length.
-- Assumes nothing.
use Prim.Native.Nat.{ℕ, zero, suc, ◌+◌, ◌-◌, ◌*◌, ◌≤◌}
use mathlib.Core.Path.{◌≡◌, refl, sym, ap, ◌∙◌}
use mathlib.Core.Logic.{◌⊎◌, ⊎_elim}
use mathlib.Core.Bool.{true, false}
use mathlib.Core.List.Permᴰ
use mathlib.Core.List.{List, [], ◌∷◌, ◌++◌, Permᴰ}
use native.Mathlib.Nat.{le_antisymm, pow-suc}
use native.Mathlib.Omega.{arith}
use lib.ListN.{replicate}
use lib.Dec.{eqb, eqb-zero-suc, eqb-suc-zero, eqb-suc-suc}
use borrow.Author.Tests.{eqb-true, eqb-false, eq-eqb, ne_eqb}
use Rattle.lists.specs.Lists.{All}
use Rattle.lists.proofs.Tests.{bool_cases}
use Rattle.lists.proofs.ListLaws.{all_map}
use Rattle.prefix.specs.declared.Prefix.{Prefix}
use Rattle.prefix.specs.Prefixes.{prefix}
use Rattle.prefix.proofs.Nesting.{order}
use Rattle.free_space.specs.Grant.{wholes, lowest_part}
use Rattle.free_space.specs.Serving.{Length, Pools, Packing, after, one?, number}
use Rattle.free_space.proofs.Weights.{wt, wt-self, wt-mul-le}
use Rattle.free_space.proofs.WalkLaws.{sum}
use Rattle.free_space.proofs.GrantLaws.{found, room, load, Fits, takes, granted}
use Rattle.free_space.proofs.ListTheorem.{packed-fits, Served, served}

-- the load of a list does not depend on its order

load-append : (ls ms : List ℕ) (k : ℕ) → load (ls ++ ms) k ≡ load ls k + load ms k
load-append [] ms k = omega arith
load-append (l ∷ ls) ms k = omega (arith, load-append ls ms k)

load-replicate : (x l k : ℕ) → load (replicate x l) k ≡ x * wt (32 - l) k
load-replicate zero l k = omega arith
load-replicate (suc x) l k = omega (arith, load-replicate x l k)

load-perm : {ls ms : List ℕ} → Permᴰ ls ms → (k : ℕ) → load ls k ≡ load ms k
load-perm Permᴰ.nil k = refl
load-perm (Permᴰ.cons e d) k = omega (arith, ap (λ (x : ℕ). wt (32 - x) k) e, load-perm d k)
load-perm (Permᴰ.swap e₁ e₂) k = omega (arith, ap (λ (x : ℕ). wt (32 - x) k) e₁, ap (λ (x : ℕ). wt (32 - x) k) e₂)
load-perm (Permᴰ.trans d₁ d₂) k = load-perm d₁ k ∙ load-perm d₂ k

sum-scale : (ws : List Prefix) (j k : ℕ) → sum (λ h. wt h k) ws * wt k j ≤ sum (λ h. wt h j) ws
sum-scale [] j k = omega arith
sum-scale (w ∷ ws) j k = omega (arith, sum-scale ws j k, wt-mul-le (order w) k j)

-- how many prefixes of a length there are, from the room for its order and for the next

abbrev exactly : ℕ → ℕ → ℕ
exactly k h = one? (eqb h k)

exactly-is : (h k : ℕ) → wt h k ≡ exactly k h + 2 * wt h (suc k)
exactly-is zero zero = refl
exactly-is zero (suc k) = rw (eqb-zero-suc k)
exactly-is (suc h) zero = rw (eqb-suc-zero h) (omega (arith, pow-suc 2 h))
exactly-is (suc h) (suc k) = rw (eqb-suc-suc h k) (exactly-is h k)

same_test : (w : Prefix) (l : ℕ) → w.length ≤ 32 → l ≤ 32 → one? (eqb w.length l) ≡ exactly (32 - l) (order w)
same_test w l p q =
    ⊎_elim
    (λ (e : eqb w.length l ≡ true). ap one? (e ∙ sym (eq-eqb (order w) (32 - l) (ap (λ (x : ℕ). 32 - x) (eqb-true w.length l e)))))
    (λ (e : eqb w.length l ≡ false). ap one? (e ∙ sym (ne_eqb (order w) (32 - l) (λ k. eqb-false w.length l e (omega arith)))))
    (bool_cases (eqb w.length l))

number-room : (ws : List Prefix) (l : ℕ) → l ≤ 32 → All (λ w. w.length ≤ 32) ws → sum (λ h. wt h (32 - l)) ws ≡ number l ws + 2 * sum (λ h. wt h (suc (32 - l))) ws
number-room [] l q a = refl
number-room (w ∷ ws) l q a = omega (arith, number-room ws l q a.1, exactly-is (order w) (32 - l), same_test w l a.0 q)

module _ (pools : List Prefix) (good : Pools pools) where
  -- Serving a list leaves room for what was to come after it, and costs at least its load.
  fits_after : (ls ms : List ℕ) (leases : List Prefix) → Fits pools leases (ls ++ ms) → Fits pools (after pools leases ls) ms
  fits_after [] ms leases fit = fit
  fits_after (l ∷ ls) ms leases fit =
      let t = granted pools good leases l (ls ++ ms) fit in
      rw (ap (lowest_part l) t.1) (fits_after ls ms (prefix t.0.network l ∷ leases) t.3)

  cost : (ls : List ℕ) (leases : List Prefix) → Fits pools leases ls → (k : ℕ) → room pools (after pools leases ls) k + load ls k ≤ room pools leases k
  cost [] leases fit k = omega arith
  cost (l ∷ ls) leases fit k =
      let t = granted pools good leases l ls fit in
      rw (ap (lowest_part l) t.1) (omega (arith, cost ls (prefix t.0.network l ∷ leases) t.3 k, takes pools good leases (prefix t.0.network l) t.2 k))

  -- As many prefixes as were left after one order could still be asked for after the other.
  room-le : (ls ms : List ℕ) (leases : List Prefix) → Permᴰ ls ms → Fits pools leases ls → (k : ℕ) → k ≤ 32
      → room pools (after pools leases ls) k ≤ room pools (after pools leases ms) k
  room-le ls ms leases p fit k small =
      let x : ℕ = room pools (after pools leases ls) k in
      let e : 32 - (32 - k) ≡ k = omega arith in
      let f : Fits pools leases (ms ++ replicate x (32 - k)) = λ m.
      omega (
        arith,
        load-append ms (replicate x (32 - k)) m,
        load-replicate x (32 - k) m,
        ap (λ (y : ℕ). x * wt y m) e,
        load-perm p m,
        sum-scale (wholes pools (after pools leases ls)) m k,
        cost ls leases fit m,
      ) in
      omega (
        arith,
        fits_after ms (replicate x (32 - k)) leases f k,
        load-replicate x (32 - k) k,
        ap (λ (y : ℕ). x * wt y k) e,
        ap (λ (y : ℕ). x * y) (wt-self k),
      )

  listed-lengths : (leases : List Prefix) → All (λ w. w.length ≤ 32) (wholes pools leases)
  listed-lengths leases = all_map (λ w k. k.length) (wholes pools leases) (found pools good leases)

  fits-perm : (ls ms : List ℕ) (leases : List Prefix) → Permᴰ ls ms → Fits pools leases ls → Fits pools leases ms
  fits-perm ls ms leases p fit k = omega (arith, fit k, load-perm p k)

  same-room : (ls ms : List ℕ) (leases : List Prefix) → Permᴰ ls ms → Fits pools leases ls → (k : ℕ) → k ≤ 32
      → room pools (after pools leases ls) k ≡ room pools (after pools leases ms) k
  same-room ls ms leases p fit k small =
      le_antisymm (room-le ls ms leases p fit k small) (room-le ms ls leases (Permᴰ.symm p) (fits-perm ls ms leases p fit) k small)

  -- THE ORDER THEOREM. "two orders of the same list leave the same number of whole free blocks of each length, summed over the roots that the list may
  -- use, though networks may differ"
  pub order-theorem : (leases : List Prefix) (ls ms : List ℕ) (chosen : List Prefix) → Permᴰ ls ms → Packing pools leases ls chosen
      → (l : ℕ) → Length l → number l (wholes pools (after pools leases ls)) ≡ number l (wholes pools (after pools leases ms))
  order-theorem leases ls ms chosen p pack l q =
      let fit = packed-fits pools good leases ls chosen pack in
      omega (
        arith,
        same-room ls ms leases p fit (32 - l) (omega arith),
        same-room ls ms leases p fit (suc (32 - l)) (omega arith),
        number-room (wholes pools (after pools leases ls)) l (omega arith) (listed-lengths (after pools leases ls)),
        number-room (wholes pools (after pools leases ms)) l (omega arith) (listed-lengths (after pools leases ms)),
      )

  -- "any list of asks that could be packed at all is granted in whatever order it comes"
  pub any-order-granted : (leases : List Prefix) (ls ms : List ℕ) (chosen : List Prefix) → Permᴰ ls ms → Packing pools leases ls chosen → Served pools good leases ms
  any-order-granted leases ls ms chosen p pack = served pools good ms leases (fits-perm ls ms leases p (packed-fits pools good leases ls chosen pack))
