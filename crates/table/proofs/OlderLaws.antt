-- Tables of a desk with any number of lease slots, and ours cut to fewer.
-- Assumes nothing.
use Prim.Native.Nat.{ℕ, zero, suc, ◌+◌, ◌-◌, ◌≤◌}
use mathlib.Core.Path.{◌≡◌, refl, sym, ap, subst, ◌∙◌}
use mathlib.Core.Bool.{Bool, true}
use mathlib.Core.List.{List, [], ◌∷◌, ◌++◌}
use native.Mathlib.Omega.{arith}
use lib.ListN.{length, take, replicate, length-append, length-replicate}
use borrow.Author.Tests.{eqb-true, eq-eqb}
use Rattle.lists.specs.Lists.{All}
use Rattle.lists.proofs.Tests.{and-list-to, and-list-of}
use Rattle.table.specs.declared.Lease.{Lease}
use Rattle.table.specs.declared.LeaseTable.{LeaseTable}
use Rattle.table.specs.Table.{pool_slots, lease_slots, pool_prefix, prefix_of, no_pool, no_lease, unused?, empty?, pools_of, pool_ok, lease_ok, leases_ascend?, rules_for, sound_for, table_rules, sound, padded_to, padded, cut}
use Rattle.table.proofs.Ascending.{used, ascends-to}
use Rattle.table.proofs.TableLaws.{unused-to, empty-to, Fine, fine-ascends, sound-used, sound-whole, sound-fine}

-- Sound as it is for our desk.
pub sound-ours : (t : LeaseTable) → sound_for lease_slots t ≡ sound t
unfolding sound_for sound
sound-ours t = refl

-- WHAT SOUNDNESS SAYS, for any number of slots

module _ (slots : ℕ) (t : LeaseTable) (e : sound_for slots t ≡ true) where
  rules : All (λ (b : Bool). b ≡ true) (rules_for slots t)
  unfolding sound_for
  rules = and-list-to (rules_for slots t) e

  pub slots-for : length t.leases ≡ slots
  slots-for = eqb-true (length t.leases) slots rules.1.0

  pub pool-slots-for : length t.pools ≡ pool_slots
  pool-slots-for = eqb-true (length t.pools) pool_slots rules.0

  pub pools-whole-for : t.pools ≡ used unused? t.pools ++ replicate (pool_slots - length (used unused? t.pools)) no_pool
  pools-whole-for =
      subst (λ (n : ℕ). t.pools ≡ used unused? t.pools ++ replicate (n - length (used unused? t.pools)) no_pool) pool-slots-for
      (ascends-to unused? pool_ok pool_prefix no_pool unused-to 0 t.pools rules.1.1.1.1.0).whole

  pub leases-whole-for : t.leases ≡ padded_to slots (used empty? t.leases)
  leases-whole-for =
      subst (λ (n : ℕ). t.leases ≡ used empty? t.leases ++ replicate (n - length (used empty? t.leases)) no_lease) slots-for
      (ascends-to empty? (lease_ok (pools_of t) t.last) prefix_of no_lease empty-to 0 t.leases rules.1.1.1.1.1.0).whole

-- A TABLE CUT TO FEWER SLOTS, where no more are used

take-replicate : {A : Type 0} (x : A) (n m : ℕ) → n ≤ m → take n (replicate m x) ≡ replicate n x
take-replicate x zero m h = refl
take-replicate x (suc n) zero h = absurd (omega arith)
take-replicate x (suc n) (suc m) h = ap (λ l. x ∷ l) (take-replicate x n m (omega arith))

take-padded : {A : Type 0} (x : A) (n m : ℕ) (xs : List A) → length xs ≤ n → n ≤ length xs + m → take n (xs ++ replicate m x) ≡ xs ++ replicate (n - length xs) x
take-padded x n m [] h k = let none : n ≡ n - 0 = omega arith in take-replicate x n m (omega arith) ∙ ap (λ (j : ℕ). replicate j x) none
take-padded x zero m (y ∷ ys) h k = absurd (omega arith)
take-padded x (suc n) m (y ∷ ys) h k =
    let same : n - length ys ≡ suc n - suc (length ys) = omega arith in
    ap (λ l. y ∷ l) (take-padded x n m ys (omega arith) (omega arith)) ∙ ap (λ (j : ℕ). y ∷ (ys ++ replicate j x)) same

module _ (slots : ℕ) (t : LeaseTable) (e : sound t ≡ true) (few : length (used empty? t.leases) ≤ slots) (most : slots ≤ lease_slots) where
  -- Its leases are the same, with fewer empty slots behind them.
  pub cut-leases : (cut slots t).leases ≡ padded_to slots (used empty? t.leases)
  cut-leases =
      let xs : List Lease = used empty? t.leases in
      ap (take slots) (subst (λ (l : List Lease). t.leases ≡ padded l) (sym (sound-used t e)) (sound-whole t e))
      ∙ take-padded no_lease slots (lease_slots - length xs) xs few (omega arith)

  pub cut-sound : sound_for slots (cut slots t) ≡ true
  unfolding sound_for sound
  cut-sound =
      let xs : List Lease = used empty? t.leases in
      let r = and-list-to (table_rules t) e in
      let size : length (cut slots t).leases ≡ slots =
      ap length cut-leases ∙ length-append xs (replicate (slots - length xs) no_lease) ∙ omega (arith, length-replicate (slots - length xs) no_lease) in
      let fine : Fine (pools_of t) t.last 0 xs = subst (Fine (pools_of t) t.last 0) (sym (sound-used t e)) (sound-fine t e t.last) in
      let ascend : leases_ascend? (pools_of t) t.last 0 (cut slots t).leases ≡ true =
      ap (leases_ascend? (pools_of t) t.last 0) cut-leases ∙ fine-ascends (pools_of t) t.last 0 (slots - length xs) xs fine in
      and-list-of (rules_for slots (cut slots t))
      (r.0, (eq-eqb (length (cut slots t).leases) slots size, (r.1.1.0, (r.1.1.1.0, (r.1.1.1.1.0, (ascend, tt))))))
