-- The empty slots of a table at a time: as many as there are slots, less the leases present.
-- Assumes nothing.
use Prim.Native.Nat.{ℕ, ◌+◌, ◌≤◌}
use mathlib.Core.Path.{◌≡◌, refl, sym, ap, ◌∙◌}
use mathlib.Core.Logic.{inl, inr, ⊎_elim}
use mathlib.Core.Bool.{true, false}
use mathlib.Core.List.{List, [], ◌∷◌}
use native.Mathlib.Omega.{arith}
use lib.ListN.{length, length-map}
use lib.Dec.{leb, ltb}
use borrow.Author.Tests.{ltb-true, ltb-false, le-leb, lt-leb}
use Rattle.lists.specs.Lists.{filter}
use Rattle.lists.proofs.Tests.{bool_cases, cond-true, cond-false}
use Rattle.table.specs.declared.Lease.{Lease}
use Rattle.table.specs.declared.LeaseTable.{LeaseTable}
use Rattle.table.specs.Table.{lease_slots, prefix_of, empty?, present, sound}
use Rattle.table.proofs.TableLaws.{empty-to, sound-slots, present-yes, present-no}
use Rattle.ledger.specs.Ledger.{empty_slot?, empty_slots}
use Rattle.ledger.specs.Demand3.{in_use}
use Rattle.lists.proofs.PartLaws.{Opposite, count-parts}

-- An empty slot has ended at every time.
pub empty-ended : (now : ℕ) (x : Lease) → empty_slot? now x ≡ leb x.expires now
empty-ended now x =
    ⊎_elim
    (λ (e : empty? x ≡ true).
    cond-true (empty? x) true (leb x.expires now) e ∙ sym (le-leb x.expires now (omega (arith, ap (λ (y : Lease). y.expires) (empty-to x e)))))
    (λ (e : empty? x ≡ false). cond-false (empty? x) true (leb x.expires now) e)
    (bool_cases (empty? x))

-- A slot is present or empty.
pub present-or-ended : (now : ℕ) → Opposite (λ (x : Lease). ltb now x.expires) (λ x. leb x.expires now)
present-or-ended now x =
    ⊎_elim
    (λ (h : ltb now x.expires ≡ true). inl (h, lt-leb x.expires now (ltb-true now x.expires h)))
    (λ (h : ltb now x.expires ≡ false). inr (h, le-leb x.expires now (ltb-false now x.expires h)))
    (bool_cases (ltb now x.expires))

present-or-empty : (now : ℕ) → Opposite (λ (x : Lease). ltb now x.expires) (empty_slot? now)
present-or-empty now x =
    ⊎_elim
    (λ (h : (ltb now x.expires ≡ true) × (leb x.expires now ≡ false)). inl (h.0, empty-ended now x ∙ h.1))
    (λ (h : (ltb now x.expires ≡ false) × (leb x.expires now ≡ true)). inr (h.0, empty-ended now x ∙ h.1))
    (present-or-ended now x)

-- Those present later are, of those present now, the ones that have not ended by then.
pub present-later : (last now : ℕ) → last ≤ now → (xs : List Lease) → filter (λ x. ltb now x.expires) (present last xs) ≡ present now xs
unfolding present
present-later last now l [] = refl
present-later last now l (x ∷ xs) =
    ⊎_elim
    (λ (h : ltb now x.expires ≡ true).
    let a = ltb-true now x.expires h in
    ap (filter (λ x. ltb now x.expires)) (present-yes last x xs (omega arith))
    ∙ cond-true (ltb now x.expires) _ _ h ∙ ap (λ (l : List Lease). x ∷ l) (present-later last now l xs) ∙ sym (present-yes now x xs a))
    (λ (h : ltb now x.expires ≡ false).
    let a = ltb-false now x.expires h in
    ⊎_elim
    (λ (k : ltb last x.expires ≡ true).
    ap (filter (λ x. ltb now x.expires)) (present-yes last x xs (ltb-true last x.expires k))
    ∙ cond-false (ltb now x.expires) _ _ h ∙ present-later last now l xs ∙ sym (present-no now x xs a))
    (λ (k : ltb last x.expires ≡ false).
    ap (filter (λ x. ltb now x.expires)) (present-no last x xs (ltb-false last x.expires k)) ∙ present-later last now l xs ∙ sym (present-no now x xs a))
    (bool_cases (ltb last x.expires)))
    (bool_cases (ltb now x.expires))

-- On a sound table the empty slots at a time are the capacity less those present.
pub empty-slots : (t : LeaseTable) (now : ℕ) → sound t ≡ true → length (present now t.leases) + empty_slots now t ≡ lease_slots
unfolding present empty_slots
empty-slots t now s = count-parts (λ x. ltb now x.expires) (empty_slot? now) (present-or-empty now) t.leases ∙ sound-slots t s

pub empty-slots-in-use : (t : LeaseTable) (now : ℕ) → sound t ≡ true → length (in_use now t) + empty_slots now t ≡ lease_slots
empty-slots-in-use t now s = ap (λ (n : ℕ). n + empty_slots now t) (length-map (present now t.leases) prefix_of) ∙ empty-slots t now s
