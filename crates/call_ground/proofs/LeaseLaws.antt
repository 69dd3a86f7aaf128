-- Laws of the leases on the ground: in a sound table, a lease that has its network in a pool lies in it.
-- Assumes nothing.
use Prim.Native.Nat.{ℕ, ◌≤◌, ◌<◌}
use native.Mathlib.Omega.{arith}
use mathlib.Core.Path.{◌≡◌, refl, sym, ap, subst, ◌∙◌}
use mathlib.Core.Logic.{inl, inr}
use mathlib.Core.Bool.{Bool, true, false, ◌&&◌, ◌||◌}
use mathlib.Core.List.{List, [], ◌∷◌}
use mathlib.Core.Option.{some}
use lib.Dec.{leb, ltb}
use borrow.Author.Tests.{leb-true, le-leb, lt-ltb, ltb-true}
use Rattle.lists.specs.Lists.{Any, Pairwise, any?, filter}
use Rattle.lists.proofs.Tests.{and-to, and-of}
use Rattle.lists.proofs.ListLaws.{all_map, any-all}
use Rattle.lists.proofs.FilterLaws.{filter-same-on}
use Rattle.prefix.specs.declared.Prefix.{Prefix}
use Rattle.prefix.specs.Prefixes.{end, Inside, Apart, inside?}
use Rattle.prefix.proofs.PrefixLaws.{size-positive}
use Rattle.table.specs.declared.Lease.{Lease}
use Rattle.table.specs.declared.LeaseTable.{LeaseTable}
use Rattle.table.specs.Table.{prefix_of, pools_of, present, sound}
use Rattle.table.proofs.TableLaws.{Good, sound-fine}
use Rattle.ledger.specs.Ledger.{narrowed_to, on_ground}
use Rattle.ledger.proofs.GroundLaws.{ground-whole}
use Rattle.call_ground.specs.Ground.{starts_in?}

-- Two tests that hold together are one.
same_tests : (a b : Bool) → (a ≡ true → b ≡ true) → (b ≡ true → a ≡ true) → a ≡ b
same_tests true true f g = refl
same_tests true false f g = sym (f refl)
same_tests false true f g = g refl
same_tests false false f g = refl

-- Of prefixes that share no address, one has the start of a and another the whole of it: they are the same.
start-whole : (pools : List Prefix) → Pairwise Apart pools → (a p : Prefix) → Any (Inside a) pools → Any (λ q. q ≡ p) pools → p.network ≤ a.network → a.network < end p → Inside a p
start-whole [] d a p x5 _ l h = elim x5 [ ]
start-whole (q ∷ qs) d a p (inl i) (inl e) l h = subst (Inside a) e i
start-whole (q ∷ qs) d a p (inl i) (inr m) l h =
    let k = any-all qs m d.0 in
    absurd (crossed (subst (Apart q) k.1 k.2))
  where
    crossed : Apart q p → ⊥
    crossed (inl z) = omega (arith, size-positive a.length)
    crossed (inr z) = omega (arith, size-positive a.length)
start-whole (q ∷ qs) d a p (inr i) (inl e) l h =
    let k = any-all qs i d.0 in
    absurd (crossed k.0 k.1 (subst (λ (x : Prefix). Apart x k.0) e k.2))
  where
    crossed : (x : Prefix) → Inside a x → Apart p x → ⊥
    crossed x w (inl z) = omega (arith, size-positive a.length)
    crossed x w (inr z) = omega (arith, size-positive a.length)
start-whole (q ∷ qs) d a p (inr i) (inr m) l h = start-whole qs d.1 a p i m l h

pub starts-inside : (pools : List Prefix) → Pairwise Apart pools → (p : Prefix) → Any (λ q. q ≡ p) pools → (x : Lease) → Any (Inside (prefix_of x)) pools
    → starts_in? p x ≡ (inside? (prefix_of x) p || false)
starts-inside pools d p m x i = same_tests (starts_in? p x) (inside? (prefix_of x) p || false) to of
  where
    or-false : (b : Bool) → (b || false) ≡ b
    or-false true = refl
    or-false false = refl

    to : starts_in? p x ≡ true → (inside? (prefix_of x) p || false) ≡ true
    to e =
        let u = and-to (leb p.network x.network) _ e in
        let v = and-to (ltb x.network (end p)) true u.1 in
        let w = start-whole pools d (prefix_of x) p i m (leb-true p.network x.network u.0) (ltb-true x.network (end p) v.0) in
        or-false (inside? (prefix_of x) p) ∙ and-of (leb p.network x.network) (leb (end (prefix_of x)) (end p)) (le-leb p.network x.network w.0) (le-leb (end (prefix_of x)) (end p) w.1)

    of : (inside? (prefix_of x) p || false) ≡ true → starts_in? p x ≡ true
    of e =
        let u = and-to (leb p.network x.network) (leb (end (prefix_of x)) (end p)) (sym (or-false (inside? (prefix_of x) p)) ∙ e) in
        let l = leb-true (end (prefix_of x)) (end p) u.1 in
        and-of (leb p.network x.network) (ltb x.network (end p) && true) u.0
        (and-of (ltb x.network (end p)) true (lt-ltb x.network (end p) (omega (arith, size-positive x.length))) refl)

-- What is left of the leases of a sound table on the ground of a call, where that is this pool.
pub ground-leases : (t : LeaseTable) → sound t ≡ true → (s : List ℕ) (p : Prefix) → pools_of (narrowed_to (some s) t) ≡ p ∷ [] → Any (λ q. q ≡ p) (pools_of t) → (now : ℕ)
    → on_ground (some s) t prefix_of (present now t.leases) ≡ filter (starts_in? p) (present now t.leases)
ground-leases t e s p g m now =
    ap (λ (ps : List Prefix). filter (λ (x : Lease). any? (inside? (prefix_of x)) ps) (present now t.leases)) g
    ∙ sym
    (filter-same-on (starts_in? p) (λ x. any? (inside? (prefix_of x)) (p ∷ [])) (present now t.leases)
    (all_map (λ (x : Lease) (k : Good (pools_of t) now x). starts-inside (pools_of t) (ground-whole t e).good.disjoint p m x k.pooled) (present now t.leases) (sound-fine t e now).0))
