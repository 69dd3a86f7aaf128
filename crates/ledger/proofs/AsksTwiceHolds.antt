-- A CLIENT THAT ASKS TWICE gets its leases again from the ledger's ask, each once, and they need no slot (document 02, M-101).
-- Assumes nothing.
use Prim.Native.Nat.{ℕ}
use mathlib.Core.Path.{◌≡◌, refl, sym, ap, subst, ◌∙◌}
use mathlib.Core.Logic.{inl, inr, ⊎_elim}
use mathlib.Core.Bool.{Bool, true, false}
use mathlib.Core.List.{List, [], ◌∷◌, ◌++◌, map, Permᴰ}
use mathlib.Core.Option.{Option, none, some, some-injective}
use native.Mathlib.Omega.{arith}
use Rattle.lists.specs.Lists.{All, Pairwise, cat_maybes}
use Rattle.lists.proofs.Tests.{bool_cases, cond-true, cond-false}
use Rattle.lists.proofs.ListLaws.{all_map, pairwise_map}
use Rattle.prefix.specs.declared.Prefix.{Prefix}
use Rattle.prefix.specs.Prefixes.{Apart}
use Rattle.prefix.proofs.PrefixLaws.{size-positive}
use Rattle.option.specs.Values.{Entry}
use Rattle.option.specs.Contents.{Request}
use Rattle.option_reply.specs.Reply.{entry_of}
use Rattle.table.specs.declared.{Lease.Lease, LeaseTable.LeaseTable}
use Rattle.table.specs.Table.{prefix_of, pools_of, present, sound}
use Rattle.table.proofs.Ascending.{Ascending, ascending-apart}
use Rattle.table.proofs.TableLaws.{sound-fine}
use Rattle.ledger.specs.Ledger.{State, Call, ask_name, add_all, held_by?, held_for?, first_that, but_first, again, rest_of, in_turn, held_again, narrowed, usable_leases, ask_held, ask_offers, ask}
use Rattle.ledger.specs.Demand3.{well_formed, asks_of, held_before, lease_for, granted}
use Rattle.ledger.specs.AskingTwice.{GivenAgain, granted_to_rest, AsksTwice}
use Rattle.ledger.proofs.GroundLaws.{area, narrowed-default, again-same, usable-fine}
use Rattle.ledger.proofs.OfferLaws.{add_all-perm}
use Rattle.ledger.proofs.AgainLaws.{first_some, but-first-all, again-all, Fills, rest-fills, turn-none}
use Rattle.ledger.proofs.AskLaws.{entry?}
use Rattle.ledger.proofs.CallLaws.{well, number_for, gives_on, called, granted-is}
use Rattle.ledger.proofs.Demand3Holds.{told}

-- WHAT IS GRANTED, to those that get a lease again and to the rest

given-turn : (now : ℕ) (gs os : List (Option Lease)) → GivenAgain gs (map entry? (in_turn now gs os))
unfolding in_turn
given-turn now [] os = tt
given-turn now (some x ∷ gs) os = (refl, given-turn now gs os)
given-turn now (none ∷ gs) [] = given-turn now gs []
given-turn now (none ∷ gs) (o ∷ os) = given-turn now gs os

rest-turn : (now : ℕ) (gs os : List (Option Lease)) → Fills gs os → granted_to_rest gs (map entry? (in_turn now gs os)) ≡ map entry_of (cat_maybes os)
unfolding in_turn
rest-turn now [] [] f = refl
rest-turn now [] (o ∷ os) f = absurd f
rest-turn now (some x ∷ gs) os f = rest-turn now gs os f
rest-turn now (none ∷ gs) [] f = absurd f
rest-turn now (none ∷ gs) (none ∷ os) f = rest-turn now gs os f
rest-turn now (none ∷ gs) (some x ∷ os) f = ap (λ (l : List Entry). entry_of x ∷ l) (rest-turn now gs os f)

-- EACH ONCE: the leases left are others than the one that is given.

module _ (R : Lease → Lease → Type 0) (turn : (x y : Lease) → R x y → R y x) where
  others : (f : Lease → Bool) (xs : List Lease) → Pairwise R xs → Pairwise R (but_first f xs) × ((x : Lease) → first_that f xs ≡ some x → All (R x) (but_first f xs))
  others f [] a = (tt, (λ x e. tt))
  others f (y ∷ ys) a =
      ⊎_elim
      (λ (b : f y ≡ true).
      let rest : ys ≡ but_first f (y ∷ ys) = sym (cond-true (f y) ys (y ∷ but_first f ys) b) in (
        subst (Pairwise R) rest a.1,
        (λ x e. subst (All (R x)) rest (subst (λ (z : Lease). All (R z) ys) (some-injective y x (sym (cond-true (f y) (some y) (first_that f ys) b) ∙ e)) a.0)),
      ))
      (λ (b : f y ≡ false).
      let rest : y ∷ but_first f ys ≡ but_first f (y ∷ ys) = sym (cond-false (f y) ys (y ∷ but_first f ys) b) in
      let k = others f ys a.1 in (
        subst (Pairwise R) rest (but-first-all f (R y) ys a.0, k.0),
        (λ x e. let g : first_that f ys ≡ some x = sym (cond-false (f y) (some y) (first_that f ys) b) ∙ e in
            subst (All (R x)) rest (turn y x (first_some f (R y) ys x g a.0).1, k.1 x g)),
      ))
      (bool_cases (f y))

  once-step : (t : LeaseTable) (client : ℕ) (rs : List Request) (ks : List Lease) (g : Option Lease) → ((x : Lease) → g ≡ some x → All (R x) ks)
      → Pairwise R (cat_maybes (again t client ks rs)) → Pairwise R (cat_maybes (g ∷ again t client ks rs))
  once-step t client rs ks none a p = p
  once-step t client rs ks (some x) a p =
      (all_map (λ y (k : (held_by? client y ≡ true) × R x y). k.1) (cat_maybes (again t client ks rs)) (again-all t client (R x) rs ks (a x refl)), p)

  again-once : (t : LeaseTable) (client : ℕ) (rs : List Request) (xs : List Lease) → Pairwise R xs → Pairwise R (cat_maybes (again t client xs rs))
  unfolding again
  again-once t client [] xs a = tt
  again-once t client (r ∷ rs) xs a =
      let f : Lease → Bool = held_for? t client r in
      let k = others f xs a in
      once-step t client rs (but_first f xs) (first_that f xs) k.1 (again-once t client rs (but_first f xs) k.0)

pub apart-networks : (p q : Prefix) → Apart p q → p.network ≡ q.network → ⊥
apart-networks p q (inl h) e = omega (arith, size-positive p.length)
apart-networks p q (inr h) e = omega (arith, size-positive q.length)

-- Leases that ascend have networks of their own, and so have those of a sound table that are present.
ascending-differ : (xs : List Lease) → Ascending prefix_of 0 xs → Pairwise (λ x y. x.network ≡ y.network → ⊥) xs
ascending-differ xs a = pairwise_map (λ x y (a : Apart (prefix_of x) (prefix_of y)). apart-networks (prefix_of x) (prefix_of y) a) xs (ascending-apart prefix_of 0 xs a)

pub networks-differ : (t : LeaseTable) (now : ℕ) → sound t ≡ true → Pairwise (λ x y. x.network ≡ y.network → ⊥) (present now t.leases)
networks-differ t now so = ascending-differ (present now t.leases) (sound-fine t so now).1

-- THE CLAIMS

module _ (s : State) (now : ℕ) (c : Call) (e : well_formed now s c ≡ true) where
  abbrev t : LeaseTable
  t = s.table

  abbrev xs : List Lease
  xs = present now s.table.leases

  -- The table with the ground of the call, and the leases that it may be given again.
  abbrev own : LeaseTable
  own = narrowed s.table c

  abbrev us : List Lease
  us = usable_leases s.table c (present now s.table.leases)

  abbrev gs : List (Option Lease)
  gs = again (narrowed s.table c) c.client (usable_leases s.table c (present now s.table.leases)) (asks_of c)

  same : gs ≡ held_before now s.table c
  same = again-same own t (narrowed-default t c) c.client (asks_of c) us

  abbrev held : List Lease
  held = ask_held (narrowed s.table c) now c.client (usable_leases s.table c (present now s.table.leases)) (present now s.table.leases) (asks_of c)

  abbrev os : List (Option Lease)
  os = ask_offers (narrowed s.table c) now c.client (ask_name c) (usable_leases s.table c (present now s.table.leases)) (present now s.table.leases) (asks_of c)

  again-granted : GivenAgain (held_before now s.table c) (granted (λ u. u) ask now s c)
  again-granted = subst (λ (hs : List (Option Lease)). GivenAgain hs (granted (λ u. u) ask now s c)) same (subst (GivenAgain gs) (sym (granted-is now s c e)) (given-turn now gs os))

  each-once : Pairwise (λ x y. x.network ≡ y.network → ⊥) (cat_maybes (held_before now s.table c))
  each-once =
      again-once (λ x y. x.network ≡ y.network → ⊥) (λ x y k z. k (sym z)) t c.client (asks_of c) us
      (ascending-differ us (usable-fine t c (pools_of t) now 0 xs (sound-fine t (well now s c e).sound now)).1)

  -- What the rest is granted becomes the leases newly made.
  made : map (lease_for now c.client (ask_name c)) (granted_to_rest gs (granted (λ u. u) ask now s c)) ≡ cat_maybes os
  made =
      ap (λ (es : List (Option Entry)). map (lease_for now c.client (ask_name c)) (granted_to_rest gs es)) (granted-is now s c e)
      ∙ ap (map (lease_for now c.client (ask_name c))) (rest-turn now gs os (rest-fills own now c.client (ask_name c) us held (asks_of c)))
      ∙ told own (area t c (well now s c e).sound).good now c.client (ask_name c) (rest_of gs (asks_of c)) held

  left-gs : Permᴰ (present now (ask s now c).state.table.leases) (held ++ map (lease_for now c.client (ask_name c)) (granted_to_rest gs (granted (λ u. u) ask now s c)))
  left-gs =
      subst (λ (l : List Lease). Permᴰ l (held ++ map (lease_for now c.client (ask_name c)) (granted_to_rest gs (granted (λ u. u) ask now s c)))) (sym (called now s c e).left)
      (subst (λ (l : List Lease). Permᴰ (add_all os held) (held ++ l)) (sym made) (add_all-perm os held))

  left-leases : Permᴰ (present now (ask s now c).state.table.leases)
      (held_again now (cat_maybes (held_before now s.table c)) xs ++ map (lease_for now c.client (ask_name c)) (granted_to_rest (held_before now s.table c) (granted (λ u. u) ask now s c)))
  left-leases =
      subst (λ (hs : List (Option Lease)). Permᴰ (present now (ask s now c).state.table.leases)
      (held_again now (cat_maybes hs) xs ++ map (lease_for now c.client (ask_name c)) (granted_to_rest hs (granted (λ u. u) ask now s c)))) same left-gs

  -- If a lease is given again something is granted, so neither 9 nor 10 applies.
  number-zero : (cat_maybes (held_before now s.table c) ≡ [] → ⊥) → (ask s now c).answer.number ≡ 0
  number-zero k = (called now s c e).number ∙ zero (cat_maybes (gives_on now s c)) (λ z. k (ap cat_maybes (sym same) ∙ (turn-none now gs os (rest-fills own now c.client (ask_name c) us held (asks_of c)) z).0))
    where
      zero : (ys : List Lease) → (ys ≡ [] → ⊥) → number_for xs ys ≡ 0
      zero [] k = absurd (k refl)
      zero (y ∷ ys) k = refl

pub asks-twice : AsksTwice (λ s. s) ask
asks-twice = record { given = again-granted; once = each-once; left = left-leases; accepted = number-zero }
