-- ONE PASS OVER THE LEASES gives each request the lease that it gets again: a lease more at the end goes to the first request that has none and that it is for.
-- And laws for the code's other passes: over the requests, one more of which gets its lease again or is one of the rest, and over what is given again, whose
-- ends are written anew.
-- Assumes nothing.
use Prim.Native.Nat.{ℕ, zero, suc, ◌<◌}
use mathlib.Core.Path.{◌≡◌, refl, sym, ap, ap₂, ◌∙◌}
use mathlib.Core.Logic.{⊎_elim}
use mathlib.Core.Bool.{Bool, true, false, cond, ◌||◌}
use mathlib.Core.List.{List, [], ◌∷◌, ◌++◌, append-nil}
use mathlib.Core.Option.{Option, none, some, some-ne-none}
use native.Mathlib.Omega.{arith}
use lib.ListN.{length, get_or, set}
use lib.Dec.{ltb, eqb}
use borrow.Author.Tests.{ltb-true, lt-ltb, eq-eqb, ne_eqb}
use Rattle.lists.specs.Lists.{All, Pairwise, any?, filter}
use Rattle.lists.proofs.Tests.{bool_cases, cond-true, cond-false, or_right}
use Rattle.lists.proofs.IndexLaws.{all-at}
use Rattle.lists.proofs.MapLaws.{any-more}
use Rattle.lists.proofs.FilterLaws.{filter-append, filter-yes, filter-no}
use Rattle.table.specs.declared.{Lease.Lease, LeaseTable.LeaseTable}
use Rattle.table.specs.Table.{no_lease, present}
use Rattle.option.specs.Contents.{Request}
use Rattle.ledger.specs.Ledger.{held_by?, held_for?, first_that, but_first, again, rest_of, hold_again, held_again, in_turn}
use Rattle.ledger.specs.InnerAgain.{give}
use Rattle.ledger.proofs.AgainLaws.{first-none, Fills, not-held, none_given, nothing-again}

-- THE FIRST THAT PASSES, with one more at the end

module _ (f : Lease → Bool) (x : Lease) where
  abbrev more : List Lease → List Lease
  more xs = xs ++ (x ∷ [])

  after-some : (xs : List Lease) (y : Lease) → first_that f xs ≡ some y → (first_that f (more xs) ≡ some y) × (but_first f (more xs) ≡ more (but_first f xs))
  after-some [] y e = absurd (some-ne-none y (sym e))
  after-some (z ∷ zs) y e =
      ⊎_elim
      (λ (b : f z ≡ true). (
        cond-true (f z) (some z) (first_that f (more zs)) b ∙ sym (cond-true (f z) (some z) (first_that f zs) b) ∙ e,
        cond-true (f z) (more zs) (z ∷ but_first f (more zs)) b ∙ ap more (sym (cond-true (f z) zs (z ∷ but_first f zs) b)),
      ))
      (λ (b : f z ≡ false).
      let k = after-some zs y (sym (cond-false (f z) (some z) (first_that f zs) b) ∙ e) in (
        cond-false (f z) (some z) (first_that f (more zs)) b ∙ k.0,
        cond-false (f z) (more zs) (z ∷ but_first f (more zs)) b ∙ ap (λ (l : List Lease). z ∷ l) k.1 ∙ ap more (sym (cond-false (f z) zs (z ∷ but_first f zs) b)),
      ))
      (bool_cases (f z))

  abbrev AfterNone : List Lease → Type 0
  AfterNone xs = (first_that f (more xs) ≡ cond (f x) (some x) none) × (but_first f (more xs) ≡ cond (f x) xs (more xs)) × (but_first f xs ≡ xs)

  after_none : (xs : List Lease) → All (λ y. f y ≡ false) xs → AfterNone xs
  after_none [] a = (refl, refl, refl)
  after_none (z ∷ zs) a =
      let k = after_none zs a.1 in (
        cond-false (f z) (some z) (first_that f (more zs)) a.0 ∙ k.0,
        cond-false (f z) (more zs) (z ∷ but_first f (more zs)) a.0 ∙ ap (λ (l : List Lease). z ∷ l) k.1 ∙ among (f x),
        cond-false (f z) zs (z ∷ but_first f zs) a.0 ∙ ap (λ (l : List Lease). z ∷ l) k.2,
      )
    where
      among : (b : Bool) → z ∷ cond b zs (more zs) ≡ cond b (z ∷ zs) (more (z ∷ zs))
      among true = refl
      among false = refl

-- ONE LEASE MORE

module _ (t : LeaseTable) (client : ℕ) (x : Lease) where
  give-step : (r : Request) (rs : List Request) (xs : List Lease) (g : Option Lease) → first_that (held_for? t client r) xs ≡ g
      → ((ys : List Lease) → again t client (ys ++ (x ∷ [])) rs ≡ give t client x rs (again t client ys rs))
      → first_that (held_for? t client r) (xs ++ (x ∷ [])) ∷ again t client (but_first (held_for? t client r) (xs ++ (x ∷ []))) rs
      ≡ give t client x (r ∷ rs) (g ∷ again t client (but_first (held_for? t client r) xs) rs)
  unfolding give
  give-step r rs xs (some y) e k =
      let f : Lease → Bool = held_for? t client r in
      let a = after-some f x xs y e in
      ap₂ (λ (g : Option Lease) (l : List Lease). g ∷ again t client l rs) a.0 a.1 ∙ ap (λ (l : List (Option Lease)). some y ∷ l) (k (but_first f xs))
  give-step r rs xs none e k =
      let f : Lease → Bool = held_for? t client r in
      let a = after_none f x xs (first-none f xs e) in
      ap₂ (λ (g : Option Lease) (l : List Lease). g ∷ again t client l rs) a.0 a.1
      ∙ given (f x)
      ∙ ap (λ (l : List Lease). cond (f x) (some x ∷ again t client l rs) (none ∷ give t client x rs (again t client l rs))) (sym a.2)
    where
      given : (b : Bool) → cond b (some x) none ∷ again t client (cond b xs (xs ++ (x ∷ []))) rs ≡ cond b (some x ∷ again t client xs rs) (none ∷ give t client x rs (again t client xs rs))
      given true = refl
      given false = ap (λ (l : List (Option Lease)). none ∷ l) (k xs)

  again-more : (rs : List Request) (xs : List Lease) → again t client (xs ++ (x ∷ [])) rs ≡ give t client x rs (again t client xs rs)
  unfolding again give
  again-more [] xs = refl
  again-more (r ∷ rs) xs = give-step r rs xs (first_that (held_for? t client r) xs) refl (λ ys. again-more rs ys)

  -- A lease that another client has, or that is leased, goes to no request.
  give-none : held_by? client x ≡ false → (rs : List Request) (gs : List (Option Lease)) → give t client x rs gs ≡ gs
  unfolding give
  give-none e [] gs = refl
  give-none e (r ∷ rs) [] = refl
  give-none e (r ∷ rs) (some y ∷ gs) = ap (λ (l : List (Option Lease)). some y ∷ l) (give-none e rs gs)
  give-none e (r ∷ rs) (none ∷ gs) =
      cond-false (held_for? t client r x) (some x ∷ gs) (none ∷ give t client x rs gs) (not-held t client r x e) ∙ ap (λ (l : List (Option Lease)). none ∷ l) (give-none e rs gs)

-- What giving a lease does at a request: one that has a lease keeps it, and otherwise the lease is for it or not.
module _ (t : LeaseTable) (client : ℕ) (x : Lease) (r : Request) (rs : List Request) where
  pub give-past : (y : Lease) (gs : List (Option Lease)) → give t client x (r ∷ rs) (some y ∷ gs) ≡ some y ∷ give t client x rs gs
  unfolding give
  give-past y gs = refl

  pub give-here : (gs : List (Option Lease)) → held_for? t client r x ≡ true → give t client x (r ∷ rs) (none ∷ gs) ≡ some x ∷ gs
  unfolding give
  give-here gs e = cond-true (held_for? t client r x) (some x ∷ gs) (none ∷ give t client x rs gs) e

  pub give-later : (gs : List (Option Lease)) → held_for? t client r x ≡ false → give t client x (r ∷ rs) (none ∷ gs) ≡ none ∷ give t client x rs gs
  unfolding give
  give-later gs e = cond-false (held_for? t client r x) (some x ∷ gs) (none ∷ give t client x rs gs) e

-- THE PASS over the leases of a table, ended ones among them: none is given at first; one that is present goes to the first request that has none and that it is for;
-- one that has ended, that another client has or that is leased is passed over.

pub pass-starts : (t : LeaseTable) (now client : ℕ) (rs : List Request) → again t client (present now []) rs ≡ none_given rs
unfolding present
pass-starts t now client rs = nothing-again t client rs [] tt

module _ (t : LeaseTable) (now client : ℕ) (xs : List Lease) (x : Lease) (rs : List Request) where
  abbrev here? : Lease → Bool
  here? y = ltb now y.expires

  -- Those present, of one more lease.
  present-more : present now (xs ++ (x ∷ [])) ≡ present now xs ++ filter here? (x ∷ [])
  unfolding present
  present-more = filter-append here? xs (x ∷ [])

  pub pass-gives : now < x.expires → again t client (present now (xs ++ (x ∷ []))) rs ≡ give t client x rs (again t client (present now xs) rs)
  pass-gives l =
      ap (λ (ys : List Lease). again t client ys rs) (present-more ∙ ap (λ (ys : List Lease). present now xs ++ ys) (filter-yes here? x [] (lt-ltb now x.expires l)))
      ∙ again-more t client x rs (present now xs)

  pub pass-skips : (now < x.expires → held_by? client x ≡ false) → again t client (present now (xs ++ (x ∷ []))) rs ≡ again t client (present now xs) rs
  pass-skips k =
      ⊎_elim
      (λ (b : here? x ≡ true). let l : now < x.expires = ltb-true now x.expires b in pass-gives l ∙ give-none t client x (k l) rs (again t client (present now xs) rs))
      (λ (b : here? x ≡ false).
      ap (λ (ys : List Lease). again t client ys rs) (present-more ∙ ap (λ (ys : List Lease). present now xs ++ ys) (filter-no here? x [] b) ∙ append-nil (present now xs)))
      (bool_cases (here? x))

-- REQUEST BY REQUEST: one more at the end gets its lease again, or is one of the rest and gets what that is offered.

rest_more : (gs : List (Option Lease)) (rs : List Request) (g : Option Lease) (r : Request) → length gs ≡ length rs
    → rest_of (gs ++ (g ∷ [])) (rs ++ (r ∷ [])) ≡ rest_of gs rs ++ rest_of (g ∷ []) (r ∷ [])
unfolding rest_of
rest_more [] [] g r l = refl
rest_more [] (q ∷ rs) g r l = absurd (omega arith)
rest_more (h ∷ gs) [] g r l = absurd (omega arith)
rest_more (none ∷ gs) (q ∷ rs) g r l = ap (λ (ws : List Request). q ∷ ws) (rest_more gs rs g r (omega arith))
rest_more (some x ∷ gs) (q ∷ rs) g r l = rest_more gs rs g r (omega arith)

module _ (gs : List (Option Lease)) (rs : List Request) (r : Request) (l : length gs ≡ length rs) where
  pub rest-again : (x : Lease) → rest_of (gs ++ (some x ∷ [])) (rs ++ (r ∷ [])) ≡ rest_of gs rs
  unfolding rest_of
  rest-again x = rest_more gs rs (some x) r l ∙ append-nil (rest_of gs rs)

  pub rest-next : rest_of (gs ++ (none ∷ [])) (rs ++ (r ∷ [])) ≡ rest_of gs rs ++ (r ∷ [])
  unfolding rest_of
  rest-next = rest_more gs rs none r l

module _ (now : ℕ) where
  pub turn-again : (gs os : List (Option Lease)) (x : Lease) → Fills gs os → in_turn now (gs ++ (some x ∷ [])) os ≡ in_turn now gs os ++ (some (hold_again now x) ∷ [])
  unfolding in_turn
  turn-again [] [] x f = refl
  turn-again [] (o ∷ os) x f = absurd f
  turn-again (some y ∷ gs) os x f = ap (λ (l : List (Option Lease)). some (hold_again now y) ∷ l) (turn-again gs os x f)
  turn-again (none ∷ gs) [] x f = absurd f
  turn-again (none ∷ gs) (o ∷ os) x f = ap (λ (l : List (Option Lease)). o ∷ l) (turn-again gs os x f)

  pub turn-next : (gs os : List (Option Lease)) (o : Option Lease) → Fills gs os → in_turn now (gs ++ (none ∷ [])) (os ++ (o ∷ [])) ≡ in_turn now gs os ++ (o ∷ [])
  unfolding in_turn
  turn-next [] [] o f = refl
  turn-next [] (p ∷ os) o f = absurd f
  turn-next (some y ∷ gs) os o f = ap (λ (l : List (Option Lease)). some (hold_again now y) ∷ l) (turn-next gs os o f)
  turn-next (none ∷ gs) [] o f = absurd f
  turn-next (none ∷ gs) (p ∷ os) o f = ap (λ (l : List (Option Lease)). p ∷ l) (turn-next gs os o f)

-- ENDS WRITTEN ANEW, one after another: the lease at a place is given again, and no other has its network.

module _ (now : ℕ) (given : List Lease) where
  abbrev with : Lease → List Lease
  with x = given ++ (x ∷ [])

  abbrev same? : Lease → Lease → Bool
  same? x y = eqb y.network x.network

  unlike : (x y : Lease) → (x.network ≡ y.network → ⊥) → any? (same? y) (with x) ≡ any? (same? y) given
  unlike x y k = any-more (same? y) given x ∙ ap (λ (b : Bool). any? (same? y) given || b) (ne_eqb x.network y.network k) ∙ or-none (any? (same? y) given)
    where
      or-none : (b : Bool) → (b || false) ≡ b
      or-none true = refl
      or-none false = refl

  others-stay : (x : Lease) (ys : List Lease) → All (λ y. x.network ≡ y.network → ⊥) ys → held_again now (with x) ys ≡ held_again now given ys
  others-stay x [] a = refl
  others-stay x (y ∷ ys) a = ap₂ (λ (b : Bool) (l : List Lease). cond b (hold_again now y) y ∷ l) (unlike x y a.0) (others-stay x ys a.1)

  pub held-store : (xs : List Lease) (p : ℕ) → Pairwise (λ x y. x.network ≡ y.network → ⊥) xs → p < length xs
      → held_again now (given ++ (get_or xs p no_lease ∷ [])) xs ≡ set (held_again now given xs) p (hold_again now (get_or xs p no_lease))
  held-store [] p a l = absurd (omega arith)
  held-store (y ∷ ys) zero a l =
      ap₂ (λ (z : Lease) (zs : List Lease). z ∷ zs)
      (cond-true (any? (same? y) (with y)) (hold_again now y) y (any-more (same? y) given y ∙ or_right (any? (same? y) given) (same? y y) (eq-eqb y.network y.network refl)))
      (others-stay y ys a.0)
  held-store (y ∷ ys) (suc p) a l =
      let x : Lease = get_or ys p no_lease in
      ap₂ (λ (b : Bool) (zs : List Lease). cond b (hold_again now y) y ∷ zs)
      (unlike x y (λ e. all-at (λ z. y.network ≡ z.network → ⊥) ys a.0 p no_lease (omega arith) (sym e)))
      (held-store ys p a.1 (omega arith))
