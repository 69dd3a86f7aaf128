-- Laws of what an ask gives again: which lease each request gets, what is left to the rest, and that a lease given again takes neither ground nor a slot.
-- Assumes nothing.
use Prim.Native.Nat.{ℕ, suc, ◌+◌}
use mathlib.Core.Path.{◌≡◌, refl, sym, ap, ap₂, subst, ◌∙◌}
use mathlib.Core.Logic.{inl, inr, ⊎_elim}
use mathlib.Core.Bool.{Bool, true, false, cond, ◌&&◌}
use mathlib.Core.List.{List, [], ◌∷◌, map, nil≢cons}
use mathlib.Core.Option.{Option, none, some, some-ne-none, some-injective}
use native.Mathlib.Omega.{arith}
use lib.ListN.{length, length-map}
use lib.Dec.{leb, eqb}
use borrow.Author.Tests.{eq-eqb}
use Rattle.lists.specs.Lists.{All, Any, Pairwise, any?, cat_maybes, insert_by}
use Rattle.lists.proofs.Tests.{bool_cases, cond-true, cond-false, and-to, any?-of}
use Rattle.lists.proofs.ListLaws.{all_map, all-image, all-every}
use Rattle.lists.proofs.SortingLaws.{insert_by-image}
use Rattle.prefix.specs.declared.Prefix.{Prefix}
use Rattle.free_space.specs.Grant.{grant}
use Rattle.names.specs.declared.Name.{Name}
use Rattle.table.specs.declared.Lease.{Lease}
use Rattle.table.specs.declared.LeaseTable.{LeaseTable}
use Rattle.table.specs.Table.{lease_slots, prefix_of, network_of, pools_of, insert}
use Rattle.table.proofs.TableLaws.{Good, Fine, fine-map}
use Rattle.option.specs.Contents.{Request}
use Rattle.ledger.specs.Ledger.{asked_length, offered, offer, add, offers, add_all, held_by?, held_for?, first_that, but_first, again, rest_of, hold_again, held_again, in_turn, ask_held, ask_offers, ask_gives, ask_leases}
use Rattle.ledger.proofs.OfferLaws.{prefixes, offers-length}

-- THE FIRST THAT PASSES A TEST, AND THE OTHERS

module _ (f : Lease → Bool) where
  pub first-none : (xs : List Lease) → first_that f xs ≡ none → All (λ x. f x ≡ false) xs
  first-none [] e = tt
  first-none (x ∷ xs) e =
      ⊎_elim
      (λ (b : f x ≡ true). absurd (some-ne-none x (sym (cond-true (f x) (some x) (first_that f xs) b) ∙ e)))
      (λ (b : f x ≡ false). (b, first-none xs (sym (cond-false (f x) (some x) (first_that f xs) b) ∙ e)))
      (bool_cases (f x))

  pub none_first : (xs : List Lease) → All (λ x. f x ≡ false) xs → first_that f xs ≡ none
  none_first [] a = refl
  none_first (x ∷ xs) a = cond-false (f x) (some x) (first_that f xs) a.0 ∙ none_first xs a.1

  pub first_some : (P : Lease → Type 0) (xs : List Lease) (x : Lease) → first_that f xs ≡ some x → All P xs → (f x ≡ true) × P x
  first_some P [] x e a = absurd (some-ne-none x (sym e))
  first_some P (y ∷ ys) x e a =
      ⊎_elim
      (λ (b : f y ≡ true).
      let q : y ≡ x = some-injective y x (sym (cond-true (f y) (some y) (first_that f ys) b) ∙ e) in
      (subst (λ (z : Lease). f z ≡ true) q b, subst P q a.0))
      (λ (b : f y ≡ false). first_some P ys x (sym (cond-false (f y) (some y) (first_that f ys) b) ∙ e) a.1)
      (bool_cases (f y))

  pub but-first-all : (P : Lease → Type 0) (xs : List Lease) → All P xs → All P (but_first f xs)
  but-first-all P [] a = tt
  but-first-all P (x ∷ xs) a =
      ⊎_elim
      (λ (b : f x ≡ true). subst (All P) (sym (cond-true (f x) xs (x ∷ but_first f xs) b)) a.1)
      (λ (b : f x ≡ false). subst (All P) (sym (cond-false (f x) xs (x ∷ but_first f xs) b)) (a.0, but-first-all P xs a.1))
      (bool_cases (f x))

-- WHAT IS GIVEN AGAIN

module _ (t : LeaseTable) (client : ℕ) where
  pub again-length : (rs : List Request) (xs : List Lease) → length (again t client xs rs) ≡ length rs
  unfolding again
  again-length [] xs = refl
  again-length (r ∷ rs) xs = ap suc (again-length rs (but_first (held_for? t client r) xs))

  -- Each is one of the leases, and the client held it.
  given-step : (P : Lease → Type 0) (r : Request) (xs : List Lease) (g : Option Lease) (gs : List (Option Lease)) → first_that (held_for? t client r) xs ≡ g → All P xs
      → All (λ x. (held_by? client x ≡ true) × P x) (cat_maybes gs) → All (λ x. (held_by? client x ≡ true) × P x) (cat_maybes (g ∷ gs))
  given-step P r xs none gs e a k = k
  given-step P r xs (some x) gs e a k =
      let f = first_some (held_for? t client r) P xs x e a in
      (((and-to (held_by? client x) _ f.0).0, f.1), k)

  pub again-all : (P : Lease → Type 0) (rs : List Request) (xs : List Lease) → All P xs → All (λ x. (held_by? client x ≡ true) × P x) (cat_maybes (again t client xs rs))
  unfolding again
  again-all P [] xs a = tt
  again-all P (r ∷ rs) xs a =
      let f : Lease → Bool = held_for? t client r in
      given-step P r xs (first_that f xs) (again t client (but_first f xs) rs) refl a (again-all P rs (but_first f xs) (but-first-all f P xs a))

-- A lease given again, held anew: its place stays, and it stays good.

pub hold-good : (pools : List Prefix) (now : ℕ) (x : Lease) → Good pools now x → Good pools now (hold_again now x)
hold-good pools now x g = record { short = g.short; long = g.long; aligned = g.aligned; client = g.client; later = omega arith; pooled = g.pooled }

module _ (now : ℕ) (given : List Lease) where
  abbrev given? : Lease → Bool
  given? x = any? (λ y. eqb y.network x.network) given

  abbrev pub held : Lease → Lease
  held x = cond (given? x) (hold_again now x) x

  either : (P : Lease → Type 0) (x : Lease) (b : Bool) → P (hold_again now x) → P x → P (cond b (hold_again now x) x)
  either P x true p q = p
  either P x false p q = q

  pub held_place : (x : Lease) → prefix_of (held x) ≡ prefix_of x
  held_place x = either (λ y. prefix_of y ≡ prefix_of x) x (given? x) refl refl

  -- What does not look at an end sees no difference.
  pub held-image : {B : Type 0} (f : Lease → B) → ((x : Lease) → f (hold_again now x) ≡ f x) → (xs : List Lease) → map f (held_again now given xs) ≡ map f xs
  held-image {B} f k [] = refl
  held-image {B} f k (x ∷ xs) = ap₂ (λ (y : B) (ys : List B). y ∷ ys) (either (λ y. f y ≡ f x) x (given? x) (k x) refl) (held-image f k xs)

  pub held-prefixes : (xs : List Lease) → prefixes (held_again now given xs) ≡ prefixes xs
  held-prefixes xs = held-image prefix_of (λ x. refl) xs

  pub held-length : (xs : List Lease) → length (held_again now given xs) ≡ length xs
  held-length xs = length-map xs held

  pub held_all : (P : Lease → Type 0) → ((x : Lease) → P x → P (hold_again now x)) → (xs : List Lease) → All P xs → All P (held_again now given xs)
  held_all P k [] a = tt
  held_all P k (x ∷ xs) a = (either P x (given? x) (k x a.0) a.0, held_all P k xs a.1)

  -- Nor does what holds between their networks.
  pub held-pairwise : (R : ℕ → ℕ → Type 0) (xs : List Lease) → Pairwise (λ x y. R x.network y.network) xs → Pairwise (λ x y. R x.network y.network) (held_again now given xs)
  held-pairwise R [] a = tt
  held-pairwise R (x ∷ xs) a =
      let same : (y : Lease) → y.network ≡ (held y).network = λ y. sym (ap (λ (p : Prefix). p.network) (held_place y)) in (
        all-image held (λ y. R (held x).network y.network) xs
            (all_map (λ y (k : R x.network y.network). subst (λ (n : ℕ). R (held x).network n) (same y) (subst (λ (n : ℕ). R n y.network) (same x) k)) xs a.0),
        held-pairwise R xs a.1,
      )

  pub held-fine : (pools : List Prefix) (xs : List Lease) → Fine pools now 0 xs → Fine pools now 0 (held_again now given xs)
  held-fine pools xs f = fine-map pools now 0 held held_place (λ x g. either (Good pools now) x (given? x) (hold-good pools now x g) g) xs f

  -- One that is given stands among the leases, held anew.
  pub held-there : (x : Lease) (xs : List Lease) → Any (λ y. y ≡ x) given → Any (λ y. y ≡ x) xs → Any (λ y. y ≡ hold_again now x) (held_again now given xs)
  held-there x xs g a =
      let is : given? x ≡ true = any?-of (λ y. eqb y.network x.network) (λ y (e : y ≡ x). eq-eqb y.network x.network (ap (λ (z : Lease). z.network) e)) given g in
      there xs a is
    where
      there : (ys : List Lease) → Any (λ y. y ≡ x) ys → given? x ≡ true → Any (λ y. y ≡ hold_again now x) (held_again now given ys)
      there [] a is = absurd a
      there (y ∷ ys) (inl e) is = inl (ap held e ∙ cond-true (given? x) (hold_again now x) x is)
      there (y ∷ ys) (inr a) is = inr (there ys a is)

pub held_none : (now : ℕ) (xs : List Lease) → held_again now [] xs ≡ xs
held_none now [] = refl
held_none now (x ∷ xs) = ap (λ (l : List Lease). x ∷ l) (held_none now xs)

-- WHAT EACH REQUEST GETS

-- As many offers as there are requests without a lease.
abbrev pub Fills : List (Option Lease) → List (Option Lease) → Type 0
Fills [] [] = Unit {0}
Fills [] (o ∷ os) = ⊥
Fills (some x ∷ gs) os = Fills gs os
Fills (none ∷ gs) [] = ⊥
Fills (none ∷ gs) (o ∷ os) = Fills gs os

fills : (gs : List (Option Lease)) (rs : List Request) (os : List (Option Lease)) → length gs ≡ length rs → length os ≡ length (rest_of gs rs) → Fills gs os
unfolding rest_of
fills [] [] [] a b = tt
fills [] [] (o ∷ os) a b = absurd (omega arith)
fills [] (r ∷ rs) os a b = absurd (omega arith)
fills (g ∷ gs) [] os a b = absurd (omega arith)
fills (some x ∷ gs) (r ∷ rs) os a b = fills gs rs os (omega arith) b
fills (none ∷ gs) (r ∷ rs) [] a b = absurd (omega arith)
fills (none ∷ gs) (r ∷ rs) (o ∷ os) a b = fills gs rs os (omega arith) (omega arith)

-- What holds of all requests holds of the rest.
pub rest_all : (P : Request → Type 0) (gs : List (Option Lease)) (rs : List Request) → All P rs → All P (rest_of gs rs)
unfolding rest_of
rest_all P gs [] a = tt
rest_all P [] (r ∷ rs) a = a
rest_all P (none ∷ gs) (r ∷ rs) a = (a.0, rest_all P gs rs a.1)
rest_all P (some x ∷ gs) (r ∷ rs) a = rest_all P gs rs a.1

-- What the requests rs get, where the leases hs may be given again and the leases ys are present: `askGives` with hs as they stood before the message and ys as
-- they are once those are held anew.
abbrev pub gives : LeaseTable → ℕ → ℕ → Name → List Lease → List Lease → List Request → List (Option Lease)
gives t now client name hs ys rs = in_turn now (again t client hs rs) (offers t now client name ys (rest_of (again t client hs rs) rs))

pub rest-fills : (t : LeaseTable) (now client : ℕ) (name : Name) (hs ys : List Lease) (rs : List Request) → Fills (again t client hs rs) (offers t now client name ys (rest_of (again t client hs rs) rs))
rest-fills t now client name hs ys rs =
    fills (again t client hs rs) rs (offers t now client name ys (rest_of (again t client hs rs) rs)) (again-length t client rs hs) (offers-length t now client name (rest_of (again t client hs rs) rs) ys)

module _ (now : ℕ) where
  pub turn-length : (gs os : List (Option Lease)) → length (in_turn now gs os) ≡ length gs
  unfolding in_turn
  turn-length [] os = refl
  turn-length (some x ∷ gs) os = ap suc (turn-length gs os)
  turn-length (none ∷ gs) [] = ap suc (turn-length gs [])
  turn-length (none ∷ gs) (o ∷ os) = ap suc (turn-length gs os)

  first-all : (P : Lease → Type 0) (o : Option Lease) (os qs : List (Option Lease)) → All P (cat_maybes (o ∷ os)) → (All P (cat_maybes os) → All P (cat_maybes qs)) → All P (cat_maybes (o ∷ qs))
  first-all P none os qs a k = k a
  first-all P (some x) os qs a k = (a.0, k a.1)

  pub turn-all : (P : Lease → Type 0) (gs os : List (Option Lease)) → All (λ x. P (hold_again now x)) (cat_maybes gs) → All P (cat_maybes os) → All P (cat_maybes (in_turn now gs os))
  unfolding in_turn
  turn-all P [] os a b = tt
  turn-all P (some x ∷ gs) os a b = (a.0, turn-all P gs os a.1 b)
  turn-all P (none ∷ gs) [] a b = turn-all P gs [] a b
  turn-all P (none ∷ gs) (o ∷ os) a b = first-all P o os (in_turn now gs os) b (turn-all P gs os a)

  -- If no request gets anything, none gets a lease again and none of the rest is offered one.
  pub turn-none : (gs os : List (Option Lease)) → Fills gs os → cat_maybes (in_turn now gs os) ≡ [] → (cat_maybes gs ≡ []) × (cat_maybes os ≡ [])
  unfolding in_turn
  turn-none [] [] f e = (refl, refl)
  turn-none [] (o ∷ os) f e = absurd f
  turn-none (some x ∷ gs) os f e = absurd (nil≢cons (sym e))
  turn-none (none ∷ gs) [] f e = absurd f
  turn-none (none ∷ gs) (none ∷ os) f e = turn-none gs os f e
  turn-none (none ∷ gs) (some x ∷ os) f e = absurd (nil≢cons (sym e))

  -- How many get something.
  pub turn-count : (gs os : List (Option Lease)) → Fills gs os → length (cat_maybes (in_turn now gs os)) ≡ length (cat_maybes gs) + length (cat_maybes os)
  unfolding in_turn
  turn-count [] [] f = refl
  turn-count [] (o ∷ os) f = absurd f
  turn-count (some x ∷ gs) os f = omega (arith, turn-count gs os f)
  turn-count (none ∷ gs) [] f = absurd f
  turn-count (none ∷ gs) (none ∷ os) f = turn-count gs os f
  turn-count (none ∷ gs) (some x ∷ os) f = omega (arith, turn-count gs os f)

-- A CLIENT THAT HOLDS NOTHING is given nothing again: all its requests are the rest.

abbrev pub none_given : List Request → List (Option Lease)
none_given rs = map (λ r. none) rs

no-lease : (rs : List Request) → cat_maybes (none_given rs) ≡ []
no-lease [] = refl
no-lease (r ∷ rs) = no-lease rs

all_rest : (rs : List Request) → rest_of (none_given rs) rs ≡ rs
unfolding rest_of
all_rest [] = refl
all_rest (r ∷ rs) = ap (λ (l : List Request). r ∷ l) (all_rest rs)

all-offered : (now : ℕ) (rs : List Request) (os : List (Option Lease)) → length os ≡ length rs → in_turn now (none_given rs) os ≡ os
unfolding in_turn
all-offered now [] [] l = refl
all-offered now [] (o ∷ os) l = absurd (omega arith)
all-offered now (r ∷ rs) [] l = absurd (omega arith)
all-offered now (r ∷ rs) (o ∷ os) l = ap (λ (l : List (Option Lease)). o ∷ l) (all-offered now rs os (omega arith))

module _ (t : LeaseTable) (client : ℕ) where
  pub not-held : (r : Request) (x : Lease) → held_by? client x ≡ false → held_for? t client r x ≡ false
  not-held r x e = first-fails (held_by? client x) _ e
    where
      first-fails : (a b : Bool) → a ≡ false → (a && b) ≡ false
      first-fails a b e = rw e

  pub nothing-again : (rs : List Request) (xs : List Lease) → All (λ x. held_by? client x ≡ false) xs → again t client xs rs ≡ none_given rs
  unfolding again
  nothing-again [] xs a = refl
  nothing-again (r ∷ rs) xs a =
      let f : Lease → Bool = held_for? t client r in
      ap₂ (λ (g : Option Lease) (l : List (Option Lease)). g ∷ l) (none_first f xs (all_map (λ x (e : held_by? client x ≡ false). not-held r x e) xs a))
      (nothing-again rs (but_first f xs) (but-first-all f (λ x. held_by? client x ≡ false) xs a))

  module _ (name : Name) (now : ℕ) (hs xs : List Lease) (rs : List Request) (a : All (λ x. held_by? client x ≡ false) hs) where
    nothing-held : ask_held t now client hs xs rs ≡ xs
    nothing-held = ap (λ (gs : List (Option Lease)). held_again now (cat_maybes gs) xs) (nothing-again rs hs a) ∙ ap (λ (ys : List Lease). held_again now ys xs) (no-lease rs) ∙ held_none now xs

    nothing-offers : ask_offers t now client name hs xs rs ≡ offers t now client name xs rs
    nothing-offers =
        ap₂ (λ (ys : List Lease) (gs : List (Option Lease)). offers t now client name ys (rest_of gs rs)) nothing-held (nothing-again rs hs a) ∙ ap (offers t now client name xs) (all_rest rs)

    pub nothing-gives : ask_gives t now client name hs xs rs ≡ offers t now client name xs rs
    nothing-gives =
        ap₂ (in_turn now) (nothing-again rs hs a) nothing-offers ∙ all-offered now rs (offers t now client name xs rs) (offers-length t now client name rs xs)

    pub nothing-leases : ask_leases t now client name hs xs rs ≡ add_all (offers t now client name xs rs) xs
    nothing-leases = ap₂ add_all nothing-offers nothing-held

-- THE REST is offered what it would be offered on the leases as they stood: offers go by prefixes, and those stay.

module _ (t : LeaseTable) (now client : ℕ) (name : Name) where
  pub offer-prefixes : (xs ys : List Lease) (r : Request) → prefixes xs ≡ prefixes ys → offer t now client name xs r ≡ offer t now client name ys r
  unfolding offer
  offer-prefixes xs ys r e =
      ap₂ (λ (n : ℕ) (ps : List Prefix). cond (leb lease_slots n) none (offered now client name r.h (grant (pools_of t) ps (asked_length t r))))
      (sym (length-map xs prefix_of) ∙ ap length e ∙ length-map ys prefix_of) e

  pub add-prefixes : (o : Option Lease) (xs ys : List Lease) → prefixes xs ≡ prefixes ys → prefixes (add o xs) ≡ prefixes (add o ys)
  add-prefixes none xs ys e = e
  add-prefixes (some x) xs ys e = image xs ∙ ap (insert_by (λ (p : Prefix). p.network) (prefix_of x)) e ∙ sym (image ys)
    where
      image : (zs : List Lease) → prefixes (insert x zs) ≡ insert_by (λ (p : Prefix). p.network) (prefix_of x) (prefixes zs)
      image zs = insert_by-image prefix_of network_of (λ (p : Prefix). p.network) x zs refl (all-every (λ z. refl) zs)

  pub offers-prefixes : (rs : List Request) (xs ys : List Lease) → prefixes xs ≡ prefixes ys → offers t now client name xs rs ≡ offers t now client name ys rs
  unfolding offers
  offers-prefixes [] xs ys e = refl
  offers-prefixes (r ∷ rs) xs ys e =
      let o : Option Lease = offer t now client name xs r in
      let same : o ≡ offer t now client name ys r = offer-prefixes xs ys r e in
      ap (λ (l : List (Option Lease)). o ∷ l) (offers-prefixes rs (add o xs) (add o ys) (add-prefixes o xs ys e))
      ∙ ap (λ (p : Option Lease). p ∷ offers t now client name (add p ys) rs) same

  pub rest-offers : (hs xs : List Lease) (rs : List Request) → ask_offers t now client name hs xs rs ≡ offers t now client name xs (rest_of (again t client hs rs) rs)
  rest-offers hs xs rs = offers-prefixes (rest_of (again t client hs rs) rs) (ask_held t now client hs xs rs) xs (held-prefixes now (cat_maybes (again t client hs rs)) xs)
