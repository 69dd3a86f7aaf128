-- SERVED IN ORDER: each request served in its turn, on the leases that the one before left, gives what the ledger's ask gives and leaves what it leaves.
-- Assumes nothing.
use Prim.Native.Nat.{ℕ}
use mathlib.Core.Path.{◌≡◌, refl, sym, ap, ap₂, subst, ◌∙◌}
use mathlib.Core.Bool.{Bool, true, false, cond, ◌||◌}
use mathlib.Core.List.{List, [], ◌∷◌}
use mathlib.Core.Option.{Option, none, some}
use lib.Dec.{eqb}
use borrow.Author.Tests.{ne_eqb}
use Rattle.lists.specs.Lists.{All, any?, cat_maybes}
use Rattle.lists.proofs.Tests.{cond-false}
use Rattle.lists.proofs.ListLaws.{all_map, all-every, all-preimage}
use Rattle.lists.proofs.SortingLaws.{insert_by-image}
use Rattle.prefix.specs.declared.Prefix.{Prefix}
use Rattle.prefix.specs.Prefixes.{Apart}
use Rattle.free_space.specs.Serving.{Pools}
use Rattle.option.specs.Contents.{Request, requests_in}
use Rattle.names.specs.declared.Name.{Name}
use Rattle.table.specs.declared.{Lease.Lease, LeaseTable.LeaseTable}
use Rattle.table.specs.Table.{prefix_of, network_of, pools_of, present, sound}
use Rattle.ledger.specs.Ledger.{offer, add, offers, add_all, held_by?, held_for?, first_that, but_first, again, rest_of, hold_again, held_again, in_turn, Call, ask_name, narrowed, usable_leases}
use Rattle.ledger.specs.InOrder.{again_or, left_by, one_by_one, left_one_by_one, ServedInOrder}
use Rattle.ledger.proofs.GroundLaws.{area, usable-all}
use Rattle.ledger.proofs.OfferLaws.{prefixes, add-fewer, Offer, offer-is}
use Rattle.ledger.proofs.AgainLaws.{but-first-all, again-all, held, held_place, held-prefixes, held_none, gives, offer-prefixes, add-prefixes, offers-prefixes, rest-offers}
use Rattle.ledger.proofs.AsksTwiceHolds.{apart-networks}

-- LEASES GIVEN AGAIN one after another, and with a lease added

held-twice : (now : ℕ) (x : Lease) (zs xs : List Lease) → held_again now zs (held_again now (x ∷ []) xs) ≡ held_again now (x ∷ zs) xs
held-twice now x zs [] = refl
held-twice now x zs (y ∷ ys) = ap₂ (λ (z : Lease) (l : List Lease). z ∷ l) (one (eqb x.network y.network)) (held-twice now x zs ys)
  where
    same : (b : Bool) → cond b (hold_again now y) (hold_again now y) ≡ hold_again now y
    same true = refl
    same false = refl

    one : (b : Bool)
        → cond (any? (λ z. eqb z.network (cond (b || false) (hold_again now y) y).network) zs) (hold_again now (cond (b || false) (hold_again now y) y)) (cond (b || false) (hold_again now y) y)
        ≡ cond (b || any? (λ z. eqb z.network y.network) zs) (hold_again now y) y
    one true = same (any? (λ z. eqb z.network y.network) zs)
    one false = refl

none_of : (y : Lease) (zs : List Lease) → All (λ z. z.network ≡ y.network → ⊥) zs → any? (λ z. eqb z.network y.network) zs ≡ false
none_of y [] a = refl
none_of y (z ∷ zs) a = ap (λ (b : Bool). b || any? (λ w. eqb w.network y.network) zs) (ne_eqb z.network y.network a.0) ∙ none_of y zs a.1

held-add : (now : ℕ) (zs xs : List Lease) (y : Lease) → All (λ z. z.network ≡ y.network → ⊥) zs → held_again now zs (add (some y) xs) ≡ add (some y) (held_again now zs xs)
held-add now zs xs y a =
    insert_by-image (held now zs) network_of network_of y xs (ap (λ (p : Prefix). p.network) (held_place now zs y)) (all-every (λ z. ap (λ (p : Prefix). p.network) (held_place now zs z)) xs)
    ∙ ap (λ (z : Lease). add (some z) (held_again now zs xs)) (cond-false (any? (λ z. eqb z.network y.network) zs) (hold_again now y) y (none_of y zs a))

module _ (t : LeaseTable) (good : Pools (pools_of t)) (now client : ℕ) (name : Name) where
  -- WHAT EACH REQUEST GETS goes by prefixes alone.

  gives-step : (r : Request) (rs : List Request) (ks xs ys : List Lease) (g : Option Lease) → prefixes xs ≡ prefixes ys
      → ((zs ws : List Lease) → prefixes zs ≡ prefixes ws → one_by_one t now client name ks zs rs ≡ gives t now client name ks ws rs)
      → again_or now g (offer t now client name xs r) ∷ one_by_one t now client name ks (left_by now g (offer t now client name xs r) xs) rs
      ≡ in_turn now (g ∷ again t client ks rs) (offers t now client name ys (rest_of (g ∷ again t client ks rs) (r ∷ rs)))
  unfolding in_turn rest_of offers
  gives-step r rs ks xs ys (some x) e k = ap (λ (l : List (Option Lease)). some (hold_again now x) ∷ l) (k (held_again now (x ∷ []) xs) ys (held-prefixes now (x ∷ []) xs ∙ e))
  gives-step r rs ks xs ys none e k =
      let o : Option Lease = offer t now client name xs r in
      ap (λ (l : List (Option Lease)). o ∷ l) (k (add o xs) (add o ys) (add-prefixes t now client name o xs ys e))
      ∙ ap (λ (p : Option Lease). p ∷ gives t now client name ks (add p ys) rs) (offer-prefixes t now client name xs ys r e)

  gives_same : (rs : List Request) (hs xs ys : List Lease) → prefixes xs ≡ prefixes ys → one_by_one t now client name hs xs rs ≡ gives t now client name hs ys rs
  unfolding one_by_one again in_turn
  gives_same [] hs xs ys e = refl
  gives_same (r ∷ rs) hs xs ys e =
      let f : Lease → Bool = held_for? t client r in
      gives-step r rs (but_first f hs) xs ys (first_that f hs) e (λ zs ws q. gives_same rs (but_first f hs) zs ws q)

  -- WHAT IS LEFT. A lease that is to be given again has a prefix in use, so no lease newly made has its network.

  abbrev after : List Lease → List Lease → List Request → List Lease
  after hs xs rs = add_all (offers t now client name xs (rest_of (again t client hs rs) rs)) (held_again now (cat_maybes (again t client hs rs)) xs)

  added : (r : Request) (xs zs : List Lease) (o : Option Lease) → Offer t now client name xs r o → ((Q : Prefix → Type 0) → All Q (prefixes xs) → All (λ z. Q (prefix_of z)) zs)
      → held_again now zs (add o xs) ≡ add o (held_again now zs xs)
  added r xs zs none f k = refl
  added r xs zs (some y) f k =
      let other : (z : Lease) → Apart (prefix_of y) (prefix_of z) → z.network ≡ y.network → ⊥ = λ z a e. apart-networks (prefix_of y) (prefix_of z) a (sym e) in
      held-add now zs xs y (all_map other zs (k (Apart (prefix_of y)) f.free.unused))

  left_step : (r : Request) (rs : List Request) (ks xs : List Lease) (g : Option Lease) → ((Q : Prefix → Type 0) → All Q (prefixes xs) → All (λ h. Q (prefix_of h)) ks)
      → ((zs : List Lease) → ((Q : Prefix → Type 0) → All Q (prefixes zs) → All (λ h. Q (prefix_of h)) ks) → left_one_by_one t now client name ks zs rs ≡ after ks zs rs)
      → left_one_by_one t now client name ks (left_by now g (offer t now client name xs r) xs) rs
      ≡ add_all (offers t now client name xs (rest_of (g ∷ again t client ks rs) (r ∷ rs))) (held_again now (cat_maybes (g ∷ again t client ks rs)) xs)
  unfolding rest_of offers add_all
  left_step r rs ks xs (some x) c k =
      let ws : List Request = rest_of (again t client ks rs) rs in
      let same : prefixes (held_again now (x ∷ []) xs) ≡ prefixes xs = held-prefixes now (x ∷ []) xs in
      k (held_again now (x ∷ []) xs) (λ Q a. c Q (subst (All Q) same a))
      ∙ ap₂ add_all (offers-prefixes t now client name ws (held_again now (x ∷ []) xs) xs same) (held-twice now x (cat_maybes (again t client ks rs)) xs)
  left_step r rs ks xs none c k =
      let o : Option Lease = offer t now client name xs r in
      let gs : List (Option Lease) = again t client ks rs in
      k (add o xs) (λ Q a. c Q (add-fewer Q xs o a))
      ∙ ap (add_all (offers t now client name (add o xs) (rest_of gs rs)))
      (added r xs (cat_maybes gs) o (offer-is t now client name good xs r)
      (λ Q a. all_map (λ x (b : (held_by? client x ≡ true) × Q (prefix_of x)). b.1) (cat_maybes gs) (again-all t client (λ x. Q (prefix_of x)) rs ks (c Q a))))

  left-same : (rs : List Request) (hs xs : List Lease) → ((Q : Prefix → Type 0) → All Q (prefixes xs) → All (λ h. Q (prefix_of h)) hs) → left_one_by_one t now client name hs xs rs ≡ after hs xs rs
  unfolding left_one_by_one again rest_of offers add_all
  left-same [] hs xs c = sym (held_none now xs)
  left-same (r ∷ rs) hs xs c =
      let f : Lease → Bool = held_for? t client r in
      left_step r rs (but_first f hs) xs (first_that f hs) (λ Q a. but-first-all f (λ h. Q (prefix_of h)) hs (c Q a)) (λ zs d. left-same rs (but_first f hs) zs d)

pub served-in-order : (t : LeaseTable) → sound t ≡ true → (now : ℕ) (c : Call) → ServedInOrder t now c
served-in-order t so now c =
    let own : LeaseTable = narrowed t c in
    let good : Pools (pools_of own) = (area t c so).good in
    let client : ℕ = c.client in
    let name : Name = ask_name c in
    let rs : List Request = requests_in c.option in
    let xs : List Lease = present now t.leases in
    let us : List Lease = usable_leases t c xs in
    let zs : List Lease = cat_maybes (again own client us rs) in
    record {
      gives = gives_same own good now client name rs us xs (held_again now zs xs) (sym (held-prefixes now zs xs));
      leaves =
          left-same own good now client name rs us xs (λ Q a. usable-all t c (λ h. Q (prefix_of h)) xs (all-preimage prefix_of Q xs a))
          ∙ ap (λ (os : List (Option Lease)). add_all os (held_again now zs xs)) (sym (rest-offers own now client name us xs rs));
    }
