-- One ask call: what a reader of its reply and of the table after it finds is what was given again and what was offered.
-- Assumes nothing.
use Prim.Native.Nat.{ℕ, ◌+◌, ◌≤◌}
use mathlib.Core.Path.{◌≡◌, refl, sym, ap, ap₂, subst, ◌∙◌}
use mathlib.Core.Logic.{◌⊎◌, inl, inr}
use mathlib.Core.Bool.{Bool, true, false, not, ◌&&◌, beq}
use mathlib.Core.List.{List, [], ◌∷◌, ◌++◌, map}
use mathlib.Core.Option.{Option, none, some}
use native.Mathlib.Omega.{arith}
use lib.ListN.{length, replicate}
use lib.Dec.{eqb}
use borrow.Author.Tests.{eq-eqb, ne_eqb}
use Rattle.lists.specs.Lists.{All, Any, any?, cat_maybes}
use Rattle.lists.proofs.Tests.{cond-true, cond-false, and-to, and-list-to, and-list-of, not-of, any?-of}
use Rattle.lists.proofs.ListLaws.{all_map, all-map₂, all-image, all-preimage, all-every, all-member, any-map, any_left}
use Rattle.lists.proofs.Permutations.{perm-all, perm-any, perm-length}
use Rattle.prefix.specs.Prefixes.{prefix, Apart}
use Rattle.free_space.specs.Space.{Free}
use Rattle.free_space.specs.Serving.{Pools}
use Rattle.free_space.proofs.ListTheorem.{refused⇔none-free}
use Rattle.option.specs.Values.{Entry}
use Rattle.names.specs.declared.Name.{Name}
use Rattle.table.specs.declared.Lease.{Lease}
use Rattle.table.specs.declared.LeaseTable.{LeaseTable}
use Rattle.table.specs.Table.{lease_slots, prefix_of, no_lease, pools_of, insert}
use Rattle.option.specs.Contents.{Request}
use Rattle.option_reply.specs.Reply.{entry_of}
use Rattle.ledger.specs.Ledger.{hold_time, asked_length, offer, add, offers, add_all, held_by?, held_for?, first_that, but_first, again, rest_of, hold_again, in_turn, ask_held, ask_offers, ask_gives, ask_leases}
use Rattle.ledger.specs.Demand3.{answers?, pair_off, is_held?, confirmed}
use Rattle.ledger.proofs.OfferLaws.{prefixes, insert-perm, Offered, Offer, offer-is}
use Rattle.ledger.proofs.AgainLaws.{first-none, first_some, but-first-all, again-all, held-there, gives, turn-all}
use mathlib.Core.List.Permᴰ

abbrev pub entry? : Option Lease → Option Entry
entry? none = none
entry? (some x) = some (entry_of x)

-- PAIRING

-- Leases for which an ask of this length finds nothing.
abbrev Dead : LeaseTable → List Lease → ℕ → Type 0
Dead t xs len = (lease_slots ≤ length xs) ⊎ ((network : ℕ) → Free (pools_of t) (prefixes xs) (prefix network len) → ⊥)

dead-insert : (t : LeaseTable) (x : Lease) (xs : List Lease) (len : ℕ) → Dead t xs len → Dead t (insert x xs) len
dead-insert t x xs len (inl l) = inl (omega (arith, perm-length (insert-perm x xs)))
dead-insert t x xs len (inr f) = inr (λ network a. f network (record {
  aligned = a.aligned;
  pooled = a.pooled;
  unused = all-image prefix_of (Apart (prefix network len)) xs
      (perm-all (λ y. Apart (prefix network len) (prefix_of y)) (insert-perm x xs) (all-preimage prefix_of (Apart (prefix network len)) (insert x xs) a.unused)).1;
}))

dead-offer : (t : LeaseTable) (now client : ℕ) (name : Name) (xs : List Lease) (r : Request) (x : Lease) (len : ℕ) → Dead t xs len → Offered t now client name xs r x → x.length ≡ len → ⊥
dead-offer t now client name xs r x len (inl l) o e = omega (arith, o.room)
dead-offer t now client name xs r x len (inr f) o e = f x.network (subst (λ (n : ℕ). Free (pools_of t) (prefixes xs) (prefix x.network n)) e o.free)

offer-dead : (t : LeaseTable) (good : Pools (pools_of t)) (now client : ℕ) (name : Name) (xs : List Lease) (r : Request) → Offer t now client name xs r none → Dead t xs (asked_length t r)
offer-dead t good now client name xs r (inl l) = inl l
offer-dead t good now client name xs r (inr e) = inr ((refused⇔none-free (pools_of t) good (prefixes xs) (asked_length t r)).0 e)

module _ (t : LeaseTable) (good : Pools (pools_of t)) (now client : ℕ) (name : Name) where
  dead-step : (rs : List Request) (xs : List Lease) (len : ℕ) (r : Request) (o : Option Lease) → Offer t now client name xs r o → Dead t xs len
      → (Dead t (add o xs) len → All (λ y. y.length ≡ len → ⊥) (cat_maybes (offers t now client name (add o xs) rs)))
      → All (λ y. y.length ≡ len → ⊥) (cat_maybes (o ∷ offers t now client name (add o xs) rs))
  dead-step rs xs len r none f d k = k d
  dead-step rs xs len r (some x) f d k = (dead-offer t now client name xs r x len d f, k (dead-insert t x xs len d))

  dead-offers : (rs : List Request) (xs : List Lease) (len : ℕ) → Dead t xs len → All (λ y. y.length ≡ len → ⊥) (cat_maybes (offers t now client name xs rs))
  unfolding offers
  dead-offers [] xs len d = tt
  dead-offers (r ∷ rs) xs len d =
      dead-step rs xs len r (offer t now client name xs r) (offer-is t now client name good xs r) d (λ e. dead-offers rs (add (offer t now client name xs r) xs) len e)

  -- No answer to this request.
  Other : Request → Lease → Type 0
  Other r y = answers? t r (entry_of y) ≡ false

  -- A lease that the client holds and that is not for a request is no answer to it.
  held-other : (r : Request) (x : Lease) → held_by? client x ≡ true → held_for? t client r x ≡ false → Other r (hold_again now x)
  unfolding Other
  held-other r x b n = sym (ap (λ (b : Bool). b && answers? t r (entry_of x)) b) ∙ n

  dead-other : (r : Request) (ys : List Lease) → All (λ y. y.length ≡ asked_length t r → ⊥) ys → All (Other r) ys
  unfolding Other
  dead-other r ys a = all_map (λ y (k : y.length ≡ asked_length t r → ⊥). ap (λ (b : Bool). b && (beq r.h y.h && true)) (ne_eqb (asked_length t r) y.length (λ e. k (sym e)))) ys a

  -- Once a request got nothing, no later one of the call gets what would answer it: no lease left to be given again is for it, and its length finds no space.
  later-other : (r : Request) (rs : List Request) (hs ys : List Lease) → All (λ x. held_for? t client r x ≡ false) hs → Dead t ys (asked_length t r) → All (Other r) (cat_maybes (gives t now client name hs ys rs))
  later-other r rs hs ys a d =
      turn-all now (Other r) (again t client hs rs) (offers t now client name ys (rest_of (again t client hs rs) rs))
      (all_map (λ x (k : (held_by? client x ≡ true) × (held_for? t client r x ≡ false)). held-other r x k.0 k.1) (cat_maybes (again t client hs rs)) (again-all t client (λ x. held_for? t client r x ≡ false) rs hs a))
      (dead-other r (cat_maybes (offers t now client name ys (rest_of (again t client hs rs) rs))) (dead-offers (rest_of (again t client hs rs) rs) ys (asked_length t r) d))

  skip : (r : Request) (rs : List Request) (ys : List Lease) → All (Other r) ys → pair_off t (r ∷ rs) (map entry_of ys) ≡ none ∷ pair_off t rs (map entry_of ys)
  unfolding Other
  skip r rs [] a = refl
  skip r rs (y ∷ ys) a = cond-false (answers? t r (entry_of y)) (some (entry_of y) ∷ pair_off t rs (map entry_of ys)) (none ∷ pair_off t rs (map entry_of (y ∷ ys))) a.0

  hit : (r : Request) (rs : List Request) (y : Lease) (ys : List Lease) → answers? t r (entry_of y) ≡ true → pair_off t (r ∷ rs) (map entry_of (y ∷ ys)) ≡ some (entry_of y) ∷ pair_off t rs (map entry_of ys)
  hit r rs y ys e = cond-true (answers? t r (entry_of y)) (some (entry_of y) ∷ pair_off t rs (map entry_of ys)) (none ∷ pair_off t rs (map entry_of (y ∷ ys))) e

  beq-refl : (b : Bool) → beq b b ≡ true
  beq-refl true = refl
  beq-refl false = refl

  offered-answers : (xs : List Lease) (r : Request) (x : Lease) → Offered t now client name xs r x → answers? t r (entry_of x) ≡ true
  offered-answers xs r x f =
      and-list-of (eqb (asked_length t r) x.length ∷ beq r.h x.h ∷ [])
      (eq-eqb (asked_length t r) x.length (sym f.len), (subst (λ (b : Bool). beq r.h b ≡ true) (sym f.h) (beq-refl r.h), tt))

  Pairs : List Request → List (Option Lease) → Type 0
  Pairs rs gs = pair_off t rs (map entry_of (cat_maybes gs)) ≡ map entry? gs

  pair-new : (r : Request) (rs : List Request) (hs ys : List Lease) (o : Option Lease) → Offer t now client name ys r o → All (λ x. held_for? t client r x ≡ false) hs
      → Pairs rs (gives t now client name hs (add o ys) rs) → Pairs (r ∷ rs) (o ∷ gives t now client name hs (add o ys) rs)
  unfolding Pairs
  pair-new r rs hs ys none f a e =
      skip r rs (cat_maybes (gives t now client name hs ys rs)) (later-other r rs hs ys a (offer-dead t good now client name ys r f)) ∙ ap (λ (l : List (Option Entry)). none ∷ l) e
  pair-new r rs hs ys (some x) f a e =
      hit r rs x (cat_maybes (gives t now client name hs (insert x ys) rs)) (offered-answers ys r x f) ∙ ap (λ (l : List (Option Entry)). some (entry_of x) ∷ l) e

  -- By what the request gets again, of hs; ks are the others of these.
  pair_step : (r : Request) (rs : List Request) (hs ks ys : List Lease) (g : Option Lease) → first_that (held_for? t client r) hs ≡ g
      → (first_that (held_for? t client r) hs ≡ none → All (λ x. held_for? t client r x ≡ false) ks) → ((zs : List Lease) → Pairs rs (gives t now client name ks zs rs))
      → Pairs (r ∷ rs) (in_turn now (g ∷ again t client ks rs) (offers t now client name ys (rest_of (g ∷ again t client ks rs) (r ∷ rs))))
  unfolding in_turn rest_of offers Pairs
  pair_step r rs hs ks ys (some x) e others k =
      let for : held_for? t client r x ≡ true = (first_some (held_for? t client r) (λ y. Unit {0}) hs x e (all-every (λ y. tt) hs)).0 in
      hit r rs (hold_again now x) (cat_maybes (gives t now client name ks ys rs)) (and-to (held_by? client x) (answers? t r (entry_of x)) for).1
      ∙ ap (λ (l : List (Option Entry)). some (entry_of (hold_again now x)) ∷ l) (k ys)
  pair_step r rs hs ks ys none e others k = let o : Option Lease = offer t now client name ys r in pair-new r rs ks ys o (offer-is t now client name good ys r) (others e) (k (add o ys))

  -- Entries pair off with the asks that got them.
  pub pairs : (rs : List Request) (hs ys : List Lease) → pair_off t rs (map entry_of (cat_maybes (gives t now client name hs ys rs))) ≡ map entry? (gives t now client name hs ys rs)
  unfolding Pairs again in_turn
  pairs [] hs ys = refl
  pairs (r ∷ rs) hs ys =
      let f : Lease → Bool = held_for? t client r in
      pair_step r rs hs (but_first f hs) ys (first_that f hs) refl (λ e. but-first-all f (λ x. f x ≡ false) hs (first-none f hs e)) (λ zs. pairs rs (but_first f hs) zs)

-- CONFIRMATION BY THE TABLE

insert-self : (P : Lease → Type 0) (x : Lease) (ys : List Lease) → P x → Any P (insert x ys)
insert-self P x ys p = perm-any P (Permᴰ.symm (insert-perm x ys)) (inl p)

insert-any : (P : Lease → Type 0) (x : Lease) (ys : List Lease) → Any P ys → Any P (insert x ys)
insert-any P x ys a = perm-any P (Permᴰ.symm (insert-perm x ys)) (inr a)

add-any : (P : Lease → Type 0) (o : Option Lease) (ys : List Lease) → Any P ys → Any P (add o ys)
add-any P none ys a = a
add-any P (some x) ys a = insert-any P x ys a

add_all-any : (P : Lease → Type 0) (os : List (Option Lease)) (ys : List Lease) → Any P ys → Any P (add_all os ys)
unfolding add_all
add_all-any P [] ys a = a
add_all-any P (o ∷ os) ys a = add_all-any P os (add o ys) (add-any P o ys a)

-- The lease that was offered is held as its entry says.
abbrev held_tests : ℕ → ℕ → Entry → Lease → List Bool
held_tests now client e x = eqb x.network e.network ∷ eqb x.length e.length ∷ eqb x.client client ∷ not x.leased ∷ eqb x.expires (now + hold_time) ∷ []

held_of : (t : LeaseTable) (now client : ℕ) (name : Name) (xs : List Lease) (r : Request) (x : Lease) → Offered t now client name xs r x → is_held? now client (entry_of x) x ≡ true
held_of t now client name xs r x o =
    and-list-of (held_tests now client (entry_of x) x)
    (eq-eqb x.network x.network refl, (eq-eqb x.length x.length refl, (eq-eqb x.client client o.owner, (not-of x.leased o.leased, (eq-eqb x.expires (now + hold_time) o.until, tt)))))

abbrev pub Kept : ℕ → ℕ → List Lease → Option Lease → Type 0
Kept now client ys none = Unit {0}
Kept now client ys (some x) = Any (λ y. is_held? now client (entry_of x) y ≡ true) ys

-- And so is one given again.
held-again : (now client : ℕ) (x : Lease) → held_by? client x ≡ true → is_held? now client (entry_of (hold_again now x)) (hold_again now x) ≡ true
held-again now client x e =
    let b = and-list-to (eqb x.client client ∷ not x.leased ∷ []) e in
    and-list-of (held_tests now client (entry_of (hold_again now x)) (hold_again now x))
    (eq-eqb x.network x.network refl, (eq-eqb x.length x.length refl, (b.0, (b.1.0, (eq-eqb (now + hold_time) (now + hold_time) refl, tt)))))

module _ (t : LeaseTable) (good : Pools (pools_of t)) (now client : ℕ) (name : Name) where
  kept-one : (xs : List Lease) (r : Request) (o : Option Lease) (os : List (Option Lease)) → Offer t now client name xs r o → Kept now client (add_all os (add o xs)) o
  kept-one xs r none os f = tt
  kept-one xs r (some x) os f =
      add_all-any (λ y. is_held? now client (entry_of x) y ≡ true) os (insert x xs)
      (insert-self (λ y. is_held? now client (entry_of x) y ≡ true) x xs (held_of t now client name xs r x f))

  kept-offers : (rs : List Request) (xs : List Lease) → All (Kept now client (add_all (offers t now client name xs rs) xs)) (offers t now client name xs rs)
  unfolding offers add_all
  kept-offers [] xs = tt
  kept-offers (r ∷ rs) xs =
      let o : Option Lease = offer t now client name xs r in
      (kept-one xs r o (offers t now client name (add o xs) rs) (offer-is t now client name good xs r), kept-offers rs (add o xs))

  kept-turn : (zs : List Lease) (gs os : List (Option Lease)) → All (λ x. Kept now client zs (some (hold_again now x))) (cat_maybes gs) → All (Kept now client zs) os
      → All (Kept now client zs) (in_turn now gs os)
  unfolding in_turn
  kept-turn zs [] os a b = tt
  kept-turn zs (some x ∷ gs) os a b = (a.0, kept-turn zs gs os a.1 b)
  kept-turn zs (none ∷ gs) [] a b = (tt, kept-turn zs gs [] a b)
  kept-turn zs (none ∷ gs) (o ∷ os) a b = (b.0, kept-turn zs gs os a b.1)

  -- All that is granted is held in the table that the call leaves, where the leases hs that may be given again are among those present.
  pub kept : (rs : List Request) (hs xs : List Lease) → All (λ x. Any (λ y. y ≡ x) xs) hs → All (Kept now client (ask_leases t now client name hs xs rs)) (ask_gives t now client name hs xs rs)
  kept rs hs xs among =
      let gs : List (Option Lease) = again t client hs rs in
      let os : List (Option Lease) = ask_offers t now client name hs xs rs in
      let ks : List Lease = ask_held t now client hs xs rs in
      let there : (x : Lease) → Any (λ y. y ≡ x) (cat_maybes gs) → (held_by? client x ≡ true) × Any (λ y. y ≡ x) xs → Kept now client (add_all os ks) (some (hold_again now x)) =
      λ x given was. add_all-any (λ y. is_held? now client (entry_of (hold_again now x)) y ≡ true) os ks
      (any-map (λ y (e : y ≡ hold_again now x). ap (is_held? now client (entry_of (hold_again now x))) e ∙ held-again now client x was.0) ks (held-there now (cat_maybes gs) x xs given was.1)) in
      kept-turn (add_all os ks) gs os (all-map₂ there (cat_maybes gs) (all-member (cat_maybes gs)) (again-all t client (λ x. Any (λ y. y ≡ x) xs) rs hs among)) (kept-offers (rest_of gs rs) ks)

pub confirm : (now client k : ℕ) (u : LeaseTable) (ys : List Lease) → u.leases ≡ ys ++ replicate k no_lease → (os : List (Option Lease)) → All (Kept now client ys) os
    → map (confirmed now client u) (map entry? os) ≡ map entry? os
confirm now client k u ys e [] a = refl
confirm now client k u ys e (none ∷ os) a = ap (λ (l : List (Option Entry)). none ∷ l) (confirm now client k u ys e os a.1)
confirm now client k u ys e (some x ∷ os) a =
    ap₂ (λ (g : Option Entry) (l : List (Option Entry)). g ∷ l)
    (cond-true (any? (is_held? now client (entry_of x)) u.leases) (some (entry_of x)) none
    (ap (any? (is_held? now client (entry_of x))) e
    ∙ any?-of (is_held? now client (entry_of x)) (λ y (h : is_held? now client (entry_of x) y ≡ true). h) (ys ++ replicate k no_lease) (any_left (λ y. is_held? now client (entry_of x) y ≡ true) ys (replicate k no_lease) a.0)))
    (confirm now client k u ys e os a.1)

pub confirm-none : (now client : ℕ) (u : LeaseTable) (os : List (Option Lease)) → cat_maybes os ≡ [] → map (confirmed now client u) (map entry? os) ≡ map entry? os
confirm-none now client u [] e = refl
confirm-none now client u (none ∷ os) e = ap (λ (l : List (Option Entry)). none ∷ l) (confirm-none now client u os e)
confirm-none now client u (some x ∷ os) e = let z : ◌≡◌ {A = ℕ} 0 1 = cc in absurd (omega arith)

pub add_all-none : (os : List (Option Lease)) (xs : List Lease) → cat_maybes os ≡ [] → add_all os xs ≡ xs
unfolding add_all
add_all-none [] xs e = refl
add_all-none (none ∷ os) xs e = add_all-none os xs e
add_all-none (some x ∷ os) xs e = let z : ◌≡◌ {A = ℕ} 0 1 = cc in absurd (omega arith)
