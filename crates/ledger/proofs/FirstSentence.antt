-- The first sentence of demand 3, of the ledger's ask: "While the book has an empty line, a well-formed ask is refused for want of ground exactly when
-- no free aligned block of its length lies inside a root"; and for want of lines exactly when the table that it meets has no empty slot. And what is
-- granted is document 01's choice. Both of the rest: of the asks that get no lease again.
-- Assumes nothing.
use Prim.Native.Nat.{ℕ, ◌≤◌, ◌<◌}
use mathlib.Core.Path.{◌≡◌, refl, sym, ap, subst, ◌∙◌}
use mathlib.Core.Logic.{◌↔◌, inl, inr, ⊎_elim}
use mathlib.Core.Bool.{Bool, true, false, cond, ◌||◌}
use mathlib.Core.List.Permᴰ
use mathlib.Core.List.{List, [], ◌∷◌, map, Permᴰ}
use mathlib.Core.Option.{Option, none, some}
use native.Mathlib.Omega.{arith}
use lib.ListN.{length, length-map}
use lib.Dec.{leb, eqb}
use borrow.Author.Tests.{leb-true, le-leb, lt-leb, eqb-true, eq-eqb}
use Rattle.lists.specs.Lists.{All, Any, any?, cat_maybes}
use Rattle.lists.proofs.Tests.{bool_cases, cond-true, cond-false, or_left, or_right, and-list-to, and-list-of}
use Rattle.lists.proofs.ListLaws.{all_map, all-member}
use Rattle.lists.proofs.Permutations.{perm-length}
use Rattle.prefix.specs.declared.Prefix.{Prefix}
use Rattle.prefix.specs.Prefixes.{prefix, Apart}
use Rattle.prefix.proofs.Nesting.{prefix-path, inside-refl, apart-absurd}
use Rattle.free_space.specs.Space.{Free}
use Rattle.free_space.specs.Serving.{Pools}
use Rattle.free_space.proofs.ListTheorem.{refused⇔none-free}
use Rattle.free_space.proofs.Permuted.{grant-perm, free-perm}
use Rattle.free_space.proofs.Rules.{grant-takes}
use Rattle.option.specs.Values.{Entry}
use Rattle.names.specs.declared.Name.{Name}
use Rattle.table.specs.declared.Lease.{Lease}
use Rattle.table.specs.declared.LeaseTable.{LeaseTable}
use Rattle.table.specs.Table.{lease_slots, prefix_of, pools_of, present}
use Rattle.option.specs.Contents.{Request}
use Rattle.ledger.specs.Ledger.{State, Call, asked_length, ask_name, offer, add, offers, held_for?, first_that, but_first, again, rest_of, hold_again, in_turn, narrowed, usable_leases, ask_held, ask_gives, gives_in, ask}
use Rattle.ledger.specs.Demand3.{well_formed, asks_of, held_before, granted, entry_prefix, in_use, same?, meets, wants_slot, wants_space, fate, NoneFree, OfTheRest, Rightly, RefusedRightly}
use Rattle.ledger.specs.Choice.{Chosen, ChosenRightly}
use Rattle.ledger.proofs.GroundLaws.{area, narrowed-default, again-same, usable-all}
use Rattle.ledger.proofs.OfferLaws.{prefixes, Offer, offer-is, add-perm}
use Rattle.ledger.proofs.AgainLaws.{first_some, but-first-all, held-prefixes, gives}
use Rattle.ledger.proofs.AskLaws.{entry?}
use Rattle.ledger.proofs.CallLaws.{well, granted-is}

-- The prefix of each lease that is present is in use.
same-prefix : (p : Prefix) → same? p p ≡ true
same-prefix p = and-list-of (eqb p.network p.network ∷ eqb p.length p.length ∷ []) (eq-eqb p.network p.network refl, (eq-eqb p.length p.length refl, tt))

pub all_in_use : (xs : List Lease) → All (λ x. any? (same? (prefix_of x)) (prefixes xs) ≡ true) xs
all_in_use xs = all_map (λ x (a : Any (λ y. y ≡ x) xs). member_in_use x xs a) xs (all-member xs)
  where
    member_in_use : (x : Lease) (ys : List Lease) → Any (λ y. y ≡ x) ys → any? (same? (prefix_of x)) (prefixes ys) ≡ true
    member_in_use x [] a = absurd a
    member_in_use x (y ∷ ys) (inl e) = or_left (same? (prefix_of x) (prefix_of y)) (any? (same? (prefix_of x)) (prefixes ys)) (ap (λ (z : Lease). same? (prefix_of x) (prefix_of z)) e ∙ same-prefix (prefix_of x))
    member_in_use x (y ∷ ys) (inr a) = or_right (same? (prefix_of x) (prefix_of y)) (any? (same? (prefix_of x)) (prefixes ys)) (member_in_use x ys a)

-- A prefix that shares no address with those in use is none of them.
pub not_there : (b : Prefix) (used : List Prefix) → All (Apart b) used → any? (same? b) used ≡ false
not_there b [] a = refl
not_there b (u ∷ us) a =
    ⊎_elim
    (λ (e : same? b u ≡ true).
    let s = and-list-to (eqb b.network u.network ∷ eqb b.length u.length ∷ []) e in
    let q : u ≡ b = sym (prefix-path b u (eqb-true b.network u.network s.0) (eqb-true b.length u.length s.1.0)) in
    absurd (apart-absurd b b (inside-refl b) (subst (Apart b) q a.0)))
    (λ (e : same? b u ≡ false). ap (λ (z : Bool). z || any? (same? b) us) e ∙ not_there b us a.1)
    (bool_cases (same? b u))

-- Fates are told apart.
wants-slot : (b : Bool) → cond b wants_slot wants_space ≡ wants_slot → b ≡ true
wants-slot true e = refl
wants-slot false e = let z : ◌≡◌ {A = ℕ} 0 1 = cc in absurd (omega arith)

module _ (t : LeaseTable) (good : Pools (pools_of t)) (now client : ℕ) (name : Name) where
  used-length : (xs : List Lease) (used : List Prefix) → Permᴰ (prefixes xs) used → length used ≡ length xs
  used-length xs used p = sym (perm-length p) ∙ length-map xs prefix_of

  space : (xs : List Lease) (used : List Prefix) (r : Request) (o : Option Lease) → Permᴰ (prefixes xs) used → Offer t now client name xs r o
      → length used < lease_slots → (fate used (entry? o) ≡ wants_space) ↔ NoneFree t used (asked_length t r)
  space xs used r none p (inl f) l = absurd (omega (arith, used-length xs used p))
  space xs used r none p (inr f) l = (
    (λ _ n a. (refused⇔none-free (pools_of t) good (prefixes xs) (asked_length t r)).0 f n (free-perm (pools_of t) (Permᴰ.symm p) (prefix n (asked_length t r)) a)),
    (λ _. cond-false (leb lease_slots (length used)) wants_slot wants_space (lt-leb lease_slots (length used) l)),
  )
  space xs used r (some x) p f l = (
    (λ e. let z : ◌≡◌ {A = ℕ} 0 1 = cc in absurd (omega arith)),
    (λ h. absurd (h x.network (subst (λ (n : ℕ). Free (pools_of t) used (prefix x.network n)) f.len (free-perm (pools_of t) p (prefix_of x) f.free)))),
  )

  slot : (xs : List Lease) (used : List Prefix) (r : Request) (o : Option Lease) → Permᴰ (prefixes xs) used → Offer t now client name xs r o
      → (fate used (entry? o) ≡ wants_slot) ↔ (lease_slots ≤ length used)
  slot xs used r none p f = (
    (λ e. leb-true lease_slots (length used) (wants-slot (leb lease_slots (length used)) e)),
    (λ l. cond-true (leb lease_slots (length used)) wants_slot wants_space (le-leb lease_slots (length used) l)),
  )
  slot xs used r (some x) p f = (
    (λ e. let z : ◌≡◌ {A = ℕ} 0 1 = cc in absurd (omega arith)),
    (λ l. absurd (omega (arith, f.room, used-length xs used p))),
  )

  meets-perm : (xs : List Lease) (used : List Prefix) (r : Request) (o : Option Lease) → Offer t now client name xs r o → Permᴰ (prefixes xs) used → Permᴰ (prefixes (add o xs)) (meets (entry? o) used)
  meets-perm xs used r none f p = p
  meets-perm xs used r (some x) f p =
      let a : All (Apart (prefix_of x)) used = (free-perm (pools_of t) p (prefix_of x) f.free).unused in
      subst (Permᴰ (prefixes (add (some x) xs))) (sym (cond-false (any? (same? (prefix_of x)) used) used (prefix_of x ∷ used) (not_there (prefix_of x) used a)))
      (add-perm t now client name good xs used (some x) p)

  -- What is so of each offer, on the leases present, is so of each of the rest.
  module _ (P : List Prefix → Request → Option Entry → Type 0)
      (each : (xs : List Lease) (used : List Prefix) (r : Request) (o : Option Lease) → Permᴰ (prefixes xs) used → Offer t now client name xs r o → P used r (entry? o)) where
    -- A lease given again is in use already.
    InUse : List Prefix → Lease → Type 0
    InUse used x = any? (same? (prefix_of x)) used ≡ true

    meets-given : (used : List Prefix) (x : Lease) → InUse used x → meets (entry? (some (hold_again now x))) used ≡ used
    unfolding InUse
    meets-given used x e = cond-true (any? (same? (prefix_of x)) used) used (prefix_of x ∷ used) e

    still-used : (used : List Prefix) (g : Option Entry) (x : Lease) → InUse used x → InUse (meets g used) x
    unfolding InUse
    still-used used none x e = e
    still-used used (some g) x e = go (any? (same? (entry_prefix g)) used)
      where
        go : (b : Bool) → any? (same? (prefix_of x)) (cond b used (entry_prefix g ∷ used)) ≡ true
        go true = e
        go false = or_right (same? (prefix_of x) (entry_prefix g)) (any? (same? (prefix_of x)) used) e

    -- By what the request gets again, of hs; ks are the others of these.
    rest-step : (r : Request) (rs : List Request) (hs ks ys : List Lease) (used : List Prefix) (g : Option Lease) → first_that (held_for? t client r) hs ≡ g
        → All (InUse used) hs → All (InUse used) ks → Permᴰ (prefixes ys) used
        → ((zs : List Lease) (more : List Prefix) → All (InUse more) ks → Permᴰ (prefixes zs) more → OfTheRest P more rs (again t client ks rs) (map entry? (gives t now client name ks zs rs)))
        → OfTheRest P used (r ∷ rs) (g ∷ again t client ks rs) (map entry? (in_turn now (g ∷ again t client ks rs) (offers t now client name ys (rest_of (g ∷ again t client ks rs) (r ∷ rs)))))
    unfolding in_turn rest_of offers
    rest-step r rs hs ks ys used (some x) e a b p k =
        let given : InUse used x = (first_some (held_for? t client r) (InUse used) hs x e a).1 in
        subst (λ (more : List Prefix). OfTheRest P more rs (again t client ks rs) (map entry? (gives t now client name ks ys rs))) (sym (meets-given used x given)) (k ys used b p)
    rest-step r rs hs ks ys used none e a b p k =
        let o : Option Lease = offer t now client name ys r in
        let f : Offer t now client name ys r o = offer-is t now client name good ys r in
        (each ys used r o p f, k (add o ys) (meets (entry? o) used) (all_map (λ x (u : InUse used x). still-used used (entry? o) x u) ks b) (meets-perm ys used r o f p))

    of-the-rest : (rs : List Request) (hs ys : List Lease) (used : List Prefix) → All (InUse used) hs → Permᴰ (prefixes ys) used
        → OfTheRest P used rs (again t client hs rs) (map entry? (gives t now client name hs ys rs))
    unfolding again
    of-the-rest [] hs ys used a p = tt
    of-the-rest (r ∷ rs) hs ys used a p =
        let f : Lease → Bool = held_for? t client r in
        rest-step r rs hs (but_first f hs) ys used (first_that f hs) refl a (but-first-all f (InUse used) hs a) p (λ zs more b q. of-the-rest rs (but_first f hs) zs more b q)

    pub of-ask : (hs xs : List Lease) (rs : List Request) → All (λ x. any? (same? (prefix_of x)) (prefixes xs) ≡ true) hs
        → OfTheRest P (prefixes xs) rs (again t client hs rs) (map entry? (ask_gives t now client name hs xs rs))
    unfolding InUse
    of-ask hs xs rs a =
        of-the-rest rs hs (ask_held t now client hs xs rs) (prefixes xs) a
        (subst (λ (ps : List Prefix). Permᴰ ps (prefixes xs)) (sym (held-prefixes now (cat_maybes (again t client hs rs)) xs)) (Permᴰ.refl (prefixes xs)))

-- Of a call on its ground: what it is to get again is the same by the table and by its ground.
module _ (t : State) (now : ℕ) (c : Call) (P : List Prefix → Request → Option Entry → Type 0) where
  abbrev own : LeaseTable
  own = narrowed t.table c

  of-call : Pools (pools_of own)
      → ((xs : List Lease) (used : List Prefix) (r : Request) (o : Option Lease) → Permᴰ (prefixes xs) used → Offer own now c.client (ask_name c) xs r o → P used r (entry? o))
      → OfTheRest P (in_use now t.table) (asks_of c) (held_before now t.table c) (map entry? (gives_in t.table now c))
  of-call good each =
      let xs : List Lease = present now t.table.leases in
      let us : List Lease = usable_leases t.table c xs in
      subst (λ (hs : List (Option Lease)). OfTheRest P (in_use now t.table) (asks_of c) hs (map entry? (gives_in t.table now c)))
      (again-same own t.table (narrowed-default t.table c) c.client (asks_of c) us)
      (of-ask own good now c.client (ask_name c) P each us xs (asks_of c) (usable-all t.table c (λ x. any? (same? (prefix_of x)) (prefixes xs) ≡ true) xs (all_in_use xs)))

pub first-sentence : (t : State) (now : ℕ) (c : Call) → well_formed now t c ≡ true
    → RefusedRightly (narrowed t.table c) (in_use now t.table) (asks_of c) (held_before now t.table c) (granted (λ s. s) ask now t c)
first-sentence t now c e =
    let own : LeaseTable = narrowed t.table c in
    let good : Pools (pools_of own) = (area t.table c (well now t c e).sound).good in
    subst (RefusedRightly own (in_use now t.table) (asks_of c) (held_before now t.table c)) (sym (granted-is now t c e))
    (of-call t now c (Rightly own) good (λ xs used r o p f. (space own good now c.client (ask_name c) xs used r o p f, slot own good now c.client (ask_name c) xs used r o p f)))

-- THE CHOICE of each of the rest that is granted is document 01's.
chosen : (t : LeaseTable) (good : Pools (pools_of t)) (now client : ℕ) (name : Name) (xs : List Lease) (used : List Prefix) (r : Request) (o : Option Lease) → Permᴰ (prefixes xs) used
    → Offer t now client name xs r o → Chosen t used r (entry? o)
chosen t good now client name xs used r none p f = tt
chosen t good now client name xs used r (some x) p f = (grant-takes (pools_of t) good used (asked_length t r) (prefix_of x)).0 (sym (grant-perm (pools_of t) p (asked_length t r)) ∙ f.granted)

pub chosen-rightly : (t : State) (now : ℕ) (c : Call) → well_formed now t c ≡ true
    → ChosenRightly (narrowed t.table c) (in_use now t.table) (asks_of c) (held_before now t.table c) (granted (λ s. s) ask now t c)
chosen-rightly t now c e =
    let own : LeaseTable = narrowed t.table c in
    let good : Pools (pools_of own) = (area t.table c (well now t c e).sound).good in
    subst (ChosenRightly own (in_use now t.table) (asks_of c) (held_before now t.table c)) (sym (granted-is now t c e))
    (of-call t now c (Chosen own) good (chosen own good now c.client (ask_name c)))
