-- DEMAND 3 IS MET by the ledger's ask.
-- Assumes nothing.
use Prim.Native.Nat.{ℕ, ◌+◌, ◌≤◌}
use mathlib.Core.Path.{◌≡◌, refl, sym, ap, ap₂, subst, ◌∙◌}
use mathlib.Core.Logic.{◌⊎◌, inl, inr, ⊎_elim, by_cases}
use native.Mathlib.Decide.{dec_le}
use mathlib.Core.Bool.{Bool, true, false, not, ◌&&◌, true≢false}
use mathlib.Core.List.{List, [], ◌∷◌, ◌++◌, map, map-append, append_assoc, nil≢cons, head-eq_of_cons-eq, tail-eq_of_cons-eq, Permᴰ}
use mathlib.Core.Option.{Option, none, some, some-ne-none}
use native.Mathlib.Omega.{arith}
use lib.ListN.{length, length-append, length-map}
use borrow.Author.Tests.{ne_eqb}
use Rattle.lists.specs.Lists.{All, Pairwise, filter, concat_map, cat_maybes}
use Rattle.lists.proofs.Tests.{bool_cases, cond-true, cond-false}
use Rattle.lists.proofs.ListLaws.{all_map, all-map₂, all-every}
use Rattle.lists.proofs.FilterLaws.{filter-yes, filter-no}
use Rattle.lists.proofs.Permutations.{perm-length}
use Rattle.prefix.specs.declared.Prefix.{Prefix}
use Rattle.prefix.specs.Prefixes.{Apart}
use Rattle.free_space.specs.Space.{Free}
use Rattle.free_space.specs.Grant.{grant}
use Rattle.free_space.specs.Serving.{Pools, Packing, with_grant, serve, after}
use Rattle.free_space.proofs.ListTheorem.{list-theorem}
use Rattle.option.specs.Values.{Entry}
use Rattle.names.specs.declared.Name.{Name}
use Rattle.table.specs.declared.Lease.{Lease}
use Rattle.table.specs.declared.LeaseTable.{LeaseTable}
use Rattle.table.specs.Table.{lease_slots, latest, prefix_of, pools_of, present, sound}
use Rattle.figures.specs.Figures.{matches?}
use Rattle.option.specs.Contents.{Request}
use Rattle.option_reply.specs.Reply.{entry_of}
use Rattle.ledger.specs.Ledger.{State, Call, hold_time, asked_length, ask_name, offer, add, offers, add_all, held_by?, narrowed, ask}
use Rattle.ledger.specs.Demand3.{Received, received, after_all, well_formed, Accepts, asks_of, granted, entry_prefix, in_use, well_formed_asks, lengths_asked, prefixes_at, HoldsNothing, FirstAsks, CanBeChosen, lease_for, made, AllGranted, Untouched, Demand3}
use Rattle.lists.proofs.PartLaws.{cat_maybes-some, split-some}
use Rattle.ledger.proofs.EmptySlots.{empty-slots}
use Rattle.ledger.proofs.GroundLaws.{area, narrowed-pools, narrowed-default, lengths-same}
use Rattle.ledger.proofs.OfferLaws.{prefixes, prefix?, Offer, offer-is, offers-all, add_all-all, add_all-perm, offers-serve, offers-after, offers-length}
use Rattle.ledger.proofs.AskLaws.{entry?}
use Rattle.ledger.proofs.CallLaws.{well, run-not, well-same, called, called-first, granted-first}
use Rattle.ledger.proofs.FirstSentence.{first-sentence}

-- LISTS

-- A choice of networks is a packing of crate `free_space`.
placed-lengths : (ns lens : List ℕ) → length ns ≡ length lens → map (λ (b : Prefix). b.length) (prefixes_at ns lens) ≡ lens
placed-lengths [] [] e = refl
placed-lengths [] (l ∷ lens) e = absurd (omega (arith, e))
placed-lengths (n ∷ ns) [] e = absurd (omega (arith, e))
placed-lengths (n ∷ ns) (l ∷ lens) e = ap (λ (js : List ℕ). l ∷ js) (placed-lengths ns lens (omega (arith, e)))

choice : (now : ℕ) (t : State) (area : List Prefix) (cs : List Call) (p : CanBeChosen now t area cs) → Packing area (in_use now t.table) (lengths_asked now t cs) (prefixes_at p.networks (lengths_asked now t cs))
choice now t area cs p = record {
  asked = placed-lengths p.networks (lengths_asked now t cs) p.enough;
  free = p.free;
  disjoint = p.apart;
}

entries-some : (ys : List Lease) → map entry? (map some ys) ≡ map some (map entry_of ys)
entries-some [] = refl
entries-some (y ∷ ys) = ap (λ (l : List (Option Entry)). some (entry_of y) ∷ l) (entries-some ys)

pub serve-append : (pools ls : List Prefix) (js ks : List ℕ) → serve pools ls (js ++ ks) ≡ serve pools ls js ++ serve pools (after pools ls js) ks
serve-append pools ls [] ks = refl
serve-append pools ls (j ∷ js) ks = ap (λ (l : List (Option Prefix)). grant pools ls j ∷ l) (serve-append pools (with_grant (grant pools ls j) ls) js ks)

all-cat_maybes : (os : List (Option Lease)) (gs : List Prefix) → map prefix? os ≡ map some gs → (ys : List Lease) × (os ≡ map some ys) × (prefixes ys ≡ gs)
all-cat_maybes [] [] e = ([], refl, refl)
all-cat_maybes [] (g ∷ gs) e = absurd (nil≢cons e)
all-cat_maybes (none ∷ os) [] e = absurd (nil≢cons (sym e))
all-cat_maybes (some x ∷ os) [] e = absurd (nil≢cons (sym e))
all-cat_maybes (none ∷ os) (g ∷ gs) e = absurd (some-ne-none g (sym (head-eq_of_cons-eq e)))
all-cat_maybes (some x ∷ os) (g ∷ gs) e =
    let r = all-cat_maybes os gs (tail-eq_of_cons-eq e) in
    let h : some (prefix_of x) ≡ some g = head-eq_of_cons-eq e in
    let k : prefix_of x ≡ g = cc in
    (x ∷ r.0, ap (λ (l : List (Option Lease)). some x ∷ l) r.1, ap₂ (λ (b : Prefix) (l : List Prefix). b ∷ l) k r.2)

lengths-of : (ys : List Lease) → map (λ (z : Entry). z.length) (map entry_of ys) ≡ map (λ (x : Lease). x.length) ys
lengths-of [] = refl
lengths-of (y ∷ ys) = ap (λ (l : List ℕ). y.length ∷ l) (lengths-of ys)

pub prefixes-of : (ys : List Lease) → map entry_prefix (map entry_of ys) ≡ prefixes ys
prefixes-of [] = refl
prefixes-of (y ∷ ys) = ap (λ (l : List Prefix). prefix_of y ∷ l) (prefixes-of ys)

-- Leases with others, none of which is missing.
pub all-added : (ys xs : List Lease) → Permᴰ (add_all (map some ys) xs) (xs ++ ys)
all-added ys xs = subst (λ (zs : List Lease). Permᴰ (add_all (map some ys) xs) (xs ++ zs)) (cat_maybes-some ys) (add_all-perm (map some ys) xs)

-- each lease offered is the one that its entry tells

lease-path : (now client : ℕ) (name : Name) (x : Lease) → x.client ≡ client → x.leased ≡ false → x.expires ≡ now + hold_time → x.name ≡ name → x ≡ lease_for now client name (entry_of x)
lease-path now client name x p q r n = λ i. record { network = x.network; length = x.length; client = p i; leased = q i; h = x.h; d = x.d; expires = r i; name = n i }

module _ (t : LeaseTable) (good : Pools (pools_of t)) (now client : ℕ) (name : Name) where
  told-step : (xs : List Lease) (r : Request) (o : Option Lease) (os : List (Option Lease)) → Offer t now client name xs r o → map (lease_for now client name) (map entry_of (cat_maybes os)) ≡ cat_maybes os
      → map (lease_for now client name) (map entry_of (cat_maybes (o ∷ os))) ≡ cat_maybes (o ∷ os)
  told-step xs r none os f e = e
  told-step xs r (some x) os f e = ap₂ (λ (y : Lease) (l : List Lease). y ∷ l) (sym (lease-path now client name x f.owner f.leased f.until f.label)) e

  pub told : (rs : List Request) (xs : List Lease) → map (lease_for now client name) (map entry_of (cat_maybes (offers t now client name xs rs))) ≡ cat_maybes (offers t now client name xs rs)
  unfolding offers
  told [] xs = refl
  told (r ∷ rs) xs = told-step xs r (offer t now client name xs r) (offers t now client name (add (offer t now client name xs r) xs) rs) (offer-is t now client name good xs r) (told rs (add (offer t now client name xs r) xs))

  length-step : (xs : List Lease) (r : Request) (rs : List Request) (o : Option Lease) (os : List (Option Lease)) (y : Lease) (ys : List Lease) → Offer t now client name xs r o
      → o ∷ os ≡ some y ∷ map some ys → (os ≡ map some ys → map (λ (x : Lease). x.length) ys ≡ map (asked_length t) rs)
      → map (λ (x : Lease). x.length) (y ∷ ys) ≡ map (asked_length t) (r ∷ rs)
  length-step xs r rs none os y ys f e k = let h : none ≡ some y = head-eq_of_cons-eq e in let z : ◌≡◌ {A = ℕ} 0 1 = cc in absurd (omega arith)
  length-step xs r rs (some x) os y ys f e k =
      let h : some x ≡ some y = head-eq_of_cons-eq e in
      let q : x ≡ y = cc in
      ap₂ (λ (n : ℕ) (l : List ℕ). n ∷ l) (ap (λ (z : Lease). z.length) (sym q) ∙ f.len) (k (tail-eq_of_cons-eq e))

  lengths-told : (rs : List Request) (xs ys : List Lease) → offers t now client name xs rs ≡ map some ys → map (λ (x : Lease). x.length) ys ≡ map (asked_length t) rs
  unfolding offers
  lengths-told [] xs [] e = refl
  lengths-told [] xs (y ∷ ys) e = absurd (nil≢cons e)
  lengths-told (r ∷ rs) xs [] e = absurd (nil≢cons (sym e))
  lengths-told (r ∷ rs) xs (y ∷ ys) e =
      length-step xs r rs (offer t now client name xs r) (offers t now client name (add (offer t now client name xs r) xs) rs) y ys (offer-is t now client name good xs r) e
      (lengths-told rs (add (offer t now client name xs r) xs) ys)

-- the states that a list goes through: the sheet of each matches if the first one does

pub record Reached (t : State) (now : ℕ) (u : State) : Type 0 where
  pub sound : sound u.table ≡ true
  pub matched : matches? u.table.leases u.rows ≡ matches? t.table.leases t.rows
  pub since : u.table.last ≤ now
  pub pools : u.table.pools ≡ t.table.pools
  pub default : u.table.default_length ≡ t.table.default_length

module _ (t : State) (now : ℕ) (st : sound t.table ≡ true) (ac : Accepts t.table now) where
  pub same : (u : State) (c : Call) → Reached t now u → well_formed now u c ≡ well_formed now t c
  same u c s = well-same now t u c st s.sound ac (s.since, ac.1) s.matched s.pools

  pub next : (u : State) (c : Call) → Reached t now u → Reached t now (ask u now c).state
  next u c s =
      ⊎_elim
      (λ (e : well_formed now u c ≡ true).
      let k = called now u c e in
      record { sound = k.sound; matched = k.matched ∙ sym (well now u c e).matched ∙ s.matched; since = k.since; pools = k.pools ∙ s.pools; default = k.default ∙ s.default })
      (λ (e : well_formed now u c ≡ false). subst (Reached t now) (sym (run-not now u c e).0) s)
      (bool_cases (well_formed now u c))

  ill-formed-from : (cs : List Call) (u : State) → Reached t now u → All (λ v. well_formed now t v.call ≡ false → well_formed now v.got v.call ≡ false) (received (λ s. s) ask now u cs)
  unfolding received
  ill-formed-from [] u s = tt
  ill-formed-from (c ∷ cs) u s = ((λ e. same u c s ∙ e), ill-formed-from cs (ask u now c).state (next u c s))

  -- The calls to come are the first asks of their clients, each of which asks once.
  abbrev pub FirstOn : State → List Call → Type 0
  FirstOn u cs = All (λ c. HoldsNothing now u.table c.client) (filter (well_formed now t) cs) × Pairwise (λ c d. c.client ≡ d.client → ⊥) (filter (well_formed now t) cs)

  pub first-not : (c : Call) (cs : List Call) (u : State) → Reached t now u → well_formed now t c ≡ false → FirstOn u (c ∷ cs) → FirstOn (ask u now c).state cs
  first-not c cs u s b f =
      subst (λ (w : State). FirstOn w cs) (sym (run-not now u c (same u c s ∙ b)).0)
      (subst (λ (ds : List Call). All (λ d. HoldsNothing now u.table d.client) ds × Pairwise (λ d e. d.client ≡ e.client → ⊥) ds) (filter-no (well_formed now t) c cs b) f)

  -- What is made for one client is no other's.
  not-theirs : (client other : ℕ) → (client ≡ other → ⊥) → (x : Lease) → x.client ≡ client → held_by? other x ≡ false
  not-theirs client other k x e = ap (λ (b : Bool). b && (not x.leased && true)) (ne_eqb x.client other (λ q. k (sym e ∙ q)))

  pub first-well : (c : Call) (cs : List Call) (u : State) → Reached t now u → well_formed now t c ≡ true → FirstOn u (c ∷ cs)
      → HoldsNothing now u.table c.client × FirstOn (ask u now c).state cs
  first-well c cs u s b f =
      let xs : List Lease = present now u.table.leases in
      let own : LeaseTable = narrowed u.table c in
      let os : List (Option Lease) = offers own now c.client (ask_name c) xs (asks_of c) in
      let good : Pools (pools_of own) = (area u.table c s.sound).good in
      let g : All (λ d. HoldsNothing now u.table d.client) (c ∷ filter (well_formed now t) cs) × Pairwise (λ d e. d.client ≡ e.client → ⊥) (c ∷ filter (well_formed now t) cs) =
      subst (λ (ds : List Call). All (λ d. HoldsNothing now u.table d.client) ds × Pairwise (λ d e. d.client ≡ e.client → ⊥) ds) (filter-yes (well_formed now t) c cs b) f in
      let still : (d : Call) → (c.client ≡ d.client → ⊥) → HoldsNothing now u.table d.client → HoldsNothing now (ask u now c).state.table d.client =
      λ d k n. subst (All (λ x. held_by? d.client x ≡ false)) (sym (called-first now u c (same u c s ∙ b) g.0.0).left)
      (add_all-all (λ x. held_by? d.client x ≡ false) os xs
      (offers-all own now c.client (ask_name c) good (λ r. Unit {0}) (λ x. held_by? d.client x ≡ false) (λ ys r x _ o. not-theirs c.client d.client k x o.owner) (asks_of c) xs (all-every (λ r. tt) (asks_of c))) n) in
      (g.0.0, (all-map₂ still (filter (well_formed now t) cs) g.1.0 g.0.1, g.1.1))

  -- the list, from any table that it goes through

  abbrev kept? : Received State → Bool
  kept? v = well_formed now t v.call

  abbrev gives : Received State → List (Option Entry)
  gives v = granted (λ s. s) ask now v.got v.call

  record Goes (cs : List Call) (u : State) (gs : List Prefix) : Type 0 where
    given : List Entry
    all : concat_map gives (filter kept? (received (λ s. s) ask now u cs)) ≡ map some given
    are : map entry_prefix given ≡ gs
    lens : map (λ (e : Entry). e.length) given ≡ lengths_asked now t cs
    left : Permᴰ (present now (after_all (λ s. s) ask now u cs).table.leases) (present now u.table.leases ++ concat_map (made (λ s. s) ask now) (filter kept? (received (λ s. s) ask now u cs)))

  goes_none : (u : State) (gs : List Prefix) → ◌≡◌ {A = List (Option Prefix)} [] (map some gs) → Goes [] u gs
  unfolding received after_all
  goes_none u [] e = record { given = []; all = refl; are = refl; lens = refl; left = mathlib.Core.List.Permᴰ.symm (mathlib.Core.List.Permᴰ.append-nil (present now u.table.leases)) }
  goes_none u (g ∷ gs) e = absurd (nil≢cons e)

  goes-not : (c : Call) (cs : List Call) (u : State) (gs : List Prefix) → Reached t now u → well_formed now t c ≡ false → Goes cs (ask u now c).state gs → Goes (c ∷ cs) u gs
  unfolding received after_all
  goes-not c cs u gs s e k =
      let v : Received State = record { call = c; got = u } in
      let vs : List (Received State) = received (λ s. s) ask now (ask u now c).state cs in
      let f : filter kept? (v ∷ vs) ≡ filter kept? vs = cond-false (well_formed now t c) (v ∷ filter kept? vs) (filter kept? vs) e in
      let q : (ask u now c).state ≡ u = (run-not now u c (same u c s ∙ e)).0 in
      record {
        given = k.given;
        all = ap (concat_map gives) f ∙ k.all;
        are = k.are;
        lens = k.lens ∙ ap (λ (z : List Call). map (asked_length t.table) (concat_map asks_of z)) (sym (cond-false (well_formed now t c) (c ∷ filter (well_formed now t) cs) (filter (well_formed now t) cs) e));
        left = subst (Permᴰ (present now (after_all (λ s. s) ask now (ask u now c).state cs).table.leases))
            (ap₂ (λ (w : State) (l : List (Received State)). present now w.table.leases ++ concat_map (made (λ s. s) ask now) l) q (sym f)) k.left;
      }

  -- A call's ground stays as it was on the first table, and so do the lengths that it asks for.
  pub pools-same : (u : State) (c : Call) → Reached t now u → pools_of (narrowed u.table c) ≡ pools_of (narrowed t.table c)
  pools-same u c s = narrowed-pools t.table u.table c s.pools

  pub lens_same : (u : State) (c : Call) (rs : List Request) → Reached t now u → map (asked_length (narrowed u.table c)) rs ≡ map (asked_length t.table) rs
  lens_same u c rs s = lengths-same (narrowed u.table c) t.table (narrowed-default u.table c ∙ s.default) rs

  goes-well : (c : Call) (cs : List Call) (u : State) (ys : List Lease) (g₁ g₂ : List Prefix) → Reached t now u → well_formed now t c ≡ true → HoldsNothing now u.table c.client
      → offers (narrowed u.table c) now c.client (ask_name c) (present now u.table.leases) (asks_of c) ≡ map some ys → prefixes ys ≡ g₁
      → Goes cs (ask u now c).state g₂ → Goes (c ∷ cs) u (g₁ ++ g₂)
  unfolding received after_all
  goes-well c cs u ys g₁ g₂ s e n o b k =
      let xs : List Lease = present now u.table.leases in
      let w : well_formed now u c ≡ true = same u c s ∙ e in
      let own : LeaseTable = narrowed u.table c in
      let good : Pools (pools_of own) = (area u.table c s.sound).good in
      let v : Received State = record { call = c; got = u } in
      let vs : List (Received State) = received (λ s. s) ask now (ask u now c).state cs in
      let f : filter kept? (v ∷ vs) ≡ v ∷ filter kept? vs = cond-true (well_formed now t c) (v ∷ filter kept? vs) (filter kept? vs) e in
      let h : granted (λ s. s) ask now u c ≡ map some (map entry_of ys) = granted-first now u c w n ∙ ap (map entry?) o ∙ entries-some ys in
      let so : cat_maybes (offers own now c.client (ask_name c) xs (asks_of c)) ≡ ys = ap cat_maybes o ∙ cat_maybes-some ys in
      let m : made (λ s. s) ask now v ≡ ys =
      ap (λ (l : List (Option Entry)). map (lease_for now c.client (ask_name c)) (cat_maybes l)) h
      ∙ ap (map (lease_for now c.client (ask_name c))) (cat_maybes-some (map entry_of ys))
      ∙ ap (λ (l : List Lease). map (lease_for now c.client (ask_name c)) (map entry_of l)) (sym so)
      ∙ told own good now c.client (ask_name c) (asks_of c) xs ∙ so in
      let p : Permᴰ (present now (ask u now c).state.table.leases) (xs ++ ys) =
      subst (λ (l : List Lease). Permᴰ l (xs ++ ys)) (sym ((called-first now u c w n).left ∙ ap (λ (l : List (Option Lease)). add_all l xs) o)) (all-added ys xs) in
      record {
        given = map entry_of ys ++ k.given;
        all = ap (concat_map gives) f ∙ ap₂ (λ (a b : List (Option Entry)). a ++ b) h k.all ∙ sym (map-append some (map entry_of ys) k.given);
        are = map-append entry_prefix (map entry_of ys) k.given ∙ ap₂ (λ (a b : List Prefix). a ++ b) (prefixes-of ys ∙ b) k.are;
        lens =
            map-append (λ (z : Entry). z.length) (map entry_of ys) k.given
            ∙ ap₂ (λ (a b : List ℕ). a ++ b) (lengths-of ys ∙ lengths-told own good now c.client (ask_name c) (asks_of c) xs ys o ∙ lens_same u c (asks_of c) s) k.lens
            ∙ sym (map-append (asked_length t.table) (asks_of c) (well_formed_asks now t cs))
            ∙ ap (λ (z : List Call). map (asked_length t.table) (concat_map asks_of z)) (sym (cond-true (well_formed now t c) (c ∷ filter (well_formed now t) cs) (filter (well_formed now t) cs) e));
        left =
            Permᴰ.trans k.left
            (subst (Permᴰ (present now (ask u now c).state.table.leases ++ concat_map (made (λ s. s) ask now) (filter kept? vs)))
            (append_assoc xs ys (concat_map (made (λ s. s) ask now) (filter kept? vs)) ∙ ap (λ (l : List Lease). xs ++ (l ++ concat_map (made (λ s. s) ask now) (filter kept? vs))) (sym m) ∙ ap (λ (l : List (Received State)). xs ++ concat_map (made (λ s. s) ask now) l) (sym f))
            (mathlib.Core.List.Permᴰ.append_right (concat_map (made (λ s. s) ask now) (filter kept? vs)) p));
      }

  -- The calls that are well-formed all have this ground.
  abbrev pub Over : List Prefix → List Call → Type 0
  Over area cs = All (λ c. pools_of (narrowed t.table c) ≡ area) (filter (well_formed now t) cs)

  pub over-not : (area : List Prefix) (c : Call) (cs : List Call) → well_formed now t c ≡ false → Over area (c ∷ cs) → Over area cs
  over-not area c cs b a = subst (All (λ c. pools_of (narrowed t.table c) ≡ area)) (filter-no (well_formed now t) c cs b) a

  pub over-well : (area : List Prefix) (c : Call) (cs : List Call) → well_formed now t c ≡ true → Over area (c ∷ cs) → (pools_of (narrowed t.table c) ≡ area) × Over area cs
  over-well area c cs b a = subst (All (λ c. pools_of (narrowed t.table c) ≡ area)) (filter-yes (well_formed now t) c cs b) a

  -- So it is good ground, where any call is well-formed.
  pub over-good : (area : List Prefix) (cs : List Call) → Over area cs → (lengths_asked now t cs ≡ []) ⊎ Pools area
  over-good pools cs a = go (filter (well_formed now t) cs) refl a
    where
      go : (ds : List Call) → filter (well_formed now t) cs ≡ ds → All (λ c. pools_of (narrowed t.table c) ≡ pools) ds → (lengths_asked now t cs ≡ []) ⊎ Pools pools
      go [] e b = inl (ap (λ (ds : List Call). map (asked_length t.table) (concat_map asks_of ds)) e)
      go (c ∷ ds) e b = inr (subst Pools b.0 (area t.table c st).good)

  abbrev Claim : List Prefix → List Call → Type 0
  Claim area cs = (u : State) (ls gs : List Prefix) → Reached t now u → Permᴰ (in_use now u.table) ls → serve area ls (lengths_asked now t cs) ≡ map some gs
      → length (present now u.table.leases) + length (well_formed_asks now t cs) ≤ lease_slots → FirstOn u cs → Over area cs → Goes cs u gs

  step-not : (pools : List Prefix) (c : Call) (cs : List Call) → well_formed now t c ≡ false → Claim pools cs → Claim pools (c ∷ cs)
  step-not pools c cs b k u ls gs s p e l a over =
      let f : filter (well_formed now t) (c ∷ cs) ≡ filter (well_formed now t) cs =
      cond-false (well_formed now t c) (c ∷ filter (well_formed now t) cs) (filter (well_formed now t) cs) b in
      let q : (ask u now c).state ≡ u = (run-not now u c (same u c s ∙ b)).0 in
      goes-not c cs u gs s b
      (k (ask u now c).state ls gs (next u c s)
      (subst (λ (w : State). Permᴰ (in_use now w.table) ls) (sym q) p)
      (subst (λ (z : List Call). serve pools ls (map (asked_length t.table) (concat_map asks_of z)) ≡ map some gs) f e)
      (omega (arith, ap (λ (w : State). length (present now w.table.leases)) q, ap (λ (z : List Call). length (concat_map asks_of z)) f))
      (first-not c cs u s b a) (over-not pools c cs b over))

  step-well : (pools : List Prefix) (c : Call) (cs : List Call) → well_formed now t c ≡ true → Claim pools cs → Claim pools (c ∷ cs)
  step-well pools c cs b k u ls gs s p e l first over =
      let xs : List Lease = present now u.table.leases in
      let js : List ℕ = map (asked_length t.table) (asks_of c) in
      let own : LeaseTable = narrowed u.table c in
      let good : Pools (pools_of own) = (area u.table c s.sound).good in
      let w : well_formed now u c ≡ true = same u c s ∙ b in
      let later = first-well c cs u s b first in
      let here = over-well pools c cs b over in
      let its : pools_of own ≡ pools = pools-same u c s ∙ here.0 in
      let f : filter (well_formed now t) (c ∷ cs) ≡ c ∷ filter (well_formed now t) cs =
      cond-true (well_formed now t c) (c ∷ filter (well_formed now t) cs) (filter (well_formed now t) cs) b in
      let room : length xs + (length (asks_of c) + length (well_formed_asks now t cs)) ≤ lease_slots =
      omega (arith, ap (λ (z : List Call). length (concat_map asks_of z)) f, length-append (asks_of c) (well_formed_asks now t cs)) in
      let o : lengths_asked now t (c ∷ cs) ≡ js ++ lengths_asked now t cs =
      ap (λ (z : List Call). map (asked_length t.table) (concat_map asks_of z)) f ∙ map-append (asked_length t.table) (asks_of c) (well_formed_asks now t cs) in
      let r = split-some (serve pools ls js) (serve pools (after pools ls js) (lengths_asked now t cs)) gs
      (sym (serve-append pools ls js (lengths_asked now t cs)) ∙ ap (serve pools ls) (sym o) ∙ e) in
      let a = all-cat_maybes (offers own now c.client (ask_name c) xs (asks_of c)) r.0
      (offers-serve own now c.client (ask_name c) good (asks_of c) xs ls (omega arith) p ∙ ap₂ (λ (ps : List Prefix) (z : List ℕ). serve ps ls z) its (lens_same u c (asks_of c) s) ∙ r.2) in
      let q : Permᴰ (in_use now (ask u now c).state.table) (after pools ls js) =
      subst (λ (z : List Lease). Permᴰ (prefixes z) (after pools ls js)) (sym (called-first now u c w later.0).left)
      (subst (λ (z : List Prefix). Permᴰ (prefixes (add_all (offers own now c.client (ask_name c) xs (asks_of c)) xs)) z)
      (ap₂ (λ (ps : List Prefix) (z : List ℕ). after ps ls z) its (lens_same u c (asks_of c) s))
      (offers-after own now c.client (ask_name c) good (asks_of c) xs ls (omega arith) p)) in
      let n : length (present now (ask u now c).state.table.leases) ≡ length xs + length (asks_of c) =
      ap length (called-first now u c w later.0).left ∙ ap (λ (z : List (Option Lease)). length (add_all z xs)) a.1 ∙ perm-length (all-added a.0 xs) ∙ length-append xs a.0
      ∙ omega (arith, length-map a.0 some, ap length a.1, offers-length own now c.client (ask_name c) (asks_of c) xs) in
      subst (Goes (c ∷ cs) u) (sym r.4)
      (goes-well c cs u a.0 r.0 r.1 s b later.0 a.1 a.2
      (k (ask u now c).state (after pools ls js) r.1 (next u c s) q r.3 (omega arith) later.1 here.1))

  goes : (pools : List Prefix) (cs : List Call) → Claim pools cs
  goes pools [] = λ u ls gs s p e l a over. goes_none u gs e
  goes pools (c ∷ cs) =
      ⊎_elim (λ (b : well_formed now t c ≡ true). step-well pools c cs b (goes pools cs)) (λ (b : well_formed now t c ≡ false). step-not pools c cs b (goes pools cs)) (bool_cases (well_formed now t c))

  pub start : Reached t now t
  start = record { sound = st; matched = refl; since = ac.0; pools = refl; default = refl }

  -- What the list is served on its ground packs it.
  packs : (pools : List Prefix) (cs : List Call) → CanBeChosen now t pools cs → (lengths_asked now t cs ≡ []) ⊎ Pools pools
      → (gs : List Prefix) × (serve pools (in_use now t.table) (lengths_asked now t cs) ≡ map some gs) × Packing pools (in_use now t.table) (lengths_asked now t cs) gs
  packs pools cs p (inl e) = ([], ap (serve pools (in_use now t.table)) e, record { asked = sym e; free = tt; disjoint = tt })
  packs pools cs p (inr good) = list-theorem pools good (in_use now t.table) (lengths_asked now t cs) (prefixes_at p.networks (lengths_asked now t cs)) (choice now t pools cs p)

  pub all-granted : (pools : List Prefix) (cs : List Call) → FirstAsks now t pools cs → CanBeChosen now t pools cs → AllGranted (λ s. s) ask now t pools cs
  all-granted pools cs a p =
      let m = packs pools cs p (over-good pools cs a.over) in
      let g = goes pools cs t (in_use now t.table) m.0 start (mathlib.Core.List.Permᴰ.refl (in_use now t.table)) m.1 (omega (arith, p.slots, empty-slots t.table now st)) (a.nothing, a.once) a.over in
      record {
        given = g.given;
        all = g.all;
        lengths = g.lens;
        free = subst (All (Free pools (in_use now t.table))) (sym g.are) m.2.free;
        apart = subst (Pairwise Apart) (sym g.are) m.2.disjoint;
        left = g.left;
      }

  ill-formed : (cs : List Call) → All (λ v. well_formed now t v.call ≡ false → well_formed now v.got v.call ≡ false) (received (λ s. s) ask now t cs)
  ill-formed cs = ill-formed-from cs t start

-- On a table that is not sound, or at a time not accepted, no call is well-formed, and each gets the table that the first got.
none-formed : (t : State) (now : ℕ) → ((c : Call) → well_formed now t c ≡ false) → (cs : List Call) (u : State) → u ≡ t
    → All (λ v. well_formed now t v.call ≡ false → well_formed now v.got v.call ≡ false) (received (λ s. s) ask now u cs)
unfolding received
none-formed t now f [] u e = tt
none-formed t now f (c ∷ cs) u e =
    let w : well_formed now u c ≡ false = ap (λ (x : State). well_formed now x c) e ∙ f c in
    ((λ _. w), none-formed t now f cs (ask u now c).state ((run-not now u c w).0 ∙ e))

never : (t : State) (now : ℕ) → (sound t.table ≡ true → Accepts t.table now → ⊥) → (c : Call) → well_formed now t c ≡ false
never t now k c =
    ⊎_elim (λ (e : well_formed now t c ≡ true). absurd (k (well now t c e).sound (well now t c e).accepted)) (λ (e : well_formed now t c ≡ false). e) (bool_cases (well_formed now t c))

-- A call that is not well-formed on the first table is not on the one that it gets.
pub ill-formed-always : (t : State) (now : ℕ) (cs : List Call) → All (λ v. well_formed now t v.call ≡ false → well_formed now v.got v.call ≡ false) (received (λ s. s) ask now t cs)
ill-formed-always t now cs =
    ⊎_elim
    (λ (s : sound t.table ≡ true).
    by_cases (dec_le t.table.last now)
    (λ a. by_cases (dec_le now latest) (λ b. ill-formed t now s (a, b) cs) (λ b. none-formed t now (never t now (λ _ q. b q.1)) cs t refl))
    (λ a. none-formed t now (never t now (λ _ q. a q.0)) cs t refl))
    (λ (s : sound t.table ≡ false). none-formed t now (never t now (λ p _. true≢false (sym p ∙ s))) cs t refl)
    (bool_cases (sound t.table))

untouched-always : (t : State) (now : ℕ) (cs : List Call) → Untouched (λ s. s) ask now t cs
untouched-always t now cs =
    let stays : (v : Received State) → (well_formed now t v.call ≡ false → well_formed now v.got v.call ≡ false)
    → well_formed now t v.call ≡ false → ((ask v.got now v.call).state ≡ v.got) × ((ask v.got now v.call).reply ≡ v.call.reply) =
    λ v w e. run-not now v.got v.call (w e) in
    all_map stays (received (λ s. s) ask now t cs) (ill-formed-always t now cs)

-- DEMAND 3
pub demand3 : Demand3 (λ s. s) ask
demand3 = record {
  sentence = first-sentence;
  lists = λ t now pools cs s a f p. all-granted t now s a pools cs f p;
  untouched = untouched-always;
}
