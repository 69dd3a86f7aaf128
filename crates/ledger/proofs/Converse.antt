-- THE CONVERSE of demand 3's list: where every well-formed ask of a list of first asks is granted, the prefixes could be chosen and there was a slot for each.
-- Assumes nothing.
use Prim.Native.Nat.{ℕ, ◌+◌, ◌≤◌}
use mathlib.Core.Path.{◌≡◌, refl, sym, ap, ap₂, subst, ◌∙◌}
use mathlib.Core.Logic.{◌⊎◌, ◌↔◌, inl, inr, ⊎_elim}
use mathlib.Core.Bool.{Bool, true, false}
use mathlib.Core.List.{List, [], ◌∷◌, ◌++◌, map, map-append, nil≢cons, head-eq_of_cons-eq, tail-eq_of_cons-eq, Permᴰ}
use mathlib.Core.Option.{Option, none, some, some-ne-none}
use native.Mathlib.Omega.{arith}
use lib.ListN.{length, length-append, length-map}
use Rattle.lists.specs.Lists.{All, Pairwise, filter, concat_map}
use Rattle.lists.proofs.Tests.{bool_cases}
use Rattle.lists.proofs.FilterLaws.{filter-yes, filter-no}
use Rattle.lists.proofs.Permutations.{perm-length}
use Rattle.prefix.specs.declared.Prefix.{Prefix}
use Rattle.prefix.specs.Prefixes.{Apart}
use Rattle.free_space.specs.Space.{Free}
use Rattle.free_space.specs.Grant.{grant}
use Rattle.free_space.specs.Serving.{Pools, Packing, with_grant, serve, after}
use Rattle.free_space.proofs.ListTheorem.{serve-packing}
use Rattle.free_space.proofs.Permuted.{grant-perm}
use Rattle.option.specs.Values.{Entry}
use Rattle.names.specs.declared.Name.{Name}
use Rattle.table.specs.declared.Lease.{Lease}
use Rattle.table.specs.declared.LeaseTable.{LeaseTable}
use Rattle.table.specs.Table.{lease_slots, prefix_of, pools_of, present, sound}
use Rattle.table.proofs.TableLaws.{sound-fewer}
use Rattle.option.specs.Contents.{Request}
use Rattle.option_reply.specs.Reply.{entry_of}
use Rattle.ledger.specs.Ledger.{State, Call, asked_length, ask_name, offer, add, offers, add_all, narrowed, ask}
use Rattle.ledger.specs.Demand3.{Received, received, well_formed, Accepts, asks_of, granted, entry_prefix, in_use, well_formed_calls, well_formed_asks, lengths_asked, prefixes_at, FirstAsks, CanBeChosen}
use Rattle.lists.proofs.PartLaws.{split-some}
use Rattle.ledger.proofs.EmptySlots.{empty-slots}
use Rattle.ledger.proofs.GroundLaws.{area}
use Rattle.ledger.proofs.OfferLaws.{prefixes, prefix?, Offer, offer-is, add-perm, offers-length}
use Rattle.ledger.proofs.AskLaws.{entry?}
use Rattle.ledger.proofs.CallLaws.{run-not, called-first, granted-first}
use Rattle.ledger.proofs.Demand3Holds.{serve-append, all-added, Reached, same, next, start, FirstOn, first-not, first-well, Over, over-not, over-well, over-good, pools-same, lens_same, prefixes-of, all-granted}

-- "every well-formed ask is granted"
abbrev pub EveryGranted : ℕ → State → List Call → Type 0
EveryGranted now t cs = (given : List Entry) × (concat_map (λ v. granted (λ s. s) ask now v.got v.call) (well_formed_calls (λ s. s) ask now t cs) ≡ map some given)

-- The leases behind entries that lack nothing.
told-leases : (os : List (Option Lease)) (es : List Entry) → map entry? os ≡ map some es → (ys : List Lease) × (os ≡ map some ys) × (map entry_of ys ≡ es)
told-leases [] [] e = ([], refl, refl)
told-leases [] (g ∷ gs) e = absurd (nil≢cons e)
told-leases (none ∷ os) [] e = absurd (nil≢cons (sym e))
told-leases (some x ∷ os) [] e = absurd (nil≢cons (sym e))
told-leases (none ∷ os) (g ∷ gs) e = absurd (some-ne-none g (sym (head-eq_of_cons-eq e)))
told-leases (some x ∷ os) (g ∷ gs) e =
    let r = told-leases os gs (tail-eq_of_cons-eq e) in
    let h : some (entry_of x) ≡ some g = head-eq_of_cons-eq e in
    let k : entry_of x ≡ g = cc in
    (x ∷ r.0, ap (λ (l : List (Option Lease)). some x ∷ l) r.1, ap₂ (λ (b : Entry) (l : List Entry). b ∷ l) k r.2)

-- Offers that lack nothing are the grants of crate `free_space`.
module _ (t : LeaseTable) (good : Pools (pools_of t)) (now client : ℕ) (name : Name) where
  abbrev Granted : List Request → List Lease → List Prefix → List Lease → Type 0
  Granted rs xs ls ys =
      (serve (pools_of t) ls (map (asked_length t) rs) ≡ map some (prefixes ys))
      × Permᴰ (prefixes (add_all (offers t now client name xs rs) xs)) (after (pools_of t) ls (map (asked_length t) rs))

  granted-step : (r : Request) (rs : List Request) (xs : List Lease) (ls : List Prefix) (o : Option Lease) (y : Lease) (ys : List Lease) → Offer t now client name xs r o
      → grant (pools_of t) (prefixes xs) (asked_length t r) ≡ grant (pools_of t) ls (asked_length t r)
      → o ∷ offers t now client name (add o xs) rs ≡ some y ∷ map some ys
      → (offers t now client name (add o xs) rs ≡ map some ys → Permᴰ (prefixes (add o xs)) (with_grant (prefix? o) ls)
      → (serve (pools_of t) (with_grant (prefix? o) ls) (map (asked_length t) rs) ≡ map some (prefixes ys))
      × Permᴰ (prefixes (add_all (offers t now client name (add o xs) rs) (add o xs))) (after (pools_of t) (with_grant (prefix? o) ls) (map (asked_length t) rs)))
      → Permᴰ (prefixes xs) ls
      → (serve (pools_of t) ls (map (asked_length t) (r ∷ rs)) ≡ map some (prefixes (y ∷ ys)))
      × Permᴰ (prefixes (add_all (o ∷ offers t now client name (add o xs) rs) xs)) (after (pools_of t) ls (map (asked_length t) (r ∷ rs)))
  unfolding add_all
  granted-step r rs xs ls none y ys f same e k p = let h : none ≡ some y = head-eq_of_cons-eq e in let z : ◌≡◌ {A = ℕ} 0 1 = cc in absurd (omega arith)
  granted-step r rs xs ls (some x) y ys f same e k p =
      let h : some x ≡ some y = head-eq_of_cons-eq e in
      let q : x ≡ y = cc in
      let g : some (prefix_of x) ≡ grant (pools_of t) ls (asked_length t r) = sym f.granted ∙ same in
      let m = k (tail-eq_of_cons-eq e) (add-perm t now client name good xs ls (some x) p) in (
        ap (λ (b : Option Prefix). b ∷ serve (pools_of t) (with_grant b ls) (map (asked_length t) rs)) (sym g)
            ∙ ap₂ (λ (b : Lease) (l : List (Option Prefix)). some (prefix_of b) ∷ l) q m.0,
        subst (λ (b : Option Prefix). Permᴰ (prefixes (add_all (offers t now client name (add (some x) xs) rs) (add (some x) xs))) (after (pools_of t) (with_grant b ls) (map (asked_length t) rs))) g m.1,
      )

  all-offers : (rs : List Request) (xs : List Lease) (ls : List Prefix) (ys : List Lease) → Permᴰ (prefixes xs) ls → offers t now client name xs rs ≡ map some ys → Granted rs xs ls ys
  unfolding offers add_all
  all-offers [] xs ls [] p e = (refl, p)
  all-offers [] xs ls (y ∷ ys) p e = absurd (nil≢cons e)
  all-offers (r ∷ rs) xs ls [] p e = absurd (nil≢cons (sym e))
  all-offers (r ∷ rs) xs ls (y ∷ ys) p e =
      let o : Option Lease = offer t now client name xs r in
      granted-step r rs xs ls o y ys (offer-is t now client name good xs r) (grant-perm (pools_of t) p (asked_length t r)) e
      (λ d q. all-offers rs (add o xs) (with_grant (prefix? o) ls) ys q d) p

module _ (t : State) (now : ℕ) (st : sound t.table ≡ true) (ac : Accepts t.table now) where
  abbrev kept? : Received State → Bool
  kept? v = well_formed now t v.call

  abbrev gives : Received State → List (Option Entry)
  gives v = granted (λ s. s) ask now v.got v.call

  -- From any table that the list goes through.
  abbrev Back : List Prefix → List Call → Type 0
  Back pools cs = (u : State) (ls : List Prefix) (given : List Entry) → Reached t now u → FirstOn t now st ac u cs → Over t now st ac pools cs → Permᴰ (in_use now u.table) ls → concat_map gives (filter kept? (received (λ s. s) ask now u cs)) ≡ map some given
      → (serve pools ls (lengths_asked now t cs) ≡ map some (map entry_prefix given)) × (length (present now u.table.leases) + length (well_formed_asks now t cs) ≤ lease_slots)

  back_none : (pools : List Prefix) → Back pools []
  unfolding received
  back_none pools u ls [] s a over p e = (refl, omega (arith, sound-fewer u.table s.sound now))
  back_none pools u ls (g ∷ gs) s a over p e = absurd (nil≢cons e)

  back-not : (pools : List Prefix) (c : Call) (cs : List Call) → well_formed now t c ≡ false → Back pools cs → Back pools (c ∷ cs)
  unfolding received
  back-not pools c cs b k u ls given s a over p e =
      let v : Received State = record { call = c; got = u } in
      let vs : List (Received State) = received (λ s. s) ask now (ask u now c).state cs in
      let f : filter (well_formed now t) (c ∷ cs) ≡ filter (well_formed now t) cs = filter-no (well_formed now t) c cs b in
      let q : (ask u now c).state ≡ u = (run-not now u c (same t now st ac u c s ∙ b)).0 in
      let m = k (ask u now c).state ls given (next t now st ac u c s) (first-not t now st ac c cs u s b a) (over-not t now st ac pools c cs b over) (subst (λ (w : State). Permᴰ (in_use now w.table) ls) (sym q) p) (ap (concat_map gives) (sym (filter-no kept? v vs b)) ∙ e) in (
        ap (λ (z : List Call). serve pools ls (map (asked_length t.table) (concat_map asks_of z))) f ∙ m.0,
        omega (arith, ap (λ (w : State). length (present now w.table.leases)) q, ap (λ (z : List Call). length (concat_map asks_of z)) f, m.1),
      )

  back-well : (pools : List Prefix) (c : Call) (cs : List Call) → well_formed now t c ≡ true → Back pools cs → Back pools (c ∷ cs)
  unfolding received
  back-well pools c cs b k u ls given s first over p e =
      let xs : List Lease = present now u.table.leases in
      let v : Received State = record { call = c; got = u } in
      let vs : List (Received State) = received (λ s. s) ask now (ask u now c).state cs in
      let js : List ℕ = map (asked_length t.table) (asks_of c) in
      let own : LeaseTable = narrowed u.table c in
      let good : Pools (pools_of own) = (area u.table c s.sound).good in
      let here = over-well t now st ac pools c cs b over in
      let its : pools_of own ≡ pools = pools-same t now st ac u c s ∙ here.0 in
      let w : well_formed now u c ≡ true = same t now st ac u c s ∙ b in
      let later = first-well t now st ac c cs u s b first in
      let f : filter (well_formed now t) (c ∷ cs) ≡ c ∷ filter (well_formed now t) cs = filter-yes (well_formed now t) c cs b in
      let r = split-some (granted (λ s. s) ask now u c) (concat_map gives (filter kept? vs)) given (ap (concat_map gives) (sym (filter-yes kept? v vs b)) ∙ e) in
      let a = told-leases (offers own now c.client (ask_name c) xs (asks_of c)) r.0 (sym (granted-first now u c w later.0) ∙ r.2) in
      let m = all-offers own good now c.client (ask_name c) (asks_of c) xs ls a.0 p a.1 in
      let d : serve pools ls js ≡ map some (prefixes a.0) =
      sym (ap₂ (λ (ps : List Prefix) (z : List ℕ). serve ps ls z) its (lens_same t now st ac u c (asks_of c) s)) ∙ m.0 in
      let q : Permᴰ (in_use now (ask u now c).state.table) (after pools ls js) =
      subst (λ (z : List Lease). Permᴰ (prefixes z) (after pools ls js)) (sym (called-first now u c w later.0).left)
      (subst (λ (z : List Prefix). Permᴰ (prefixes (add_all (offers own now c.client (ask_name c) xs (asks_of c)) xs)) z)
      (ap₂ (λ (ps : List Prefix) (z : List ℕ). after ps ls z) its (lens_same t now st ac u c (asks_of c) s)) m.1) in
      let n : length (present now (ask u now c).state.table.leases) ≡ length xs + length (asks_of c) =
      ap length (called-first now u c w later.0).left ∙ ap (λ (z : List (Option Lease)). length (add_all z xs)) a.1 ∙ perm-length (all-added a.0 xs) ∙ length-append xs a.0
      ∙ omega (arith, length-map a.0 some, ap length a.1, offers-length own now c.client (ask_name c) (asks_of c) xs) in
      let rest = k (ask u now c).state (after pools ls js) r.1 (next t now st ac u c s) later.1 here.1 q r.3 in (
        ap (λ (z : List Call). serve pools ls (map (asked_length t.table) (concat_map asks_of z))) f
            ∙ ap (serve pools ls) (map-append (asked_length t.table) (asks_of c) (well_formed_asks now t cs))
            ∙ serve-append pools ls js (lengths_asked now t cs)
            ∙ ap₂ (λ (x y : List (Option Prefix)). x ++ y) (d ∙ ap (map some) (sym (prefixes-of a.0) ∙ ap (map entry_prefix) a.2)) rest.0
            ∙ sym (map-append some (map entry_prefix r.0) (map entry_prefix r.1))
            ∙ ap (map some) (sym (map-append entry_prefix r.0 r.1) ∙ ap (map entry_prefix) (sym r.4)),
        omega (arith, n, rest.1, ap (λ (z : List Call). length (concat_map asks_of z)) f, length-append (asks_of c) (well_formed_asks now t cs)),
      )

  back : (pools : List Prefix) (cs : List Call) → Back pools cs
  back pools [] = back_none pools
  back pools (c ∷ cs) =
      ⊎_elim (λ (b : well_formed now t c ≡ true). back-well pools c cs b (back pools cs)) (λ (b : well_formed now t c ≡ false). back-not pools c cs b (back pools cs)) (bool_cases (well_formed now t c))

  -- What the list is served on its ground packs it.
  packed : (pools : List Prefix) (cs : List Call) (ps : List Prefix) → serve pools (in_use now t.table) (lengths_asked now t cs) ≡ map some ps → (lengths_asked now t cs ≡ []) ⊎ Pools pools
      → Packing pools (in_use now t.table) (lengths_asked now t cs) ps
  packed pools cs ps e (inr good) = serve-packing pools good (lengths_asked now t cs) (in_use now t.table) ps e
  packed pools cs [] e (inl z) = record { asked = sym z; free = tt; disjoint = tt }
  packed pools cs (p ∷ ps) e (inl z) = absurd (nil≢cons (sym (ap (serve pools (in_use now t.table)) z) ∙ e))

placed-back : (ps : List Prefix) (lens : List ℕ) → map (λ (p : Prefix). p.length) ps ≡ lens → prefixes_at (map (λ (p : Prefix). p.network) ps) lens ≡ ps
placed-back [] [] e = refl
placed-back [] (l ∷ lens) e = absurd (nil≢cons e)
placed-back (p ∷ ps) [] e = absurd (nil≢cons (sym e))
placed-back (p ∷ ps) (l ∷ lens) e =
    ap₂ (λ (n : ℕ) (z : List Prefix). record { network = p.network; length = n } ∷ z) (sym (head-eq_of_cons-eq e)) (placed-back ps lens (tail-eq_of_cons-eq e))

pub converse : (t : State) (now : ℕ) (pools : List Prefix) (cs : List Call) → sound t.table ≡ true → Accepts t.table now → FirstAsks now t pools cs → EveryGranted now t cs → CanBeChosen now t pools cs
converse t now pools cs st ac a g =
    let ps : List Prefix = map entry_prefix g.0 in
    let b = back t now st ac pools cs t (in_use now t.table) g.0 (start t now st ac) (a.nothing, a.once) a.over (mathlib.Core.List.Permᴰ.refl (in_use now t.table)) g.1 in
    let k : Packing pools (in_use now t.table) (lengths_asked now t cs) ps = packed t now st ac pools cs ps b.0 (over-good t now st ac pools cs a.over) in
    let q : prefixes_at (map (λ (p : Prefix). p.network) ps) (lengths_asked now t cs) ≡ ps = placed-back ps (lengths_asked now t cs) k.asked in
    record {
      networks = map (λ (p : Prefix). p.network) ps;
      enough = length-map ps (λ (p : Prefix). p.network) ∙ sym (length-map ps (λ (p : Prefix). p.length)) ∙ ap length k.asked;
      free = subst (All (Free pools (in_use now t.table))) (sym q) k.free;
      apart = subst (Pairwise Apart) (sym q) k.disjoint;
      slots = omega (arith, b.1, empty-slots t.table now st);
    }

-- Every well-formed ask of a list of first asks is granted exactly if the prefixes can be chosen and there is a slot for each.
pub granted⇔choosable : (t : State) (now : ℕ) (pools : List Prefix) (cs : List Call) → sound t.table ≡ true → Accepts t.table now → FirstAsks now t pools cs
    → EveryGranted now t cs ↔ CanBeChosen now t pools cs
granted⇔choosable t now pools cs st ac f = (converse t now pools cs st ac f, (λ p. let a = all-granted t now st ac pools cs f p in (a.given, a.all)))
