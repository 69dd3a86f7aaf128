-- Conservation holds of the ledger, over every history.
-- Assumes nothing.
use Prim.Native.Nat.{ℕ, ◌+◌, ◌≤◌}
use mathlib.Core.Path.{◌≡◌, refl, sym, ap, ap₂, subst, ◌∙◌}
use mathlib.Core.Logic.{⊎_elim}
use mathlib.Core.Bool.{Bool, true, false, not, cond}
use mathlib.Core.List.{List, [], ◌∷◌, map, Permᴰ}
use mathlib.Core.Option.{Option, none, some}
use native.Mathlib.Omega.{arith}
use lib.Dec.{leb, ltb, eqb}
use borrow.Author.Tests.{ltb-false}
use Rattle.lists.specs.Lists.{All, any?, filter, cat_maybes}
use Rattle.lists.proofs.Tests.{bool_cases, cond-false, not-of, not-to}
use Rattle.lists.proofs.ListLaws.{all_map}
use Rattle.lists.proofs.FilterLaws.{filter-yes, filter-no}
use Rattle.prefix.specs.declared.Prefix.{Prefix}
use Rattle.prefix.specs.Prefixes.{size, Apart}
use Rattle.option.specs.Values.{Entry}
use Rattle.names.specs.declared.Name.{Name}
use Rattle.table.specs.declared.Lease.{Lease}
use Rattle.table.specs.declared.LeaseTable.{LeaseTable}
use Rattle.table.specs.Table.{lease_slots, prefix_of, pools_of, present, sound, store}
use Rattle.table.proofs.TableLaws.{Good, sound-fine, fine-filter, fine-map, present-padded, present-stored}
use Rattle.table_open.proofs.OpenLaws.{open-sound}
use Rattle.figures.specs.declared.FigureRow.{FigureRow}
use Rattle.option.specs.Contents.{Request, entries_in}
use Rattle.option_reply.specs.Reply.{entry_of}
use Rattle.ledger.specs.Ledger.{State, state, left, Call, ledger, Result, before, refusal_place, full, open_table, add, add_all, held_by?, again, rest_of, hold_again, in_turn, ask_held, ask_offers, ask_gives, ask_leases, ask_rows, ask_name, narrowed, usable_leases, usable_entries, ask, named_by?, renew, renewed, take_rows, take, release_rows, release, at?, with_d, mark_rows, mark}
use Rattle.ledger.specs.Demand3.{well_formed, asks_of, reply_entries, in_use, same?}
use Rattle.ledger.specs.Histories.{Event, asked, taken, was_listed, returned, marked, saved, next, afterwards, leases_of}
use Rattle.ledger.specs.Conservation.{addresses_of, addresses_in, newly_made, granted_by, returned_by, ended_at, ended_by, summed, FromLoad, FromOpen}
use Rattle.lists.proofs.PartLaws.{Opposite, opposite-not}
use Rattle.ledger.proofs.RowLaws.{first-none, first-number, Numbered, by_rows_lem, numbered-take, numbered-release, numbered-mark}
use Rattle.ledger.proofs.EmptySlots.{present-or-ended, present-later}
use Rattle.ledger.proofs.ReplyLaws.{reads_none}
use Rattle.free_space.specs.Serving.{Pools}
use Rattle.ledger.proofs.GroundLaws.{area, usable-all}
use Rattle.ledger.proofs.OfferLaws.{prefixes, insert-perm, offers-new}
use Rattle.ledger.proofs.AgainLaws.{again-all, held, held_place, held-prefixes, Fills, rest-fills, turn-none}
use Rattle.ledger.proofs.CallLaws.{rows_for, number_for, state_for, well, run-refused, gives_on, leases_on, called}
use Rattle.ledger.proofs.FirstSentence.{all_in_use, not_there}
use Rattle.ledger.proofs.SoundKept.{Mild, cond-mild, renew-mild, with_d-mild, list-keeps}
use Rattle.ledger.proofs.HistoriesHold.{next-sound, opened-is}

-- SUMS

total-perm : {xs ys : List Lease} → Permᴰ xs ys → addresses_of xs ≡ addresses_of ys
total-perm Permᴰ.nil = refl
total-perm (Permᴰ.cons {a = a} {b = b} {l₁ = l₁} {l₂ = l₂} e d) = ap (λ (x : Lease). size x.length + addresses_of l₁) e ∙ ap (λ (n : ℕ). size b.length + n) (total-perm d)
total-perm (Permᴰ.swap {a = a} {b = b} {a' = a'} {b' = b'} {l = l} e₁ e₂) =
    omega (arith, ap (λ (x : Lease). size x.length) e₁, ap (λ (x : Lease). size x.length) e₂)
total-perm (Permᴰ.trans d₁ d₂) = total-perm d₁ ∙ total-perm d₂

total-add : (o : Option Lease) (os : List (Option Lease)) (xs : List Lease) → addresses_of (add o xs) + addresses_of (cat_maybes os) ≡ addresses_of xs + addresses_of (cat_maybes (o ∷ os))
total-add none os xs = refl
total-add (some x) os xs = omega (arith, total-perm (insert-perm x xs))

total-add_all : (os : List (Option Lease)) (xs : List Lease) → addresses_of (add_all os xs) ≡ addresses_of xs + addresses_of (cat_maybes os)
unfolding add_all
total-add_all [] xs = omega arith
total-add_all (o ∷ os) xs = total-add_all os (add o xs) ∙ total-add o os xs

total-entries : (xs : List Lease) → addresses_in (map entry_of xs) ≡ addresses_of xs
total-entries [] = refl
total-entries (x ∷ xs) = ap (λ (n : ℕ). size x.length + n) (total-entries xs)

total-parts : (p q : Lease → Bool) → Opposite p q → (xs : List Lease) → addresses_of (filter p xs) + addresses_of (filter q xs) ≡ addresses_of xs
total-parts p q o [] = refl
total-parts p q o (x ∷ xs) =
    ⊎_elim
    (λ (h : (p x ≡ true) × (q x ≡ false)). omega (arith, ap addresses_of (filter-yes p x xs h.0), ap addresses_of (filter-no q x xs h.1), total-parts p q o xs))
    (λ (h : (p x ≡ false) × (q x ≡ true)). omega (arith, ap addresses_of (filter-no p x xs h.0), ap addresses_of (filter-yes q x xs h.1), total-parts p q o xs))
    (o x)

total-map : (f : Lease → Lease) → ((x : Lease) → prefix_of (f x) ≡ prefix_of x) → (ys : List Lease) → addresses_of (map f ys) ≡ addresses_of ys
total-map f e [] = refl
total-map f e (y ∷ ys) = ap₂ ◌+◌ (ap (λ (p : Prefix). size p.length) (e y)) (total-map f e ys)

parts : (t : LeaseTable) (now : ℕ) → t.last ≤ now → addresses_of (present now t.leases) + ended_at now t ≡ addresses_of (leases_of t)
parts t now l =
    ap (λ (xs : List Lease). addresses_of xs + ended_at now t) (sym (present-later t.last now l t.leases))
    ∙ total-parts (λ x. ltb now x.expires) (λ x. leb x.expires now) (present-or-ended now) (leases_of t)

-- LEASES NEWLY MADE: of what an ask grants, those that the rest is offered.
module _ (now : ℕ) (t : LeaseTable) where
  abbrev used? : Lease → Bool
  used? x = any? (same? (prefix_of x)) (in_use now t)

  newly : (gs os : List (Option Lease)) → Fills gs os → All (λ x. used? x ≡ true) (cat_maybes gs) → All (λ x. used? x ≡ false) (cat_maybes os)
      → newly_made now t (map entry_of (cat_maybes (in_turn now gs os))) ≡ map entry_of (cat_maybes os)
  unfolding in_turn
  newly [] [] f a b = refl
  newly [] (o ∷ os) f a b = absurd f
  newly (some x ∷ gs) os f a b = filter-no _ (entry_of (hold_again now x)) (map entry_of (cat_maybes (in_turn now gs os))) (not-to (used? x) a.0) ∙ newly gs os f a.1 b
  newly (none ∷ gs) [] f a b = absurd f
  newly (none ∷ gs) (none ∷ os) f a b = newly gs os f a b
  newly (none ∷ gs) (some x ∷ os) f a b =
      filter-yes _ (entry_of x) (map entry_of (cat_maybes (in_turn now gs os))) (not-of (used? x) b.0) ∙ ap (λ (l : List Entry). entry_of x ∷ l) (newly gs os f a b.1)

  -- On ground of its own, with leases of those present that may be given again.
  pub newly-made : (own : LeaseTable) → Pools (pools_of own) → (client : ℕ) (name : Name) (us : List Lease) → All (λ x. used? x ≡ true) us → (rs : List Request)
      → let xs = present now t.leases in newly_made now t (map entry_of (cat_maybes (ask_gives own now client name us xs rs))) ≡ map entry_of (cat_maybes (ask_offers own now client name us xs rs))
  newly-made own good client name us among rs =
      let xs : List Lease = present now t.leases in
      let gs : List (Option Lease) = again own client us rs in
      let hs : List Lease = ask_held own now client us xs rs in
      let os : List (Option Lease) = ask_offers own now client name us xs rs in
      let same : prefixes hs ≡ in_use now t = held-prefixes now (cat_maybes gs) xs in
      newly gs os (rest-fills own now client name us hs rs)
      (all_map (λ x (k : (held_by? client x ≡ true) × (used? x ≡ true)). k.1) (cat_maybes gs) (again-all own client (λ x. used? x ≡ true) rs us among))
      (all_map (λ x (a : All (Apart (prefix_of x)) (in_use now t)). not_there (prefix_of x) (in_use now t) a) (cat_maybes os)
      (offers-new own now client name good (rest_of gs rs) (in_use now t) hs (λ P a. subst (All P) same a)))

pub stored : (t : LeaseTable) (now : ℕ) (xs : List Lease) → All (Good (pools_of t) now) xs → leases_of (store t now xs) ≡ xs
unfolding store
stored t now xs g = present-stored (pools_of t) now xs g

-- ONE CALL

-- The balance of a call that answers n and leaves u, with what it granted and what its entries returned.
abbrev Balance : LeaseTable → ℕ → ℕ → ℕ → ℕ → LeaseTable → Type 0
Balance t now granted back n u = addresses_of (leases_of u) + cond (eqb n 0) back 0 + cond (eqb n 0) (ended_at now t) 0 ≡ addresses_of (leases_of t) + granted

refused-balance : (t : LeaseTable) (now back n : ℕ) → eqb n 0 ≡ false → Balance t now 0 back n t
refused-balance t now back n e = omega (arith, cond-false (eqb n 0) back 0 e, cond-false (eqb n 0) (ended_at now t) 0 e)

module _ (t : LeaseTable) (now : ℕ) (s : sound t ≡ true) (since : t.last ≤ now) where
  -- A table stored with leases whose sum is known.
  store-balance : (granted back : ℕ) (ys : List Lease) → All (Good (pools_of t) now) ys → addresses_of ys + back ≡ addresses_of (present now t.leases) + granted
      → Balance t now granted back 0 (store t now ys)
  store-balance granted back ys g e = omega (arith, ap addresses_of (stored t now ys g), parts t now since)

  -- Leases changed in place.
  map-balance : (p : Lease → Bool) (f : Lease → Lease) → Mild (pools_of t) now f → Balance t now 0 0 0 (store t now (map (λ x. cond (p x) (f x) x) (present now t.leases)))
  map-balance p f m =
      let xs : List Lease = present now t.leases in
      let k : Mild (pools_of t) now (λ x. cond (p x) (f x) x) = cond-mild (pools_of t) now p f m in
      store-balance 0 0 (map (λ x. cond (p x) (f x) x) xs) (fine-map (pools_of t) now 0 (λ x. cond (p x) (f x) x) k.place k.good xs (sound-fine t s now)).0
      (omega (arith, total-map (λ x. cond (p x) (f x) x) k.place xs))

  -- Leases left out.
  filter-balance : (p q : Lease → Bool) → Opposite p q → Balance t now 0 (addresses_of (filter q (present now t.leases))) 0 (store t now (filter p (present now t.leases)))
  filter-balance p q o =
      let xs : List Lease = present now t.leases in
      store-balance 0 (addresses_of (filter q xs)) (filter p xs) (fine-filter (pools_of t) now 0 p xs (sound-fine t s now)).0 (omega (arith, total-parts p q o xs))

  -- Leases given again, which count as they did, and leases newly made.
  ask-total : (own : LeaseTable) (client : ℕ) (name : Name) (us : List Lease) (rs : List Request)
      → let xs = present now t.leases in addresses_of (ask_leases own now client name us xs rs) ≡ addresses_of xs + addresses_of (cat_maybes (ask_offers own now client name us xs rs))
  ask-total own client name us rs =
      let xs : List Lease = present now t.leases in
      let given : List Lease = cat_maybes (again own client us rs) in
      total-add_all (ask_offers own now client name us xs rs) (ask_held own now client us xs rs) ∙ ap (λ (n : ℕ). n + addresses_of (cat_maybes (ask_offers own now client name us xs rs))) (total-map (held now given) (held_place now given) xs)

  asked-balance : (rows : List FigureRow) (made : ℕ) (gs ys : List Lease) → (gs ≡ [] → made ≡ 0) → All (Good (pools_of t) now) ys → addresses_of ys ≡ addresses_of (present now t.leases) + made
      → Balance t now made 0 (number_for (present now t.leases) gs) (state_for (state t rows) now ys gs).table
  unfolding left
  asked-balance rows made [] ys none_made g e =
      subst (λ (n : ℕ). Balance t now n 0 (cond (full (present now t.leases)) 9 10) t) (sym (none_made refl))
      (refused-balance t now 0 (cond (full (present now t.leases)) 9 10) (full-number (full (present now t.leases))))
    where
      full-number : (b : Bool) → eqb (cond b 9 10) 0 ≡ false
      full-number true = refl
      full-number false = refl
  asked-balance rows made (h ∷ hs) ys none_made g e = store-balance made 0 ys g (omega (arith, e))

-- An ask's balance is with the entries of its reply that are newly made.
abbrev AskBalance : LeaseTable → ℕ → Result State → Type 0
AskBalance t now r = Balance t now (addresses_in (newly_made now t (reply_entries r))) 0 r.answer.number r.state.table

pub numbered-before : (s : State) (now : ℕ) (c : Call) → Numbered (before 9 (ask_rows s now c))
unfolding ask_rows
numbered-before s now c = (refl, (refl, (refl, (refl, (refl, (refl, (refl, (refl, (refl, (refl, (refl, (refl, tt))))))))))))

ask-balance : (t : State) (now : ℕ) (c : Call) → AskBalance t.table now (ask t now c)
unfolding well_formed
ask-balance t now c = ⊎_elim good bad (bool_cases (well_formed now t c))
  where
    good : well_formed now t c ≡ true → AskBalance t.table now (ask t now c)
    good e =
        let k = called now t c e in
        let w = well now t c e in
        let xs : List Lease = present now t.table.leases in
        let own : LeaseTable = narrowed t.table c in
        let us : List Lease = usable_leases t.table c xs in
        let gs : List (Option Lease) = again own c.client us (asks_of c) in
        let os : List (Option Lease) = ask_offers own now c.client (ask_name c) us xs (asks_of c) in
        let granted : List Lease = cat_maybes (gives_on now t c) in
        let made : ℕ = addresses_of (cat_maybes os) in
        let nothing : granted ≡ [] → made ≡ 0 =
        λ z. ap addresses_of (turn-none now gs os (rest-fills own now c.client (ask_name c) us (ask_held own now c.client us xs (asks_of c)) (asks_of c)) z).1 in
        let b : Balance t.table now made 0 (number_for xs granted) (state_for t now (leases_on now t c) granted).table =
        asked-balance t.table now w.sound w.accepted.0 t.rows made granted (leases_on now t c) nothing k.good (ask-total t.table now w.sound w.accepted.0 own c.client (ask_name c) us (asks_of c)) in
        let m : addresses_in (newly_made now t.table (reply_entries (ask t now c))) ≡ made =
        ap (λ (es : List Entry). addresses_in (newly_made now t.table es)) k.told ∙ ap addresses_in (newly-made now t.table own (area t.table c w.sound).good c.client (ask_name c) us (usable-all t.table c (λ x. any? (same? (prefix_of x)) (in_use now t.table) ≡ true) xs (all_in_use xs)) (asks_of c)) ∙ total-entries (cat_maybes os) in
        subst (λ (n : ℕ). Balance t.table now n 0 (ask t now c).answer.number (ask t now c).state.table) (sym m)
        (subst (λ (n : ℕ). Balance t.table now made 0 n (ask t now c).state.table) (sym k.number)
        (subst (λ (u : State). Balance t.table now made 0 (number_for xs granted) u.table) (sym k.left-state) b))

    bad : well_formed now t c ≡ false → AskBalance t.table now (ask t now c)
    bad e =
        let r = run-refused now t c e in
        let z : eqb r.0 0 ≡ false = first-number (λ m. eqb m 0 ≡ false) (rows_for now t c) (numbered-before t now c) r.0 r.1 in
        subst (AskBalance t.table now) (sym r.2)
        (refused-balance t.table now 0 r.0 z ∙ ap (λ (es : List Entry). addresses_of (leases_of t.table) + addresses_in (newly_made now t.table es)) (sym (reads_none r.0 (refusal_place c.option r.0) t c.reply)))

-- EVERY CALL

plain : (t : LeaseTable) (now granted n : ℕ) (u : LeaseTable) → Balance t now granted 0 n u → addresses_of (leases_of u) + 0 + cond (eqb n 0) (ended_at now t) 0 ≡ addresses_of (leases_of t) + granted
plain t now granted n u b = omega (arith, b, zero-either (eqb n 0))
  where
    zero-either : (b : Bool) → ◌≡◌ {A = ℕ} (cond b 0 0) 0
    zero-either true = refl
    zero-either false = refl

take-balance : (s : State) (now : ℕ) (c : Call) → sound s.table ≡ true → Balance s.table now 0 0 (take s now c).answer.number (take s now c).state.table
unfolding take take_rows renewed
take-balance s now c so =
    by_rows_lem (λ (r : Result State). Balance s.table now 0 0 r.answer.number r.state.table) (take_rows s now c) _ _ (numbered-take s now c)
    (λ n e. refused-balance s.table now 0 n e)
    (λ e.
    let r = first-none (take_rows s now c) e in
    map-balance s.table now so (ltb-false now s.table.last r.1.1.1.1.0) (named_by? c.client (usable_entries s.table c)) (renew now s.table.term) (renew-mild s.table now so))

release-balance : (s : State) (now : ℕ) (c : Call) → sound s.table ≡ true
    → Balance s.table now 0 (addresses_of (filter (named_by? c.client (entries_in c.option)) (present now s.table.leases))) (release s now c).answer.number (release s now c).state.table
unfolding release release_rows left
release-balance s now c so =
    let named : Lease → Bool = named_by? c.client (entries_in c.option) in
    let back : ℕ = addresses_of (filter named (present now s.table.leases)) in
    by_rows_lem (λ (r : Result State). Balance s.table now 0 back r.answer.number r.state.table) (release_rows s now c) _ _ (numbered-release s now c)
    (λ n e. refused-balance s.table now back n e)
    (λ e.
    let r = first-none (release_rows s now c) e in
    filter-balance s.table now so (ltb-false now s.table.last r.1.1.1.0) (λ x. not (named_by? c.client (entries_in c.option) x)) (named_by? c.client (entries_in c.option)) (opposite-not (named_by? c.client (entries_in c.option))))

mark-balance : (s : State) (now network len : ℕ) (d : Bool) → sound s.table ≡ true
    → Balance s.table now 0 0 (mark s now network len d).answer.number (mark s now network len d).state.table
unfolding mark mark_rows left
mark-balance s now network len d so =
    by_rows_lem (λ (r : Result State). Balance s.table now 0 0 r.answer.number r.state.table) (mark_rows s now network len) _ _ (numbered-mark s now network len)
    (λ n e. refused-balance s.table now 0 n e)
    (λ e.
    let r = first-none (mark_rows s now network len) e in
    map-balance s.table now so (ltb-false now s.table.last r.1.1.0) (at? network len) (with_d d) (with_d-mild s.table now so d))

one : (s : State) (e : Event) → sound s.table ≡ true
    → addresses_of (leases_of (next ledger s e).table) + returned_by ledger s e + ended_by ledger s e ≡ addresses_of (leases_of s.table) + granted_by ledger s e
unfolding returned_by ended_by granted_by
one s (asked now c) so =
    let r : Result State = ask s now c in
    plain s.table now (addresses_in (newly_made now s.table (reply_entries r))) r.answer.number r.state.table (ask-balance s now c)
one s (taken now c) so =
    let r : Result State = take s now c in
    plain s.table now 0 r.answer.number r.state.table (take-balance s now c so)
one s (was_listed now c) so = omega (arith, ap (λ (u : State). addresses_of (leases_of u.table)) (list-keeps s now c))
one s (returned now c) so = release-balance s now c so
one s (marked now network len d) so =
    let r : Result State = mark s now network len d in
    plain s.table now 0 r.answer.number r.state.table (mark-balance s now network len d so)
one s saved so = omega arith

pub conservation : FromLoad ledger
unfolding afterwards summed
conservation s [] so = omega arith
conservation s (e ∷ es) so = omega (arith, one s e so, conservation (next ledger s e) es (next-sound s e so))

-- From open there are no leases at first.
none-present : (now : ℕ) → present now [] ≡ []
unfolding present
none-present now = refl

pub conservation-open : FromOpen
conservation-open networks lengths term default_length start es e =
    let s : State = (open_table networks lengths term default_length start).state in
    let o = opened-is networks lengths term default_length start e in
    let n : addresses_of (leases_of s.table) ≡ 0 =
    ap (λ (u : State). addresses_of (leases_of u.table)) o.1 ∙ ap addresses_of (present-padded start lease_slots [] ∙ none-present start) in
    let so : sound s.table ≡ true = subst (λ (u : State). sound u.table ≡ true) (sym o.1) (open-sound networks lengths term default_length start o.0) in
    omega (arith, conservation s es so, n)
