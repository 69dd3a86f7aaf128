-- NAMES ARE KEPT by the ledger's calls: the leases that an ask newly makes have its message's name, and nothing else gives a lease a name or takes it away.
-- Assumes nothing.
use Prim.Native.Nat.{ℕ, ◌≤◌}
use mathlib.Core.Path.{◌≡◌, refl, sym, ap, subst}
use mathlib.Core.Bool.{Bool, true, false, not, cond}
use mathlib.Core.List.{List, [], map}
use mathlib.Core.Option.{Option}
use lib.ListN.{length}
use lib.Dec.{eqb}
use borrow.Author.Tests.{ltb-false, eqb-false, not-false}
use Rattle.lists.specs.Lists.{All, Any, any?, filter, cat_maybes}
use Rattle.lists.proofs.ListLaws.{all_map, all-map₂, all-image, all-preimage, all-every, all-member, any-map}
use Rattle.lists.proofs.FilterLaws.{filter-all}
use Rattle.prefix.specs.declared.Prefix.{Prefix}
use Rattle.prefix.specs.Prefixes.{longest, Apart}
use Rattle.free_space.specs.Serving.{Pools}
use Rattle.option.specs.Contents.{Request, requests_in, entries_in, first_name_in}
use Rattle.names.specs.declared.Name.{Name}
use Rattle.names.specs.Names.{longest_name, name_text}
use Rattle.names.proofs.NameLaws.{name-of-text}
use Rattle.table.specs.declared.{Lease.Lease, LeaseTable.LeaseTable}
use Rattle.table.specs.Table.{prefix_of, pools_of, present, sound, store}
use Rattle.table.proofs.Ascending.{Ascending}
use Rattle.table.proofs.TableLaws.{Good, sound-fine, fine-map}
use Rattle.ledger.specs.Ledger.{State, left, Call, refusal_place, ask_name, hold_again, again, rest_of, ask_held, ask_offers, ask_leases, narrowed, usable_leases, usable_entries, ask_rows, ask, named_by?, renew, renewed, take_rows, take, release_rows, release, at?, with_d, mark_rows, mark, ledger}
use Rattle.ledger.specs.Histories.{leases_of}
use Rattle.ledger.specs.Sizes.{Bytes}
use Rattle.ledger.specs.NamesKept.{Stood, Keeps, NamesStay, NamesMade, NamesKept}
use Rattle.ledger.proofs.RowLaws.{accepted-by, numbered-ask, numbered-take, numbered-release, numbered-mark}
use Rattle.ledger.proofs.ReadLaws.{requests-short, name-bytes, name-ends}
use Rattle.ledger.proofs.GroundLaws.{Ground, area}
use Rattle.ledger.proofs.OfferLaws.{prefixes, offers-all, offers-new, offers-good, add_all-all}
use Rattle.ledger.proofs.AgainLaws.{hold-good, held-prefixes, held_all, rest_all}
use Rattle.ledger.proofs.AsksTwiceHolds.{apart-networks}
use Rattle.ledger.proofs.SoundKept.{Mild, cond-mild, renew-mild, with_d-mild}
use Rattle.ledger.proofs.FiguresHold.{only_one}
use Rattle.ledger.proofs.ConservationHolds.{stored}

-- LEASES THAT STAND AMONG xs BY THEIR PREFIX, and have the name of the one that stood there

module _ (xs : List Lease) where
  abbrev Stays : Prefix → Name → Type 0
  Stays p n = Any (λ x. prefix_of x ≡ p) xs × All (λ x. prefix_of x ≡ p → n ≡ x.name) xs

  -- Of leases that ascend only one has a prefix.
  own-names : (from : ℕ) → Ascending prefix_of from xs → All (λ x. Stays (prefix_of x) x.name) xs
  own-names from up =
      let only : (x z : Lease) → (prefix_of z ≡ prefix_of x → z ≡ x) → prefix_of z ≡ prefix_of x → x.name ≡ z.name = λ x z one p. ap (λ (v : Lease). v.name) (sym (one p)) in
      let own : (x : Lease) → Any (λ z. z ≡ x) xs → Stays (prefix_of x) x.name =
      λ x a. (any-map (λ z (e : z ≡ x). ap prefix_of e) xs a, all_map (only x) xs (only_one x from xs up a)) in
      all_map own xs (all-member xs)

  -- A change of leases that keeps prefix and name.
  changed-names : (p : Lease → Bool) (f : Lease → Lease) → ((x : Lease) → prefix_of (f x) ≡ prefix_of x) → ((x : Lease) → (f x).name ≡ x.name) → (ys : List Lease)
      → All (λ x. Stays (prefix_of x) x.name) ys → All (λ x. Stays (prefix_of x) x.name) (map (λ x. cond (p x) (f x) x) ys)
  changed-names p f place named ys a = all-image (λ x. cond (p x) (f x) x) (λ x. Stays (prefix_of x) x.name) ys (all_map (λ x k. either x (p x) k) ys a)
    where
      either : (x : Lease) (b : Bool) → Stays (prefix_of x) x.name → Stays (prefix_of (cond b (f x) x)) (cond b (f x) x).name
      either x true k = subst (λ (q : Prefix). Stays q (f x).name) (sym (place x)) (subst (Stays (prefix_of x)) (sym (named x)) k)
      either x false k = k

-- A CALL THAT MAKES NO LEASE: leases changed in place, and leases left out

module _ (t : LeaseTable) (now : ℕ) (so : sound t ≡ true) where
  abbrev here : List Lease
  here = present now t.leases

  abbrev Kept : List Lease → Type 0
  Kept ys = All (λ y. Stood here y × Keeps here y) ys

  own-kept : Kept here
  own-kept = own-names here 0 (sound-fine t so now).1

  map-names : (p : Lease → Bool) (f : Lease → Lease) → Mild (pools_of t) now f → ((x : Lease) → (f x).name ≡ x.name) → Kept (leases_of (store t now (map (λ x. cond (p x) (f x) x) here)))
  map-names p f m named =
      let k : Mild (pools_of t) now (λ x. cond (p x) (f x) x) = cond-mild (pools_of t) now p f m in
      subst Kept (sym (stored t now (map (λ x. cond (p x) (f x) x) here) (fine-map (pools_of t) now 0 (λ x. cond (p x) (f x) x) k.place k.good here (sound-fine t so now)).0))
      (changed-names here p f m.place named here own-kept)

  filter-names : (p : Lease → Bool) → Kept (leases_of (store t now (filter p here)))
  filter-names p =
      subst Kept (sym (stored t now (filter p here) (filter-all p (Good (pools_of t) now) here (sound-fine t so now).0)))
      (filter-all p (λ y. Stood here y × Keeps here y) here own-kept)

  -- AN ASK: leases given again, and leases newly made, which share no address with those present
  module _ (client : ℕ) (name : Name) (some-client : client ≡ 0 → ⊥) (rs : List Request) (short : All (λ r. r.length ≤ longest) rs)
      (own : LeaseTable) (area : Ground (pools_of t) own) (us : List Lease) where
    abbrev given : List (Option Lease)
    given = again own client us rs

    abbrev rest : List Request
    rest = rest_of given rs

    abbrev held : List Lease
    held = ask_held own now client us here rs

    abbrev new : List (Option Lease)
    new = ask_offers own now client name us here rs

    abbrev good : Pools (pools_of own)
    good = area.good

    abbrev Made : Lease → Type 0
    Made y = ((Stood here y → ⊥) → y.name ≡ name) × Keeps here y

    new-made : All Made (cat_maybes new)
    new-made =
        let same : prefixes held ≡ prefixes here = held-prefixes now (cat_maybes given) here in
        all-map₂ made (cat_maybes new)
        (offers-all own now client name good (λ r. Unit {0}) (λ x. x.name ≡ name) (λ ys r x _ o. o.label) rest held (all-every (λ r. tt) rest))
        (offers-new own now client name good rest (prefixes here) held (λ P a. subst (All P) same a))
      where
        made : (x : Lease) → x.name ≡ name → All (Apart (prefix_of x)) (prefixes here) → Made x
        made x e a =
            let other : (z : Lease) → Apart (prefix_of x) (prefix_of z) → prefix_of z ≡ prefix_of x → x.name ≡ z.name =
            λ z b p. absurd (apart-networks (prefix_of x) (prefix_of z) b (ap (λ (q : Prefix). q.network) (sym p))) in
            ((λ _. e), all_map other here (all-preimage prefix_of (Apart (prefix_of x)) here a))

    held-made : All Made held
    held-made =
        all_map (λ y (k : Stood here y × Keeps here y). ((λ no. absurd (no k.0)), k.1)) held
        (changed-names here (λ x. any? (λ y. eqb y.network x.network) (cat_maybes given)) (hold_again now) (λ x. refl) (λ x. refl) here own-kept)

    ask-names : All Made (leases_of (store t now (ask_leases own now client name us here rs)))
    ask-names =
        subst (All Made)
        (sym (stored t now (ask_leases own now client name us here rs)
        (add_all-all (Good (pools_of t) now) new held
        (offers-good own now client name good (pools_of t) area some-client rest held (rest_all (λ r. r.length ≤ longest) given rs short))
        (held_all now (cat_maybes given) (Good (pools_of t) now) (hold-good (pools_of t) now) here (sound-fine t so now).0))))
        (add_all-all Made new held new-made held-made)

-- EVERY CALL

module _ (s : State) (now : ℕ) (c : Call) where
  asks-names : (ask s now c).answer.number ≡ 0 → NamesMade (ask_name c) now s (ask s now c).state
  unfolding ask ask_rows left
  asks-names =
      accepted-by (NamesMade (ask_name c) now s) (ask_rows s now c) (refusal_place c.option) s c.reply _ (numbered-ask s now c)
      (λ r.
      let so : sound s.table ≡ true = not-false (sound s.table) r.1.0 in
      ask-names s.table now so c.client (ask_name c) (eqb-false c.client 0 r.1.1.1.0) (requests_in c.option) (requests-short c.option) (narrowed s.table c) (area s.table c so)
      (usable_leases s.table c (present now s.table.leases)))

  takes-names : (take s now c).answer.number ≡ 0 → NamesStay now s (take s now c).state
  unfolding take take_rows renewed
  takes-names =
      accepted-by (NamesStay now s) (take_rows s now c) (refusal_place c.option) s c.reply _ (numbered-take s now c)
      (λ r.
      let so : sound s.table ≡ true = not-false (sound s.table) r.1.0 in
      map-names s.table now so (named_by? c.client (usable_entries s.table c)) (renew now s.table.term) (renew-mild s.table now so) (λ x. refl))

  releases-names : (release s now c).answer.number ≡ 0 → NamesStay now s (release s now c).state
  unfolding release release_rows left
  releases-names =
      accepted-by (NamesStay now s) (release_rows s now c) (refusal_place c.option) s c.reply _ (numbered-release s now c)
      (λ r. filter-names s.table now (not-false (sound s.table) r.0) (λ x. not (named_by? c.client (entries_in c.option) x)))

marks-names : (s : State) (now network len : ℕ) (d : Bool) → (mark s now network len d).answer.number ≡ 0 → NamesStay now s (mark s now network len d).state
unfolding mark mark_rows left
marks-names s now network len d =
    accepted-by (NamesStay now s) (mark_rows s now network len) (λ n. 0) s [] _ (numbered-mark s now network len)
    (λ r. let so : sound s.table ≡ true = not-false (sound s.table) r.0 in map-names s.table now so (at? network len) (with_d d) (with_d-mild s.table now so d) (λ x. refl))

pub names-kept : NamesKept ledger
names-kept = record { asks = asks-names; takes = takes-names; releases = releases-names; marks = marks-names }

-- WHAT THE NAME OF AN ACCEPTED ASK IS: the octets of its first Name, "0 to 24 octets, the last not zero", and none where it has no Name.
pub name-told : (s : State) (now : ℕ) (c : Call) → Bytes c.option → (ask s now c).answer.number ≡ 0 → name_text (ask_name c) ≡ first_name_in c.option
unfolding ask ask_rows
name-told s now c b =
    accepted-by (λ _. name_text (ask_name c) ≡ first_name_in c.option) (ask_rows s now c) (refusal_place c.option) s c.reply _ (numbered-ask s now c)
    (λ r.
    let short : length (first_name_in c.option) ≤ longest_name = ltb-false longest_name (length (first_name_in c.option)) r.1.1.1.1.1.1.1.1.1.1.0 in
    name-of-text (first_name_in c.option) short (name-bytes c.option b) (name-ends c.option))
