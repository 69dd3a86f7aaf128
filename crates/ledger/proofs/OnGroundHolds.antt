-- WHAT AN ASK GIVES AND A TAKE CONFIRMS LIES ON THE GROUND OF THE CALL, whose pools contain the address that came with it.
-- Assumes nothing.
use Prim.Native.Nat.{ℕ, ◌≤◌, ◌<◌}
use mathlib.Core.Path.{◌≡◌, refl, sym, ap, subst, ◌∙◌}
use mathlib.Core.Logic.{⊎_elim}
use mathlib.Core.Bool.{Bool, true, false, not, cond}
use mathlib.Core.List.{List, [], ◌∷◌, map, append-nil}
use mathlib.Core.Option.{Option, none, some}
use lib.Dec.{leb, ltb, eqb}
use borrow.Author.Tests.{leb-true, ltb-true, eqb-true}
use Rattle.lists.specs.Lists.{All, Any, any?, filter, cat_maybes}
use Rattle.lists.proofs.Tests.{bool_cases, and-list-to, any?-to}
use Rattle.lists.proofs.ListLaws.{all_map, all_append, all-image, all-every}
use Rattle.lists.proofs.FilterLaws.{filter-all, filter-pass}
use Rattle.prefix.specs.declared.Prefix.{Prefix}
use Rattle.prefix.specs.Prefixes.{prefix, end, Inside, inside?}
use Rattle.prefix.proofs.PrefixLaws.{inside-to}
use Rattle.prefix.proofs.Nesting.{prefix-path}
use Rattle.option.specs.Values.{Entry, Outcome}
use Rattle.option.specs.Reading.{four}
use Rattle.option.specs.Contents.{suboptions, entries, entries_in}
use Rattle.option_reply.specs.Reply.{entry_of}
use Rattle.table.specs.declared.{Pool.Pool, Lease.Lease, LeaseTable.LeaseTable}
use Rattle.table.specs.Table.{pool_prefix, prefix_of, unused?, pools_of, present, sound}
use Rattle.table.proofs.Ascending.{used}
use Rattle.table.proofs.TableLaws.{Good, sound-fine}
use Rattle.ledger.specs.Ledger.{State, Call, contains?, narrowed_to, narrowed, on_ground, usable_leases, usable_entries, held_by?, again, rest_of, ask_held, ask_offers, gives_in, ask_name, ask, names?, found, refusal_place, take, ledger}
use Rattle.ledger.specs.Demand3.{well_formed, asks_of, entry_prefix, reply_entries}
use Rattle.ledger.specs.ReadBack.{read_in}
use Rattle.ledger.specs.OnGround.{Within, Contains, OnGround}
use Rattle.ledger.proofs.GroundLaws.{ground-filtered, area}
use Rattle.ledger.proofs.OfferLaws.{offers-all}
use Rattle.ledger.proofs.AgainLaws.{again-all, turn-all}
use Rattle.ledger.proofs.ReplyLaws.{reads_none}
use Rattle.ledger.proofs.CallLaws.{well, run-refused, called}
use Rattle.ledger.proofs.SoundKept.{take-sound}
use Rattle.ledger.proofs.ReadBack.{take-reads-back}

contains-address : (address : ℕ) (p : Pool) → contains? address p ≡ true → (p.network ≤ address) × (address < end (pool_prefix p))
contains-address address p e =
    let a = and-list-to (not (unused? p) ∷ leb p.network address ∷ ltb address (end (pool_prefix p)) ∷ []) e in
    (leb-true p.network address a.1.0, ltb-true address (end (pool_prefix p)) a.1.1.0)

contains-all : (t : LeaseTable) (s : List ℕ) → All (λ p. (p.network ≤ four s 2) × (four s 2 < end p)) (pools_of (narrowed_to (some s) t))
contains-all t s =
    let f : Pool → Bool = contains? (four s 2) in
    let ps : List Pool = used unused? t.pools in
    subst (All (λ p. (p.network ≤ four s 2) × (four s 2 < end p))) (sym (ground-filtered s t))
    (all-image pool_prefix (λ p. (p.network ≤ four s 2) × (four s 2 < end p)) (filter f ps) (all_map (contains-address (four s 2)) (filter f ps) (filter-pass f ps)))

contains : (t : LeaseTable) (c : Call) → Contains t c
unfolding narrowed
contains t c s e = subst (λ (o : Option (List ℕ)). All (λ p. (p.network ≤ four s 2) × (four s 2 < end p)) (pools_of (narrowed_to o t))) (sym e) (contains-all t s)

-- WHAT LIES ON THE GROUND, of the leases that are present and of the entries: where no option came all of a sound table's leases do.
module _ (t : LeaseTable) (now : ℕ) (so : sound t ≡ true) where
  abbrev xs : List Lease
  xs = present now t.leases

  all-pooled : All (λ x. Any (Inside (prefix_of x)) (pools_of t)) xs
  all-pooled = all_map (λ x (g : Good (pools_of t) now x). g.pooled) xs (sound-fine t so now).0

  usable-inside : (c : Call) → All (λ x. Any (Inside (prefix_of x)) (pools_of (narrowed t c))) (usable_leases t c xs)
  unfolding narrowed usable_leases
  usable-inside c = go c.selection
    where
      go : (o : Option (List ℕ)) → All (λ x. Any (Inside (prefix_of x)) (pools_of (narrowed_to o t))) (on_ground o t prefix_of xs)
      go none = all-pooled
      go (some s) =
          let ps : List Prefix = pools_of (narrowed_to (some s) t) in
          let f : Lease → Bool = λ x. any? (inside? (prefix_of x)) ps in
          all_map (λ x (e : f x ≡ true). any?-to (inside? (prefix_of x)) (inside-to (prefix_of x)) ps e) (filter f xs) (filter-pass f xs)

  -- A lease that an entry names has its prefix.
  named-prefix : (client : ℕ) (x : Lease) (e : Entry) → names? client x e ≡ true → prefix e.network e.length ≡ prefix_of x
  named-prefix client x e k =
      let a = and-list-to (eqb x.client client ∷ eqb x.network e.network ∷ eqb x.length e.length ∷ []) k in
      sym (prefix-path (prefix_of x) (prefix e.network e.length) (eqb-true x.network e.network a.1.0) (eqb-true x.length e.length a.1.1.0))

  found_in : (P : Prefix → Type 0) (client : ℕ) (es : List Entry) → All (λ e. P (prefix e.network e.length)) es → All (λ x. P (prefix_of x)) (found client xs es)
  found_in P client [] a = tt
  found_in P client (e ∷ es) a =
      let f : Lease → Bool = λ x. names? client x e in
      all_append (λ x. P (prefix_of x)) (filter f xs) (found client xs es)
      (all_map (λ x (k : f x ≡ true). subst P (named-prefix client x e k) a.0) (filter f xs) (filter-pass f xs)) (found_in P client es a.1)

  found_all : (P : Lease → Type 0) (client : ℕ) (es : List Entry) → All P xs → All P (found client xs es)
  found_all P client [] a = tt
  found_all P client (e ∷ es) a = all_append P (filter (λ x. names? client x e) xs) (found client xs es) (filter-all (λ x. names? client x e) P xs a) (found_all P client es a)

  found_inside : (c : Call) → All (λ x. Any (Inside (prefix_of x)) (pools_of (narrowed t c))) (found c.client xs (usable_entries t c))
  unfolding narrowed usable_entries
  found_inside c = go c.selection
    where
      go : (o : Option (List ℕ)) → All (λ x. Any (Inside (prefix_of x)) (pools_of (narrowed_to o t))) (found c.client xs (on_ground o t (λ e. prefix e.network e.length) (entries_in c.option)))
      go none = found_all (λ x. Any (Inside (prefix_of x)) (pools_of t)) c.client (entries_in c.option) all-pooled
      go (some s) =
          let ps : List Prefix = pools_of (narrowed_to (some s) t) in
          let f : Entry → Bool = λ e. any? (inside? (prefix e.network e.length)) ps in
          found_in (λ p. Any (Inside p) ps) c.client (filter f (entries_in c.option))
          (all_map (λ e (k : f e ≡ true). any?-to (inside? (prefix e.network e.length)) (inside-to (prefix e.network e.length)) ps k) (filter f (entries_in c.option)) (filter-pass f (entries_in c.option)))

-- ASK

gives-inside : (t : State) (now : ℕ) (c : Call) → sound t.table ≡ true → All (λ x. Any (Inside (prefix_of x)) (pools_of (narrowed t.table c))) (cat_maybes (gives_in t.table now c))
gives-inside t now c so =
    let here : List Lease = present now t.table.leases in
    let own : LeaseTable = narrowed t.table c in
    let us : List Lease = usable_leases t.table c here in
    let gs : List (Option Lease) = again own c.client us (asks_of c) in
    let held : List Lease = ask_held own now c.client us here (asks_of c) in
    let P : Lease → Type 0 = λ x. Any (Inside (prefix_of x)) (pools_of own) in
    turn-all now P gs (ask_offers own now c.client (ask_name c) us here (asks_of c))
    (all_map (λ x (k : (held_by? c.client x ≡ true) × Any (Inside (prefix_of x)) (pools_of own)). k.1) (cat_maybes gs) (again-all own c.client P (asks_of c) us (usable-inside t.table now so c)))
    (offers-all own now c.client (ask_name c) (area t.table c so).good (λ r. Unit {0}) P (λ ys r x _ o. o.free.pooled) (rest_of gs (asks_of c)) held (all-every (λ r. tt) (rest_of gs (asks_of c))))

ask-within : (t : State) (now : ℕ) (c : Call) → Within t.table c (ask t now c)
ask-within t now c =
    ⊎_elim
    (λ (e : well_formed now t c ≡ true).
    subst (All (λ e. Any (Inside (entry_prefix e)) (pools_of (narrowed t.table c)))) (sym (called now t c e).told)
    (all-image entry_of (λ e. Any (Inside (entry_prefix e)) (pools_of (narrowed t.table c))) (cat_maybes (gives_in t.table now c)) (gives-inside t now c (well now t c e).sound)))
    (λ (e : well_formed now t c ≡ false).
    let r = run-refused now t c e in
    subst (All (λ e. Any (Inside (entry_prefix e)) (pools_of (narrowed t.table c)))) (sym (ap reply_entries r.2 ∙ reads_none r.0 (refusal_place c.option r.0) t c.reply)) tt)
    (bool_cases (well_formed now t c))

-- TAKE

module _ (t : State) (now : ℕ) (c : Call) where
  abbrev OnIt : Entry → Type 0
  OnIt e = Any (Inside (entry_prefix e)) (pools_of (narrowed t.table c))

  take-told : (b : Bool) → eqb (take t now c).answer.number 0 ≡ b → All OnIt (cond b (entries (suboptions (read_in (take t now c)))) [])
  take-told false e = tt
  take-told true e =
      let z : (take t now c).answer.number ≡ 0 = eqb-true (take t now c).answer.number 0 e in
      let gs : List Lease = found c.client (present now t.table.leases) (usable_entries t.table c) in
      subst (All OnIt) (sym (ap (λ (o : Outcome). entries (suboptions o)) (take-reads-back t now c z) ∙ append-nil (map entry_of gs)))
      (all-image entry_of OnIt gs (found_inside t.table now (take-sound t now c z).0 c))

  take_within : Within t.table c (take t now c)
  take_within = take-told (eqb (take t now c).answer.number 0) refl

pub on-ground : OnGround ledger
on-ground = record { contains = λ s c. contains s.table c; asks = ask-within; takes = take_within }
