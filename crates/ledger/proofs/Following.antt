-- WHATEVER FOLLOWS THE LEDGER KEEPS ITS THEOREMS. Calls on what holds a state follow the ledger if each gives the ledger's answer and reply, leaves what
-- holds the ledger's state, and leaves all as it was where it refuses. Demand 3, what a client that asks twice gets, conservation, that no address is shared,
-- and what a list depends on are stated of any calls; they hold of those that follow, because they hold of the ledger's own.
-- Assumes nothing.
use Prim.Native.Nat.{ℕ, ◌+◌}
use mathlib.Core.Path.{◌≡◌, refl, sym, ap, ap₂, subst, ◌∙◌}
use mathlib.Core.Bool.{Bool, true, false, cond}
use mathlib.Core.List.{List, [], ◌∷◌, ◌++◌, map, Permᴰ}
use mathlib.Core.Option.{Option}
use lib.Dec.{eqb}
use lib.ListN.{take as up_to}
use Rattle.lists.specs.Lists.{All, filter, concat_map, cat_maybes}
use Rattle.lists.proofs.ListLaws.{all_map}
use Rattle.option.specs.Values.{Entry}
use Rattle.option.specs.Contents.{entries_in}
use Rattle.table.specs.declared.{Lease.Lease, LeaseTable.LeaseTable}
use Rattle.table.specs.Table.{present, sound}
use Rattle.ledger.specs.declared.Answer.{Answer}
use Rattle.prefix.specs.declared.Prefix.{Prefix}
use Rattle.ledger.specs.Ledger.{State, Call, ask_name, call, Result, Calls, held_again, narrowed, ask, ledger, named_by?}
use Rattle.ledger.specs.Demand3.{Server, well_formed, asks_of, held_before, pair_off, confirmed, option220, reply_entries, in_use, lease_for, RefusedRightly, Received, granted, received, after_all, well_formed_calls, made, AllGranted, Untouched, Demand3}
use Rattle.ledger.specs.AskingTwice.{GivenAgain, granted_to_rest, AsksTwice}
use Rattle.ledger.specs.Histories.{Event, asked, taken, was_listed, returned, marked, saved, next, afterwards, Reachable, begun, called, NeverShared, leases_of}
use Rattle.ledger.specs.Conservation.{addresses_of, addresses_in, newly_made, if_accepted, ended_at, granted_by, returned_by, ended_by, summed, Conserved, FromLoad}
use Rattle.ledger.specs.ListDepends.{answered, DependsOnly}
use Rattle.ledger.proofs.RowLaws.{first-number}
use Rattle.ledger.proofs.CallLaws.{rows_for, run-refused}
use Rattle.ledger.proofs.SoundKept.{no-overlap}
use Rattle.ledger.proofs.HistoriesHold.{next-sound}
use Rattle.ledger.proofs.Demand3Holds.{ill-formed-always, demand3}
use Rattle.ledger.proofs.AsksTwiceHolds.{asks-twice}
use Rattle.ledger.proofs.ConservationHolds.{numbered-before, conservation}
use Rattle.ledger.proofs.ListDependsHolds.{list-depends}
use borrow.Author.Tests.{eqb-false}

-- q, on what was s, follows the ledger's r.
pub record Follows {S : Type 0} (state_of : S → State) (s : S) (r : Result State) (q : Result S) : Type 0 where
  pub answer : q.answer ≡ r.answer
  pub reply : q.reply ≡ r.reply
  pub holds : state_of q.state ≡ r.state
  pub refused : (r.answer.number ≡ 0 → ⊥) → q.state ≡ s

-- DEMAND 3

module _ {S : Type 0} (state_of : S → State) (server : Server S) (follows : (s : S) (now : ℕ) (c : Call) → Follows state_of s (ask (state_of s) now c) (server s now c)) where
  entries-same : (s : S) (now : ℕ) (c : Call) → reply_entries (server s now c) ≡ reply_entries (ask (state_of s) now c)
  entries-same s now c =
      let f = follows s now c in
      ap₂ (λ (a : Answer) (l : List ℕ). cond (eqb a.number 0) (entries_in (option220 (up_to a.bytes l))) []) f.answer f.reply

  granted-same : (now : ℕ) (s : S) (c : Call) → granted state_of server now s c ≡ granted (λ t. t) ask now (state_of s) c
  unfolding granted
  granted-same now s c =
      ap₂ (λ (u : State) (es : List Entry). map (confirmed now c.client u.table) (pair_off (state_of s).table (asks_of c) es)) (follows s now c).holds (entries-same s now c)

  after_same : (now : ℕ) (cs : List Call) (s : S) → state_of (after_all state_of server now s cs) ≡ after_all (λ t. t) ask now (state_of s) cs
  unfolding after_all
  after_same now [] s = refl
  after_same now (c ∷ cs) s = after_same now cs (server s now c).state ∙ ap (λ (u : State). after_all (λ t. t) ask now u cs) (follows s now c).holds

  -- What the well-formed calls of a list are granted, and what they made, from any f of a call and what it got.
  gathered : {B : Type 0} (first : State) (now : ℕ) (f : Received S → List B) (g : Received State → List B)
      → ((v : Received S) → f v ≡ g (record { call = v.call; got = state_of v.got })) → (cs : List Call) (s : S)
      → concat_map f (filter (λ v. well_formed now first v.call) (received state_of server now s cs))
      ≡ concat_map g (filter (λ v. well_formed now first v.call) (received (λ t. t) ask now (state_of s) cs))
  unfolding received
  gathered {B} first now f g e [] s = refl
  gathered {B} first now f g e (c ∷ cs) s =
      go (well_formed now first c)
      (gathered first now f g e cs (server s now c).state
      ∙ ap (λ (u : State). concat_map g (filter (λ v. well_formed now first v.call) (received (λ t. t) ask now u cs))) (follows s now c).holds)
    where
      ours : List (Received S)
      ours = filter (λ v. well_formed now first v.call) (received state_of server now (server s now c).state cs)

      theirs : List (Received State)
      theirs = filter (λ v. well_formed now first v.call) (received (λ t. t) ask now (ask (state_of s) now c).state cs)

      go : (b : Bool) → concat_map f ours ≡ concat_map g theirs → concat_map f (cond b (record { call = c; got = s } ∷ ours) ours) ≡ concat_map g (cond b (record { call = c; got = state_of s } ∷ theirs) theirs)
      go true rest = ap₂ (λ (a b : List B). a ++ b) (e (record { call = c; got = s })) rest
      go false rest = rest

  all-granted : (s : S) (now : ℕ) (area : List Prefix) (cs : List Call) → AllGranted (λ t. t) ask now (state_of s) area cs → AllGranted state_of server now s area cs
  all-granted s now area cs g = record {
    given = g.given;
    all =
        gathered (state_of s) now (λ v. granted state_of server now v.got v.call) (λ v. granted (λ t. t) ask now v.got v.call) (λ v. granted-same now v.got v.call) cs s
        ∙ g.all;
    lengths = g.lengths;
    free = g.free;
    apart = g.apart;
    left =
        subst (λ (l : List Lease). Permᴰ l (present now (state_of s).table.leases ++ concat_map (made state_of server now) (well_formed_calls state_of server now s cs)))
        (ap (λ (u : State). present now u.table.leases) (sym (after_same now cs s)))
        (subst (λ (l : List Lease). Permᴰ (present now (after_all (λ t. t) ask now (state_of s) cs).table.leases) (present now (state_of s).table.leases ++ l))
        (sym (gathered (state_of s) now (made state_of server now) (made (λ t. t) ask now)
        (λ v. ap (λ (es : List (Option Entry)). map (lease_for now v.call.client (ask_name v.call)) (cat_maybes es)) (granted-same now v.got v.call)) cs s))
        g.left);
  }

  -- A call that is not well-formed is refused by the ledger, so it leaves all as it was; and what later calls of the list get holds what the ledger's get.
  untouched-one : (s : S) (now : ℕ) (c : Call) → well_formed now (state_of s) c ≡ false → ((server s now c).state ≡ s) × ((server s now c).reply ≡ c.reply)
  unfolding well_formed
  untouched-one s now c e =
      let r = run-refused now (state_of s) c e in
      let z : eqb r.0 0 ≡ false = first-number (λ m. eqb m 0 ≡ false) (rows_for now (state_of s) c) (numbered-before (state_of s) now c) r.0 r.1 in
      let f = follows s now c in
      (f.refused (λ k. eqb-false r.0 0 z (sym (ap (λ (q : Result State). q.answer.number) r.2) ∙ k)), f.reply ∙ ap (λ (q : Result State). q.reply) r.2)

  -- What holds of each call with what the ledger's list gets holds with what these hold.
  got_same : (P : State → Call → Type 0) (now : ℕ) (cs : List Call) (s : S) → All (λ v. P v.got v.call) (received (λ t. t) ask now (state_of s) cs)
      → All (λ v. P (state_of v.got) v.call) (received state_of server now s cs)
  unfolding received
  got_same P now [] s a = tt
  got_same P now (c ∷ cs) s a =
      (a.0, got_same P now cs (server s now c).state (subst (λ (u : State). All (λ v. P v.got v.call) (received (λ t. t) ask now u cs)) (sym (follows s now c).holds) a.1))

  untouched : (s : S) (now : ℕ) (cs : List Call) → Untouched state_of server now s cs
  untouched s now cs =
      let stays : (v : Received S) → (well_formed now (state_of s) v.call ≡ false → well_formed now (state_of v.got) v.call ≡ false)
      → well_formed now (state_of s) v.call ≡ false → ((server v.got now v.call).state ≡ v.got) × ((server v.got now v.call).reply ≡ v.call.reply) =
      λ v w e. untouched-one v.got now v.call (w e) in
      all_map stays (received state_of server now s cs)
      (got_same (λ u c. well_formed now (state_of s) c ≡ false → well_formed now u c ≡ false) now cs s (ill-formed-always (state_of s) now cs))

  pub demand3-followed : Demand3 state_of server
  demand3-followed = record {
    sentence =
        λ s now c e. let t : LeaseTable = (state_of s).table in
        subst (RefusedRightly (narrowed t c) (in_use now t) (asks_of c) (held_before now t c)) (sym (granted-same now s c)) (demand3.sentence (state_of s) now c e);
    lists = λ s now area cs so a f p. all-granted s now area cs (demand3.lists (state_of s) now area cs so a f p);
    untouched = untouched;
  }

  -- WHAT IS GIVEN AGAIN

  pub asks-twice-followed : AsksTwice state_of server
  asks-twice-followed = record {
    given = λ s now c e. subst (GivenAgain (held_before now (state_of s).table c)) (sym (granted-same now s c)) (asks-twice.given (state_of s) now c e);
    once = λ s now c e. asks-twice.once (state_of s) now c e;
    left =
        λ s now c e. let hs : List (Option Lease) = held_before now (state_of s).table c in
        let here : List Lease = held_again now (cat_maybes hs) (present now (state_of s).table.leases) in
        subst (λ (u : State). Permᴰ (present now u.table.leases) (here ++ map (lease_for now c.client (ask_name c)) (granted_to_rest hs (granted state_of server now s c)))) (sym (follows s now c).holds)
        (subst (λ (es : List (Option Entry)). Permᴰ (present now (ask (state_of s) now c).state.table.leases) (here ++ map (lease_for now c.client (ask_name c)) (granted_to_rest hs es))) (sym (granted-same now s c))
        (asks-twice.left (state_of s) now c e));
    accepted = λ s now c e k. ap (λ (a : Answer). a.number) (follows s now c).answer ∙ asks-twice.accepted (state_of s) now c e k;
  }

-- HISTORIES

-- Each of the calls follows the ledger's.
pub record FollowsAll {S : Type 0} (calls : Calls S) : Type 0 where
  pub asks : (s : S) (now : ℕ) (c : Call) → Follows calls.state_of s (ledger.asks (calls.state_of s) now c) (calls.asks s now c)
  pub takes : (s : S) (now : ℕ) (c : Call) → Follows calls.state_of s (ledger.takes (calls.state_of s) now c) (calls.takes s now c)
  pub lists : (s : S) (now : ℕ) (c : Call) → Follows calls.state_of s (ledger.lists (calls.state_of s) now c) (calls.lists s now c)
  pub releases : (s : S) (now : ℕ) (c : Call) → Follows calls.state_of s (ledger.releases (calls.state_of s) now c) (calls.releases s now c)
  pub marks : (s : S) (now network len : ℕ) (d : Bool) → Follows calls.state_of s (ledger.marks (calls.state_of s) now network len d) (calls.marks s now network len d)

module _ {S : Type 0} (calls : Calls S) (follows : FollowsAll calls) where
  pub next-same : (s : S) (e : Event) → calls.state_of (next calls s e) ≡ next ledger (calls.state_of s) e
  next-same s (asked now c) = (follows.asks s now c).holds
  next-same s (taken now c) = (follows.takes s now c).holds
  next-same s (was_listed now c) = (follows.lists s now c).holds
  next-same s (returned now c) = (follows.releases s now c).holds
  next-same s (marked now network len d) = (follows.marks s now network len d).holds
  next-same s saved = refl

  pub afterwards-same : (es : List Event) (s : S) → calls.state_of (afterwards calls s es) ≡ afterwards ledger (calls.state_of s) es
  unfolding afterwards
  afterwards-same [] s = refl
  afterwards-same (e ∷ es) s = afterwards-same es (next calls s e) ∙ ap (λ (u : State). afterwards ledger u es) (next-same s e)

  -- NO TWO LEASES SHARE AN ADDRESS, if the histories begin with sound tables.
  module _ (Begins : S → Type 0) (begins-sound : (s : S) → Begins s → sound (calls.state_of s).table ≡ true) where
    reachable-sound : (s : S) → Reachable calls Begins s → sound (calls.state_of s).table ≡ true
    reachable-sound s (begun u b) = begins-sound u b
    reachable-sound s (called u e r) = subst (λ (v : State). sound v.table ≡ true) (sym (next-same u e)) (next-sound (calls.state_of u) e (reachable-sound u r))

    pub never-shared-followed : NeverShared calls Begins
    never-shared-followed s now r = no-overlap (calls.state_of s).table now (reachable-sound s r)

  -- CONSERVATION

  granted-by : (s : S) (e : Event) → granted_by calls s e ≡ granted_by ledger (calls.state_of s) e
  unfolding granted_by
  granted-by s (asked now c) = ap (λ (es : List Entry). addresses_in (newly_made now (calls.state_of s).table es)) (entries-same calls.state_of calls.asks follows.asks s now c)
  granted-by s (taken now c) = refl
  granted-by s (was_listed now c) = refl
  granted-by s (returned now c) = refl
  granted-by s (marked now network len d) = refl
  granted-by s saved = refl

  returned-by : (s : S) (e : Event) → returned_by calls s e ≡ returned_by ledger (calls.state_of s) e
  unfolding returned_by
  returned-by s (asked now c) = refl
  returned-by s (taken now c) = refl
  returned-by s (was_listed now c) = refl
  returned-by s (returned now c) =
      ap (λ (a : Answer). if_accepted a (addresses_of (filter (named_by? c.client (entries_in c.option)) (present now (calls.state_of s).table.leases)))) (follows.releases s now c).answer
  returned-by s (marked now network len d) = refl
  returned-by s saved = refl

  ended_alike : (s : S) (e : Event) → ended_by calls s e ≡ ended_by ledger (calls.state_of s) e
  unfolding ended_by
  ended_alike s (asked now c) = ap (λ (a : Answer). if_accepted a (ended_at now (calls.state_of s).table)) (follows.asks s now c).answer
  ended_alike s (taken now c) = ap (λ (a : Answer). if_accepted a (ended_at now (calls.state_of s).table)) (follows.takes s now c).answer
  ended_alike s (was_listed now c) = refl
  ended_alike s (returned now c) = ap (λ (a : Answer). if_accepted a (ended_at now (calls.state_of s).table)) (follows.releases s now c).answer
  ended_alike s (marked now network len d) = ap (λ (a : Answer). if_accepted a (ended_at now (calls.state_of s).table)) (follows.marks s now network len d).answer
  ended_alike s saved = refl

  summed_same : (f : S → Event → ℕ) (g : State → Event → ℕ) → ((s : S) (e : Event) → f s e ≡ g (calls.state_of s) e) → (es : List Event) (s : S) → summed calls f s es ≡ summed ledger g (calls.state_of s) es
  unfolding summed
  summed_same f g e [] s = refl
  summed_same f g e (x ∷ es) s = ap₂ ◌+◌ (e s x) (summed_same f g e es (next calls s x) ∙ ap (λ (u : State). summed ledger g u es) (next-same s x))

  -- The balance of a history is that of the ledger's.
  pub conserved-followed : (first : ℕ) (s : S) (es : List Event) → Conserved ledger first (calls.state_of s) es → Conserved calls first s es
  conserved-followed first s es c =
      ap₂ ◌+◌ (ap₂ ◌+◌ (ap (λ (u : State). addresses_of (leases_of u.table)) (afterwards-same es s)) (summed_same (returned_by calls) (returned_by ledger) returned-by es s))
      (summed_same (ended_by calls) (ended_by ledger) ended_alike es s)
      ∙ c
      ∙ ap (λ (n : ℕ). first + n) (sym (summed_same (granted_by calls) (granted_by ledger) granted-by es s))

  pub conservation-followed : FromLoad calls
  conservation-followed s es so = conserved-followed (addresses_of (leases_of (calls.state_of s).table)) s es (conservation (calls.state_of s) es so)

  -- WHAT A LIST DEPENDS ON

  answered-same : (s : S) (now : ℕ) (c : Call) → answered (calls.lists s now c) ≡ answered (ledger.lists (calls.state_of s) now c)
  answered-same s now c = let f = follows.lists s now c in ap₂ (λ (a : Answer) (l : List ℕ). (a, up_to a.bytes l)) f.answer f.reply

  pub list-depends-followed : DependsOnly calls
  list-depends-followed s u now client option reply reply' st su e l m =
      answered-same s now (call client option reply)
      ∙ list-depends (calls.state_of s) (calls.state_of u) now client option reply reply' st su e l m
      ∙ sym (answered-same u now (call client option reply'))
