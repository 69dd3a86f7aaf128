-- Demand 3 is not empty: lists that meet its premise, by computation, and what it says of each; asks refused for want of ground and for want of lines. And
-- neither "stations hold nothing at the start" nor "each station's asks come in one message" can be left out of the premise.
-- Assumes nothing.
use Prim.Native.Nat.{ℕ}
use mathlib.Core.Path.{◌≡◌, refl, sym, ap, ap₂, subst, ◌∙◌}
use mathlib.Core.Bool.{Bool, true, false, not, ◌&&◌, true≢false}
use mathlib.Core.List.{List, [], ◌∷◌, map}
use mathlib.Core.Option.{Option, some}
use lib.ListN.{length, length-map}
use lib.Dec.{leb, eqb}
use borrow.Author.Tests.{leb-true, eqb-true, eqb-false, not-true}
use Rattle.lists.specs.Lists.{All, Pairwise, and, all?, any?, filter, concat_map, cat_maybes, insert_by}
use Rattle.lists.specs.Walk.{walk}
use Rattle.lists.proofs.Tests.{and-to, and-list-to, all?-to, any?-to}
use Rattle.lists.proofs.PartLaws.{cat_maybes-some}
use Rattle.prefix.specs.declared.Prefix.{Prefix}
use Rattle.prefix.specs.Prefixes.{prefix, aligned?, inside?, Apart, apart?}
use Rattle.prefix.proofs.PrefixLaws.{aligned-to, inside-to, apart-to}
use Rattle.prefix.proofs.Nesting.{inside-refl, apart-absurd}
use Rattle.free_space.specs.Space.{Free}
use Rattle.option.specs.Values.{Entry}
use Rattle.option.specs.Rules.{entry_fields?, fields?}
use Rattle.option.specs.Reading.{option?, sub_inside?, when_good, read_request, figures_at, entry_at, entry_framed?, read_entry, read_entries, read_information, read_name, read_body, read_suboption, read_suboptions, read_option}
use Rattle.option.specs.Writing.{two_bytes, four_bytes, request_bytes, entry_head, entry_bytes, entries_bytes, information_head, suboption_bytes, suboptions_bytes, option_head, option_bytes}
use Rattle.names.specs.Names.{unnamed?}
use Rattle.table.specs.declared.LeaseTable.{LeaseTable}
use Rattle.table.specs.Table.{latest, pools_of, unused?, empty?, prefixes_of, present, head_ok, pool_ok, lease_ok, ascends?, sound, store}
use Rattle.figures.specs.Figures.{of_lease?, untold?, fits?, row_for, followed}
use Rattle.ledger.specs.Ledger.{State, Call, left, empty_slots, offer, offers, add_all, held_by?, again, rest_of, in_turn, ask_rows, ask, narrowed, usable_leases}
use Rattle.ledger.specs.Demand3.{Server, Accepts, well_formed, entry_prefix, in_use, is_granted, wants_slot, wants_space, well_formed_asks, lengths_asked, prefixes_at, HoldsNothing, CanBeChosen, granted, received, well_formed_calls, AllGranted, Demand3}
use Rattle.ledger_examples.specs.Examples.{buffer, requesting}
use Rattle.ledger_examples.specs.SampleLists.{table_with, lease, leases_from, held, call_by, three, Sample, malformed_between, ended_ground, prefix_zero, last_slots, filled_exactly, leased_before, samples, held_at_start, in_two_messages, fates, narrow, crowded}
use Rattle.ledger.proofs.Demand3Holds.{demand3}

-- THE PREMISE AS A TEST

abbrev pub free? : List Prefix → List Prefix → Prefix → Bool
free? pools leases p = aligned? p && (any? (inside? p) pools && all? (apart? p) leases)

pub free-to : (pools leases : List Prefix) (p : Prefix) → free? pools leases p ≡ true → Free pools leases p
free-to pools leases p e =
    let a = and-to (aligned? p) _ e in
    let b = and-to (any? (inside? p) pools) (all? (apart? p) leases) a.1 in
    record { aligned = aligned-to p a.0; pooled = any?-to (inside? p) (inside-to p) pools b.0; unused = all?-to (apart? p) (apart-to p) leases b.1 }

abbrev pub apart_all? : List Prefix → Bool
apart_all? [] = true
apart_all? (p ∷ ps) = all? (apart? p) ps && apart_all? ps

pub apart-all : (ps : List Prefix) → apart_all? ps ≡ true → Pairwise Apart ps
apart-all [] e = tt
apart-all (p ∷ ps) e = let a = and-to (all? (apart? p) ps) (apart_all? ps) e in (all?-to (apart? p) (apart-to p) ps a.0, apart-all ps a.1)

abbrev other_clients? : List Call → Bool
other_clients? [] = true
other_clients? (c ∷ cs) = all? (λ d. not (eqb c.client d.client)) cs && other_clients? cs

other-clients : (cs : List Call) → other_clients? cs ≡ true → Pairwise (λ c d. c.client ≡ d.client → ⊥) cs
other-clients [] e = tt
other-clients (c ∷ cs) e =
    let a = and-to (all? (λ d. not (eqb c.client d.client)) cs) (other_clients? cs) e in
    let differ : (d : Call) → not (eqb c.client d.client) ≡ true → c.client ≡ d.client → ⊥ = λ d k. eqb-false c.client d.client (not-true (eqb c.client d.client) k) in
    (all?-to (λ d. not (eqb c.client d.client)) differ cs a.0, other-clients cs a.1)

abbrev holds_nothing? : ℕ → LeaseTable → Call → Bool
holds_nothing? now t c = all? (λ x. not (held_by? c.client x)) (present now t.leases)

holds-nothing : (now : ℕ) (t : LeaseTable) (c : Call) → holds_nothing? now t c ≡ true → HoldsNothing now t c.client
holds-nothing now t c e = all?-to (λ x. not (held_by? c.client x)) (λ x k. not-true (held_by? c.client x) k) (present now t.leases) e

-- Two lists of prefixes are the same.
abbrev alike? : List Prefix → List Prefix → Bool
alike? [] [] = true
alike? [] (q ∷ qs) = false
alike? (p ∷ ps) [] = false
alike? (p ∷ ps) (q ∷ qs) = and (eqb p.network q.network ∷ eqb p.length q.length ∷ alike? ps qs ∷ [])

alike : (ps qs : List Prefix) → alike? ps qs ≡ true → ps ≡ qs
alike [] [] e = refl
alike [] (q ∷ qs) e = absurd (true≢false (sym e))
alike (p ∷ ps) [] e = absurd (true≢false (sym e))
alike (p ∷ ps) (q ∷ qs) e =
    let r = and-list-to (eqb p.network q.network ∷ eqb p.length q.length ∷ alike? ps qs ∷ []) e in
    ap₂ (λ (x : Prefix) (xs : List Prefix). x ∷ xs)
    (ap₂ (λ (m n : ℕ). prefix m n) (eqb-true p.network q.network r.0) (eqb-true p.length q.length r.1.0)) (alike ps qs r.1.1.0)

-- The tests of a sample over some ground: sound, the time accepted, the networks can be chosen, every call has that ground.
abbrev tests_over : List Prefix → Sample → List Bool
tests_over area s =
    sound s.start.table
    ∷ leb s.start.table.last s.now
    ∷ leb s.now latest
    ∷ eqb (length s.networks) (length (lengths_asked s.now s.start s.calls))
    ∷ all? (free? area (in_use s.now s.start.table)) (prefixes_at s.networks (lengths_asked s.now s.start s.calls))
    ∷ apart_all? (prefixes_at s.networks (lengths_asked s.now s.start s.calls))
    ∷ leb (length (well_formed_asks s.now s.start s.calls)) (empty_slots s.now s.start.table)
    ∷ all? (λ c. alike? (pools_of (narrowed s.start.table c)) area) (filter (well_formed s.now s.start) s.calls)
    ∷ []

-- Over all of the ground: no call names a root.
abbrev tests : Sample → List Bool
tests s = tests_over (pools_of s.start.table) s

-- The calls of a list over the same ground, and over all of it.
abbrev pub Over : List Prefix → ℕ → State → List Call → Type 0
Over area now s cs = All (λ c. pools_of (narrowed s.table c) ≡ area) (filter (well_formed now s) cs)

abbrev pub OverAll : ℕ → State → List Call → Type 0
OverAll now s cs = Over (pools_of s.table) now s cs

pub chosen-over : (area : List Prefix) (s : Sample) → and (tests_over area s) ≡ true
    → (sound s.start.table ≡ true) × Accepts s.start.table s.now × CanBeChosen s.now s.start area s.calls × Over area s.now s.start s.calls
chosen-over area s e =
    let r = and-list-to (tests_over area s) e in
    let ps : List Prefix = prefixes_at s.networks (lengths_asked s.now s.start s.calls) in (
      r.0,
      (leb-true s.start.table.last s.now r.1.0, leb-true s.now latest r.1.1.0),
      record {
        networks = s.networks;
        enough = eqb-true (length s.networks) (length (lengths_asked s.now s.start s.calls)) r.1.1.1.0;
        free = all?-to (free? area (in_use s.now s.start.table)) (free-to area (in_use s.now s.start.table)) ps r.1.1.1.1.0;
        apart = apart-all ps r.1.1.1.1.1.0;
        slots = leb-true (length (well_formed_asks s.now s.start s.calls)) (empty_slots s.now s.start.table) r.1.1.1.1.1.1.0;
      },
      all?-to (λ c. alike? (pools_of (narrowed s.start.table c)) area) (λ c k. alike (pools_of (narrowed s.start.table c)) area k)
          (filter (well_formed s.now s.start) s.calls) r.1.1.1.1.1.1.1.0,
    )

pub chosen : (s : Sample) → and (tests s) ≡ true
    → (sound s.start.table ≡ true) × Accepts s.start.table s.now × CanBeChosen s.now s.start (pools_of s.start.table) s.calls × OverAll s.now s.start s.calls
chosen s e = chosen-over (pools_of s.start.table) s e

-- Its clients hold nothing, and each asks once.
abbrev pub hold_nothing? : Sample → Bool
hold_nothing? s = all? (holds_nothing? s.now s.start.table) (filter (well_formed s.now s.start) s.calls)

abbrev pub once? : Sample → Bool
once? s = other_clients? (filter (well_formed s.now s.start) s.calls)

pub hold-nothing : (s : Sample) → hold_nothing? s ≡ true → All (λ c. HoldsNothing s.now s.start.table c.client) (filter (well_formed s.now s.start) s.calls)
hold-nothing s e = all?-to (holds_nothing? s.now s.start.table) (holds-nothing s.now s.start.table) (filter (well_formed s.now s.start) s.calls) e

pub ask-once : (s : Sample) → once? s ≡ true → Pairwise (λ c d. c.client ≡ d.client → ⊥) (filter (well_formed s.now s.start) s.calls)
ask-once s e = other-clients (filter (well_formed s.now s.start) s.calls) e

abbrev pub meets_over? : List Prefix → Sample → Bool
meets_over? area s = and (and (tests_over area s) ∷ hold_nothing? s ∷ once? s ∷ [])

abbrev pub meets? : Sample → Bool
meets? s = meets_over? (pools_of s.start.table) s

-- What a server that meets demand 3 grants where a sample passes.
pub served-over : (server : Server State) → Demand3 (λ s. s) server → (area : List Prefix) (s : Sample) → meets_over? area s ≡ true → AllGranted (λ s. s) server s.now s.start area s.calls
served-over server d area s e =
    let r = and-list-to (and (tests_over area s) ∷ hold_nothing? s ∷ once? s ∷ []) e in
    let c = chosen-over area s r.0 in
    d.lists s.start s.now area s.calls c.0 c.1 (record { nothing = hold-nothing s r.1.0; over = c.3; once = ask-once s r.1.1.0 }) c.2

pub served : (server : Server State) → Demand3 (λ s. s) server → (s : Sample) → meets? s ≡ true → AllGranted (λ s. s) server s.now s.start (pools_of s.start.table) s.calls
served server d s e = served-over server d (pools_of s.start.table) s e

-- THE SIX LISTS meet the premise, so every well-formed ask of each is granted.
pub samples-meet : all? meets? samples ≡ true
unfolding samples malformed_between ended_ground prefix_zero last_slots filled_exactly leased_before table_with lease leases_from held call_by buffer walk entry_fields? fields? option? sub_inside? when_good read_request figures_at entry_at entry_framed? read_entry read_entries read_information read_name read_body read_suboption read_suboptions read_option unused? unnamed? empty? prefixes_of present head_ok pool_ok lease_ok ascends? sound of_lease? untold? fits? empty_slots ask_rows well_formed narrowed usable_leases
samples-meet = refl

pub samples-granted : All (λ s. AllGranted (λ s. s) ask s.now s.start (pools_of s.start.table) s.calls) samples
samples-granted = all?-to meets? (served ask demand3) samples samples-meet

-- How many asks are well-formed in each, and how many slots are empty before: in the fourth exactly as many, so that 1,024 leases are there in the end.
pub samples-count :
    map (λ s. length (well_formed_asks s.now s.start s.calls) ∷ empty_slots s.now s.start.table ∷ []) samples
    ≡ (2 ∷ 1024 ∷ []) ∷ (1 ∷ 1024 ∷ []) ∷ (2 ∷ 1024 ∷ []) ∷ (2 ∷ 2 ∷ []) ∷ (3 ∷ 1024 ∷ []) ∷ (1 ∷ 1023 ∷ []) ∷ []
unfolding samples malformed_between ended_ground prefix_zero last_slots filled_exactly leased_before table_with lease leases_from held call_by buffer walk entry_fields? fields? option? sub_inside? when_good read_request figures_at entry_at entry_framed? read_entry read_entries read_information read_name read_body read_suboption read_suboptions read_option unused? unnamed? empty? prefixes_of present head_ok pool_ok lease_ok ascends? sound of_lease? untold? fits? empty_slots ask_rows well_formed narrowed usable_leases
samples-count = refl

-- WHAT A LIST IS GRANTED, of any server: if all of it is granted, nothing is missing, and what is there was free and shares no address.

unfoldable pub what_of : Server State → Sample → List (Option Entry)
what_of server p = concat_map (λ v. granted (λ s. s) server p.now v.got v.call) (well_formed_calls (λ s. s) server p.now p.start p.calls)

module _ (server : Server State) (p : Sample) (a : AllGranted (λ s. s) server p.now p.start (pools_of p.start.table) p.calls) where
  given_is : cat_maybes (what_of server p) ≡ a.given
  unfolding what_of
  given_is = ap cat_maybes a.all ∙ cat_maybes-some a.given

  pub granted-all : length (cat_maybes (what_of server p)) ≡ length (what_of server p)
  unfolding what_of
  granted-all = ap length given_is ∙ sym (length-map a.given some) ∙ ap length (sym a.all)

  pub granted-free : All (Free (pools_of p.start.table) (in_use p.now p.start.table)) (map entry_prefix (cat_maybes (what_of server p)))
  granted-free = subst (λ (es : List Entry). All (Free (pools_of p.start.table) (in_use p.now p.start.table)) (map entry_prefix es)) (sym given_is) a.free

  pub granted-apart : Pairwise Apart (map entry_prefix (cat_maybes (what_of server p)))
  granted-apart = subst (λ (es : List Entry). Pairwise Apart (map entry_prefix es)) (sym given_is) a.apart

-- NEITHER CAN BE LEFT OUT of the premise.

-- Where a client held a lease at the start it gets that one, which was not free.
held-met : (and (tests held_at_start) && once? held_at_start) ≡ true
unfolding held_at_start table_with lease leases_from held call_by buffer walk entry_fields? fields? option? sub_inside? when_good read_request figures_at entry_at entry_framed? read_entry read_entries read_information read_name read_body read_suboption read_suboptions read_option unused? unnamed? empty? prefixes_of present head_ok pool_ok lease_ok ascends? sound of_lease? untold? fits? empty_slots ask_rows well_formed narrowed usable_leases
held-met = refl

pub nothing-needed : ((s : State) (now : ℕ) (cs : List Call) → sound s.table ≡ true → Accepts s.table now → Pairwise (λ c d. c.client ≡ d.client → ⊥) (filter (well_formed now s) cs)
    → OverAll now s cs → CanBeChosen now s (pools_of s.table) cs → AllGranted (λ s. s) ask now s (pools_of s.table) cs) → ⊥
unfolding what_of table_with lease leases_from held call_by buffer walk insert_by entry_fields? fields? option? sub_inside? when_good read_request figures_at entry_at entry_framed? read_entry read_entries read_information read_name read_body read_suboption read_suboptions read_option two_bytes four_bytes request_bytes entry_head entry_bytes entries_bytes information_head suboption_bytes suboptions_bytes option_head option_bytes unused? unnamed? empty? prefixes_of present head_ok pool_ok lease_ok ascends? sound of_lease? untold? fits? store row_for followed left offer offers add_all again rest_of in_turn ask_rows ask well_formed granted received held_at_start narrowed usable_leases
nothing-needed claim =
    let e = and-to (and (tests held_at_start)) (once? held_at_start) held-met in
    let c = chosen held_at_start e.0 in
    let p : Prefix = prefix 0x0a000100 26 in
    let f : Free (pools_of held_at_start.start.table) (in_use 1050 held_at_start.start.table) p = (granted-free ask held_at_start (claim held_at_start.start 1050 held_at_start.calls c.0 c.1 (ask-once held_at_start e.1) c.3 c.2)).0 in
    apart-absurd p p (inside-refl p) f.unused.0

-- Where a client asks in two messages the second gets what the first got.
messages-met : (and (tests in_two_messages) && hold_nothing? in_two_messages) ≡ true
unfolding in_two_messages table_with lease leases_from held call_by buffer walk entry_fields? fields? option? sub_inside? when_good read_request figures_at entry_at entry_framed? read_entry read_entries read_information read_name read_body read_suboption read_suboptions read_option unused? unnamed? empty? prefixes_of present head_ok pool_ok lease_ok ascends? sound of_lease? untold? fits? empty_slots ask_rows well_formed narrowed usable_leases
messages-met = refl

pub once-needed : ((s : State) (now : ℕ) (cs : List Call) → sound s.table ≡ true → Accepts s.table now → All (λ c. HoldsNothing now s.table c.client) (filter (well_formed now s) cs)
    → OverAll now s cs → CanBeChosen now s (pools_of s.table) cs → AllGranted (λ s. s) ask now s (pools_of s.table) cs) → ⊥
unfolding what_of table_with lease leases_from held call_by buffer walk insert_by entry_fields? fields? option? sub_inside? when_good read_request figures_at entry_at entry_framed? read_entry read_entries read_information read_name read_body read_suboption read_suboptions read_option two_bytes four_bytes request_bytes entry_head entry_bytes entries_bytes information_head suboption_bytes suboptions_bytes option_head option_bytes unused? unnamed? empty? prefixes_of present head_ok pool_ok lease_ok ascends? sound of_lease? untold? fits? store row_for followed left offer offers add_all again rest_of in_turn ask_rows ask well_formed granted received in_two_messages narrowed usable_leases
once-needed claim =
    let e = and-to (and (tests in_two_messages)) (hold_nothing? in_two_messages) messages-met in
    let c = chosen in_two_messages e.0 in
    let p : Prefix = prefix 0x0a000100 26 in
    let z : Apart p p = (granted-apart ask in_two_messages (claim in_two_messages.start 1000 in_two_messages.calls c.0 c.1 (hold-nothing in_two_messages e.1) c.3 c.2)).0.0 in
    apart-absurd p p (inside-refl p) z

-- THE FIRST SENTENCE: refused for want of ground between two that are granted, and for want of lines where no slot is empty.
pub refused-for :
    fates (in_use 1000 narrow.table) (granted (λ s. s) ask 1000 narrow (call_by 7 (three 25 24 26)))
    ∷ fates (in_use 1000 (crowded 1024).table) (granted (λ s. s) ask 1000 (crowded 1024) (call_by 7 (requesting 30)))
    ∷ []
    ≡ (is_granted ∷ wants_space ∷ is_granted ∷ []) ∷ (wants_slot ∷ []) ∷ []
unfolding narrow crowded table_with lease leases_from call_by buffer walk insert_by entry_fields? fields? option? sub_inside? when_good read_request figures_at entry_at entry_framed? read_entry read_entries read_information read_name read_body read_suboption read_suboptions read_option two_bytes four_bytes request_bytes entry_head entry_bytes entries_bytes information_head suboption_bytes suboptions_bytes option_head option_bytes unused? unnamed? empty? prefixes_of present head_ok pool_ok lease_ok ascends? sound of_lease? untold? fits? store row_for followed left offer offers add_all again rest_of in_turn ask_rows ask well_formed granted narrowed usable_leases
refused-for = refl
