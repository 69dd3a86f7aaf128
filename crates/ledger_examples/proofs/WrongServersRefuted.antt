-- Document 01: "Try these against it". The wrong servers do not meet demand 3.
-- Assumes nothing.
use Prim.Native.Nat.{ℕ, ◌<◌}
use mathlib.Core.Path.{◌≡◌, refl, ap, ap₂, subst, ◌∙◌}
use mathlib.Core.Logic.{◌↔◌, ⊎_elim}
use mathlib.Core.Bool.{true, false}
use mathlib.Core.List.{List, [], ◌∷◌, ◌++◌, map, nil≢cons, head-eq_of_cons-eq, tail-eq_of_cons-eq}
use mathlib.Core.Option.{Option, none, some}
use native.Mathlib.Omega.{arith}
use lib.ListN.{length, take as up_to}
use Rattle.lists.specs.Lists.{Pairwise, cat_maybes, insert_by}
use Rattle.lists.specs.Walk.{walk}
use Rattle.lists.proofs.Tests.{cond-false}
use Rattle.prefix.specs.declared.Prefix.{Prefix}
use Rattle.prefix.specs.Prefixes.{prefix, Inside, Apart}
use Rattle.prefix.proofs.Nesting.{inside-refl, apart-absurd}
use Rattle.free_space.specs.Space.{Free}
use Rattle.free_space.specs.Grant.{lowest_part, grant}
use Rattle.free_space.specs.Scan.{in_pools}
use Rattle.free_space.proofs.ScanLaws.{scan-best}
use Rattle.option.specs.Values.{Entry}
use Rattle.option.specs.Rules.{entry_fields?, fields?}
use Rattle.option.specs.Reading.{option?, sub_inside?, when_good, read_request, figures_at, entry_at, entry_framed?, read_entry, read_entries, read_information, read_name, read_body, read_suboption, read_suboptions, read_option}
use Rattle.option.specs.Writing.{two_bytes, four_bytes, request_bytes, entry_head, entry_bytes, entries_bytes, information_head, suboption_bytes, suboptions_bytes, option_head, option_bytes}
use Rattle.names.specs.declared.Name.{Name}
use Rattle.names.specs.Names.{no_name, unnamed?, name_in, spells}
use Rattle.table.specs.declared.{Lease.Lease, LeaseTable.LeaseTable}
use Rattle.table.specs.Table.{lease_slots, prefix_of, pools_of, unused?, empty?, prefixes_of, present, head_ok, pool_ok, lease_ok, ascends?, sound, store}
use Rattle.table.proofs.TableLaws.{sound-fine}
use Rattle.option.specs.Contents.{Request, requests_in}
use Rattle.figures.specs.Figures.{of_lease?, untold?, fits?, row_for, followed}
use Rattle.ledger.specs.Ledger.{State, Call, Result, accept, ask_name, information_for, full, offered, left, asked_length, empty_slots, offer, offers, add_all, again, rest_of, in_turn, ask_rows, ask, narrowed, usable_leases}
use Rattle.ledger.specs.Demand3.{Server, well_formed, asks_of, held_before, entry_prefix, in_use, reply_entries, pair_off, confirmed, meets, is_granted, wants_space, fate, NoneFree, RefusedRightly, granted, received, AllGranted, Demand3}
use Rattle.ledger.proofs.OfferLaws.{ordered}
use Rattle.ledger_examples.specs.Examples.{buffer}
use Rattle.ledger_examples.specs.SampleLists.{table_with, lease, leases_from, held, call_by, two, three, Sample, leased_before, crowded}
use Rattle.ledger_examples.specs.WrongServers.{refuses_all, same_prefix, leaves_table, first_only, answers_ten, writes_twice, regives_leased, regives_twice}
use Rattle.ledger_examples.proofs.Premises.{free-to, meets?, served, what_of, granted-all, granted-free, granted-apart}

-- Pool 10.0.1.0/24, and one call with two requests for 26.
unfoldable pair : Sample
pair = record { start = table_with 0x0a000100 24 []; now = 1000; calls = call_by 7 (two 26 26) ∷ []; networks = 0x0a000100 ∷ 0x0a000140 ∷ [] }

all-given : (server : Server State) → Demand3 (λ s. s) server → AllGranted (λ s. s) server 1000 pair.start (pools_of pair.start.table) pair.calls
unfolding pair table_with call_by buffer walk entry_fields? fields? option? sub_inside? when_good read_request read_information read_name read_body read_suboption read_suboptions read_option unused? unnamed? empty? prefixes_of present head_ok pool_ok lease_ok ascends? sound of_lease? untold? fits? empty_slots ask_rows well_formed narrowed usable_leases
all-given server d = served server d pair refl

-- What a server that meets demand 3 grants there: both requests, and no address twice.
complete : (server : Server State) → Demand3 (λ s. s) server → length (cat_maybes (what_of server pair)) ≡ length (what_of server pair)
unfolding pair
complete server d = granted-all server pair (all-given server d)

apart : (server : Server State) → Demand3 (λ s. s) server → Pairwise Apart (map entry_prefix (cat_maybes (what_of server pair)))
unfolding pair
apart server d = granted-apart server pair (all-given server d)

pub not-refuses_all : Demand3 (λ s. s) refuses_all → ⊥
unfolding what_of pair refuses_all table_with call_by buffer walk entry_fields? fields? option? sub_inside? when_good read_request read_information read_name read_body read_suboption read_suboptions read_option unused? unnamed? empty? prefixes_of present head_ok pool_ok lease_ok ascends? sound of_lease? untold? fits? ask_rows well_formed granted received narrowed usable_leases
not-refuses_all d = let z : ◌≡◌ {A = ℕ} 0 2 = complete refuses_all d in absurd (omega arith)

pub not-leaves_table : Demand3 (λ s. s) leaves_table → ⊥
unfolding what_of pair leaves_table table_with call_by buffer walk insert_by entry_fields? fields? option? sub_inside? when_good read_request figures_at entry_at entry_framed? read_entry read_entries read_information read_name read_body read_suboption read_suboptions read_option two_bytes four_bytes request_bytes entry_head entry_bytes entries_bytes information_head suboption_bytes suboptions_bytes option_head option_bytes unused? unnamed? empty? prefixes_of present head_ok pool_ok lease_ok ascends? sound of_lease? untold? fits? store row_for followed left offer offers add_all again rest_of in_turn ask_rows ask well_formed granted received narrowed usable_leases
not-leaves_table d = let z : ◌≡◌ {A = ℕ} 0 2 = complete leaves_table d in absurd (omega arith)

pub not-first_only : Demand3 (λ s. s) first_only → ⊥
unfolding what_of pair first_only table_with call_by buffer walk insert_by entry_fields? fields? option? sub_inside? when_good read_request figures_at entry_at entry_framed? read_entry read_entries read_information read_name read_body read_suboption read_suboptions read_option two_bytes four_bytes request_bytes entry_head entry_bytes entries_bytes information_head suboption_bytes suboptions_bytes option_head option_bytes unused? unnamed? empty? prefixes_of present head_ok pool_ok lease_ok ascends? sound of_lease? untold? fits? store row_for followed left offer offers add_all again rest_of in_turn ask_rows ask well_formed granted received narrowed usable_leases
not-first_only d = let z : ◌≡◌ {A = ℕ} 1 2 = complete first_only d in absurd (omega arith)

pub not-answers_ten : Demand3 (λ s. s) answers_ten → ⊥
unfolding what_of pair answers_ten table_with call_by buffer walk insert_by entry_fields? fields? option? sub_inside? when_good read_request figures_at entry_at entry_framed? read_entry read_entries read_information read_name read_body read_suboption read_suboptions read_option two_bytes four_bytes request_bytes entry_head entry_bytes entries_bytes information_head suboption_bytes suboptions_bytes option_head option_bytes unused? unnamed? empty? prefixes_of present head_ok pool_ok lease_ok ascends? sound of_lease? untold? fits? store row_for followed left offer offers add_all again rest_of in_turn ask_rows ask well_formed granted received narrowed usable_leases
not-answers_ten d = let z : ◌≡◌ {A = ℕ} 0 2 = complete answers_ten d in absurd (omega arith)

pub not-same_prefix : Demand3 (λ s. s) same_prefix → ⊥
unfolding what_of pair same_prefix table_with call_by buffer walk insert_by entry_fields? fields? option? sub_inside? when_good read_request figures_at entry_at entry_framed? read_entry read_entries read_information read_name read_body read_suboption read_suboptions read_option two_bytes four_bytes request_bytes entry_head entry_bytes entries_bytes information_head suboption_bytes suboptions_bytes option_head option_bytes unused? unnamed? empty? prefixes_of present head_ok pool_ok lease_ok ascends? sound of_lease? untold? fits? store row_for followed left offer offers add_all again rest_of in_turn ask_rows ask well_formed granted received narrowed usable_leases
not-same_prefix d =
    let p : Prefix = prefix 0x0a000100 26 in
    let z : Apart p p = (apart same_prefix d).0.0 in
    apart-absurd p p (inside-refl p) z

-- The entry written twice: with 1,022 leases the third of three requests would be refused for want of ground, and there is ground. (Were the entries
-- counted and not the leases newly made, it would seem to want a slot.)
three-well : well_formed 1000 (crowded 1022) (call_by 7 (three 30 30 30)) ≡ true
unfolding crowded table_with lease leases_from call_by buffer walk entry_fields? fields? option? sub_inside? when_good read_request read_information read_name read_body read_suboption read_suboptions read_option unused? unnamed? empty? prefixes_of present head_ok pool_ok lease_ok ascends? sound of_lease? untold? fits? ask_rows well_formed narrowed usable_leases
three-well = refl

-- What it grants: the first prefix for the first and for the second request.
twice : Entry
twice = record { network = 0x0a000ff8; length = 30; h = false; d = false; figures = [] }

-- What it is asked, and what it answers with leases that it makes; in steps, since a computation over 1,022 leases is long.
abbrev asked : Call
asked = call_by 7 (three 30 30 30)

abbrev answering : List Lease → Result State
answering gs =
    let xs = present 1000 (crowded 1022).table.leases in
    accept (left (crowded 1022) 1000 (add_all (map some gs) xs)) (option_bytes (map information_for (gs ++ gs))) 2 asked.reply

abbrev made : Lease
made = held 7 0x0a000ff8 30 false false 1120

-- What it makes: the search through the gaps finds it in one pass over the leases.
crowded-sound : sound (crowded 1022).table ≡ true
unfolding crowded table_with lease leases_from unused? unnamed? empty? prefixes_of head_ok pool_ok lease_ok ascends? sound
crowded-sound = refl

crowded-found : in_pools 30 none (pools_of (crowded 1022).table) (map prefix_of (present 1000 (crowded 1022).table.leases)) ≡ some (prefix 0x0a000ff8 29)
unfolding crowded table_with lease leases_from present unused? prefixes_of
crowded-found = refl

crowded-grants : grant (pools_of (crowded 1022).table) (map prefix_of (present 1000 (crowded 1022).table.leases)) 30 ≡ some (prefix 0x0a000ff8 30)
crowded-grants =
    let t : LeaseTable = (crowded 1022).table in
    let xs : List Lease = present 1000 t.leases in
    ap (lowest_part 30) (scan-best (pools_of t) (map prefix_of xs) (ordered t crowded-sound 1000 xs (sound-fine t crowded-sound 1000)) 30 (omega arith, omega arith) ∙ crowded-found)

crowded-room : full (present 1000 (crowded 1022).table.leases) ≡ false
unfolding crowded table_with lease leases_from present
crowded-room = refl

crowded-offers : offer (crowded 1022).table 1000 7 no_name (present 1000 (crowded 1022).table.leases) (record { h = false; i = false; length = 30 }) ≡ some made
unfolding offer held
crowded-offers =
    let t : LeaseTable = (crowded 1022).table in
    let xs : List Lease = present 1000 t.leases in
    cond-false (full xs) none (offered 1000 7 no_name false (grant (pools_of t) (map prefix_of xs) 30)) crowded-room ∙ ap (offered 1000 7 no_name false) crowded-grants

first-asked : up_to 1 (requests_in asked.option) ≡ record { h = false; i = false; length = 30 } ∷ []
unfolding call_by walk fields? option? sub_inside? when_good read_request read_information read_name read_body read_suboption read_suboptions read_option
first-asked = refl

asked-name : ask_name asked ≡ no_name
unfolding call_by walk fields? option? sub_inside? when_good read_request read_information read_name read_body read_suboption read_suboptions read_option name_in spells
asked-name = refl

asked_by : asked.client ≡ 7
unfolding call_by
asked_by = refl

twice-made : cat_maybes (map (offer (crowded 1022).table 1000 asked.client (ask_name asked) (present 1000 (crowded 1022).table.leases)) (up_to 1 (requests_in asked.option))) ≡ made ∷ []
twice-made =
    let t : LeaseTable = (crowded 1022).table in
    let xs : List Lease = present 1000 t.leases in
    ap₂ (λ (n : ℕ) (m : Name). cat_maybes (map (offer t 1000 n m xs) (up_to 1 (requests_in asked.option)))) asked_by asked-name
    ∙ ap (λ (rs : List Request). cat_maybes (map (offer t 1000 7 no_name xs) rs)) first-asked
    ∙ ap (λ (o : Option Lease). cat_maybes (o ∷ [])) crowded-offers

twice-answers : writes_twice (crowded 1022) 1000 asked ≡ answering (made ∷ [])
unfolding writes_twice
twice-answers = ap answering twice-made

abbrev granted_by : Result State → List (Option Entry)
granted_by r = map (confirmed 1000 asked.client r.state.table) (pair_off (crowded 1022).table (asks_of asked) (reply_entries r))

twice-read : granted_by (answering (made ∷ [])) ≡ some twice ∷ some twice ∷ none ∷ []
unfolding twice held crowded table_with lease leases_from call_by buffer walk insert_by entry_fields? fields? option? sub_inside? when_good read_request figures_at entry_at entry_framed? read_entry read_entries read_information read_name read_body read_suboption read_suboptions read_option two_bytes four_bytes request_bytes entry_head entry_bytes entries_bytes information_head suboption_bytes suboptions_bytes option_head option_bytes unused? unnamed? empty? prefixes_of present head_ok pool_ok lease_ok ascends? sound of_lease? untold? fits? store row_for followed left offer offers add_all again rest_of in_turn narrowed usable_leases
twice-read = refl

twice-granted : granted (λ s. s) writes_twice 1000 (crowded 1022) asked ≡ some twice ∷ some twice ∷ none ∷ []
unfolding granted
twice-granted = ap granted_by twice-answers ∙ twice-read

-- The prefixes in use that the third request meets: one more than at the start.
unfoldable met : List Prefix
met = prefix 0x0a000ff8 30 ∷ in_use 1000 (crowded 1022).table

twice-met : meets (some twice) (meets (some twice) (in_use 1000 (crowded 1022).table)) ≡ met
unfolding met twice crowded table_with lease leases_from present
twice-met = refl

met-length : length met ≡ 1023
unfolding met crowded table_with lease leases_from present
met-length = refl

met-fate : fate met none ≡ wants_space
unfolding met crowded table_with lease leases_from present
met-fate = refl

still-free : Free (pools_of (crowded 1022).table) met (prefix 0x0a000ffc 30)
unfolding met crowded table_with lease leases_from present unused? prefixes_of
still-free = free-to (pools_of (crowded 1022).table) met (prefix 0x0a000ffc 30) refl

three-asks : map (asked_length (crowded 1022).table) (asks_of (call_by 7 (three 30 30 30))) ≡ 30 ∷ 30 ∷ 30 ∷ []
unfolding crowded table_with call_by walk fields? option? sub_inside? when_good read_request read_information read_name read_body read_suboption read_suboptions read_option
three-asks = refl

-- Client 7 holds nothing, so all three are the rest.
none-again : held_before 1000 (crowded 1022).table (call_by 7 (three 30 30 30)) ≡ none ∷ none ∷ none ∷ []
unfolding crowded table_with lease leases_from call_by walk fields? option? sub_inside? when_good read_request read_information read_name read_body read_suboption read_suboptions read_option present again usable_leases
none-again = refl

-- It names no root.
three-ground : narrowed (crowded 1022).table (call_by 7 (three 30 30 30)) ≡ (crowded 1022).table
unfolding narrowed call_by
three-ground = refl

-- The first sentence of the third of three asks.
third : (t : LeaseTable) (used : List Prefix) (rs : List Request) (g h k : Option Entry) (a b c : ℕ) → map (asked_length t) rs ≡ a ∷ b ∷ c ∷ []
    → RefusedRightly t used rs (none ∷ none ∷ none ∷ []) (g ∷ h ∷ k ∷ [])
    → length (meets h (meets g used)) < lease_slots → (fate (meets h (meets g used)) k ≡ wants_space) ↔ NoneFree t (meets h (meets g used)) c
third t used [] g h k a b c e f = absurd (nil≢cons e)
third t used (q ∷ []) g h k a b c e f = absurd (nil≢cons (tail-eq_of_cons-eq e))
third t used (q ∷ r ∷ []) g h k a b c e f = absurd (nil≢cons (tail-eq_of_cons-eq (tail-eq_of_cons-eq e)))
third t used (q ∷ r ∷ s ∷ rs) g h k a b c e f =
    subst (λ (n : ℕ). length (meets h (meets g used)) < lease_slots → (fate (meets h (meets g used)) k ≡ wants_space) ↔ NoneFree t (meets h (meets g used)) n)
    (head-eq_of_cons-eq (tail-eq_of_cons-eq (tail-eq_of_cons-eq e))) f.1.1.0.0

pub not-writes_twice : Demand3 (λ s. s) writes_twice → ⊥
not-writes_twice d =
    let t : LeaseTable = (crowded 1022).table in
    let c : Call = call_by 7 (three 30 30 30) in
    let f : RefusedRightly t (in_use 1000 t) (asks_of c) (none ∷ none ∷ none ∷ []) (some twice ∷ some twice ∷ none ∷ []) =
    subst (λ (gs : List (Option Entry)). RefusedRightly t (in_use 1000 t) (asks_of c) (none ∷ none ∷ none ∷ []) gs) twice-granted
    (subst (λ (hs : List (Option Lease)). RefusedRightly t (in_use 1000 t) (asks_of c) hs (granted (λ s. s) writes_twice 1000 (crowded 1022) c)) none-again
    (subst (λ (own : LeaseTable). RefusedRightly own (in_use 1000 t) (asks_of c) (held_before 1000 t c) (granted (λ s. s) writes_twice 1000 (crowded 1022) c)) three-ground (d.sentence (crowded 1022) 1000 c three-well))) in
    let g : length met < lease_slots → (fate met none ≡ wants_space) ↔ NoneFree t met 30 =
    subst (λ (used : List Prefix). length used < lease_slots → (fate used none ≡ wants_space) ↔ NoneFree t used 30) twice-met
    (third t (in_use 1000 t) (asks_of c) (some twice) (some twice) none 30 30 30 three-asks f) in
    (g (omega (arith, met-length))).0 met-fate 0x0a000ffc still-free

-- ASKING TWICE

-- A leased lease that is given again was not free in the first table: the client held nothing, so its request is one of the rest.
leased-met : meets? leased_before ≡ true
unfolding leased_before table_with lease held call_by buffer walk entry_fields? fields? option? sub_inside? when_good read_request figures_at entry_at entry_framed? read_entry read_entries read_information read_name read_body read_suboption read_suboptions read_option unused? unnamed? empty? prefixes_of present head_ok pool_ok lease_ok ascends? sound of_lease? untold? fits? empty_slots ask_rows well_formed narrowed usable_leases
leased-met = refl

pub not-regives_leased : Demand3 (λ s. s) regives_leased → ⊥
unfolding what_of leased_before regives_leased held table_with lease leases_from call_by buffer walk insert_by entry_fields? fields? option? sub_inside? when_good read_request figures_at entry_at entry_framed? read_entry read_entries read_information read_name read_body read_suboption read_suboptions read_option two_bytes four_bytes request_bytes entry_head entry_bytes entries_bytes information_head suboption_bytes suboptions_bytes option_head option_bytes unused? unnamed? empty? prefixes_of present head_ok pool_ok lease_ok ascends? sound of_lease? untold? fits? store row_for followed left offer offers add_all again rest_of in_turn ask_rows ask well_formed granted received narrowed usable_leases
not-regives_leased d =
    let p : Prefix = prefix 0x0a000100 26 in
    let f : Free (pools_of leased_before.start.table) (in_use 1120 leased_before.start.table) p = (granted-free regives_leased leased_before (served regives_leased d leased_before leased-met)).0 in
    apart-absurd p p (inside-refl p) f.unused.0

-- A held lease that is given to two requests: the second is one of the rest, and there is no ground for it.
unfoldable whole : State
whole = table_with 0x0a000100 24 (held 7 0x0a000100 24 false false 1100 ∷ [])

unfoldable asks_two : Call
asks_two = call_by 7 (two 24 24)

two-well : well_formed 1050 whole asks_two ≡ true
unfolding whole asks_two held table_with call_by buffer walk entry_fields? fields? option? sub_inside? when_good read_request read_information read_name read_body read_suboption read_suboptions read_option unused? unnamed? empty? prefixes_of present head_ok pool_ok lease_ok ascends? sound of_lease? untold? fits? ask_rows well_formed narrowed usable_leases
two-well = refl

unfoldable its : Entry
its = record { network = 0x0a000100; length = 24; h = false; d = false; figures = [] }

both-granted : granted (λ s. s) regives_twice 1050 whole asks_two ≡ some its ∷ some its ∷ []
unfolding its regives_twice whole asks_two held table_with lease leases_from call_by buffer walk insert_by entry_fields? fields? option? sub_inside? when_good read_request figures_at entry_at entry_framed? read_entry read_entries read_information read_name read_body read_suboption read_suboptions read_option two_bytes four_bytes request_bytes entry_head entry_bytes entries_bytes information_head suboption_bytes suboptions_bytes option_head option_bytes unused? unnamed? empty? prefixes_of present head_ok pool_ok lease_ok ascends? sound of_lease? untold? fits? store row_for followed left offer offers add_all again rest_of in_turn ask_rows ask granted narrowed usable_leases
both-granted = refl

one_again : held_before 1050 whole.table asks_two ≡ some (held 7 0x0a000100 24 false false 1100) ∷ none ∷ []
unfolding whole asks_two held table_with call_by walk fields? option? sub_inside? when_good read_request read_information read_name read_body read_suboption read_suboptions read_option present again usable_leases
one_again = refl

two-ground : narrowed whole.table asks_two ≡ whole.table
unfolding narrowed asks_two call_by
two-ground = refl

two-asks : map (asked_length whole.table) (asks_of asks_two) ≡ 24 ∷ 24 ∷ []
unfolding whole asks_two table_with call_by walk fields? option? sub_inside? when_good read_request read_information read_name read_body read_suboption read_suboptions read_option
two-asks = refl

nothing-free : NoneFree whole.table (prefix 0x0a000100 24 ∷ []) 24
unfolding whole table_with prefixes_of unused?
nothing-free network f =
    let p : Prefix = prefix network 24 in
    ⊎_elim (λ (i : Inside p (prefix 0x0a000100 24)). apart-absurd p (prefix 0x0a000100 24) i f.unused.0) (λ z. absurd z) f.pooled

-- The first sentence of the second of two asks, of which the first gets its lease again.
second : (t : LeaseTable) (used : List Prefix) (rs : List Request) (x : Lease) (g h : Option Entry) (a b : ℕ) → map (asked_length t) rs ≡ a ∷ b ∷ []
    → RefusedRightly t used rs (some x ∷ none ∷ []) (g ∷ h ∷ []) → length (meets g used) < lease_slots → (fate (meets g used) h ≡ wants_space) ↔ NoneFree t (meets g used) b
second t used [] x g h a b e f = absurd (nil≢cons e)
second t used (q ∷ []) x g h a b e f = absurd (nil≢cons (tail-eq_of_cons-eq e))
second t used (q ∷ r ∷ rs) x g h a b e f =
    subst (λ (n : ℕ). length (meets g used) < lease_slots → (fate (meets g used) h ≡ wants_space) ↔ NoneFree t (meets g used) n) (head-eq_of_cons-eq (tail-eq_of_cons-eq e)) f.0.0

its-met : meets (some its) (in_use 1050 whole.table) ≡ prefix 0x0a000100 24 ∷ []
unfolding its whole held table_with present
its-met = refl

pub not-regives_twice : Demand3 (λ s. s) regives_twice → ⊥
not-regives_twice d =
    let t : LeaseTable = whole.table in
    let x : Lease = held 7 0x0a000100 24 false false 1100 in
    let f : RefusedRightly t (in_use 1050 t) (asks_of asks_two) (some x ∷ none ∷ []) (some its ∷ some its ∷ []) =
    subst (λ (gs : List (Option Entry)). RefusedRightly t (in_use 1050 t) (asks_of asks_two) (some x ∷ none ∷ []) gs) both-granted
    (subst (λ (hs : List (Option Lease)). RefusedRightly t (in_use 1050 t) (asks_of asks_two) hs (granted (λ s. s) regives_twice 1050 whole asks_two)) one_again
    (subst (λ (own : LeaseTable). RefusedRightly own (in_use 1050 t) (asks_of asks_two) (held_before 1050 t asks_two) (granted (λ s. s) regives_twice 1050 whole asks_two)) two-ground (d.sentence whole 1050 asks_two two-well))) in
    let g : length (prefix 0x0a000100 24 ∷ []) < lease_slots → (is_granted ≡ wants_space) ↔ NoneFree t (prefix 0x0a000100 24 ∷ []) 24 =
    subst (λ (used : List Prefix). length used < lease_slots → (is_granted ≡ wants_space) ↔ NoneFree t used 24) its-met (second t (in_use 1050 t) (asks_of asks_two) x (some its) (some its) 24 24 two-asks f) in
    let w : is_granted ≡ wants_space = (g (omega arith)).1 nothing-free in
    let z : ◌≡◌ {A = ℕ} 0 1 = cc in
    absurd (omega arith)
