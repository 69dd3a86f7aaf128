-- Demand 3 over the ground of one root (document 02, M-106): a list whose calls all name the same root meets its premise, over that root's ground; a mixed list
-- shows why nothing is claimed of such; and a server that gives ground of another root does not meet it.
-- Assumes nothing.
use Prim.Native.Nat.{ℕ, ◌<◌}
use mathlib.Core.Path.{◌≡◌, refl, sym, subst}
use mathlib.Core.Logic.{◌↔◌, ⊎_elim}
use mathlib.Core.Bool.{Bool, true, false, ◌&&◌, true≢false}
use mathlib.Core.List.{List, [], ◌∷◌, map, nil≢cons, head-eq_of_cons-eq, tail-eq_of_cons-eq}
use mathlib.Core.Option.{Option, none, some}
use native.Mathlib.Omega.{arith}
use lib.ListN.{length}
use lib.Dec.{leb, eqb}
use borrow.Author.Tests.{leb-true, eqb-true}
use Rattle.lists.specs.Lists.{All, Pairwise, and, filter, concat_map, insert_by}
use Rattle.lists.specs.Walk.{walk}
use Rattle.lists.proofs.Tests.{and-to, and-list-to}
use Rattle.prefix.specs.declared.Prefix.{Prefix}
use Rattle.prefix.specs.Prefixes.{prefix, Inside}
use Rattle.prefix.proofs.Nesting.{apart-absurd}
use Rattle.option.specs.Values.{Entry}
use Rattle.option.specs.Rules.{entry_fields?, fields?}
use Rattle.option.specs.Reading.{option?, sub_inside?, when_good, read_request, figures_at, entry_at, entry_framed?, read_entry, read_entries, read_information, read_name, read_body, read_suboption, read_suboptions, read_option}
use Rattle.option.specs.Writing.{two_bytes, four_bytes, request_bytes, entry_head, entry_bytes, entries_bytes, information_head, suboption_bytes, suboptions_bytes, option_head, option_bytes}
use Rattle.option.specs.Selection.{selection?}
use Rattle.option.specs.Contents.{Request}
use Rattle.names.specs.Names.{unnamed?}
use Rattle.table.specs.declared.{Lease.Lease, LeaseTable.LeaseTable}
use Rattle.table.specs.Table.{lease_slots, latest, pools_of, unused?, empty?, prefixes_of, present, head_ok, pool_ok, lease_ok, ascends?, sound, store}
use Rattle.figures.specs.Figures.{of_lease?, untold?, fits?, row_for, followed}
use Rattle.ledger.specs.Ledger.{State, Call, left, asked_length, empty_slots, offer, offers, add_all, again, rest_of, in_turn, ask_rows, ask, narrowed, usable_leases}
use Rattle.ledger.specs.Demand3.{none?, Server, Accepts, well_formed, asks_of, held_before, in_use, is_granted, wants_space, fate, lengths_asked, prefixes_at, HoldsNothing, NoneFree, RefusedRightly, granted, received, AllGranted, Demand3}
use Rattle.ledger.proofs.Demand3Holds.{demand3}
use Rattle.ledger_examples.specs.Examples.{requesting}
use Rattle.ledger_examples.specs.SampleLists.{lease, Sample}
use Rattle.ledger_examples.specs.SelectionExamples.{two_pools}
use Rattle.ledger_examples.specs.GroundLists.{call_on, named, same_root, mixed, grounds, EachFree, ChosenEach, first_full, names_full}
use Rattle.ledger_examples.specs.WrongServers.{any_ground}
use Rattle.ledger_examples.proofs.Premises.{free?, free-to, apart_all?, apart-all, hold_nothing?, hold-nothing, once?, ask-once, meets_over?, served-over, what_of}

-- ALL NAME THE SAME ROOT

same_met : meets_over? named same_root ≡ true
unfolding same_root two_pools call_on walk entry_fields? fields? option? sub_inside? when_good read_request figures_at entry_at entry_framed? read_entry read_entries read_information read_name read_body read_suboption read_suboptions read_option unused? unnamed? empty? prefixes_of present head_ok pool_ok lease_ok ascends? sound of_lease? untold? fits? empty_slots ask_rows well_formed narrowed usable_leases selection?
same_met = refl

pub same-granted : AllGranted (λ s. s) ask same_root.now same_root.start named same_root.calls
same-granted = served-over ask demand3 named same_root same_met

-- SOME NAME A ROOT, SOME NONE

abbrev each_free? : List Prefix → List (List Prefix) → List Prefix → Bool
each_free? used [] [] = true
each_free? used [] (p ∷ ps) = false
each_free? used (g ∷ gs) [] = false
each_free? used (g ∷ gs) (p ∷ ps) = free? g used p && each_free? used gs ps

each_free : (used : List Prefix) (gs : List (List Prefix)) (ps : List Prefix) → each_free? used gs ps ≡ true → EachFree used gs ps
each_free used [] [] e = tt
each_free used [] (p ∷ ps) e = true≢false (sym e)
each_free used (g ∷ gs) [] e = true≢false (sym e)
each_free used (g ∷ gs) (p ∷ ps) e = let r = and-to (free? g used p) (each_free? used gs ps) e in (free-to g used p r.0, each_free used gs ps r.1)

-- They could be packed, each on its own ground.
abbrev each_tests : Sample → List Bool
each_tests s =
    sound s.start.table
    ∷ leb s.start.table.last s.now
    ∷ leb s.now latest
    ∷ eqb (length s.networks) (length (lengths_asked s.now s.start s.calls))
    ∷ each_free? (in_use s.now s.start.table) (grounds s.now s.start s.calls) (prefixes_at s.networks (lengths_asked s.now s.start s.calls))
    ∷ apart_all? (prefixes_at s.networks (lengths_asked s.now s.start s.calls))
    ∷ hold_nothing? s
    ∷ once? s
    ∷ []

mixed-met : and (each_tests mixed) ≡ true
unfolding mixed two_pools call_on walk entry_fields? fields? option? sub_inside? when_good read_request figures_at entry_at entry_framed? read_entry read_entries read_information read_name read_body read_suboption read_suboptions read_option unused? unnamed? empty? prefixes_of present head_ok pool_ok lease_ok ascends? sound of_lease? untold? fits? ask_rows well_formed narrowed usable_leases selection?
mixed-met = refl

-- The first has taken the root that the second names.
unfoldable theirs : Entry
theirs = record { network = 0x0a000800; length = 26; h = false; d = false; figures = [] }

mixed-gets : what_of ask mixed ≡ some theirs ∷ none ∷ []
unfolding what_of theirs mixed two_pools call_on walk entry_fields? fields? option? sub_inside? when_good read_request figures_at entry_at entry_framed? read_entry read_entries read_information read_name read_body read_suboption read_suboptions read_option two_bytes four_bytes request_bytes entry_head entry_bytes entries_bytes information_head suboption_bytes suboptions_bytes option_head option_bytes unused? unnamed? empty? prefixes_of present head_ok pool_ok lease_ok ascends? sound of_lease? untold? fits? insert_by store row_for followed left offer offers add_all again rest_of in_turn ask_rows ask granted received well_formed narrowed usable_leases selection?
mixed-gets = refl

pub mixed-not-claimed : ((p : Sample) → sound p.start.table ≡ true → Accepts p.start.table p.now
    → All (λ c. HoldsNothing p.now p.start.table c.client) (filter (well_formed p.now p.start) p.calls)
    → Pairwise (λ c d. c.client ≡ d.client → ⊥) (filter (well_formed p.now p.start) p.calls)
    → ChosenEach p.now p.start p.calls → All (λ g. none? g ≡ false) (what_of ask p)) → ⊥
mixed-not-claimed claim =
    let r = and-list-to (each_tests mixed) mixed-met in
    let ps : List Prefix = prefixes_at mixed.networks (lengths_asked mixed.now mixed.start mixed.calls) in
    let all : All (λ g. none? g ≡ false) (what_of ask mixed) =
    claim mixed r.0 (leb-true mixed.start.table.last mixed.now r.1.0, leb-true mixed.now latest r.1.1.0) (hold-nothing mixed r.1.1.1.1.1.1.0)
    (ask-once mixed r.1.1.1.1.1.1.1.0)
    (record {
      networks = mixed.networks;
      enough = eqb-true (length mixed.networks) (length (lengths_asked mixed.now mixed.start mixed.calls)) r.1.1.1.0;
      free = each_free (in_use mixed.now mixed.start.table) (grounds mixed.now mixed.start mixed.calls) ps r.1.1.1.1.0;
      apart = apart-all ps r.1.1.1.1.1.0;
    }) in
    true≢false (subst (λ (gs : List (Option Entry)). All (λ g. none? g ≡ false) gs) mixed-gets all).1.0

-- GROUND OF ANOTHER ROOT

full-well : well_formed 1050 first_full names_full ≡ true
unfolding first_full names_full two_pools lease call_on walk entry_fields? fields? option? sub_inside? when_good read_request figures_at entry_at entry_framed? read_entry read_entries read_information read_name read_body read_suboption read_suboptions read_option unused? unnamed? empty? prefixes_of present head_ok pool_ok lease_ok ascends? sound of_lease? untold? fits? ask_rows well_formed narrowed usable_leases selection?
full-well = refl

outside-granted : granted (λ s. s) any_ground 1050 first_full names_full ≡ some theirs ∷ []
unfolding theirs any_ground first_full names_full two_pools lease call_on walk entry_fields? fields? option? sub_inside? when_good read_request figures_at entry_at entry_framed? read_entry read_entries read_information read_name read_body read_suboption read_suboptions read_option two_bytes four_bytes request_bytes entry_head entry_bytes entries_bytes information_head suboption_bytes suboptions_bytes option_head option_bytes unused? unnamed? empty? prefixes_of present head_ok pool_ok lease_ok ascends? sound of_lease? untold? fits? insert_by store row_for followed left offer offers add_all again rest_of in_turn ask_rows ask granted received narrowed usable_leases selection?
outside-granted = refl

full-again : held_before 1050 first_full.table names_full ≡ none ∷ []
unfolding first_full names_full two_pools lease call_on walk entry_fields? fields? option? sub_inside? when_good read_request figures_at entry_at entry_framed? read_entry read_entries read_information read_name read_body read_suboption read_suboptions read_option unused? unnamed? empty? prefixes_of present head_ok pool_ok lease_ok ascends? sound of_lease? untold? fits? again narrowed usable_leases
full-again = refl

full-asks : map (asked_length (narrowed first_full.table names_full)) (asks_of names_full) ≡ 26 ∷ []
unfolding first_full names_full two_pools lease call_on walk entry_fields? fields? option? sub_inside? when_good read_request figures_at entry_at entry_framed? read_entry read_entries read_information read_name read_body read_suboption read_suboptions read_option unused? prefixes_of narrowed
full-asks = refl

full-used : in_use 1050 first_full.table ≡ prefix 0x0a000000 24 ∷ []
unfolding first_full two_pools lease present
full-used = refl

nothing-free : NoneFree (narrowed first_full.table names_full) (prefix 0x0a000000 24 ∷ []) 26
unfolding first_full names_full two_pools call_on prefixes_of unused? narrowed
nothing-free network f =
    let p : Prefix = prefix network 26 in
    ⊎_elim (λ (i : Inside p (prefix 0x0a000000 24)). apart-absurd p (prefix 0x0a000000 24) i f.unused.0) (λ z. absurd z) f.pooled

-- The first sentence of a single ask.
only : (t : LeaseTable) (used : List Prefix) (rs : List Request) (g : Option Entry) (a : ℕ) → map (asked_length t) rs ≡ a ∷ [] → RefusedRightly t used rs (none ∷ []) (g ∷ [])
    → length used < lease_slots → (fate used g ≡ wants_space) ↔ NoneFree t used a
only t used [] g a e f = absurd (nil≢cons e)
only t used (r ∷ rs) g a e f = subst (λ (n : ℕ). length used < lease_slots → (fate used g ≡ wants_space) ↔ NoneFree t used n) (head-eq_of_cons-eq e) f.0.0

pub not-any_ground : Demand3 (λ s. s) any_ground → ⊥
not-any_ground d =
    let t : LeaseTable = first_full.table in
    let own : LeaseTable = narrowed t names_full in
    let f : RefusedRightly own (in_use 1050 t) (asks_of names_full) (none ∷ []) (some theirs ∷ []) =
    subst (λ (gs : List (Option Entry)). RefusedRightly own (in_use 1050 t) (asks_of names_full) (none ∷ []) gs) outside-granted
    (subst (λ (hs : List (Option Lease)). RefusedRightly own (in_use 1050 t) (asks_of names_full) hs (granted (λ s. s) any_ground 1050 first_full names_full)) full-again (d.sentence first_full 1050 names_full full-well)) in
    let g : length (prefix 0x0a000000 24 ∷ []) < lease_slots → (is_granted ≡ wants_space) ↔ NoneFree own (prefix 0x0a000000 24 ∷ []) 26 =
    subst (λ (used : List Prefix). length used < lease_slots → (is_granted ≡ wants_space) ↔ NoneFree own used 26) full-used (only own (in_use 1050 t) (asks_of names_full) (some theirs) 26 full-asks f) in
    let w : is_granted ≡ wants_space = (g (omega arith)).1 nothing-free in
    let z : ◌≡◌ {A = ℕ} 0 1 = cc in
    absurd (omega arith)
