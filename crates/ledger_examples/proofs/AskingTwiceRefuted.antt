-- Wrong servers that demand 3 does not rule out, for it speaks of the rest: what M-101 says of a client that asks twice is refuted of each.
-- Assumes nothing.
use Prim.Native.Nat.{ℕ}
use mathlib.Core.Path.{◌≡◌, refl, sym, ap, subst}
use mathlib.Core.Bool.{true, false}
use mathlib.Core.List.{List, [], ◌∷◌, nil≢cons}
use mathlib.Core.Option.{Option, none, some, some-injective}
use native.Mathlib.Omega.{arith}
use Rattle.lists.specs.Lists.{insert_by}
use Rattle.lists.specs.Walk.{walk}
use Rattle.option.specs.Values.{Entry}
use Rattle.option.specs.Rules.{entry_fields?, fields?}
use Rattle.option.specs.Reading.{option?, sub_inside?, when_good, read_request, figures_at, entry_at, entry_framed?, read_entry, read_entries, read_information, read_name, read_body, read_suboption, read_suboptions, read_option}
use Rattle.option.specs.Writing.{two_bytes, four_bytes, request_bytes, entry_head, entry_bytes, entries_bytes, information_head, suboption_bytes, suboptions_bytes, option_head, option_bytes}
use Rattle.names.specs.Names.{unnamed?}
use Rattle.table.specs.declared.Lease.{Lease}
use Rattle.table.specs.Table.{unused?, empty?, prefixes_of, present, head_ok, pool_ok, lease_ok, ascends?, sound, store}
use Rattle.figures.specs.Figures.{of_lease?, untold?, fits?, row_for, followed}
use Rattle.ledger.specs.Ledger.{State, Call, left, offer, offers, add_all, again, rest_of, in_turn, ask_rows, ask, narrowed, usable_leases}
use Rattle.ledger.specs.Demand3.{Server, well_formed, held_before, granted}
use Rattle.ledger.specs.AskingTwice.{GivenAgain, AsksTwice}
use Rattle.ledger_examples.specs.Examples.{buffer, requesting}
use Rattle.ledger_examples.specs.SampleLists.{table_with, lease, leases_from, held, call_by}
use Rattle.ledger_examples.specs.AgainExamples.{filled_up}
use Rattle.ledger_examples.specs.WrongServers.{never_again, nine_first, keeps_end}

-- Client 7 holds 10.0.1.0/26 until this time, and asks for 26 at 1050.
unfoldable mine : ℕ → Lease
mine expires = held 7 0x0a000100 26 false false expires

unfoldable holding : ℕ → State
holding expires = table_with 0x0a000100 24 (mine expires ∷ [])

unfoldable asks_again : Call
asks_again = call_by 7 (requesting 26)

-- The entry of what it holds.
unfoldable its : Entry
its = record { network = 0x0a000100; length = 26; h = false; d = false; figures = [] }

-- What a server that gives leases again grants to its ask.
first-given : (server : Server State) → AsksTwice (λ s. s) server → (expires : ℕ) (g : Option Entry) → well_formed 1050 (holding expires) asks_again ≡ true
    → held_before 1050 (holding expires).table asks_again ≡ some (mine expires) ∷ [] → granted (λ s. s) server 1050 (holding expires) asks_again ≡ g ∷ [] → g ≡ some its
unfolding its mine held
first-given server a expires g w h e =
    let k : GivenAgain (some (mine expires) ∷ []) (g ∷ []) =
    subst (λ (gs : List (Option Entry)). GivenAgain (some (mine expires) ∷ []) gs) e
    (subst (λ (hs : List (Option Lease)). GivenAgain hs (granted (λ s. s) server 1050 (holding expires) asks_again)) h (a.given (holding expires) 1050 asks_again w)) in
    k.0

-- New ground in place of the lease that the client holds.
unfoldable other : Entry
other = record { network = 0x0a000140; length = 26; h = false; d = false; figures = [] }

pub not-never_again : AsksTwice (λ s. s) never_again → ⊥
unfolding its other never_again mine holding asks_again held table_with call_by buffer walk insert_by entry_fields? fields? option? sub_inside? when_good read_request figures_at entry_at entry_framed? read_entry read_entries read_information read_name read_body read_suboption read_suboptions read_option two_bytes four_bytes request_bytes entry_head entry_bytes entries_bytes information_head suboption_bytes suboptions_bytes option_head option_bytes unused? unnamed? empty? prefixes_of present head_ok pool_ok lease_ok ascends? sound of_lease? untold? fits? store row_for followed left offer offers add_all again rest_of in_turn ask_rows ask granted well_formed narrowed usable_leases
not-never_again a =
    let e : some other ≡ some its = first-given never_again a 1100 (some other) refl refl refl in
    let z : ◌≡◌ {A = ℕ} 0x0a000140 0x0a000100 = ap (λ (x : Entry). x.network) (some-injective other its e) in
    absurd (omega arith)

-- An end that was later and stays: the lease is not held until now + 120, so nothing is granted.
pub not-keeps_end : AsksTwice (λ s. s) keeps_end → ⊥
unfolding keeps_end mine holding asks_again held table_with call_by buffer walk insert_by entry_fields? fields? option? sub_inside? when_good read_request figures_at entry_at entry_framed? read_entry read_entries read_information read_name read_body read_suboption read_suboptions read_option two_bytes four_bytes request_bytes entry_head entry_bytes entries_bytes information_head suboption_bytes suboptions_bytes option_head option_bytes unused? unnamed? empty? prefixes_of present head_ok pool_ok lease_ok ascends? sound of_lease? untold? fits? store row_for followed left offer offers add_all again rest_of in_turn ask_rows ask granted well_formed narrowed usable_leases
not-keeps_end a = let e : none ≡ some its = first-given keeps_end a 5000 none refl refl refl in let z : ◌≡◌ {A = ℕ} 0 1 = cc in absurd (omega arith)

-- 9 where no slot is empty, though what is asked for is held.
pub not-nine_first : AsksTwice (λ s. s) nine_first → ⊥
unfolding nine_first filled_up held table_with lease leases_from call_by buffer walk entry_fields? fields? option? sub_inside? when_good read_request read_information read_name read_body read_suboption read_suboptions read_option unused? unnamed? empty? prefixes_of present head_ok pool_ok lease_ok ascends? sound of_lease? untold? fits? ask_rows well_formed again narrowed usable_leases
not-nine_first a = let z : ◌≡◌ {A = ℕ} 9 0 = a.accepted filled_up 1050 (call_by 7 (requesting 30)) refl (λ e. nil≢cons (sym e)) in absurd (omega arith)
