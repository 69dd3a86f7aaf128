-- Wrong servers that give leases other names than M-105 says: that names are kept is refuted of each.
-- Assumes nothing.
use Prim.Native.Nat.{ℕ}
use mathlib.Core.Path.{◌≡◌, refl, sym, ap}
use mathlib.Core.List.{[], ◌∷◌}
use native.Mathlib.Omega.{arith}
use Rattle.lists.specs.Lists.{insert_by}
use Rattle.lists.specs.Walk.{walk}
use Rattle.option.specs.Values.{name}
use Rattle.option.specs.Rules.{entry_fields?, fields?}
use Rattle.option.specs.Reading.{option?, sub_inside?, when_good, read_request, figures_at, entry_at, entry_framed?, read_entry, read_entries, read_information, read_name, read_body, read_suboption, read_suboptions, read_option}
use Rattle.option.specs.Writing.{two_bytes, four_bytes, request_bytes, entry_head, entry_bytes, entries_bytes, information_head, suboption_bytes, suboptions_bytes, option_head, option_bytes}
use Rattle.names.specs.declared.Name.{Name}
use Rattle.names.specs.Names.{spells, name_in, name_of, unnamed?}
use Rattle.table.specs.Table.{unused?, empty?, prefixes_of, present, store}
use Rattle.figures.specs.Figures.{row_for, followed}
use Rattle.ledger.specs.Ledger.{Call, left, offer, offers, add_all, again, rest_of, in_turn, usable_leases}
use Rattle.ledger.specs.NamesKept.{NamesKept}
use Rattle.ledger_examples.specs.Examples.{buffer}
use Rattle.ledger_examples.specs.SampleLists.{table_with, call_by}
use Rattle.ledger_examples.specs.AgainExamples.{plain}
use Rattle.ledger_examples.specs.NameExamples.{west, east, start, west_until, holding}
use Rattle.ledger_examples.specs.WrongServers.{asking_by, names_by_last, renames_again, inherits_name}

-- The names differ in their first words.
not-west : name_of east ≡ name_of west → ⊥
unfolding spells name_in
not-west e = let z : ◌≡◌ {A = ℕ} 0x74736165 0x6c61682074736577 = ap (λ (n : Name). n.first) e in absurd (omega arith)

unfoldable asks_east : Call
asks_east = call_by 7 (option_bytes (plain 26 ∷ name east ∷ []))

unfoldable asks_both : Call
asks_both = call_by 7 (option_bytes (plain 26 ∷ name west ∷ name east ∷ []))

-- The later of two Names.
pub not-names_by_last : NamesKept (asking_by names_by_last) → ⊥
unfolding names_by_last asks_both start table_with call_by buffer insert_by walk entry_fields? fields? option? sub_inside? when_good read_request figures_at entry_at entry_framed? read_entry read_entries read_information read_name read_body read_suboption read_suboptions read_option two_bytes four_bytes request_bytes entry_head entry_bytes entries_bytes information_head suboption_bytes suboptions_bytes option_head option_bytes spells name_in unused? unnamed? empty? prefixes_of present store row_for followed left offer offers add_all again rest_of in_turn usable_leases
not-names_by_last k = not-west ((k.asks start 1050 asks_both refl).0.0 (λ stood. stood))

-- Another name for the lease that client 7 holds.
pub not-renames_again : NamesKept (asking_by renames_again) → ⊥
unfolding renames_again asks_east west_until holding table_with call_by buffer insert_by walk entry_fields? fields? option? sub_inside? when_good read_request figures_at entry_at entry_framed? read_entry read_entries read_information read_name read_body read_suboption read_suboptions read_option two_bytes four_bytes request_bytes entry_head entry_bytes entries_bytes information_head suboption_bytes suboptions_bytes option_head option_bytes spells name_in unused? unnamed? empty? prefixes_of present store row_for followed left offer offers add_all again rest_of in_turn usable_leases
not-renames_again k = not-west ((k.asks holding 1050 asks_east refl).0.1.0 refl)

-- The name of a lease that has ended.
pub not-inherits_name : NamesKept (asking_by inherits_name) → ⊥
unfolding inherits_name asks_east west_until holding table_with call_by buffer insert_by walk entry_fields? fields? option? sub_inside? when_good read_request figures_at entry_at entry_framed? read_entry read_entries read_information read_name read_body read_suboption read_suboptions read_option two_bytes four_bytes request_bytes entry_head entry_bytes entries_bytes information_head suboption_bytes suboptions_bytes option_head option_bytes spells name_in unused? unnamed? empty? prefixes_of present store row_for followed left offer offers add_all again rest_of in_turn usable_leases
not-inherits_name k = not-west (sym ((k.asks holding 1100 asks_east refl).0.0 (λ stood. stood)))
