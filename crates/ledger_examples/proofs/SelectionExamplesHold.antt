-- The examples of option 118 hold, by computation.
-- Assumes nothing.
use mathlib.Core.Path.{◌≡◌, refl}
use Rattle.lists.specs.Walk.{walk}
use Rattle.lists.specs.Lists.{insert_by}
use Rattle.option.specs.Rules.{entry_fields?, fields?}
use Rattle.option.specs.Reading.{option?, sub_inside?, when_good, read_request, figures_at, entry_at, entry_framed?, read_entry, read_entries, read_information, read_name, read_body, read_suboption, read_suboptions, read_option}
use Rattle.option.specs.Selection.{selection?}
use Rattle.option.specs.Writing.{two_bytes, four_bytes, request_bytes, entry_head, entry_bytes, entries_bytes, information_head, suboption_bytes, suboptions_bytes, option_head, option_bytes}
use Rattle.names.specs.Names.{unnamed?}
use Rattle.table.specs.Table.{unused?, empty?, prefixes_of, present, head_ok, pool_ok, lease_ok, ascends?, sound, store}
use Rattle.figures.specs.Figures.{of_lease?, untold?, fits?, row_for, followed, taken}
use Rattle.ledger.specs.Ledger.{left, offer, offers, add_all, again, rest_of, in_turn, narrowed, usable_leases, usable_entries, ask_rows, ask, renewed, take_rows, take}
use Rattle.ledger_examples.specs.SampleLists.{held}
use Rattle.ledger_examples.specs.SelectionExamples.{two_pools, shown, behind, asks_with, takes, mine, area, ground_expected, on_it, on_it_expected, rows, rows_expected, follows, follows_expected}

pub ground-hold : area ≡ ground_expected
unfolding walk insert_by entry_fields? fields? option? sub_inside? when_good read_request figures_at entry_at entry_framed? read_entry read_entries read_information read_name read_body read_suboption read_suboptions read_option selection? two_bytes four_bytes request_bytes entry_head entry_bytes entries_bytes information_head suboption_bytes suboptions_bytes option_head option_bytes unused? unnamed? empty? prefixes_of present head_ok pool_ok lease_ok ascends? sound of_lease? untold? fits? store row_for followed taken left offer offers add_all again rest_of in_turn narrowed usable_leases usable_entries ask_rows ask renewed take_rows take held two_pools shown behind asks_with takes mine area
ground-hold = refl

pub on-it-hold : on_it ≡ on_it_expected
unfolding walk insert_by entry_fields? fields? option? sub_inside? when_good read_request figures_at entry_at entry_framed? read_entry read_entries read_information read_name read_body read_suboption read_suboptions read_option selection? two_bytes four_bytes request_bytes entry_head entry_bytes entries_bytes information_head suboption_bytes suboptions_bytes option_head option_bytes unused? unnamed? empty? prefixes_of present head_ok pool_ok lease_ok ascends? sound of_lease? untold? fits? store row_for followed taken left offer offers add_all again rest_of in_turn narrowed usable_leases usable_entries ask_rows ask renewed take_rows take held two_pools shown behind asks_with takes mine on_it
on-it-hold = refl

pub rows-hold : rows ≡ rows_expected
unfolding walk insert_by entry_fields? fields? option? sub_inside? when_good read_request figures_at entry_at entry_framed? read_entry read_entries read_information read_name read_body read_suboption read_suboptions read_option selection? two_bytes four_bytes request_bytes entry_head entry_bytes entries_bytes information_head suboption_bytes suboptions_bytes option_head option_bytes unused? unnamed? empty? prefixes_of present head_ok pool_ok lease_ok ascends? sound of_lease? untold? fits? store row_for followed taken left offer offers add_all again rest_of in_turn narrowed usable_leases usable_entries ask_rows ask renewed take_rows take held two_pools shown behind asks_with takes mine rows
rows-hold = refl

pub follows-hold : follows ≡ follows_expected
unfolding walk insert_by entry_fields? fields? option? sub_inside? when_good read_request figures_at entry_at entry_framed? read_entry read_entries read_information read_name read_body read_suboption read_suboptions read_option selection? two_bytes four_bytes request_bytes entry_head entry_bytes entries_bytes information_head suboption_bytes suboptions_bytes option_head option_bytes unused? unnamed? empty? prefixes_of present head_ok pool_ok lease_ok ascends? sound of_lease? untold? fits? store row_for followed taken left offer offers add_all again rest_of in_turn narrowed usable_leases usable_entries ask_rows ask renewed take_rows take held two_pools shown behind asks_with takes mine follows
follows-hold = refl
