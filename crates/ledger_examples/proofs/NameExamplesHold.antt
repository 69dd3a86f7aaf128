-- The examples of names hold, by computation.
-- Assumes nothing.
use mathlib.Core.Path.{◌≡◌, refl}
use Rattle.lists.specs.Walk.{walk}
use Rattle.lists.specs.Lists.{insert_by}
use Rattle.option.specs.Rules.{entry_fields?, fields?}
use Rattle.option.specs.Reading.{option?, sub_inside?, when_good, read_request, figures_at, entry_at, entry_framed?, read_entry, read_entries, read_information, read_name, read_body, read_suboption, read_suboptions, read_option}
use Rattle.option.specs.Writing.{two_bytes, four_bytes, request_bytes, entry_head, entry_bytes, entries_bytes, information_head, suboption_bytes, suboptions_bytes, option_head, option_bytes}
use Rattle.names.specs.Names.{octets, spells, name_octets, name_in, without_zeros, unnamed?}
use Rattle.table.specs.Table.{unused?, empty?, prefixes_of, present, head_ok, pool_ok, lease_ok, ascends?, sound, store}
use Rattle.figures.specs.Figures.{of_lease?, untold?, fits?, row_for, followed, taken}
use Rattle.ledger.specs.Ledger.{left, offer, offers, add_all, again, rest_of, in_turn, ask_rows, ask, renewed, take_rows, take, list_rows, list, release_rows, release, mark_rows, mark, narrowed, usable_leases, usable_entries}
use Rattle.ledger_examples.specs.Examples.{buffer}
use Rattle.ledger_examples.specs.SampleLists.{table_with, lease, leases_from, held}
use Rattle.ledger_examples.specs.FurtherExamples.{numbers}
use Rattle.ledger_examples.specs.AgainExamples.{filled_up}
use Rattle.ledger_examples.specs.NameExamples.{shown_names, asks_by, start, given, given_expected, west_until, holding, kept, kept_expected, too_long, too_long_expected}

pub given-hold : given ≡ given_expected
unfolding walk insert_by entry_fields? fields? option? sub_inside? when_good read_request figures_at entry_at entry_framed? read_entry read_entries read_information read_name read_body read_suboption read_suboptions read_option two_bytes four_bytes request_bytes entry_head entry_bytes entries_bytes information_head suboption_bytes suboptions_bytes option_head option_bytes octets spells name_octets name_in without_zeros unnamed? unused? empty? prefixes_of present head_ok pool_ok lease_ok ascends? sound of_lease? untold? fits? store row_for followed taken left offer offers add_all again rest_of in_turn ask_rows ask renewed take_rows take list_rows list release_rows release mark_rows mark buffer table_with lease leases_from held numbers filled_up shown_names asks_by start west_until holding given narrowed usable_leases usable_entries
given-hold = refl

pub kept-hold : kept ≡ kept_expected
unfolding walk insert_by entry_fields? fields? option? sub_inside? when_good read_request figures_at entry_at entry_framed? read_entry read_entries read_information read_name read_body read_suboption read_suboptions read_option two_bytes four_bytes request_bytes entry_head entry_bytes entries_bytes information_head suboption_bytes suboptions_bytes option_head option_bytes octets spells name_octets name_in without_zeros unnamed? unused? empty? prefixes_of present head_ok pool_ok lease_ok ascends? sound of_lease? untold? fits? store row_for followed taken left offer offers add_all again rest_of in_turn ask_rows ask renewed take_rows take list_rows list release_rows release mark_rows mark buffer table_with lease leases_from held numbers filled_up shown_names asks_by start west_until holding kept narrowed usable_leases usable_entries
kept-hold = refl

pub too-long-hold : too_long ≡ too_long_expected
unfolding walk insert_by entry_fields? fields? option? sub_inside? when_good read_request figures_at entry_at entry_framed? read_entry read_entries read_information read_name read_body read_suboption read_suboptions read_option two_bytes four_bytes request_bytes entry_head entry_bytes entries_bytes information_head suboption_bytes suboptions_bytes option_head option_bytes octets spells name_octets name_in without_zeros unnamed? unused? empty? prefixes_of present head_ok pool_ok lease_ok ascends? sound of_lease? untold? fits? store row_for followed taken left offer offers add_all again rest_of in_turn ask_rows ask renewed take_rows take list_rows list release_rows release mark_rows mark buffer table_with lease leases_from held numbers filled_up shown_names asks_by start west_until holding too_long narrowed usable_leases usable_entries
too-long-hold = refl
