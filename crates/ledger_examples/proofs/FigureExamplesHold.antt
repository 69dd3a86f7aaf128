-- The examples of usage figures hold, by computation.
-- Assumes nothing.
use mathlib.Core.Path.{◌≡◌, refl}
use Rattle.lists.specs.Walk.{walk}
use Rattle.lists.specs.Lists.{insert_by}
use Rattle.option.specs.Rules.{entry_fields?, fields?}
use Rattle.option.specs.Reading.{option?, sub_inside?, when_good, read_request, figures_at, entry_at, entry_framed?, read_entry, read_entries, read_information, read_name, read_body, read_suboption, read_suboptions, read_option}
use Rattle.option.specs.Writing.{two_bytes, four_bytes, request_bytes, entry_head, entry_bytes, entries_bytes, information_head, suboption_bytes, suboptions_bytes, option_head, option_bytes}
use Rattle.names.specs.Names.{unnamed?}
use Rattle.table.specs.Table.{unused?, empty?, prefixes_of, present, head_ok, pool_ok, lease_ok, ascends?, sound, store}
use Rattle.figures.specs.Figures.{of_lease?, untold?, fits?, row_for, followed, high_water_of, in_use_of, unusable_of, newer_high_water, newer_in_use, newer_unusable, filed, taken}
use Rattle.ledger.specs.Ledger.{left, offer, offers, add_all, again, rest_of, in_turn, ask_rows, ask, renewed, take_rows, take, list_rows, list, release_rows, release, mark_rows, mark, narrowed, usable_leases, usable_entries}
use Rattle.ledger_examples.specs.Examples.{buffer}
use Rattle.ledger_examples.specs.SampleLists.{table_with, lease, held}
use Rattle.ledger_examples.specs.FurtherExamples.{numbers, listing}
use Rattle.ledger_examples.specs.FigureExamples.{shown_row, rows_shown, pair, telling, takes, told_once, told, told_expected, told_together, together_expected, told_row, both, alone, kept, kept_expected, made, made_expected, held_told, regiven, regiven_expected, with_rows, told_of_none, mismatched, mismatched_expected}

pub told-hold : told ≡ told_expected
unfolding walk insert_by entry_fields? fields? option? sub_inside? when_good read_request figures_at entry_at entry_framed? read_entry read_entries read_information read_name read_body read_suboption read_suboptions read_option two_bytes four_bytes request_bytes entry_head entry_bytes entries_bytes information_head suboption_bytes suboptions_bytes option_head option_bytes unused? unnamed? empty? prefixes_of present head_ok pool_ok lease_ok ascends? sound of_lease? untold? fits? store row_for followed left offer offers add_all again rest_of in_turn ask_rows ask take_rows high_water_of in_use_of unusable_of newer_high_water newer_in_use newer_unusable filed taken renewed take list_rows list release_rows release mark_rows mark buffer table_with lease shown_row rows_shown pair telling takes told_row told_once told narrowed usable_leases usable_entries
told-hold = refl

pub together-hold : told_together ≡ together_expected
unfolding walk insert_by entry_fields? fields? option? sub_inside? when_good read_request figures_at entry_at entry_framed? read_entry read_entries read_information read_name read_body read_suboption read_suboptions read_option two_bytes four_bytes request_bytes entry_head entry_bytes entries_bytes information_head suboption_bytes suboptions_bytes option_head option_bytes unused? unnamed? empty? prefixes_of present head_ok pool_ok lease_ok ascends? sound of_lease? untold? fits? store row_for followed left offer offers add_all again rest_of in_turn ask_rows ask take_rows high_water_of in_use_of unusable_of newer_high_water newer_in_use newer_unusable filed taken renewed take list_rows list release_rows release mark_rows mark buffer table_with lease shown_row rows_shown pair telling takes told_together narrowed usable_leases usable_entries
together-hold = refl

pub kept-hold : kept ≡ kept_expected
unfolding walk insert_by entry_fields? fields? option? sub_inside? when_good read_request figures_at entry_at entry_framed? read_entry read_entries read_information read_name read_body read_suboption read_suboptions read_option two_bytes four_bytes request_bytes entry_head entry_bytes entries_bytes information_head suboption_bytes suboptions_bytes option_head option_bytes unused? unnamed? empty? prefixes_of present head_ok pool_ok lease_ok ascends? sound of_lease? untold? fits? store row_for followed left offer offers add_all again rest_of in_turn ask_rows ask take_rows high_water_of in_use_of unusable_of newer_high_water newer_in_use newer_unusable filed taken renewed take list_rows list release_rows release mark_rows mark buffer table_with lease shown_row rows_shown pair telling takes told_row both kept narrowed usable_leases usable_entries
kept-hold = refl

pub made-hold : made ≡ made_expected
unfolding walk insert_by entry_fields? fields? option? sub_inside? when_good read_request figures_at entry_at entry_framed? read_entry read_entries read_information read_name read_body read_suboption read_suboptions read_option two_bytes four_bytes request_bytes entry_head entry_bytes entries_bytes information_head suboption_bytes suboptions_bytes option_head option_bytes unused? unnamed? empty? prefixes_of present head_ok pool_ok lease_ok ascends? sound of_lease? untold? fits? store row_for followed left offer offers add_all again rest_of in_turn ask_rows ask take_rows high_water_of in_use_of unusable_of newer_high_water newer_in_use newer_unusable filed taken renewed take list_rows list release_rows release mark_rows mark buffer table_with lease shown_row rows_shown told_row alone made narrowed usable_leases usable_entries
made-hold = refl

pub regiven-hold : regiven ≡ regiven_expected
unfolding walk insert_by entry_fields? fields? option? sub_inside? when_good read_request figures_at entry_at entry_framed? read_entry read_entries read_information read_name read_body read_suboption read_suboptions read_option two_bytes four_bytes request_bytes entry_head entry_bytes entries_bytes information_head suboption_bytes suboptions_bytes option_head option_bytes unused? unnamed? empty? prefixes_of present head_ok pool_ok lease_ok ascends? sound of_lease? untold? fits? store row_for followed left offer offers add_all again rest_of in_turn ask_rows ask take_rows high_water_of in_use_of unusable_of newer_high_water newer_in_use newer_unusable filed taken renewed take list_rows list release_rows release mark_rows mark buffer table_with held shown_row rows_shown told_row held_told regiven narrowed usable_leases usable_entries
regiven-hold = refl

pub mismatched-hold : mismatched ≡ mismatched_expected
unfolding walk insert_by entry_fields? fields? option? sub_inside? when_good read_request figures_at entry_at entry_framed? read_entry read_entries read_information read_name read_body read_suboption read_suboptions read_option two_bytes four_bytes request_bytes entry_head entry_bytes entries_bytes information_head suboption_bytes suboptions_bytes option_head option_bytes unused? unnamed? empty? prefixes_of present head_ok pool_ok lease_ok ascends? sound of_lease? untold? fits? store row_for followed left offer offers add_all again rest_of in_turn ask_rows ask take_rows high_water_of in_use_of unusable_of newer_high_water newer_in_use newer_unusable filed taken renewed take list_rows list release_rows release mark_rows mark buffer table_with lease numbers listing pair telling with_rows told_of_none mismatched narrowed usable_leases usable_entries
mismatched-hold = refl
