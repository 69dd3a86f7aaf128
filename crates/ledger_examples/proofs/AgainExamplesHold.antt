-- The examples of asking twice hold, by computation.
-- Assumes nothing.
use mathlib.Core.Path.{◌≡◌, refl}
use Rattle.lists.specs.Walk.{walk}
use Rattle.lists.specs.Lists.{insert_by}
use Rattle.option.specs.Rules.{entry_fields?, fields?}
use Rattle.option.specs.Reading.{option?, sub_inside?, when_good, read_request, figures_at, entry_at, entry_framed?, read_entry, read_entries, read_information, read_name, read_body, read_suboption, read_suboptions, read_option}
use Rattle.option.specs.Writing.{two_bytes, four_bytes, request_bytes, entry_head, entry_bytes, entries_bytes, information_head, suboption_bytes, suboptions_bytes, option_head, option_bytes}
use Rattle.names.specs.Names.{unnamed?}
use Rattle.table.specs.Table.{unused?, empty?, prefixes_of, present, head_ok, pool_ok, lease_ok, ascends?, sound, store}
use Rattle.figures.specs.Figures.{of_lease?, untold?, fits?, row_for, followed}
use Rattle.ledger.specs.Ledger.{left, offer, offers, add_all, again, rest_of, in_turn, ask_rows, ask, narrowed, usable_leases}
use Rattle.ledger_examples.specs.Examples.{buffer}
use Rattle.ledger_examples.specs.SampleLists.{table_with, lease, leases_from, held}
use Rattle.ledger_examples.specs.FurtherExamples.{numbers, asking}
use Rattle.ledger_examples.specs.AgainExamples.{answered, granted, standing, shown_after, asks, mine, marked, mine_with_h, twice, twice_expected, many, many_expected, which, which_expected, filled_up, shown_full, rest, rest_expected, held_from, most, most_expected}

pub twice-hold : twice ≡ twice_expected
unfolding walk insert_by entry_fields? fields? option? sub_inside? when_good read_request figures_at entry_at entry_framed? read_entry read_entries read_information read_name read_body read_suboption read_suboptions read_option two_bytes four_bytes request_bytes entry_head entry_bytes entries_bytes information_head suboption_bytes suboptions_bytes option_head option_bytes unused? unnamed? empty? prefixes_of present head_ok pool_ok lease_ok ascends? sound of_lease? untold? fits? store row_for followed left offer offers add_all again rest_of in_turn ask_rows ask buffer table_with lease leases_from held numbers asking answered granted standing shown_after asks mine marked mine_with_h twice narrowed usable_leases
twice-hold = refl

pub many-hold : many ≡ many_expected
unfolding walk insert_by entry_fields? fields? option? sub_inside? when_good read_request figures_at entry_at entry_framed? read_entry read_entries read_information read_name read_body read_suboption read_suboptions read_option two_bytes four_bytes request_bytes entry_head entry_bytes entries_bytes information_head suboption_bytes suboptions_bytes option_head option_bytes unused? unnamed? empty? prefixes_of present head_ok pool_ok lease_ok ascends? sound of_lease? untold? fits? store row_for followed left offer offers add_all again rest_of in_turn ask_rows ask buffer table_with lease leases_from held numbers asking answered granted standing shown_after asks mine marked mine_with_h many narrowed usable_leases
many-hold = refl

pub which-hold : which ≡ which_expected
unfolding walk insert_by entry_fields? fields? option? sub_inside? when_good read_request figures_at entry_at entry_framed? read_entry read_entries read_information read_name read_body read_suboption read_suboptions read_option two_bytes four_bytes request_bytes entry_head entry_bytes entries_bytes information_head suboption_bytes suboptions_bytes option_head option_bytes unused? unnamed? empty? prefixes_of present head_ok pool_ok lease_ok ascends? sound of_lease? untold? fits? store row_for followed left offer offers add_all again rest_of in_turn ask_rows ask buffer table_with lease leases_from held numbers asking answered granted standing shown_after asks mine marked mine_with_h which narrowed usable_leases
which-hold = refl

pub rest-hold : rest ≡ rest_expected
unfolding walk insert_by entry_fields? fields? option? sub_inside? when_good read_request figures_at entry_at entry_framed? read_entry read_entries read_information read_name read_body read_suboption read_suboptions read_option two_bytes four_bytes request_bytes entry_head entry_bytes entries_bytes information_head suboption_bytes suboptions_bytes option_head option_bytes unused? unnamed? empty? prefixes_of present head_ok pool_ok lease_ok ascends? sound of_lease? untold? fits? store row_for followed left offer offers add_all again rest_of in_turn ask_rows ask buffer table_with lease leases_from held numbers asking answered granted standing shown_after asks mine marked mine_with_h filled_up shown_full rest narrowed usable_leases
rest-hold = refl

pub most-hold : most ≡ most_expected
unfolding walk insert_by entry_fields? fields? option? sub_inside? when_good read_request figures_at entry_at entry_framed? read_entry read_entries read_information read_name read_body read_suboption read_suboptions read_option two_bytes four_bytes request_bytes entry_head entry_bytes entries_bytes information_head suboption_bytes suboptions_bytes option_head option_bytes unused? unnamed? empty? prefixes_of present head_ok pool_ok lease_ok ascends? sound of_lease? untold? fits? store row_for followed left offer offers add_all again rest_of in_turn ask_rows ask buffer table_with lease leases_from held numbers asking answered granted standing shown_after asks mine marked mine_with_h held_from most narrowed usable_leases
most-hold = refl
