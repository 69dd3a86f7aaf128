-- P1 to P12 hold: one claim over one list, by computation; and so do the further examples.
-- Assumes nothing.
use mathlib.Core.Path.{◌≡◌, refl}
use mathlib.Core.List.{map}
use Rattle.lists.specs.Walk.{walk}
use Rattle.lists.specs.Lists.{insert_by, sort_by}
use Rattle.option.specs.Rules.{entry_fields?, fields?}
use Rattle.option.specs.Reading.{option?, sub_inside?, when_good, read_request, figures_at, entry_at, entry_framed?, read_entry, read_entries, read_information, read_name, read_body, read_suboption, read_suboptions, read_option}
use Rattle.option.specs.Writing.{two_bytes, four_bytes, request_bytes, entry_head, entry_bytes, entries_bytes, information_head, suboption_bytes, suboptions_bytes, option_head, option_bytes}
use Rattle.option.specs.Selection.{selection?, read_selection}
use Rattle.names.specs.Names.{unnamed?}
use Rattle.table.specs.Table.{unused?, empty?, prefixes_of, present, head_ok, pool_ok, lease_ok, ascends?, sound, store}
use Rattle.table_open.specs.Open.{given, pools_apart?, open_ok}
use Rattle.figures.specs.Figures.{of_lease?, untold?, fits?, row_for, followed, high_water_of, in_use_of, unusable_of, newer_high_water, newer_in_use, newer_unusable, filed, taken}
use Rattle.ledger.specs.Ledger.{left, open_table, offer, offers, add_all, again, rest_of, in_turn, ask_rows, ask, renewed, take_rows, take, list_rows, list, release_rows, release, mark_rows, mark, narrowed, usable_leases, usable_entries}
use Rattle.ledger_examples.specs.Examples.{new_table, buffer, shown, does, does_all, Example, examples}
use Rattle.ledger_examples.specs.SampleLists.{table_with, lease, leases_from}
use Rattle.ledger_examples.specs.FurtherExamples.{numbers, with_bytes, asking, entries_from, naming_from, start, leased, offer5, mixed, held, listing, resuming, flagged, many, many_expected, pages, pages_expected, second_pages, second_pages_expected, returns, returns_expected, takes, takes_expected, marks, marks_expected, row_order, row_order_expected}

pub examples-hold : map (λ (e : Example). e.got) examples ≡ map (λ (e : Example). e.expected) examples
unfolding walk insert_by sort_by entry_fields? fields? option? sub_inside? when_good read_request figures_at entry_at entry_framed? read_entry read_entries read_information read_name read_body read_suboption read_suboptions read_option two_bytes four_bytes request_bytes entry_head entry_bytes entries_bytes information_head suboption_bytes suboptions_bytes option_head option_bytes selection? read_selection unused? unnamed? empty? prefixes_of present head_ok pool_ok lease_ok ascends? sound of_lease? untold? fits? store row_for followed left given pools_apart? open_ok open_table offer offers add_all again rest_of in_turn ask_rows ask take_rows high_water_of in_use_of unusable_of newer_high_water newer_in_use newer_unusable filed taken renewed take new_table buffer shown does does_all examples narrowed usable_leases usable_entries
examples-hold = refl

pub many-hold : many ≡ many_expected
unfolding walk insert_by sort_by entry_fields? fields? option? sub_inside? when_good read_request figures_at entry_at entry_framed? read_entry read_entries read_information read_name read_body read_suboption read_suboptions read_option two_bytes four_bytes request_bytes entry_head entry_bytes entries_bytes information_head suboption_bytes suboptions_bytes option_head option_bytes unused? unnamed? empty? prefixes_of present head_ok pool_ok lease_ok ascends? sound of_lease? untold? fits? store row_for followed left given pools_apart? open_ok open_table offer offers add_all again rest_of in_turn ask_rows ask take_rows high_water_of in_use_of unusable_of newer_high_water newer_in_use newer_unusable filed taken renewed take list_rows list release_rows release mark_rows mark new_table buffer numbers with_bytes asking entries_from naming_from start table_with lease leases_from leased offer5 mixed held listing resuming flagged many narrowed usable_leases usable_entries
many-hold = refl

pub pages-hold : pages ≡ pages_expected
unfolding walk insert_by sort_by entry_fields? fields? option? sub_inside? when_good read_request figures_at entry_at entry_framed? read_entry read_entries read_information read_name read_body read_suboption read_suboptions read_option two_bytes four_bytes request_bytes entry_head entry_bytes entries_bytes information_head suboption_bytes suboptions_bytes option_head option_bytes unused? unnamed? empty? prefixes_of present head_ok pool_ok lease_ok ascends? sound of_lease? untold? fits? store row_for followed left given pools_apart? open_ok open_table offer offers add_all again rest_of in_turn ask_rows ask take_rows high_water_of in_use_of unusable_of newer_high_water newer_in_use newer_unusable filed taken renewed take list_rows list release_rows release mark_rows mark new_table buffer numbers with_bytes asking entries_from naming_from start table_with lease leases_from leased offer5 mixed held listing resuming flagged pages narrowed usable_leases usable_entries
pages-hold = refl

pub second-pages-hold : second_pages ≡ second_pages_expected
unfolding walk insert_by sort_by entry_fields? fields? option? sub_inside? when_good read_request figures_at entry_at entry_framed? read_entry read_entries read_information read_name read_body read_suboption read_suboptions read_option two_bytes four_bytes request_bytes entry_head entry_bytes entries_bytes information_head suboption_bytes suboptions_bytes option_head option_bytes unused? unnamed? empty? prefixes_of present head_ok pool_ok lease_ok ascends? sound of_lease? untold? fits? store row_for followed left given pools_apart? open_ok open_table offer offers add_all again rest_of in_turn ask_rows ask take_rows high_water_of in_use_of unusable_of newer_high_water newer_in_use newer_unusable filed taken renewed take list_rows list release_rows release mark_rows mark new_table buffer numbers with_bytes asking entries_from naming_from start table_with lease leases_from leased offer5 mixed held listing resuming flagged second_pages narrowed usable_leases usable_entries
second-pages-hold = refl

pub returns-hold : returns ≡ returns_expected
unfolding walk insert_by sort_by entry_fields? fields? option? sub_inside? when_good read_request figures_at entry_at entry_framed? read_entry read_entries read_information read_name read_body read_suboption read_suboptions read_option two_bytes four_bytes request_bytes entry_head entry_bytes entries_bytes information_head suboption_bytes suboptions_bytes option_head option_bytes unused? unnamed? empty? prefixes_of present head_ok pool_ok lease_ok ascends? sound of_lease? untold? fits? store row_for followed left given pools_apart? open_ok open_table offer offers add_all again rest_of in_turn ask_rows ask take_rows high_water_of in_use_of unusable_of newer_high_water newer_in_use newer_unusable filed taken renewed take list_rows list release_rows release mark_rows mark new_table buffer numbers with_bytes asking entries_from naming_from start table_with lease leases_from leased offer5 mixed held listing resuming flagged returns narrowed usable_leases usable_entries
returns-hold = refl

pub takes-hold : takes ≡ takes_expected
unfolding walk insert_by sort_by entry_fields? fields? option? sub_inside? when_good read_request figures_at entry_at entry_framed? read_entry read_entries read_information read_name read_body read_suboption read_suboptions read_option two_bytes four_bytes request_bytes entry_head entry_bytes entries_bytes information_head suboption_bytes suboptions_bytes option_head option_bytes unused? unnamed? empty? prefixes_of present head_ok pool_ok lease_ok ascends? sound of_lease? untold? fits? store row_for followed left given pools_apart? open_ok open_table offer offers add_all again rest_of in_turn ask_rows ask take_rows high_water_of in_use_of unusable_of newer_high_water newer_in_use newer_unusable filed taken renewed take list_rows list release_rows release mark_rows mark new_table buffer numbers with_bytes asking entries_from naming_from start table_with lease leases_from leased offer5 mixed held listing resuming flagged takes narrowed usable_leases usable_entries
takes-hold = refl

pub marks-hold : marks ≡ marks_expected
unfolding walk insert_by sort_by entry_fields? fields? option? sub_inside? when_good read_request figures_at entry_at entry_framed? read_entry read_entries read_information read_name read_body read_suboption read_suboptions read_option two_bytes four_bytes request_bytes entry_head entry_bytes entries_bytes information_head suboption_bytes suboptions_bytes option_head option_bytes unused? unnamed? empty? prefixes_of present head_ok pool_ok lease_ok ascends? sound of_lease? untold? fits? store row_for followed left given pools_apart? open_ok open_table offer offers add_all again rest_of in_turn ask_rows ask take_rows high_water_of in_use_of unusable_of newer_high_water newer_in_use newer_unusable filed taken renewed take list_rows list release_rows release mark_rows mark new_table buffer numbers with_bytes asking entries_from naming_from start table_with lease leases_from leased offer5 mixed held listing resuming flagged marks narrowed usable_leases usable_entries
marks-hold = refl

pub row-order-hold : row_order ≡ row_order_expected
unfolding walk insert_by sort_by entry_fields? fields? option? sub_inside? when_good read_request figures_at entry_at entry_framed? read_entry read_entries read_information read_name read_body read_suboption read_suboptions read_option two_bytes four_bytes request_bytes entry_head entry_bytes entries_bytes information_head suboption_bytes suboptions_bytes option_head option_bytes unused? unnamed? empty? prefixes_of present head_ok pool_ok lease_ok ascends? sound of_lease? untold? fits? store row_for followed left given pools_apart? open_ok open_table offer offers add_all again rest_of in_turn ask_rows ask take_rows high_water_of in_use_of unusable_of newer_high_water newer_in_use newer_unusable filed taken renewed take list_rows list release_rows release mark_rows mark new_table buffer numbers with_bytes asking entries_from naming_from start table_with lease leases_from leased offer5 mixed held listing resuming flagged row_order narrowed usable_leases usable_entries
row-order-hold = refl
