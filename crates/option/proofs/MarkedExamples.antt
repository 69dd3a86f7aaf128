-- The marked examples of options hold, by computation.
-- Assumes nothing.
use mathlib.Core.Path.{◌≡◌, refl}
use mathlib.Core.List.{map}
use Rattle.lists.specs.Walk.{walk}
use Rattle.option.specs.Rules.{entry_fields?, fields?}
use Rattle.option.specs.Reading.{option?, sub_inside?, when_good, read_request, figures_at, entry_at, entry_framed?, read_entry, read_entries, read_information, read_name, read_body, read_suboption, read_suboptions, read_option}
use Rattle.option.specs.Writing.{two_bytes, four_bytes, request_bytes, entry_head, entry_bytes, entries_bytes, information_head, suboption_bytes, suboptions_bytes, option_head, option_bytes}
use Rattle.option.specs.Writer.{entry_writable?, writable?, write_option}
use Rattle.option.specs.Selection.{selection?, read_selection}
use Rattle.option.specs.Examples.{Row, run, rows}

pub marked-examples : map (λ (r : Row). run r.task) rows ≡ map (λ (r : Row). r.outcome) rows
unfolding rows walk entry_fields? fields? option? sub_inside? when_good read_request figures_at entry_at entry_framed? read_entry read_entries read_information read_name read_body read_suboption read_suboptions read_option two_bytes four_bytes request_bytes entry_head entry_bytes entries_bytes information_head suboption_bytes suboptions_bytes option_head option_bytes entry_writable? writable? write_option selection? read_selection
marked-examples = refl
