-- Document 01's marked examples of options, as rows of one list: what is done, and what it answers.
use Rattle.std.specs.Prelude.{ℕ, List, [], ◌∷◌, false}
use Rattle.option.specs.Values.{longest_option, Entry, SuboptionValue, request, information, Outcome, refused, accepted}
use Rattle.option.specs.Reading.{read_option}
use Rattle.option.specs.Writing.{Writing, written}
use Rattle.option.specs.Writer.{write_option}
use Rattle.option.specs.Selection as selection

pub data Task : Type 0 where
  reading : List ℕ → Task
  writing : List SuboptionValue → Task
  reading118 : List ℕ → Task

pub data Result : Type 0 where
  outcome : Outcome → Result
  bytes : Writing → Result
  selected : selection.Selected → Result

-- What a task answers. The writer's buffer holds every option.
abbrev pub run : Task → Result
run (reading s) = outcome (read_option s)
run (writing subs) = bytes (write_option longest_option subs)
run (reading118 s) = selected (selection.read_selection s)

pub record Row : Type 0 where
  pub task : Task
  pub outcome : Result

abbrev bare : ℕ → ℕ → Entry
bare network length = record { network = network; length = length; h = false; d = false; figures = [] }

unfoldable pub rows : List Row
rows =
    -- P1 `DC 05 00 01 02 00 18` reads as one request for 24, i and h 0
    record { task = reading (0xdc ∷ 0x05 ∷ 0x00 ∷ 0x01 ∷ 0x02 ∷ 0x00 ∷ 0x18 ∷ []); outcome = outcome (accepted (request false false 24 ∷ [])) }
    -- P2 the offer of 10.0.1.0/24 is `DC 0B 00 02 08 00 0A 00 01 00 18 00 00`
    ∷ record {
      task = writing (information false false (bare 0x0a000100 24 ∷ []) ∷ []);
      outcome = bytes (written (0xdc ∷ 0x0b ∷ 0x00 ∷ 0x02 ∷ 0x08 ∷ 0x00 ∷ 0x0a ∷ 0x00 ∷ 0x01 ∷ 0x00 ∷ 0x18 ∷ 0x00 ∷ 0x00 ∷ []));
    }
    -- P3 `DC 05 00 01 02 00 1E` is accepted; with `1F`, 16 at place 3
    ∷ record { task = reading (0xdc ∷ 0x05 ∷ 0x00 ∷ 0x01 ∷ 0x02 ∷ 0x00 ∷ 0x1e ∷ []); outcome = outcome (accepted (request false false 30 ∷ [])) }
    ∷ record { task = reading (0xdc ∷ 0x05 ∷ 0x00 ∷ 0x01 ∷ 0x02 ∷ 0x00 ∷ 0x1f ∷ []); outcome = outcome (refused 16 3) }
    -- P4 `DC 01 00` gets 6; `DC 02 00 01` gets 7 at place 3
    ∷ record { task = reading (0xdc ∷ 0x01 ∷ 0x00 ∷ []); outcome = outcome (refused 6 0) }
    ∷ record { task = reading (0xdc ∷ 0x02 ∷ 0x00 ∷ 0x01 ∷ []); outcome = outcome (refused 7 3) }
    -- P10 an entry 10.0.1.1/24 gets 16
    ∷ record {
      task = reading (0xdc ∷ 0x0b ∷ 0x00 ∷ 0x02 ∷ 0x08 ∷ 0x00 ∷ 0x0a ∷ 0x00 ∷ 0x01 ∷ 0x01 ∷ 0x18 ∷ 0x00 ∷ 0x00 ∷ []);
      outcome = outcome (refused 16 3);
    }
    -- P11 stat-len 4 with four bytes is accepted, 3 with three gets 7
    ∷ record {
      task = reading (0xdc ∷ 0x0f ∷ 0x00 ∷ 0x02 ∷ 0x0c ∷ 0x00 ∷ 0x0a ∷ 0x00 ∷ 0x01 ∷ 0x00 ∷ 0x18 ∷ 0x00 ∷ 0x04 ∷ 0x01 ∷ 0x00 ∷ 0x00 ∷ 0x07 ∷ []);
      outcome =
          outcome
          (accepted (information false false (record { network = 0x0a000100; length = 24; h = false; d = false; figures = 256 ∷ 7 ∷ [] } ∷ []) ∷ []));
    }
    ∷ record {
      task = reading (0xdc ∷ 0x0e ∷ 0x00 ∷ 0x02 ∷ 0x0b ∷ 0x00 ∷ 0x0a ∷ 0x00 ∷ 0x01 ∷ 0x00 ∷ 0x18 ∷ 0x00 ∷ 0x03 ∷ 0x01 ∷ 0x00 ∷ 0x00 ∷ []);
      outcome = outcome (refused 7 3);
    }
    -- P12 `76 04 0A 00 01 00` reads 10.0.1.0; a Len of 3 gets 6, whatever the length of the input
    ∷ record { task = reading118 (0x76 ∷ 0x04 ∷ 0x0a ∷ 0x00 ∷ 0x01 ∷ 0x00 ∷ []); outcome = selected (selection.address 0x0a000100) }
    ∷ record { task = reading118 (0x76 ∷ 0x03 ∷ 0x0a ∷ 0x00 ∷ 0x01 ∷ 0x00 ∷ []); outcome = selected (selection.refused 6) }
    ∷ record { task = reading118 (0x76 ∷ 0x03 ∷ 0x0a ∷ 0x00 ∷ 0x01 ∷ []); outcome = selected (selection.refused 6) }
    ∷ []
