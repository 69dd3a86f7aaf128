-- What goes from line to line of a script beside the book, and room in the output.
use Rattle.std.specs.Prelude.{ℕ, ◌+◌, ◌≤◌, ◌≡◌, Bool, false, cond, List, length, replicate, ltb}
use Rattle.table.specs.Table.{pool_slots, lease_slots}
use Rattle.figures.specs.Figures.{empty_row}
use Rattle.image_figures.specs.Sheets.{sheet_of}
use Rattle.counts.specs.Counts.{counted_lengths}
use Rattle.console_input.specs.Lines.{line_space}
use Rattle.console_session.specs.declared.State.{State}

-- The reply buffer's length, whether option 118 is enabled, the number of lines and whether commands are echoed are as before.
abbrev pub Unchanged : State → State → Type 0
Unchanged s r = (r.reply_length ≡ s.reply_length) × (r.selected ≡ s.selected) × (r.lines ≡ s.lines) × (r.echo ≡ s.echo)

-- "Lines are counted from 1", as far as 64 bits go.
abbrev pub next_line : ℕ → ℕ
next_line n = cond (ltb n 18446744073709551615) (n + 1) n

-- The reply buffer's length: "257 at first".
abbrev pub first_reply : ℕ
first_reply = 257

-- Whether option 118 is enabled: "at first: off".
abbrev pub first_selected : Bool
first_selected = false

-- "Before the first accepted open or load the sheet is all empty lines' rows."
abbrev pub first_sheet : List ℕ
first_sheet = sheet_of (replicate lease_slots empty_row)

-- "Before the first accepted open or load the counts are all 0."
abbrev pub first_counts : List (List ℕ)
first_counts = replicate pool_slots (replicate counted_lengths 0)

-- What may wait in the output, the longest line behind "> " and with its newline, and room for any answer.
abbrev pub waiting_most : ℕ
waiting_most = 65536

abbrev pub echo_most : ℕ
echo_most = line_space + 3

abbrev pub answer_most : ℕ
answer_most = 655360

abbrev pub output_space : ℕ
output_space = waiting_most + echo_most + answer_most

-- Any answer fits after the first `at` bytes of the output; any line and its answer.
abbrev pub AnswerFits : ℕ → List ℕ → Type 0
AnswerFits at out = at + answer_most ≤ length out

abbrev pub LineFits : ℕ → List ℕ → Type 0
LineFits at out = at + echo_most + answer_most ≤ length out

-- The output holds what may wait and one line with its answer more.
abbrev pub OutputHolds : List ℕ → Type 0
OutputHolds out = output_space ≤ length out
