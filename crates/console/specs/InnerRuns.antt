-- What the parts of a line's run leave, told of the command that was read, whatever its line holds by now.
use Rattle.std.specs.Prelude.{ℕ, ◌≡◌, Bool, not, ◌&&◌, Option, List}
use Rattle.text.specs.Wrote.{Wrote}
use Rattle.console_script.specs.declared.Command.{Command}
use Rattle.console_script.specs.Commands.{value_in}
use Rattle.console_session.specs.declared.State.{State}
use Rattle.console.specs.Runs.{reply_after, selected_after, passed_over?, echo_text}

abbrev pub Echoed : Bool → Option Command → List ℕ → List ℕ → ℕ → List ℕ → ℕ → Type 0
Echoed echo command line old at new next = (words : List ℕ) → Wrote old at (echo_text (echo && not (passed_over? (value_in words command))) line) new next

-- What a line sets, from a state to another.
abbrev pub Set : Option Command → State → State → Type 0
Set command s r = (words : List ℕ) → (r.reply_length ≡ reply_after (value_in words command) s.reply_length) × (r.selected ≡ selected_after (value_in words command) s.selected)
