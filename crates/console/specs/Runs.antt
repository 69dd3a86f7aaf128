-- What running a line of a script leaves: the command that the line says, on the book that the lines before it left.
use Rattle.std.specs.Prelude.{ℕ, ◌+◌, ◌≡◌, Bool, true, false, not, ◌&&◌, List, [], ◌++◌, length, drop}
use Rattle.text.specs.Ascii.{ascii}
use Rattle.call_spec.specs.Books.{Book}
use Rattle.console_script.specs.Commands.{CommandValue, call, mark, «open», load, save, sheet, read, write, figures, set_figures, counts, set_counts, whole, buffer, selection, nothing, bad}
use Rattle.console_script.specs.Parsing.{parse_line}
use Rattle.console_session.specs.declared.State.{State}
use Rattle.console_session.specs.States.{next_line}
use Rattle.console_commands.specs.Commands.{given, Does, Appended}

-- "the reply buffer's length from now on"
abbrev pub reply_after : CommandValue → ℕ → ℕ
reply_after (call x client time option carried) old = old
reply_after (mark time network len d) old = old
reply_after («open» term len start networks lengths) old = old
reply_after (load image) old = old
reply_after (save form older) old = old
reply_after sheet old = old
reply_after (read octets) old = old
reply_after (write words) old = old
reply_after figures old = old
reply_after (set_figures octets) old = old
reply_after counts old = old
reply_after (set_counts octets) old = old
reply_after (whole len) old = old
reply_after (buffer n) old = n
reply_after (selection on) old = old
reply_after nothing old = old
reply_after bad old = old

-- "from now on the caller says with each call that option 118 is enabled, or not"
abbrev pub selected_after : CommandValue → Bool → Bool
selected_after (call x client time option carried) old = old
selected_after (mark time network len d) old = old
selected_after («open» term len start networks lengths) old = old
selected_after (load image) old = old
selected_after (save form older) old = old
selected_after sheet old = old
selected_after (read octets) old = old
selected_after (write words) old = old
selected_after figures old = old
selected_after (set_figures octets) old = old
selected_after counts old = old
selected_after (set_counts octets) old = old
selected_after (whole len) old = old
selected_after (buffer n) old = old
selected_after (selection on) old = on
selected_after nothing old = old
selected_after bad old = old

-- "A line with no word, or whose first word begins with `#`, is passed over and writes nothing."
abbrev pub passed_over? : CommandValue → Bool
passed_over? (call x client time option carried) = false
passed_over? (mark time network len d) = false
passed_over? («open» term len start networks lengths) = false
passed_over? (load image) = false
passed_over? (save form older) = false
passed_over? sheet = false
passed_over? (read octets) = false
passed_over? (write words) = false
passed_over? figures = false
passed_over? (set_figures octets) = false
passed_over? counts = false
passed_over? (set_counts octets) = false
passed_over? (whole len) = false
passed_over? (buffer n) = false
passed_over? (selection on) = false
passed_over? nothing = true
passed_over? bad = false

-- The echo of a line: the line as read, behind "> ".
abbrev pub echo_text : Bool → List ℕ → List ℕ
echo_text true line = ascii "> " ++ (line ++ ascii "\n")
echo_text false line = []

-- Where the state asks for it, each command is written before its answer; a line that is passed over is not.
abbrev pub echo_of : State → List ℕ → List ℕ
echo_of s line = echo_text (s.echo && not (passed_over? (parse_line line))) line

-- A line has run from the state s: what its command does with the state's reply length and its word on option 118 and the next line's number, the output that was there with the
-- echo and the answer's text behind it, and the state that is left.
pub record RanLine (s : State) (line : List ℕ) (book : Book) (old : List ℕ) (r : State) (book₁ : Book) (new : List ℕ) : Type 0 where
  pub text : List ℕ
  pub does : Does (parse_line line) (given book s.reply_length s.selected (next_line s.lines) (drop (s.at + length (echo_of s line)) old)) book₁ text
  pub wrote : Appended old s.at (echo_of s line ++ text) new r.at
  pub counted : r.lines ≡ next_line s.lines
  pub reply : r.reply_length ≡ reply_after (parse_line line) s.reply_length
  pub selects : r.selected ≡ selected_after (parse_line line) s.selected
  pub echoes : r.echo ≡ s.echo
