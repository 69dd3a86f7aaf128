-- A line of a script has run, from what its parts leave.
-- Assumes nothing.
use Prim.Native.Nat.{ℕ, ◌+◌, ◌-◌, ◌≤◌}
use native.Mathlib.Omega.{arith}
use mathlib.Core.Path.{◌≡◌, refl, sym, ap, subst, ◌∙◌}
use mathlib.Core.Bool.{Bool, true, false, not, ◌&&◌, false≢true}
use mathlib.Core.Option.{none, some}
use mathlib.Core.Option as math
use Rattle.std.specs.Prelude.{Option, Some, None, IfSome}
use mathlib.Core.List.{List, [], ◌++◌, append_assoc}
use lib.ListN.{length, take, drop, length-append}
use lib.Seq.{length-take-le, drop_at, take_at}
use Rattle.lists.specs.Put.{put}
use Rattle.lists.proofs.PutLaws.{put-nothing, put-fits}
use Rattle.text.specs.Ascii.{ascii}
use Rattle.text.specs.Wrote.{Wrote}
use Rattle.call_spec.specs.Books.{Book}
use Rattle.console_words.specs.Prefixes.{Columns, prefixes_of}
use Rattle.console_script.specs.declared.BufferLine.{BufferLine}
use Rattle.console_script.specs.declared.SelectionLine.{SelectionLine}
use Rattle.console_script.specs.declared.Command.{Command}
use Rattle.console_script.specs.declared.Command.TheVariants as command
use Rattle.console_script.specs.Commands.{CommandValue, «open», Within, longest_reply, most_prefixes, with_prefixes, command_in, value_in}
use Rattle.console_script.specs.Parsing.{parse_line}
use Rattle.console_session.specs.declared.State.{State}
use Rattle.console_session.specs.States.{next_line, Unchanged}
use Rattle.console_commands.specs.Commands.{given, Appended, Ran}
use Rattle.console_commands.proofs.CommandLaws.{appended}
use Rattle.console.specs.Runs.{reply_after, selected_after, passed_over?, echo_text, echo_of, RanLine}
use Rattle.console.specs.InnerRuns.{Echoed, Set}

-- COMMANDS

-- An open is not passed over, nor does it set anything, whatever its words are.
module _ (term len start : ℕ) where
  open-passed : (o : math.Option Columns) → passed_over? (with_prefixes o («open» term len start)) ≡ false
  open-passed none = refl
  open-passed (some p) = refl

  open-reply : (o : math.Option Columns) (old : ℕ) → old ≡ reply_after (with_prefixes o («open» term len start)) old
  open-reply none old = refl
  open-reply (some p) old = refl

  open-selected : (o : math.Option Columns) (old : Bool) → old ≡ selected_after (with_prefixes o («open» term len start)) old
  open-selected none old = refl
  open-selected (some p) old = refl

pub not-passed : (c : Command) (words : List ℕ) → (c ≡ command.Nothing → ⊥) → passed_over? (command_in words c) ≡ false
not-passed (command.Call x) words k = refl
not-passed (command.Mark x) words k = refl
not-passed (command.Open x) words k = open-passed x.term x.default_length x.start (prefixes_of most_prefixes (drop x.from words))
not-passed (command.Load x) words k = refl
not-passed (command.Save x) words k = refl
not-passed command.Sheet words k = refl
not-passed (command.Read x) words k = refl
not-passed (command.Write x) words k = refl
not-passed command.Figures words k = refl
not-passed (command.SetFigures x) words k = refl
not-passed command.Counts words k = refl
not-passed (command.SetCounts x) words k = refl
not-passed (command.Whole x) words k = refl
not-passed (command.Buffer x) words k = refl
not-passed (command.Selection x) words k = refl
not-passed command.Nothing words k = absurd (k refl)

-- A line that is neither a `buffer` nor a `selection` sets nothing.
pub set-nothing : (c : Command) (s : State) → ((x : BufferLine) → c ≡ command.Buffer x → ⊥) → ((x : SelectionLine) → c ≡ command.Selection x → ⊥) → Set (Some c) s s
set-nothing (command.Call x) s j k words = (refl, refl)
set-nothing (command.Mark x) s j k words = (refl, refl)
set-nothing (command.Open x) s j k words = (open-reply x.term x.default_length x.start (prefixes_of most_prefixes (drop x.from words)) s.reply_length, open-selected x.term x.default_length x.start (prefixes_of most_prefixes (drop x.from words)) s.selected)
set-nothing (command.Load x) s j k words = (refl, refl)
set-nothing (command.Save x) s j k words = (refl, refl)
set-nothing command.Sheet s j k words = (refl, refl)
set-nothing (command.Read x) s j k words = (refl, refl)
set-nothing (command.Write x) s j k words = (refl, refl)
set-nothing command.Figures s j k words = (refl, refl)
set-nothing (command.SetFigures x) s j k words = (refl, refl)
set-nothing command.Counts s j k words = (refl, refl)
set-nothing (command.SetCounts x) s j k words = (refl, refl)
set-nothing (command.Whole x) s j k words = (refl, refl)
set-nothing (command.Buffer x) s j k words = absurd (j x refl)
set-nothing (command.Selection x) s j k words = absurd (k x refl)
set-nothing command.Nothing s j k words = (refl, refl)

-- From what a state has, that a line sets it.
set-as : (c this : Command) (s r : State) → c ≡ this → Set (Some this) s r → Set (Some c) s r
set-as c this s r e set words = subst (λ (x : Command). (r.reply_length ≡ reply_after (command_in words x) s.reply_length) × (r.selected ≡ selected_after (command_in words x) s.selected)) (sym e) (set words)

pub set-length : (c : Command) (x : BufferLine) (s r : State) → c ≡ command.Buffer x → r.reply_length ≡ x.length → r.selected ≡ s.selected → Set (Some c) s r
set-length c x s r e len same = set-as c (command.Buffer x) s r e (λ words. (len, same))

pub set-selected : (c : Command) (x : SelectionLine) (s r : State) → c ≡ command.Selection x → r.reply_length ≡ s.reply_length → r.selected ≡ x.on → Set (Some c) s r
set-selected c x s r e same on = set-as c (command.Selection x) s r e (λ words. (same, on))

-- Set from a state that has the same.
pub set-from : (c : Option Command) (s s₁ r : State) → s₁.reply_length ≡ s.reply_length → s₁.selected ≡ s.selected → Set c s₁ r → Set c s r
set-from c s s₁ r len same set words = ((set words).0 ∙ ap (reply_after (value_in words c)) len, (set words).1 ∙ ap (selected_after (value_in words c)) same)

-- No line asks for a longer reply buffer than there is.
short-by : (c : Command) (words : List ℕ) (n old : ℕ) → Within n c → old ≤ longest_reply → reply_after (command_in words c) old ≤ longest_reply
short-by (command.Call x) words n old w le = le
short-by (command.Mark x) words n old w le = le
short-by (command.Open x) words n old w le = subst (λ (k : ℕ). k ≤ longest_reply) (open-reply x.term x.default_length x.start (prefixes_of most_prefixes (drop x.from words)) old) le
short-by (command.Load x) words n old w le = le
short-by (command.Save x) words n old w le = le
short-by command.Sheet words n old w le = le
short-by (command.Read x) words n old w le = le
short-by (command.Write x) words n old w le = le
short-by command.Figures words n old w le = le
short-by (command.SetFigures x) words n old w le = le
short-by command.Counts words n old w le = le
short-by (command.SetCounts x) words n old w le = le
short-by (command.Whole x) words n old w le = le
short-by (command.Buffer x) words n old w le = w
short-by (command.Selection x) words n old w le = le
short-by command.Nothing words n old w le = le

short : (c : Option Command) (words : List ℕ) (n old : ℕ) → IfSome c (Within n) → old ≤ longest_reply → reply_after (value_in words c) old ≤ longest_reply
short (Some c) words n old w le = short-by c words n old w le
short None words n old w le = le

-- ECHO

module _ (echo : Bool) (c : Option Command) (line old : List ℕ) (at : ℕ) where
  abbrev text_of : Bool → List ℕ
  text_of b = echo_text b line

  nothing_written : Wrote old at [] old at
  nothing_written = record { bytes = sym (put-nothing old at); place = omega arith }

  never : (b : Bool) → (b && false) ≡ false
  never true = refl
  never false = refl

  -- It is not asked for.
  pub not-asked : not echo ≡ true → Echoed echo c line old at old at
  not-asked e words = by echo e
    where
      by : (b : Bool) → not b ≡ true → Wrote old at (text_of (b && not (passed_over? (value_in words c)))) old at
      by true h = absurd (false≢true h)
      by false h = nothing_written

  -- The line is passed over.
  pub passed_over : ((words : List ℕ) → passed_over? (value_in words c) ≡ true) → Echoed echo c line old at old at
  passed_over e words =
      subst (λ (b : Bool). Wrote old at (text_of b) old at) (sym (ap (λ (b : Bool). echo && not b) (e words) ∙ never echo)) nothing_written

  -- The line is written.
  pub echoed : (new : List ℕ) (next : ℕ) → not echo ≡ false → ((words : List ℕ) → passed_over? (value_in words c) ≡ false) → Wrote old at (ascii "> " ++ (line ++ ascii "\n")) new next → Echoed echo c line old at new next
  echoed new next e k w words = by echo e
    where
      by : (b : Bool) → not b ≡ false → Wrote old at (text_of (b && not (passed_over? (value_in words c)))) new next
      by true h = subst (λ (x : Bool). Wrote old at (text_of (not x)) new next) (sym (k words)) w
      by false h = absurd (false≢true (sym h))

-- The place behind a text, under another name.
pub wrote-to : (old : List ℕ) (at : ℕ) (text new : List ℕ) (next n : ℕ) → n ≡ next → Wrote old at text new next → Wrote old at text new n
wrote-to old at text new next n e w = record { bytes = w.bytes; place = e ∙ w.place }

-- LINES

-- What is left of the output behind a text.
room : (old : List ℕ) (at : ℕ) (text mid : List ℕ) (next : ℕ) → next ≤ length old → Wrote old at text mid next → drop next mid ≡ drop (at + length text) old
room old at text mid next inside w =
    let fits : at + length text ≤ length old = omega (arith, w.place) in
    let size : length (take at old ++ text) ≡ next = omega (arith, length-append (take at old) text, length-take-le at old (omega arith), w.place) in
    ap (drop next) (w.bytes ∙ put-fits text old at fits) ∙ drop_at (take at old ++ text) (drop (at + length text) old) next size

-- A text behind a text.
behind : (old : List ℕ) (at : ℕ) (first second mid new : List ℕ) (p next : ℕ) → Appended old at first mid p → Appended mid p second new next → Appended old at (first ++ second) new next
behind old at first second mid new p next a b =
    record {
      output = b.output ∙ ap (λ (l : List ℕ). l ++ second) a.output ∙ append_assoc (take at old) first second;
      place = omega (arith, a.place, b.place, length-append first second);
    }

-- The echo and then the command's answer, from what each part leaves: the next line's state, that with the echo, the command's end in the output.
module _ (s next begun r : State) (line kept words : List ℕ) (c : Option Command) (end : ℕ) (book book₁ : Book) (old mid new : List ℕ) (same : kept ≡ line) (parsed : value_in words c ≡ parse_line line)
    (counts : (next.reply_length ≡ s.reply_length) × (next.selected ≡ s.selected) × (next.lines ≡ next_line s.lines) × (next.at ≡ s.at) × (next.echo ≡ s.echo)) (begins : Unchanged next begun) (inside : begun.at ≤ length old)
    (echo : Echoed next.echo c kept old next.at mid begun.at)
    (ran : Ran (value_in words c) (given book begun.reply_length begun.selected begun.lines (drop begun.at mid)) book₁ mid begun.at new end)
    (ends : (r.at ≡ end) × (r.lines ≡ begun.lines) × (r.echo ≡ begun.echo) × Set c begun r) where
  reply-kept : begun.reply_length ≡ s.reply_length
  reply-kept = begins.0 ∙ counts.0

  selected-kept : begun.selected ≡ s.selected
  selected-kept = begins.1 ∙ counts.1

  wrote-echo : Wrote old s.at (echo_of s line) mid begun.at
  wrote-echo =
      subst (λ (v : CommandValue). Wrote old s.at (echo_text (s.echo && not (passed_over? v)) line) mid begun.at) parsed
      (subst (λ (b : Bool). Wrote old s.at (echo_text (b && not (passed_over? (value_in words c))) line) mid begun.at) counts.4
      (subst (λ (n : ℕ). Wrote old n (echo_text (next.echo && not (passed_over? (value_in words c))) line) mid begun.at) counts.3
      (subst (λ (l : List ℕ). Wrote old next.at (echo_text (next.echo && not (passed_over? (value_in words c))) l) mid begun.at) same (echo words))))

  ran-command : Ran (parse_line line) (given book s.reply_length s.selected (next_line s.lines) (drop (s.at + length (echo_of s line)) old)) book₁ mid begun.at new r.at
  ran-command =
      subst (λ (v : CommandValue). Ran v (given book s.reply_length s.selected (next_line s.lines) (drop (s.at + length (echo_of s line)) old)) book₁ mid begun.at new r.at) parsed
      (subst (λ (l : List ℕ). Ran (value_in words c) (given book s.reply_length s.selected (next_line s.lines) l) book₁ mid begun.at new r.at) (room old s.at (echo_of s line) mid begun.at inside wrote-echo)
      (subst (λ (n : ℕ). Ran (value_in words c) (given book s.reply_length s.selected n (drop begun.at mid)) book₁ mid begun.at new r.at) (begins.2 ∙ counts.2)
      (subst (λ (b : Bool). Ran (value_in words c) (given book s.reply_length b begun.lines (drop begun.at mid)) book₁ mid begun.at new r.at) selected-kept
      (subst (λ (n : ℕ). Ran (value_in words c) (given book n begun.selected begun.lines (drop begun.at mid)) book₁ mid begun.at new r.at) reply-kept
      (subst (λ (n : ℕ). Ran (value_in words c) (given book begun.reply_length begun.selected begun.lines (drop begun.at mid)) book₁ mid begun.at new n) (sym ends.0) ran)))))

  pub ran_line : (n : ℕ) → IfSome c (Within n) → s.reply_length ≤ longest_reply → (r.reply_length ≤ longest_reply) × RanLine s line book old r book₁ new
  ran_line n w le = (
    omega (arith, (ends.3 words).0, short c words n begun.reply_length w (omega (arith, reply-kept))),
    record {
      text = ran-command.text;
      does = ran-command.does;
      wrote = behind old s.at (echo_of s line) ran-command.text mid new begun.at r.at (appended old s.at (echo_of s line) mid begun.at inside wrote-echo) ran-command.wrote;
      counted = ends.1 ∙ begins.2 ∙ counts.2;
      reply = (ends.3 words).0 ∙ ap (reply_after (value_in words c)) reply-kept ∙ ap (λ (v : CommandValue). reply_after v s.reply_length) parsed;
      selects = (ends.3 words).1 ∙ ap (selected_after (value_in words c)) selected-kept ∙ ap (λ (v : CommandValue). selected_after v s.selected) parsed;
      echoes = ends.2 ∙ begins.3 ∙ counts.4;
    },
  )

-- A copy of the front of a line is that front.
pub copied : (line kept kept₁ : List ℕ) (n : ℕ) → n ≤ length line → kept₁ ≡ take n line ++ drop (length (take n line)) kept → take n kept₁ ≡ take n line
copied line kept kept₁ n le e = ap (take n) e ∙ take_at (take n line) (drop (length (take n line)) kept) n (length-take-le n line le)
