-- A command of a line has run, by its kind.
-- Assumes nothing.
use Prim.Native.Nat.{ℕ, ◌-◌, ◌≤◌}
use mathlib.Core.Path.{◌≡◌, refl, sym, subst}
use mathlib.Core.Bool.{Bool}
use mathlib.Core.Option as math
use mathlib.Core.List.{List, [], append-nil}
use native.Mathlib.Omega.{arith}
use lib.ListN.{length, take, drop}
use Rattle.std.specs.Prelude.{Option, Some, None}
use Rattle.text.specs.Wrote.{Wrote}
use Rattle.call_spec.specs.Books.{Book}
use Rattle.console_words.specs.Prefixes.{prefixes_of}
use Rattle.console_script.specs.declared.Command.{Command}
use Rattle.console_script.specs.Commands.{CommandValue, most_prefixes, with_prefixes, command_in, value_in, read, write, buffer, selection, nothing, bad}
use Rattle.console_lines.specs.Lines.{ok_line, error_line}
use Rattle.console_commands.specs.Commands.{Given, Ran, Read, WroteOption}
use Rattle.console_commands.proofs.CommandLaws.{appended, rest_of}

-- The command that the line has is this one.
pub ran-as : (line : List ℕ) (k this : Command) → k ≡ this → {g : Given} {book : Book} {old : List ℕ} {at : ℕ} {new : List ℕ} {next : ℕ}
    → Ran (command_in line this) g book old at new next → Ran (command_in line k) g book old at new next
ran-as line k this e {g} {book} {old} {at} {new} {next} ran = subst (λ (x : Command). Ran (command_in line x) g book old at new next) (sym e) ran

-- What the line says is this.
pub said-as : (line : List ℕ) (k this : Option Command) → k ≡ this → {g : Given} {book : Book} {old : List ℕ} {at : ℕ} {new : List ℕ} {next : ℕ}
    → Ran (value_in line this) g book old at new next → Ran (value_in line k) g book old at new next
said-as line k this e {g} {book} {old} {at} {new} {next} ran = subst (λ (x : Option Command). Ran (value_in line x) g book old at new next) (sym e) ran

-- A call is told its option 118 as the line has it.
pub call-as : (f : math.Option (List ℕ) → CommandValue) (a b : math.Option (List ℕ)) → a ≡ b → {g : Given} {book : Book} {old : List ℕ} {at : ℕ} {new : List ℕ} {next : ℕ}
    → Ran (f a) g book old at new next → Ran (f b) g book old at new next
call-as f a b e {g} {book} {old} {at} {new} {next} ran = subst (λ (o : math.Option (List ℕ)). Ran (f o) g book old at new next) e ran

-- An open is lent the rest of its line.
pub open-as : (line : List ℕ) (from : ℕ) (f : List ℕ → List ℕ → CommandValue) {g : Given} {book : Book} {old : List ℕ} {at : ℕ} {new : List ℕ} {next : ℕ}
    → Ran (with_prefixes (prefixes_of most_prefixes (take (length line - from) (drop from line))) f) g book old at new next
    → Ran (with_prefixes (prefixes_of most_prefixes (drop from line)) f) g book old at new next
open-as line from f {g} {book} {old} {at} {new} {next} ran =
    subst (λ (ws : List ℕ). Ran (with_prefixes (prefixes_of most_prefixes ws) f) g book old at new next) (rest_of line from) ran

module _ (g : Given) (old : List ℕ) (at : ℕ) where
  pub read-ran : (octets new : List ℕ) (next : ℕ) → Read old at new next → Ran (read octets) g g.book old at new next
  read-ran octets new next r = record { text = r.text; does = refl; wrote = r.wrote }

  pub write-ran : (words new : List ℕ) (next : ℕ) → WroteOption g.line g.reply_length old at new next → Ran (write words) g g.book old at new next
  write-ran words new next r = record { text = r.text; does = (refl, r.says); wrote = r.wrote }

  pub ok-ran : (n : ℕ) (new : List ℕ) (next : ℕ) → next ≤ length old → Wrote old at ok_line new next → Ran (buffer n) g g.book old at new next
  ok-ran n new next within w = record { text = ok_line; does = (refl, refl); wrote = appended old at ok_line new next within w }

  pub selection-ran : (on : Bool) (new : List ℕ) (next : ℕ) → next ≤ length old → Wrote old at ok_line new next → Ran (selection on) g g.book old at new next
  selection-ran on new next within w = record { text = ok_line; does = (refl, refl); wrote = appended old at ok_line new next within w }

  pub nothing-ran : Ran nothing g g.book old at old at
  nothing-ran = record { text = []; does = (refl, refl); wrote = record { output = sym (append-nil (take at old)); place = omega arith } }

  pub bad-ran : (new : List ℕ) (next : ℕ) → next ≤ length old → Wrote old at (error_line g.line) new next → Ran bad g g.book old at new next
  bad-ran new next within w = record { text = error_line g.line; does = (refl, refl); wrote = appended old at (error_line g.line) new next within w }
