-- `older_alone` meets its contract.
use mathlib.Core.Path.{sym, ap, ◌∙◌}
use mathlib.Core.List.{List}
use Prim.Native.Nat.{ℕ}
use Rattle.text.specs.Ascii.{ascii}
use Rattle.console_words.specs.Words.{last?}
use Rattle.console_script.specs.Parsing.{same?}
use Rattle.console_script.proofs.LineLaws.{another-word, older-then}
use Rattle.console_script.proofs.older_alone.Goals as goal

pub returns-then-not-is : goal.returns-then-not-is
returns-then-not-is c =
    let w = c.next_word-w.ensures in
    another-word _ (ap (λ (l : List ℕ). same? l (ascii "older")) (sym w.word) ∙ sym c.is.ensures ∙ c.if-not-is.true)

pub returns : goal.returns
returns c =
    let w = c.next_word-w.ensures in
    older-then _ (ap (λ (l : List ℕ). same? l (ascii "older")) (sym w.word) ∙ sym c.is.ensures ∙ c.if-not-is.false) _
    (c.ends.ensures ∙ ap last? w.rest)
