-- `last_octets` meets its contract.
use mathlib.Core.Path.{sym, ap, ◌∙◌}
use Rattle.console_words.specs.Words.{last?}
use Rattle.console_words.specs.Octets.{octets_of}
use Rattle.console_words.proofs.OctetLaws.{octets-not-last, octets-last}
use Rattle.console_words.proofs.last_octets.Goals as goal

pub returns-then-not-ends-clause-end_after : goal.returns-then-not-ends-clause-end_after
returns-then-not-ends-clause-end_after c = octets-not-last _ (ap last? (sym c.next_word-w.ensures.rest) ∙ sym c.ends.ensures ∙ c.if-not-ends.true)

pub returns-clause-end_after : goal.returns-clause-end_after
returns-clause-end_after c = let w = c.next_word-w.ensures in octets-last _ _ (ap last? (sym w.rest) ∙ sym c.ends.ensures ∙ c.if-not-ends.false) (c.read_octets.ensures.end_after ∙ ap octets_of w.word)
