-- `message_words` meets its contract.
use mathlib.Core.Path.{sym, ap, ap₂, ◌∙◌}
use mathlib.Core.List.{List}
use Prim.Native.Nat.{ℕ}
use Rattle.console_words.specs.Words.{last?}
use Rattle.console_words.specs.Octets.{octets_of, last_octets}
use Rattle.console_script.specs.Parsing.{both_octets}
use Rattle.console_script.proofs.MessageLaws.{message-alone, message-surplus, message-both}
use Rattle.console_script.proofs.message_words.Goals as goal

pub returns-in_err-option-clause-result_after : goal.returns-in_err-option-clause-result_after
returns-in_err-option-clause-result_after c = let w = c.next_word-w.ensures in rw c.from_residual.ensures (message-alone c.args.call _ _ (ap last? (sym w.rest) ∙ sym c.ends.ensures ∙ c.if-ends.true) (c.in_err-option.ensures.end_after ∙ ap octets_of w.word))

pub returns-then-ends-clause-result_after : goal.returns-then-ends-clause-result_after
returns-then-ends-clause-result_after c = let w = c.next_word-w.ensures in message-alone c.args.call _ _ (ap last? (sym w.rest) ∙ sym c.ends.ensures ∙ c.if-ends.true) (c.in_ok-option.ensures.end_after ∙ ap octets_of w.word)

pub returns-then-not-carries-clause-result_after : goal.returns-then-not-carries-clause-result_after
returns-then-not-carries-clause-result_after c = message-surplus c.args.call _ (ap last? (sym c.next_word-w.ensures.rest) ∙ sym c.ends.ensures ∙ c.if-ends.false) (sym c.carries.ensures ∙ c.if-not-carries.true)

pub returns-clause-result_after : goal.returns-clause-result_after
returns-clause-result_after c =
    let w = c.next_word-w.ensures in
    message-both c.args.call _ (ap last? (sym w.rest) ∙ sym c.ends.ensures ∙ c.if-ends.false) _ (sym c.carries.ensures ∙ c.if-not-carries.false)
    (c.both_octets.ensures.result_after ∙ ap₂ (λ (l m : List ℕ). both_octets (octets_of l) (last_octets m)) w.word w.rest)
