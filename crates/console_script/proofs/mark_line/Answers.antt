-- `mark_line` meets its contract.
use mathlib.Core.Path.{refl, sym, ap, ◌∙◌}
use lib.ListN.{drop}
use Rattle.console_words.specs.Words.{last?, after_word}
use Rattle.console_words.specs.Numbers.{number_of, flag_of}
use Rattle.console_script.proofs.LineLaws.{spells, spells-prefix, further, mark-no-time, mark-no-prefix, mark-no-flag, mark-more, mark_of}
use Rattle.console_script.proofs.mark_line.Goals as goal

pub returns-in_err-time-clause-result_value : goal.returns-in_err-time-clause-result_value
returns-in_err-time-clause-result_value c = let s = c.args.s.now in let xs = drop c.args.from s in let a = c.next_number-a in rw c.from_residual.ensures (mark-no-time xs (spells number_of s _ _ xs _ a.ensures refl c.in_err-time.was))

pub returns-in_err-prefix-clause-result_value : goal.returns-in_err-prefix-clause-result_value
returns-in_err-prefix-clause-result_value c = let s = c.args.s.now in let xs = drop c.args.from s in let a = c.next_number-a in let b = c.next_prefix-b in rw c.from_residual-in_err-prefix.ensures (mark-no-prefix xs _ (spells number_of s _ _ xs _ a.ensures refl c.in_ok-time.was) (spells-prefix s _ _ _ _ b.ensures a.ensures.rest c.in_err-prefix.was))

pub returns-in_err-deprecated-clause-result_value : goal.returns-in_err-deprecated-clause-result_value
returns-in_err-deprecated-clause-result_value c = let s = c.args.s.now in let xs = drop c.args.from s in let a = c.next_number-a in let b = c.next_prefix-b in let d = c.next_flag-d in let r₂ = further s a.result.end b.result.end (after_word xs) b.ensures.rest a.ensures.rest in rw c.from_residual-in_err-deprecated.ensures (mark-no-flag xs _ (spells number_of s _ _ xs _ a.ensures refl c.in_ok-time.was) _ (spells-prefix s _ _ _ _ b.ensures a.ensures.rest c.in_ok-prefix.was) (spells flag_of s _ _ _ _ d.ensures r₂ c.in_err-deprecated.was))

pub returns-then-not-ends-clause-result_value : goal.returns-then-not-ends-clause-result_value
returns-then-not-ends-clause-result_value c = let s = c.args.s.now in let xs = drop c.args.from s in let a = c.next_number-a in let b = c.next_prefix-b in let d = c.next_flag-d in let r₂ = further s a.result.end b.result.end (after_word xs) b.ensures.rest a.ensures.rest in mark-more xs _ (spells number_of s _ _ xs _ a.ensures refl c.in_ok-time.was) _ (spells-prefix s _ _ _ _ b.ensures a.ensures.rest c.in_ok-prefix.was) _ (spells flag_of s _ _ _ _ d.ensures r₂ c.in_ok-deprecated.was) (ap last? (sym (further s b.result.end d.result.end (after_word (after_word xs)) d.ensures.rest r₂)) ∙ sym c.ends.ensures ∙ c.if-not-ends.true)

pub returns-clause-result_value : goal.returns-clause-result_value
returns-clause-result_value c = let s = c.args.s.now in let xs = drop c.args.from s in let a = c.next_number-a in let b = c.next_prefix-b in let d = c.next_flag-d in let r₂ = further s a.result.end b.result.end (after_word xs) b.ensures.rest a.ensures.rest in mark_of xs _ (spells number_of s _ _ xs _ a.ensures refl c.in_ok-time.was) _ (spells-prefix s _ _ _ _ b.ensures a.ensures.rest c.in_ok-prefix.was) _ (spells flag_of s _ _ _ _ d.ensures r₂ c.in_ok-deprecated.was) (ap last? (sym (further s b.result.end d.result.end (after_word (after_word xs)) d.ensures.rest r₂)) ∙ sym c.ends.ensures ∙ c.if-not-ends.false)
