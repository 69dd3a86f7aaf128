-- `open_line` meets its contract.
use mathlib.Core.Path.{refl}
use lib.ListN.{drop}
use Rattle.console_words.specs.Words.{after_word}
use Rattle.console_words.specs.Numbers.{number_of}
use Rattle.console_script.proofs.LineLaws.{spells, further, open-no-term, open-no-default, open-default-long, open-no-start, open_of}
use Rattle.console_script.proofs.open_line.Goals as goal

pub returns-in_err-term-clause-result_value : goal.returns-in_err-term-clause-result_value
returns-in_err-term-clause-result_value c = let s = c.args.s.now in let xs = drop c.args.from s in let a = c.next_number-a in rw c.from_residual.ensures (open-no-term xs (spells number_of s _ _ xs _ a.ensures refl c.in_err-term.was))

pub returns-in_err-default_length-clause-result_value : goal.returns-in_err-default_length-clause-result_value
returns-in_err-default_length-clause-result_value c = let s = c.args.s.now in let xs = drop c.args.from s in let a = c.next_number-a in let b = c.next_number-b in rw c.from_residual-in_err-default_length.ensures (open-no-default xs _ (spells number_of s _ _ xs _ a.ensures refl c.in_ok-term.was) (spells number_of s _ _ _ _ b.ensures a.ensures.rest c.in_err-default_length.was))

pub returns-then-default_length-gt255-clause-result_value : goal.returns-then-default_length-gt255-clause-result_value
returns-then-default_length-gt255-clause-result_value c = let s = c.args.s.now in let xs = drop c.args.from s in let a = c.next_number-a in let b = c.next_number-b in open-default-long xs _ (spells number_of s _ _ xs _ a.ensures refl c.in_ok-term.was) _ (spells number_of s _ _ _ _ b.ensures a.ensures.rest c.in_ok-default_length.was) c.if-default_length-gt255.true

pub returns-in_err-start-clause-result_value : goal.returns-in_err-start-clause-result_value
returns-in_err-start-clause-result_value c = let s = c.args.s.now in let xs = drop c.args.from s in let a = c.next_number-a in let b = c.next_number-b in let d = c.next_number-c in let r₂ = further s a.result.end b.result.end (after_word xs) b.ensures.rest a.ensures.rest in rw c.from_residual-in_err-start.ensures (open-no-start xs _ (spells number_of s _ _ xs _ a.ensures refl c.in_ok-term.was) _ (spells number_of s _ _ _ _ b.ensures a.ensures.rest c.in_ok-default_length.was) c.if-default_length-gt255.false (spells number_of s _ _ _ _ d.ensures r₂ c.in_err-start.was))

pub returns-clause-result_value : goal.returns-clause-result_value
returns-clause-result_value c = let s = c.args.s.now in let xs = drop c.args.from s in let a = c.next_number-a in let b = c.next_number-b in let d = c.next_number-c in let r₂ = further s a.result.end b.result.end (after_word xs) b.ensures.rest a.ensures.rest in open_of xs _ (spells number_of s _ _ xs _ a.ensures refl c.in_ok-term.was) _ (spells number_of s _ _ _ _ b.ensures a.ensures.rest c.in_ok-default_length.was) c.if-default_length-gt255.false _ _ (spells number_of s _ _ _ _ d.ensures r₂ c.in_ok-start.was) (further s b.result.end d.result.end (after_word (after_word xs)) d.ensures.rest r₂)
