-- `call_line` meets its contract.
use mathlib.Core.Path.{refl, sym, ap, ◌∙◌}
use lib.ListN.{drop}
use Rattle.console_words.specs.Words.{after_word}
use Rattle.console_words.specs.Numbers.{number_of}
use Rattle.console_script.specs.Parsing.{message_of}
use Rattle.console_script.proofs.LineLaws.{spells, further, call-no-client, call-no-time, call-no-message, call-of}
use Rattle.console_script.proofs.call_line.Goals as goal

pub returns-in_err-client-clause-result_after : goal.returns-in_err-client-clause-result_after
returns-in_err-client-clause-result_after c = let s = c.args.s.now in let xs = drop c.args.from s in rw c.from_residual.ensures (call-no-client _ xs (spells number_of s _ _ xs _ c.next_number-a.ensures refl c.in_err-client.was))

pub returns-in_err-time-clause-result_after : goal.returns-in_err-time-clause-result_after
returns-in_err-time-clause-result_after c = let s = c.args.s.now in let xs = drop c.args.from s in let a = c.next_number-a in rw c.from_residual-in_err-time.ensures (call-no-time _ xs _ (spells number_of s _ _ xs _ a.ensures refl c.in_ok-client.was) (spells number_of s _ _ _ _ c.next_number-b.ensures a.ensures.rest c.in_err-time.was))

pub returns-in_err-message-clause-result_after : goal.returns-in_err-message-clause-result_after
returns-in_err-message-clause-result_after c =
    let s = c.args.s.now in
    let xs = drop c.args.from s in
    let a = c.next_number-a in
    let b = c.next_number-b in
    rw c.from_residual-in_err-message.ensures (call-no-message _ xs _ (spells number_of s _ _ xs _ a.ensures refl c.in_ok-client.was) _ (spells number_of s _ _ _ _ b.ensures a.ensures.rest c.in_ok-time.was) (ap (message_of _) (sym (further s a.result.end b.result.end (after_word xs) b.ensures.rest a.ensures.rest)) ∙ sym c.in_err-message.ensures.result_after))

pub returns-clause-result_after : goal.returns-clause-result_after
returns-clause-result_after c =
    let s = c.args.s.now in
    let xs = drop c.args.from s in
    let a = c.next_number-a in
    let b = c.next_number-b in
    call-of _ xs _ (spells number_of s _ _ xs _ a.ensures refl c.in_ok-client.was) _ (spells number_of s _ _ _ _ b.ensures a.ensures.rest c.in_ok-time.was) _ _ (ap (message_of _) (sym (further s a.result.end b.result.end (after_word xs) b.ensures.rest a.ensures.rest)) ∙ sym c.in_ok-message.ensures.result_after)
