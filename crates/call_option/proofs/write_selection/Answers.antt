-- `write_selection` meets its contract, answer by answer.
use Prim.Native.Nat.{ℕ, ◌<◌}
use native.Mathlib.Omega.{arith}
use mathlib.Core.Path.{sym, ap, subst, ◌∙◌}
use Rattle.std.specs.Prelude.{Result, Ok, Err, IfOk}
use Rattle.option_reply.specs.declared.WriteFault.{WriteFault}
use Rattle.ledger.specs.declared.Refusal.TheVariants.{OutsideRules, BufferTooShort}
use Rattle.call_spec.specs.Written.{as_answer}
use Rattle.call_option.proofs.OptionLaws.{written-selection, selection-few}
use Rattle.call_option.proofs.write_selection.Goals as goal

pub overflow_cast-result : goal.overflow_cast-result
overflow_cast-result c =
    let few : c.in-Ok.bytes < 4294967296 = subst (λ (r : Result ℕ WriteFault). IfOk r (λ n. n < 4294967296)) c.in-Ok.is (selection-few _ _ _ _ c.write_selection.ensures) in
    omega (arith, few)

pub returns-in-Ok : goal.returns-in-Ok
returns-in-Ok c = written-selection _ _ _ _ c.write_selection.ensures (Ok (record { bytes = c.in-Ok.bytes; count = 0 })) (sym (ap as_answer c.in-Ok.is))

pub returns-in-Err-OutsideRules : goal.returns-in-Err-OutsideRules
returns-in-Err-OutsideRules c =
    let fault = c.in-Err-OutsideRules in
    written-selection _ _ _ _ c.write_selection.ensures (Err OutsideRules) (sym (ap as_answer (fault.is ∙ ap Err fault.field-0-is)))

pub returns-in-Err-TooLong : goal.returns-in-Err-TooLong
returns-in-Err-TooLong c =
    let fault = c.in-Err-TooLong in
    written-selection _ _ _ _ c.write_selection.ensures (Err BufferTooShort) (sym (ap as_answer (fault.is ∙ ap Err fault.field-0-is)))
