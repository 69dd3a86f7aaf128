-- `read_option` meets its contract, answer by answer.
use mathlib.Core.Path.{refl, sym, ap, ◌∙◌}
use native.Mathlib.Omega.{arith}
use Rattle.image.proofs.FieldLaws.{bytes-all}
use Rattle.option.specs.Values.{Outcome, refused}
use Rattle.ledger.specs.declared.Refusal.{Refusal}
use Rattle.ledger.specs.Answers.{refusal_number, bad_place}
use Rattle.call_rows.proofs.RowLaws.{place-small, read-good, read-bad}
use Rattle.call_rows.proofs.read_option.Goals as goal

pub option_refusal-requires : goal.option_refusal-requires
option_refusal-requires c =
    let option = c.args.option.now in
    place-small option (bytes-all option (λ i. omega (arith, c.type_inv.option i))) c.in-Err.fault c.in-Err.ensures.checked

pub returns-in-Ok : goal.returns-in-Ok
returns-in-Ok c =
    let r = c.in-Ok.ensures in
    let accepted = read-good c.args.option.now r.checked in
    record { accepted = accepted; holds = r.holds _ refl _ accepted; named = r.named _ refl _ accepted }

pub returns-in-Err : goal.returns-in-Err
returns-in-Err c =
    read-bad c.args.option.now c.in-Err.fault c.in-Err.ensures.checked
    ∙ ap (λ (e : Refusal). refused (refusal_number e) (bad_place e)) (sym c.option_refusal.ensures)
