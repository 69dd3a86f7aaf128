-- `return_selection` meets its contract.
use Prim.Native.Nat.{ℕ, ◌+◌, ◌-◌}
use native.Mathlib.Omega.{arith}
use mathlib.Core.Path.{◌≡◌, refl, sym, ap, ap₂, subst, ◌∙◌}
use mathlib.Core.List.{List}
use Rattle.std.specs.Prelude.{Result, Ok}
use Rattle.lists.specs.Put.{put}
use Rattle.lists.proofs.PutLaws.{put_mid-put}
use Rattle.option.specs.Selection.{selection_size}
use Rattle.ledger.specs.declared.{Accepted.Accepted, Refusal.Refusal}
use Rattle.ledger.specs.Answers.{answer_of}
use Rattle.ledger.specs.Ledger.{outcome, acceptance}
use Rattle.call_spec.specs.ImageCalls.{carried_if}
use Rattle.call_ground.specs.Ground.{returning, MayReturn}
use Rattle.call_ground.proofs.ReturnLaws.{returning-free, returning-put}
use Rattle.call_ground.proofs.return_selection.Goals as goal

pub returns-then-not-selected : goal.returns-then-not-selected
returns-then-not-selected c = let a = c.args in λ s. sym (returning-free a.selected a.selection.now (outcome (answer_of a.answer) s a.reply.now) c.if-not-selected.true)

pub returns : goal.returns
returns c =
    let a = c.args in
    let at = c.in_ok-accepted.accepted.bytes in
    let count = c.in_ok-accepted.accepted.count in
    let was : a.answer ≡ Ok c.in_ok-accepted.accepted = c.in_ok-accepted.was in
    let may = subst (λ (r : Result Accepted Refusal). MayReturn (answer_of r) a.selected a.selection.now a.reply.now) was c.requires in
    let fits = may refl c.if-not-selected.false in
    let bytes = c.copy_from_slice.ensures in
    λ s.
    ap₂ (λ (n : ℕ) (l : List ℕ). outcome (acceptance (at + n) count) s l) (sym fits.0)
    (put_mid-put c.copy_from_slice.new.self a.reply.now at (at + selection_size - at) (omega (arith, bytes.len, fits.0)) (omega (arith, fits.1)) ∙ ap (put a.reply.now at) bytes.after)
    ∙ sym (returning-put a.selected a.selection.now at count s a.reply.now c.if-not-selected.false)
    ∙ ap (λ (r : Result Accepted Refusal). returning (carried_if a.selected a.selection.now) (outcome (answer_of r) s a.reply.now)) (sym was)
