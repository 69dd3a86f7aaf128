-- `hold_one` meets its contract.
use Prim.Native.Nat.{ℕ, ◌+◌, ◌*◌}
use mathlib.Core.Path.{sym, ap, ◌∙◌}
use native.Mathlib.Omega.{arith}
use borrow.Author.Tests.{eq-eqb, ne_eqb}
use Rattle.lists.proofs.Tests.{cond-true, cond-false}
use Rattle.lists.specs.Put.{put}
use Rattle.image.specs.Image.{le32, lease_size}
use Rattle.image.specs.Reading.{expires_at}
use Rattle.ask_again.specs.Places.{no_place}
use Rattle.ask_again.proofs.hold_one.Goals as goal

pub returns-then-place-eq-NONE : goal.returns-then-place-eq-NONE
returns-then-place-eq-NONE c = sym (cond-true _ _ _ (eq-eqb _ no_place c.if-place-eq-NONE.true))

pub overflow_add-from : goal.overflow_add-from
overflow_add-from c = omega (arith, c.requires c.if-place-eq-NONE.false)

pub overflow_add-from-2 : goal.overflow_add-from-2
overflow_add-from-2 c = omega (arith, c.requires c.if-place-eq-NONE.false)

pub put32-requires : goal.put32-requires
put32-requires c = omega (arith, c.requires c.if-place-eq-NONE.false)

pub returns : goal.returns
returns c = let a = c.args in c.put32.ensures ∙ ap (λ (p : ℕ). put a.image.now (a.from + lease_size * p + expires_at) (le32 a.expires)) c.from.ensures ∙ sym (cond-false _ _ _ (ne_eqb _ no_place c.if-place-eq-NONE.false))
