-- `name_at` meets its contract: the framing, then the final octet.
use Prim.Native.Nat.{◌+◌, ◌-◌}
use mathlib.Core.Path.{◌≡◌}
use lib.ListN.{get_or}
use native.Mathlib.Omega.{arith}
use Rattle.option.proofs.SuboptionLaws.{final-byte}
use borrow.Author.Tests.{eq-eqb, ne_eqb, lt-ltb, le-ltb}
use Rattle.option.specs.Rules.{fields?}
use Rattle.option.specs.Reading.{read_name, when_good}
use Rattle.option.proofs.name_at.Goals as goal

pub returns-then-end-at : goal.returns-then-end-at
unfolding read_name when_good
returns-then-end-at c = simp (le-ltb _ _ c.if-end-at.true)

pub returns-then-s-end-eq0 : goal.returns-then-s-end-eq0
unfolding read_name when_good fields?
returns-then-s-end-eq0 c =
    let a = c.args in
    let last = final-byte a.s.now (a.at + 2) a.end (omega arith) (omega arith) in
    simp (lt-ltb _ _ c.if-end-at.false, last, eq-eqb _ _ c.if-s-end-eq0.true)

pub returns : goal.returns
unfolding read_name when_good fields?
returns c =
    let a = c.args in
    let last = final-byte a.s.now (a.at + 2) a.end (omega arith) (omega arith) in
    let other : get_or a.s.now (a.end - 1) 0 ≡ 0 → ⊥ = omega arith in
    simp (lt-ltb _ _ c.if-end-at.false, last, ne_eqb _ _ other)
