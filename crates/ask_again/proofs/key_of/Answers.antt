-- `key_of` meets its contract.
use native.Mathlib.Omega.{arith}
use Rattle.ask_again.proofs.key_of.Goals as goal

pub returns-then-h : goal.returns-then-h
returns-then-h c = rw c.if-h.true (omega arith, omega arith)

pub returns : goal.returns
returns c = rw c.if-h.false (omega arith, omega arith)
