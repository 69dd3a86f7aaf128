-- `read_network` meets its contract, octet by octet.
use mathlib.Core.Path.{refl, ◌∙◌}
use native.Mathlib.Omega.{arith}
use Rattle.console_words.proofs.PrefixLaws.{networks-none, networks-low, networks-small, networks-bad, networks-cut, networks-more, networks-last, networks-last-bad, whole}
use Rattle.console_words.proofs.read_network.Goals as goal

pub loop-init : goal.loop-init
loop-init c = networks-none _

pub returns-in_err-x : goal.returns-in_err-x
returns-in_err-x c = rw c.from_residual.ensures (networks-bad _ _ _ _ c.loop.invariant (omega arith) _ c.octet_at-a.ensures c.in_err-x.was)

pub returns-then-a-s : goal.returns-then-a-s
returns-then-a-s c = networks-cut _ _ _ _ c.loop.invariant (omega arith) _ c.octet_at-a.ensures _ c.in_ok-x.was (omega arith)

pub overflow_mul-n : goal.overflow_mul-n
overflow_mul-n c = record { fits = omega (arith, networks-low _ _ _ _ c.loop.invariant (omega arith)) }

pub overflow_add-n : goal.overflow_add-n
overflow_add-n c = record { fits = omega (arith, networks-low _ _ _ _ c.loop.invariant (omega arith), c.from.ensures) }

pub loop-preserved : goal.loop-preserved
loop-preserved c = networks-more _ _ _ _ c.loop.invariant (omega arith) _ c.octet_at-a.ensures _ _ c.in_ok-x.was (omega arith) c.from.ensures

pub returns-in_err-last : goal.returns-in_err-last
returns-in_err-last c = rw c.from_residual-in_err-last.ensures (networks-last-bad _ _ _ _ c.loop.invariant (omega arith) _ (c.in_err-last.ensures ∙ whole c.args.s.now c.loop.at) refl)

pub overflow_mul-result : goal.overflow_mul-result
overflow_mul-result c = record { fits = omega (arith, networks-small _ _ _ _ c.loop.invariant) }

pub overflow_add-result : goal.overflow_add-result
overflow_add-result c = record { fits = omega (arith, networks-small _ _ _ _ c.loop.invariant, c.from-2.ensures) }

pub returns : goal.returns
returns c = networks-last _ _ _ _ c.loop.invariant (omega arith) _ _ _ (c.in_ok-last.ensures ∙ whole c.args.s.now c.loop.at) refl c.from-2.ensures
