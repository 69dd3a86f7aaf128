-- `pairs` meets its contract, octet by octet.
use mathlib.Core.Path.{refl}
use native.Mathlib.Omega.{arith}
use Rattle.console_words.proofs.OctetLaws.{pairing-none, pairing-all, pairing-no-high, pairing-no-low, pairing-more}
use Rattle.console_words.proofs.pairs.Goals as goal

pub loop-i-init : goal.loop-i-init
loop-i-init c = (refl, pairing-none _)

pub returns-in_err-high-clause-value : goal.returns-in_err-high-clause-value
returns-in_err-high-clause-value c = rw c.from_residual.ensures (pairing-no-high _ _ _ c.loop-i.invariant.1 (omega arith) c.in_err-high.ensures.value)

pub returns-in_err-low-clause-value : goal.returns-in_err-low-clause-value
returns-in_err-low-clause-value c = rw c.from_residual-in_err-low.ensures (pairing-no-low _ _ _ c.loop-i.invariant.1 (omega arith) c.in_err-low.ensures.value)

pub loop-i-preserved : goal.loop-i-preserved
loop-i-preserved c = (refl, pairing-more _ _ _ c.loop-i.invariant.1 (omega arith) _ _ c.in_ok-high.ensures.value c.in_ok-low.ensures.value)

pub returns-clause-value : goal.returns-clause-value
returns-clause-value c = pairing-all _ _ _ c.loop-i.invariant.1 (omega arith) c.requires
