-- `read_prefixes` meets its contract, word by word. The measure is what is left of the line.
use native.Mathlib.Omega.{arith}
use mathlib.Core.Path.{sym, ap, ◌∙◌}
use Rattle.console_words.specs.Words.{empty?}
use Rattle.console_words.specs.Prefixes.{prefix_of}
use Rattle.console_words.proofs.WordLaws.{nothing-between, some-between}
use Rattle.console_words.proofs.PrefixLaws.{reading-all, reading-over, reading-wrong, reading-more}
use Rattle.console_words.proofs.read_prefixes.Goals as goal

pub returns-then-w-clause-lengths_after : goal.returns-then-w-clause-lengths_after
returns-then-w-clause-lengths_after c = let w = c.next_word-w.ensures in reading-all _ _ _ _ _ _ _ c.loop-w.invariant (ap empty? (sym w.word) ∙ nothing-between c.args.s.now _ _ c.if-w.true)

pub returns-then-n-networks-clause-lengths_after : goal.returns-then-n-networks-clause-lengths_after
returns-then-n-networks-clause-lengths_after c = let w = c.next_word-w.ensures in reading-over _ _ _ _ _ _ _ c.loop-w.invariant (ap empty? (sym w.word) ∙ some-between c.args.s.now _ _ w.ordered w.inside c.if-w.false) (omega (arith, c.if-n-networks.true, c.loop-w.invariant.wide))

pub returns-in_err-prefix-clause-lengths_after : goal.returns-in_err-prefix-clause-lengths_after
returns-in_err-prefix-clause-lengths_after c =
    let w = c.next_word-w.ensures in
    rw c.from_residual.ensures
    (reading-wrong _ _ _ _ _ _ _ c.loop-w.invariant (ap empty? (sym w.word) ∙ some-between c.args.s.now _ _ w.ordered w.inside c.if-w.false) (omega (arith, c.if-n-networks.false, c.loop-w.invariant.wide)) (ap prefix_of (sym w.word) ∙ sym c.in_err-prefix.ensures))

pub loop-w-preserved : goal.loop-w-preserved
loop-w-preserved c =
    let w = c.next_word-w.ensures in
    reading-more _ _ _ _ _ _ _ c.loop-w.invariant (ap empty? (sym w.word) ∙ some-between c.args.s.now _ _ w.ordered w.inside c.if-w.false) (omega (arith, c.if-n-networks.false, c.loop-w.invariant.wide)) _ _
    (ap prefix_of (sym w.word) ∙ sym c.in_ok-prefix.ensures) w.inside w.rest
