-- `console_text::decimal` meets its contract: the number has no more digits than there is room for.
use native.Mathlib.Omega.{arith}
use Rattle.text.proofs.TextLaws.{length_last, few-digits}
use Rattle.console_text.proofs.TextLaws.{decimal-put}
use Rattle.console_text.proofs.decimal.Goals as goal

pub number-requires : goal.number-requires
number-requires c k w = omega (arith, few-digits _ k _ c.requires.most_nonzero.0 c.requires.n_bound w, c.requires.most_nonzero.1)

pub returns : goal.returns
returns c =
    let a = c.args in
    let w = c.number.ensures in
    let pre = c.requires in record { lower_bound = (omega (arith, w.wrote.place), omega (arith, w.wrote.place, length_last w.size a.n, few-digits a.n w.size a.most pre.most_nonzero.0 pre.n_bound w.width)); decimal = decimal-put _ _ _ _ _ w }
