-- `write_option` meets its contract: what is measured decides the answer, and what is written is what was measured.
use mathlib.Core.Path.{sym, subst, ◌∙◌}
use Rattle.option_measure.specs.Lists.{suboptions_of}
use Rattle.option_write.specs.Inner.{FittingList}
use Rattle.option_measure.proofs.MeasureLaws.{listed-all, listed-few}
use Rattle.option_write.proofs.ItemPuts.{answer-outside, answer-long, answer-full, list-fitting, answer-written}
use Rattle.option_write.proofs.write_option.Goals as goal

pub returns-in_default : goal.returns-in_default
returns-in_default c =
    let a = c.args in
    answer-outside (suboptions_of a.list.now) a.buf.now (sym c.measure_items.ensures.value ∙ c.in_default.is)

pub returns-then-n-gt-MOST_BYTES : goal.returns-then-n-gt-MOST_BYTES
returns-then-n-gt-MOST_BYTES c =
    let a = c.args in
    answer-long (suboptions_of a.list.now) a.buf.now _ (sym c.measure_items.ensures.value ∙ c.in-Some.is) c.if-n-gt-MOST_BYTES.true

pub returns-then-buf-bytes : goal.returns-then-buf-bytes
returns-then-buf-bytes c =
    let a = c.args in
    answer-full (suboptions_of a.list.now) a.buf.now _ (sym c.measure_items.ensures.value ∙ c.in-Some.is) c.if-buf-bytes.true

pub put_items-requires : goal.put_items-requires
put_items-requires c =
    let a = c.args in
    let l = a.list.now in
    let m = sym c.measure_items.ensures.value ∙ c.in-Some.is in
    let few = listed-few l.items l.count l.entries l.octets _ m in
    (few, subst FittingList (listed-all l.items l.count l.entries l.octets few) (list-fitting (suboptions_of l) a.buf.now _ m c.if-n-gt-MOST_BYTES.false))

pub returns : goal.returns
returns c =
    let a = c.args in
    let l = a.list.now in
    let m = sym c.measure_items.ensures.value ∙ c.in-Some.is in
    let few = listed-few l.items l.count l.entries l.octets _ m in
    let all = listed-all l.items l.count l.entries l.octets few in
    answer-written (suboptions_of l) a.buf.now _ m _ _ _ all c.if-n-gt-MOST_BYTES.false c.if-buf-bytes.false c.put_option_head.ensures c.put_items.ensures
