-- `text::put` meets its contract: a part of the buffer takes the bytes.
use Rattle.text.proofs.TextLaws.{wrote-part}
use Rattle.text.proofs.put.Goals as goal

pub returns : goal.returns
returns c =
    let a = c.args in
    let copy = c.copy in
    wrote-part a.out.now a.s.now _ a.at copy.result copy.ensures.count c.requires copy.ensures.value
