-- `sheet_text::put_head` meets its contract.
use Rattle.text.proofs.TextLaws.{wrote_then}
use Rattle.sheet_text.specs.Sheet.{head_text}
use Rattle.sheet_text.proofs.put_head.Goals as goal

pub returns : goal.returns
unfolding head_text
returns c =
    let word = c.put-lines.ensures in
    let leases = c.decimal-count.ensures in
    let word2 = c.put-word.ensures in
    let free = c.decimal-rows.ensures in
    let end = c.put.ensures in
    wrote_then (wrote_then (wrote_then (wrote_then word leases) word2) free) end
