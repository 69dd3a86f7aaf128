-- `sheet_text::put_free` meets its contract.
use Rattle.text.proofs.TextLaws.{wrote_then}
use Rattle.sheet_text.specs.Sheet.{row_text}
use Rattle.sheet_text.proofs.put_free.Goals as goal

pub returns : goal.returns
unfolding row_text
returns c = wrote_then (wrote_then c.put-word.ensures c.put_prefix-place.ensures.wrote) c.put.ensures
