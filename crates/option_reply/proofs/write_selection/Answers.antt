-- `write_selection` meets its contract.
use mathlib.Core.Path.{ap, ◌∙◌}
use Rattle.lists.specs.Put.{put}
use Rattle.option_reply.proofs.BytePuts.{four-high-first}
use Rattle.option_reply.proofs.SelectionPuts.{selection-full, selection-written}
use Rattle.option_reply.proofs.write_selection.Goals as goal

pub returns-then-buf-lt6 : goal.returns-then-buf-lt6
returns-then-buf-lt6 c = selection-full _ _ c.if-buf-lt6.true

pub returns : goal.returns
returns c =
    selection-written c.args.address c.args.buf.now _ _ c.if-buf-lt6.false c.put_bytes.ensures
    (c.put_bytes-2.ensures ∙ ap (put _ 2) (c.to_be_bytes.ensures ∙ four-high-first _ c.ranges.address.fits))
