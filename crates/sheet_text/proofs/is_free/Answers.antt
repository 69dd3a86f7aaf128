-- `sheet_text::is_free` meets its contract.
use borrow.Author.Tests.{lt-ltb, le-ltb}
use Rattle.sheet_text.specs.InnerScan.{lease_shown}
use Rattle.sheet_text.proofs.is_free.Goals as goal

pub returns-then-n-i : goal.returns-then-n-i
returns-then-n-i c = simp (le-ltb _ _ c.if-n-i.true)

pub returns : goal.returns
unfolding lease_shown
returns c = simp (lt-ltb _ _ c.if-n-i.false, c.from.ensures, c.end.ensures.value, c.network_at.ensures)
