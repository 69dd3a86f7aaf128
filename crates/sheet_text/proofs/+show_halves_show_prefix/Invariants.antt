-- 30 minus the length falls from a prefix to its halves; between the two functions the tie is broken by one.
use Rattle.std.proofs.Common.{◌+◌, ◌-◌}
use Rattle.sheet_text.proofs.+show_halves_show_prefix.Given as goal

abbrev pub decreases-show_halves : goal.decreases-show_halves
decreases-show_halves l = (30 - l.p.length) + (30 - l.p.length)

abbrev pub decreases-show_prefix : goal.decreases-show_prefix
decreases-show_prefix l = (30 - l.p.length) + (30 - l.p.length) + 1
