-- `put_full_entry` meets its contract: the seven bytes, then the figures.
use Rattle.option_measure.proofs.EntryLengths.{entry_next}
use Rattle.option_write.proofs.EntryPuts.{entry-put}
use Rattle.option_write.proofs.put_full_entry.Goals as goal

pub returns : goal.returns
returns c = record { stored = entry-put _ _ _ _ c.args.e c.put_entry.ensures c.put_figures.ensures; place = entry_next c.args.at c.args.e }
