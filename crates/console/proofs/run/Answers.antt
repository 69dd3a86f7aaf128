-- `run` does what the command does: in each arm the command of its name, lent what the line has at its places, which are within it.
use mathlib.Core.Path.{subst, ◌∙◌}
use native.Mathlib.Omega.{arith}
use lib.ListN.{length}
use Rattle.console_words.proofs.WordLaws.{length-between}
use Rattle.console_script.specs.Commands.{Within, call, «open», octets_at}
use Rattle.console.proofs.RunLaws.{ran-as, open-as, read-ran, write-ran, ok-ran, selection-ran, nothing-ran, call-as}
use borrow.Author.Rules.{rules}
use Rattle.console.proofs.run.Goals as goal

pub slice_bounds-call-count : goal.slice_bounds-call-count
slice_bounds-call-count c = (subst (Within (length c.args.line.now)) c.in-Call.is c.requires.answer_fits.2).0.0

pub slice_bounds-call-start : goal.slice_bounds-call-start
slice_bounds-call-start c = omega (arith, (subst (Within (length c.args.line.now)) c.in-Call.is c.requires.answer_fits.2))

pub slice_bounds-call-end : goal.slice_bounds-call-end
slice_bounds-call-end c = omega (arith, (subst (Within (length c.args.line.now)) c.in-Call.is c.requires.answer_fits.2))

pub slice_bounds-call-count-in-Call : goal.slice_bounds-call-count-in-Call
slice_bounds-call-count-in-Call c = (c.selection_place-selection.ensures.within (length c.args.line.now) (subst (Within (length c.args.line.now)) c.in-Call.is c.requires.answer_fits.2).1).0

pub slice_bounds-call-start-in-Call : goal.slice_bounds-call-start-in-Call
slice_bounds-call-start-in-Call c = let w = c.selection_place-selection.ensures.within (length c.args.line.now) (subst (Within (length c.args.line.now)) c.in-Call.is c.requires.answer_fits.2).1 in omega (arith, w)

pub slice_bounds-call-end-in-Call : goal.slice_bounds-call-end-in-Call
slice_bounds-call-end-in-Call c = let w = c.selection_place-selection.ensures.within (length c.args.line.now) (subst (Within (length c.args.line.now)) c.in-Call.is c.requires.answer_fits.2).1 in omega (arith, w)

pub slice_bounds-open-count : goal.slice_bounds-open-count
slice_bounds-open-count c = (subst (Within (length c.args.line.now)) c.in-Open.is c.requires.answer_fits.2)

pub slice_bounds-open-start : goal.slice_bounds-open-start
slice_bounds-open-start c = omega (arith, (subst (Within (length c.args.line.now)) c.in-Open.is c.requires.answer_fits.2))

pub slice_bounds-load-count : goal.slice_bounds-load-count
slice_bounds-load-count c = (subst (Within (length c.args.line.now)) c.in-Load.is c.requires.answer_fits.2).0

pub slice_bounds-load-start : goal.slice_bounds-load-start
slice_bounds-load-start c = omega (arith, (subst (Within (length c.args.line.now)) c.in-Load.is c.requires.answer_fits.2))

pub slice_bounds-load-end : goal.slice_bounds-load-end
slice_bounds-load-end c = omega (arith, (subst (Within (length c.args.line.now)) c.in-Load.is c.requires.answer_fits.2))

pub slice_bounds-read-count : goal.slice_bounds-read-count
slice_bounds-read-count c = (subst (Within (length c.args.line.now)) c.in-Read.is c.requires.answer_fits.2).0

pub slice_bounds-read-start : goal.slice_bounds-read-start
slice_bounds-read-start c = omega (arith, (subst (Within (length c.args.line.now)) c.in-Read.is c.requires.answer_fits.2))

pub slice_bounds-read-end : goal.slice_bounds-read-end
slice_bounds-read-end c = omega (arith, (subst (Within (length c.args.line.now)) c.in-Read.is c.requires.answer_fits.2))

pub slice_bounds-write-count : goal.slice_bounds-write-count
slice_bounds-write-count c = (subst (Within (length c.args.line.now)) c.in-Write.is c.requires.answer_fits.2)

pub slice_bounds-write-start : goal.slice_bounds-write-start
slice_bounds-write-start c = omega (arith, (subst (Within (length c.args.line.now)) c.in-Write.is c.requires.answer_fits.2))

pub slice_bounds-set_figures-count : goal.slice_bounds-set_figures-count
slice_bounds-set_figures-count c = (subst (Within (length c.args.line.now)) c.in-SetFigures.is c.requires.answer_fits.2).0.0

pub slice_bounds-set_figures-start : goal.slice_bounds-set_figures-start
slice_bounds-set_figures-start c = omega (arith, (subst (Within (length c.args.line.now)) c.in-SetFigures.is c.requires.answer_fits.2))

pub slice_bounds-set_figures-end : goal.slice_bounds-set_figures-end
slice_bounds-set_figures-end c = omega (arith, (subst (Within (length c.args.line.now)) c.in-SetFigures.is c.requires.answer_fits.2))

pub set_figures-requires : goal.set_figures-requires
set_figures-requires c = let within = (subst (Within (length c.args.line.now)) c.in-SetFigures.is c.requires.answer_fits.2) in (c.requires.answer_fits.0, length-between c.args.line.now _ _ within.0.0 within.0.1 ∙ within.1, c.requires.figures_len)

pub slice_bounds-set_counts-count : goal.slice_bounds-set_counts-count
slice_bounds-set_counts-count c = (subst (Within (length c.args.line.now)) c.in-SetCounts.is c.requires.answer_fits.2).0.0

pub slice_bounds-set_counts-start : goal.slice_bounds-set_counts-start
slice_bounds-set_counts-start c = omega (arith, (subst (Within (length c.args.line.now)) c.in-SetCounts.is c.requires.answer_fits.2))

pub slice_bounds-set_counts-end : goal.slice_bounds-set_counts-end
slice_bounds-set_counts-end c = omega (arith, (subst (Within (length c.args.line.now)) c.in-SetCounts.is c.requires.answer_fits.2))

pub set_counts-requires : goal.set_counts-requires
set_counts-requires c = let within = (subst (Within (length c.args.line.now)) c.in-SetCounts.is c.requires.answer_fits.2) in (c.requires.answer_fits.0, length-between c.args.line.now _ _ within.0.0 within.0.1 ∙ within.1)

pub returns-in-Call : goal.returns-in-Call
returns-in-Call c = let k = c.in-Call.c in record { upper_bound = search rules; ran = ran-as _ _ _ c.in-Call.is (call-as (λ o. call k.call k.client k.time (octets_at c.args.line.now k.message.option) o) _ _ (c.selection_place-selection.ensures.place c.args.line.now) c.call.ensures.ran) }

pub returns-in-Mark : goal.returns-in-Mark
returns-in-Mark c = record { upper_bound = search rules; ran = ran-as _ _ _ c.in-Mark.is c.mark.ensures.ran }

pub returns-in-Open : goal.returns-in-Open
returns-in-Open c = let k = c.in-Open.c in record { upper_bound = search rules; ran = ran-as _ _ _ c.in-Open.is (open-as c.args.line.now k.from («open» k.term k.default_length k.start) c.open.ensures.ran) }

pub returns-in-Load : goal.returns-in-Load
returns-in-Load c = record { upper_bound = search rules; ran = ran-as _ _ _ c.in-Load.is c.load.ensures.ran }

pub returns-in-Save : goal.returns-in-Save
returns-in-Save c = record { upper_bound = search rules; ran = ran-as _ _ _ c.in-Save.is (c.save.ensures.by_index c.args.figures.now) }

pub returns-in-Sheet : goal.returns-in-Sheet
returns-in-Sheet c = record { upper_bound = search rules; ran = ran-as _ _ _ c.in-Sheet.is (c.sheet.ensures.by_index c.args.figures.now) }

pub returns-in-Read : goal.returns-in-Read
returns-in-Read c = record { upper_bound = search rules; ran = ran-as _ _ _ c.in-Read.is (read-ran _ _ _ _ _ _ c.read.ensures.read) }

pub returns-in-Write : goal.returns-in-Write
returns-in-Write c = record { upper_bound = search rules; ran = ran-as _ _ _ c.in-Write.is (write-ran _ _ _ _ _ _ c.write.ensures.wrote_option) }

pub returns-in-Figures : goal.returns-in-Figures
returns-in-Figures c = record { upper_bound = search rules; ran = ran-as _ _ _ c.in-Figures.is (c.figures.ensures.by_index c.args.image.now c.args.image_bytes.now c.args.counts.now) }

pub returns-in-SetFigures : goal.returns-in-SetFigures
returns-in-SetFigures c = record { upper_bound = search rules; ran = ran-as _ _ _ c.in-SetFigures.is (c.set_figures.ensures.by_index c.args.image.now c.args.image_bytes.now c.args.counts.now) }

pub returns-in-Counts : goal.returns-in-Counts
returns-in-Counts c = record { upper_bound = search rules; ran = ran-as _ _ _ c.in-Counts.is (c.counts.ensures.by_index c.args.figures.now) }

pub returns-in-SetCounts : goal.returns-in-SetCounts
returns-in-SetCounts c = record { upper_bound = search rules; ran = ran-as _ _ _ c.in-SetCounts.is (c.set_counts.ensures.by_index c.args.image.now c.args.image_bytes.now c.args.figures.now) }

pub returns-in-Whole : goal.returns-in-Whole
returns-in-Whole c = record { upper_bound = search rules; ran = ran-as _ _ _ c.in-Whole.is (c.whole.ensures.by_index c.args.figures.now) }

pub returns-in-Buffer : goal.returns-in-Buffer
returns-in-Buffer c = record { upper_bound = search rules; ran = ran-as _ _ _ c.in-Buffer.is (ok-ran _ _ _ _ _ _ (search rules) c.ok.ensures) }

pub returns-in-Selection : goal.returns-in-Selection
returns-in-Selection c = record { upper_bound = search rules; ran = ran-as _ _ _ c.in-Selection.is (selection-ran _ _ _ _ _ _ (search rules) c.ok-in-Selection.ensures) }

pub returns-in-Nothing : goal.returns-in-Nothing
returns-in-Nothing c = record { upper_bound = search rules; ran = ran-as _ _ _ c.in-Nothing.is (nothing-ran _ _ _) }
