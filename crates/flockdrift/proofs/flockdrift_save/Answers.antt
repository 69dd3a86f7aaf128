-- `flockdrift::flockdrift_save` meets its contract: the form is the one with the number.
use mathlib.Core.Path.{ap, ◌∙◌}
use mathlib.Core.Bool.{not}
use mathlib.Core.List.{[]}
use lib.Dec.{eqb}
use Rattle.image.specs.declared.Form.{Form}
use Rattle.call_spec.specs.Books.{book_of, save_book}
use Rattle.flockdrift.proofs.flockdrift_save.Goals as goal

pub returns : goal.returns
returns c =
    let a = c.args in
    rw c.into.ensures
    (c.save.ensures ∙ ap (λ (f : Form). save_book (book_of a.image.now a.image_bytes [] a.counts.now) f (not (eqb a.older 0)) a.buffer.now) c.from.ensures)
