-- What the private functions answer: a save of a table that is sound and not too large, in one form. Nothing here stands in the promise of `save`.
use Rattle.std.specs.Prelude.{ℕ, not, List, [], ◌∷◌, ◌++◌, length, drop, ltb}
use Rattle.table.specs.declared.LeaseTable.{LeaseTable}
use Rattle.image.specs.declared.Form.{Form}
use Rattle.image.specs.Image.{image_as, fits_form}
use Rattle.ledger.specs.declared.Answer.{Answer}
use Rattle.ledger.specs.Ledger.{Row, first_of, or_else, refusal, acceptance}

-- The rows after 20.
abbrev pub later_rows : Form → LeaseTable → List ℕ → List Row
later_rows form t buffer = (18, not (fits_form form t)) ∷ (14, ltb (length buffer) (length (image_as form t))) ∷ []

-- The answer, and the buffer after it.
unfoldable pub saved_to : Form → LeaseTable → List ℕ → Answer × List ℕ
saved_to form t buffer =
    or_else (first_of (later_rows form t buffer)) (λ number. (refusal number 0, buffer))
    (acceptance (length (image_as form t)) 0, image_as form t ++ drop (length (image_as form t)) buffer)
