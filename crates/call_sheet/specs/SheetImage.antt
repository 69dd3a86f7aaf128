-- Sheet as a call on an image.
use Rattle.std.specs.Prelude.{ℕ, List, [], ◌∷◌, ◌++◌, length, drop, ltb}
use Rattle.image.specs.Image.{loaded_table}
use Rattle.image.specs.Reading.{load_saved}
use Rattle.ledger.specs.declared.Answer.{Answer}
use Rattle.ledger.specs.Ledger.{refusal, acceptance, first_of, or_else}
use Rattle.ledger.specs.Demand3.{none?}
use Rattle.sheet_text.specs.Sheet.{sheet_text}

-- The answer, and the text buffer after it. "for load and the sheet, the saved bytes only": row 5 is of these, in either form ("The sheet reads both"), and
-- row 14 that the text has no room.
unfoldable pub sheet_image : List ℕ → List ℕ → Answer × List ℕ
sheet_image saved text =
    let sheet = sheet_text (loaded_table (load_saved saved)) in
    or_else (first_of ((5, none? (load_saved saved)) ∷ (14, ltb (length text) (length sheet)) ∷ [])) (λ number. (refusal number 0, text))
    (acceptance (length sheet) 0, sheet ++ drop (length sheet) text)
