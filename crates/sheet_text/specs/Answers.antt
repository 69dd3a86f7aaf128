-- What the sheet of an image answers, as the code says it: written, or why not.
use Rattle.std.specs.Prelude.{ℕ, not, cond, List, ◌++◌, length, drop, ltb}
use Rattle.std.proofs.Math.Option.{Option, none, some}
use Rattle.table.specs.declared.LeaseTable.{LeaseTable}
use Rattle.table.specs.Table.{sound}
use Rattle.image.specs.Reading.{load_saved}
use Rattle.std.specs.Prelude.{Result, Ok, Err}
use Rattle.sheet_text.specs.declared.SheetFault.{SheetFault}
use Rattle.sheet_text.specs.declared.SheetFault.TheVariants.{NotSound, TooSmall}
use Rattle.sheet_text.specs.Sheet.{sheet_text}

-- The sheet into a buffer; a refusal leaves "the old bytes everywhere", and bytes after those written keep their content.
abbrev pub into : List ℕ → List ℕ → Result ℕ SheetFault × List ℕ
into text buffer =
    cond (ltb (length buffer) (length text)) (Err TooSmall, buffer)
    (Ok (length text), text ++ drop (length text) buffer)

unfoldable pub sheet_of : LeaseTable → List ℕ → Result ℕ SheetFault × List ℕ
sheet_of t buffer = cond (not (sound t)) (Err NotSound, buffer) (into (sheet_text t) buffer)

-- Of an image, in either form: "for load and the sheet, the saved bytes only"; "The sheet reads both".
abbrev pub sheet_of_loaded : Option LeaseTable → List ℕ → Result ℕ SheetFault × List ℕ
sheet_of_loaded none buffer = (Err NotSound, buffer)
sheet_of_loaded (some t) buffer = sheet_of t buffer

unfoldable pub sheet_of_image : List ℕ → List ℕ → Result ℕ SheetFault × List ℕ
sheet_of_image saved buffer = sheet_of_loaded (load_saved saved) buffer
