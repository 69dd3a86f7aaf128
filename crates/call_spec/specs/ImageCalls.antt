-- THE CALLS ON WHAT THE CODE IS LENT. A server that embeds the calls holds the table as its image, at the front of a buffer, the image's length beside it,
-- and the figures sheet; all three go from call to call. Each call is the ledger's on the table that the image is of and the sheet's rows, and leaves the
-- image and the sheet of what the ledger leaves.
use Rattle.std.specs.Prelude.{ℕ, ◌-◌, Bool, not, cond, ◌&&◌, ◌||◌, List, [], ◌∷◌, ◌++◌, length, drop, replicate, take as up_to, leb, ltb, eqb}
use Rattle.std.proofs.Math.Option.{Option, none, some}
use Rattle.table.specs.declared.LeaseTable.{LeaseTable}
use Rattle.table.specs.Table.{older_slots, sound}
use Rattle.table_open.specs.Open.{given, fresh}
use Rattle.image.specs.declared.Form.{Form}
use Rattle.image.specs.Image.{full_image, used_leases, image_as, image_of, fits_form, loaded_table}
use Rattle.image.specs.Reading.{load_image, load_saved}
use Rattle.image_figures.specs.Sheets.{figures_size, sheet_rows, sheet_of}
use Rattle.ledger.specs.Ledger.{State, state, filled, Call, Result, outcome, accept, Row, by_rows, open_rows, ask, take, list, release, mark, Calls}
use Rattle.ledger.specs.Demand3.{none?}

-- WHAT IS LENT

-- The buffer with the image at its front, the image's length, and the figures sheet. A call that has no sheet is given and leaves an empty one.
pub record Lent : Type 0 where
  pub image : List ℕ
  pub bytes : ℕ
  pub figures : List ℕ

abbrev pub lent : List ℕ → ℕ → List ℕ → Lent
lent image bytes figures = record { image = image; bytes = bytes; figures = figures }

-- A buffer that cannot hold a full book, or not as many bytes as the image is said to have, holds no image.
abbrev pub holds? : Lent → Bool
holds? h = leb full_image (length h.image) && leb h.bytes (length h.image)

abbrev pub image_in : Lent → List ℕ
image_in h = up_to (cond (holds? h) h.bytes 0) h.image

-- The table that the image is of. Bytes that do not load stand for the table of all zeros: it is not sound, so the ledger refuses it with 5, in the place
-- that row 5 has.
unfoldable pub table_in : Lent → LeaseTable
table_in h = loaded_table (load_image (image_in h))

abbrev pub state_in : Lent → State
state_in h = state (table_in h) (sheet_rows h.figures)

-- WHAT A CALL LEAVES

-- An image in the place of one of `old` bytes: where the old one was longer zeros follow, so that a removed lease leaves nothing behind.
abbrev pub over : List ℕ → ℕ → List ℕ
over image old = image ++ replicate (old - length image) 0

-- The buffer with the image of a table in the place of its image of `old` bytes. The bytes past both stay.
unfoldable pub stored : LeaseTable → ℕ → List ℕ → List ℕ
stored t old buffer = over (image_of t) old ++ drop (length (over (image_of t) old)) buffer

abbrev pub stored_in : State → ℕ → Lent → Lent
stored_in s old h = lent (stored s.table old h.image) (length (image_of s.table)) (sheet_of s.rows)

-- What is lent after a call that gives r: "A refusal returns its number (7 also its place), all counts 0, and the old bytes everywhere."
unfoldable pub settled : Result State → Lent → Result Lent
settled r h = cond (eqb r.answer.number 0) (outcome r.answer (stored_in r.state h.bytes h) r.reply) (outcome r.answer h r.reply)

-- THE CALLS

-- The option 118 of a message, "Where the caller says with the call that it is enabled"; where not, its bytes are not looked at.
abbrev pub carried_if : Bool → List ℕ → Option (List ℕ)
carried_if selected s = cond selected (some s) none

abbrev pub ask_image : Lent → ℕ → Call → Result Lent
ask_image h now c = settled (ask (state_in h) now c) h

abbrev pub take_image : Lent → ℕ → Call → Result Lent
take_image h now c = settled (take (state_in h) now c) h

-- "List changes nothing", and it does not look at the sheet.
abbrev pub list_image : Lent → ℕ → Call → Result Lent
list_image h now c = let r = list (state_in h) now c in outcome r.answer h r.reply

abbrev pub release_image : Lent → ℕ → Call → Result Lent
release_image h now c = settled (release (state_in h) now c) h

abbrev pub mark_image : Lent → ℕ → ℕ → ℕ → Bool → Result Lent
mark_image h now network len d = settled (mark (state_in h) now network len d) h

abbrev pub image_calls : Calls Lent
image_calls = record { state_of = state_in; asks = ask_image; takes = take_image; lists = list_image; releases = release_image; marks = mark_image }

-- OPEN, LOAD AND SAVE

-- Open and load fill a buffer and a sheet: row 14 last, where the one cannot hold a full book or the other has not exactly its size.
abbrev pub room_rows : Lent → List Row
room_rows h = (14, ltb (length h.image) full_image || not (eqb (length h.figures) figures_size)) ∷ []

-- They leave zeros up to the end of a full book: "A fresh book has 256 empty lines, all zero", read as 1,024, and of an older book nothing is left behind.
unfoldable pub open_image : Lent → List ℕ → List ℕ → ℕ → ℕ → ℕ → Result Lent
open_image h networks lengths term default_length start =
    by_rows (open_rows networks lengths term default_length start ++ room_rows h) (λ number. 0) h []
    (accept (stored_in (filled (fresh (given networks lengths) term default_length start)) full_image h) [] 0 [])

-- Row 5 is "for load and the sheet, the saved bytes only". "Load accepts both forms": either way the second one is what is left.
unfoldable pub load_into : Lent → List ℕ → Result Lent
load_into h saved =
    by_rows ((5, none? (load_saved saved)) ∷ room_rows h) (λ number. 0) h []
    (accept (stored_in (filled (loaded_table (load_saved saved))) full_image h) [] 0 [])

-- "Older desks read only 256 lines, so saving for one is a separate choice, refused exactly if more lines are in the book."
abbrev pub too_many? : LeaseTable → Bool → Bool
too_many? t older = older && ltb older_slots (length (used_leases t))

-- The image in a form into a buffer, the reply of this call; nothing that is lent changes. "20, too many lines for the older desk, in save, before 18";
-- "18, names would be lost, in save, before 14."
abbrev pub save_rows : LeaseTable → Form → Bool → List ℕ → List Row
save_rows t form older buffer =
    (5, not (sound t)) ∷ (20, too_many? t older) ∷ (18, not (fits_form form t)) ∷ (14, ltb (length buffer) (length (image_as form t))) ∷ []

unfoldable pub save_from : Lent → Form → Bool → List ℕ → Result Lent
save_from h form older buffer = by_rows (save_rows (table_in h) form older buffer) (λ number. 0) h buffer (accept h (image_as form (table_in h)) 0 buffer)
