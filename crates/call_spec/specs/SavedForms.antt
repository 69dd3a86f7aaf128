-- THE TWO SAVED FORMS (document 02, M-105), of the open book: what load accepts, that load and save undo each other, and what an older desk reads (M-107).
use Rattle.std.specs.Prelude.{ℕ, ◌≤◌, ◌<◌, ◌≡◌, ◌⊎◌, ◌↔◌, Bool, true, false, List, length, take}
use Rattle.std.proofs.Math.Option.{some}
use Rattle.table.specs.declared.LeaseTable.{LeaseTable}
use Rattle.table.specs.Table.{older_slots, sound, cut}
use Rattle.image.specs.declared.Form.{Form}
use Rattle.image.specs.declared.Form.TheVariants.{First, Second}
use Rattle.image.specs.Image.{full_image, used_leases, image_as, fits_form}
use Rattle.image.specs.Reading.{load_saved_for}
use Rattle.image_figures.specs.Sheets.{figures_size}
use Rattle.ledger.specs.Sizes.{Bytes}
use Rattle.ledger.specs.Ledger.{filled}
use Rattle.call_spec.specs.Books.{Book, state_in_book, load_book, save_book}

-- The bytes are the image of this sound table, in a form that has a place for its names: "Load accepts both forms, never a mixture".
abbrev pub SavedAs : LeaseTable → List ℕ → Type 0
SavedAs t saved = (sound t ≡ true) × ((image_as Second t ≡ saved) ⊎ ((fits_form First t ≡ true) × (image_as First t ≡ saved)))

-- What open and load fill has its room.
pub record HasRoom (b : Book) : Type 0 where
  pub image : full_image ≤ length b.lent.image
  pub figures : length b.lent.figures ≡ figures_size

-- What a save wrote to its buffer.
abbrev pub written_by : Book → Form → Bool → List ℕ → List ℕ
written_by b form older buffer = let r = save_book b form older buffer in take r.answer.bytes r.reply

pub record SavedForms : Type 0 where
  -- Load accepts exactly the images of sound tables, and then holds that table with nothing told.
  pub accepts : (b : Book) (saved : List ℕ) (t : LeaseTable) → Bytes saved → HasRoom b → SavedAs t saved
      → ((load_book b saved).answer.number ≡ 0) × (state_in_book (load_book b saved).state ≡ filled t)
  pub refuses : (b : Book) (saved : List ℕ) → Bytes saved → ((t : LeaseTable) → SavedAs t saved → ⊥) → (load_book b saved).answer.number ≡ 5
  -- "one image per book now holds per form", and load and save undo each other: what a save in either form wrote is the image, and loads as the same table.
  pub writes : (b : Book) (form : Form) (older : Bool) (buffer : List ℕ) → (save_book b form older buffer).answer.number ≡ 0
      → (written_by b form older buffer ≡ image_as form (state_in_book b).table) × SavedAs (state_in_book b).table (written_by b form older buffer)
  -- "going back is refused exactly if a line has a name"; 20 comes before it.
  pub goes_back : (b : Book) (older : Bool) (buffer : List ℕ) → sound (state_in_book b).table ≡ true → ((save_book b First older buffer).answer.number ≡ 20 → ⊥)
      → ((save_book b First older buffer).answer.number ≡ 18) ↔ (fits_form First (state_in_book b).table ≡ false)
  pub keeps-names : (b : Book) (older : Bool) (buffer : List ℕ) → (save_book b Second older buffer).answer.number ≡ 18 → ⊥
  -- "Older desks read only 256 lines": what was saved for one it loads, with the same head, pools and leases.
  pub older-reads : (b : Book) (form : Form) (buffer : List ℕ) → (save_book b form true buffer).answer.number ≡ 0
      → load_saved_for older_slots (written_by b form true buffer) ≡ some (cut older_slots (state_in_book b).table)
  -- "so saving for one is a separate choice, refused exactly if more lines are in the book": in either form, and where it is not chosen never.
  pub older-refused : (b : Book) (form : Form) (buffer : List ℕ) → sound (state_in_book b).table ≡ true
      → ((save_book b form true buffer).answer.number ≡ 20) ↔ (older_slots < length (used_leases (state_in_book b).table))
  pub not_chosen : (b : Book) (form : Form) (buffer : List ℕ) → (save_book b form false buffer).answer.number ≡ 20 → ⊥
