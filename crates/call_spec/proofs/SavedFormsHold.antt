-- The two saved forms of the open book: load accepts exactly the images of sound tables, in either form, and what a save wrote loads as the
-- same table; an older desk loads what was saved for it.
-- Assumes nothing.
use Prim.Native.Nat.{ℕ, ◌≤◌}
use mathlib.Core.Path.{◌≡◌, refl, sym, ap, subst, ◌∙◌}
use mathlib.Core.Logic.{◌⊎◌, inl, inr}
use mathlib.Core.Bool.{Bool, true, false, not, true≢false}
use mathlib.Core.List.{List, [], ◌∷◌}
use mathlib.Core.Option.{Option, none, some}
use native.Mathlib.Omega.{arith}
use lib.ListN.{length, take, drop}
use lib.Seq.{take_at}
use lib.Dec.{ltb}
use borrow.Author.Tests.{ltb-true, ltb-false, lt-ltb, le-ltb, eq-eqb, not-false}
use Rattle.table.specs.declared.LeaseTable.{LeaseTable}
use Rattle.table.specs.Table.{older_slots, sound, cut}
use Rattle.image.specs.declared.Form.{Form}
use Rattle.image.specs.declared.Form.TheVariants.{First, Second}
use Rattle.image.specs.Image.{full_image, used_leases, image_as, fits_form, loaded_table}
use Rattle.image.specs.Reading.{load_saved, load_saved_for}
use Rattle.image.proofs.FormLaws.{loads⇔saved}
use Rattle.image.proofs.OlderLaws.{older-loads-saved}
use Rattle.image_figures.specs.Sheets.{figures_size}
use Rattle.ledger.specs.Ledger.{filled, first_of, or_else, refuse, accept}
use Rattle.ledger.specs.Sizes.{Bytes}
use Rattle.ledger.proofs.RowLaws.{first-none, accepted-none}
use Rattle.call_spec.specs.ImageCalls.{Lent, table_in, load_into, too_many?, save_rows, save_from}
use Rattle.call_spec.specs.Books.{Book, lent_in, state_in_book, kept, load_book}
use Rattle.call_spec.specs.SavedForms.{SavedAs, HasRoom, SavedForms}
use Rattle.call_spec.proofs.OnBooks.{loaded-book-holds}

-- LOAD

load-taken : (h : Lent) (saved : List ℕ) (t : LeaseTable) → load_saved saved ≡ some t → full_image ≤ length h.image → length h.figures ≡ figures_size
    → (load_into h saved).answer.number ≡ 0
unfolding load_into
load-taken h saved t e room size = rw (e, le-ltb (length h.image) full_image room, eq-eqb (length h.figures) figures_size size)

load-not : (h : Lent) (saved : List ℕ) → load_saved saved ≡ none → (load_into h saved).answer.number ≡ 5
unfolding load_into
load-not h saved e = rw e

load-accepts : (b : Book) (saved : List ℕ) (t : LeaseTable) → Bytes saved → HasRoom b → SavedAs t saved
    → ((load_book b saved).answer.number ≡ 0) × (state_in_book (load_book b saved).state ≡ filled t)
unfolding kept
load-accepts b saved t bytes room is =
    let e : load_saved saved ≡ some t = (loads⇔saved saved t bytes).1 is in
    let z : (load_book b saved).answer.number ≡ 0 = load-taken b.lent saved t e room.image room.figures in
    (z, loaded-book-holds b saved bytes z ∙ ap (λ (o : Option LeaseTable). filled (loaded_table o)) e)

load-refuses : (b : Book) (saved : List ℕ) → Bytes saved → ((t : LeaseTable) → SavedAs t saved → ⊥) → (load_book b saved).answer.number ≡ 5
unfolding kept
load-refuses b saved bytes never = go (load_saved saved) refl
  where
    go : (o : Option LeaseTable) → load_saved saved ≡ o → (load_book b saved).answer.number ≡ 5
    go none e = load-not b.lent saved e
    go (some t) e = absurd (never t ((loads⇔saved saved t bytes).0 e))

-- SAVE

saved-as : (form : Form) (t : LeaseTable) (saved : List ℕ) → sound t ≡ true → fits_form form t ≡ true → image_as form t ≡ saved → SavedAs t saved
saved-as First t saved s fits e = (s, inr (fits, e))
saved-as Second t saved s fits e = (s, inl e)

-- The number of a save, by its rows.
abbrev told : Bool → Bool → Bool → Bool → ℕ
told sound? many? fits? short? = or_else (first_of ((5, not sound?) ∷ (20, many?) ∷ (18, not fits?) ∷ (14, short?) ∷ [])) (λ n. n) 0

lost-to : (s m f w : Bool) → told s m f w ≡ 18 → f ≡ false
lost-to true true f w e = absurd (omega arith)
lost-to true false false w e = refl
lost-to true false true true e = absurd (omega arith)
lost-to true false true false e = absurd (omega arith)
lost-to false m f w e = absurd (omega arith)

lost-of : (s m f w : Bool) → s ≡ true → (told s m f w ≡ 20 → ⊥) → f ≡ false → told s m f w ≡ 18
lost-of true true f w a n b = absurd (n refl)
lost-of true false false w a n b = refl
lost-of true false true w a n b = absurd (true≢false b)
lost-of false m f w a n b = absurd (true≢false (sym a))

many-to : (s m f w : Bool) → told s m f w ≡ 20 → m ≡ true
many-to true true f w e = refl
many-to true false false w e = absurd (omega arith)
many-to true false true true e = absurd (omega arith)
many-to true false true false e = absurd (omega arith)
many-to false m f w e = absurd (omega arith)

many-of : (s m f w : Bool) → s ≡ true → m ≡ true → told s m f w ≡ 20
many-of true true f w a b = refl
many-of true false f w a b = absurd (true≢false (sym b))
many-of false m f w a b = absurd (true≢false (sym a))

module _ (h : Lent) (form : Form) (older : Bool) (buffer : List ℕ) where
  abbrev image : List ℕ
  image = image_as form (table_in h)

  save-number : (save_from h form older buffer).answer.number ≡ told (sound (table_in h)) (too_many? (table_in h) older) (fits_form form (table_in h)) (ltb (length buffer) (length image))
  unfolding save_from
  save-number = go (first_of (save_rows (table_in h) form older buffer))
    where
      go : (o : Option ℕ) → (or_else o (λ number. refuse number 0 h buffer) (accept h image 0 buffer)).answer.number ≡ or_else o (λ n. n) 0
      go none = refl
      go (some n) = refl

  module _ (z : (save_from h form older buffer).answer.number ≡ 0) where
    none-applies : first_of (save_rows (table_in h) form older buffer) ≡ none
    unfolding save_from
    none-applies = accepted-none (save_rows (table_in h) form older buffer) (λ n. 0) h buffer _ (refl, (refl, (refl, (refl, tt)))) z

    save-written : take (save_from h form older buffer).answer.bytes (save_from h form older buffer).reply ≡ image
    unfolding save_from
    save-written =
        ap (λ (o : Option ℕ). let r = or_else o (λ number. refuse number 0 h buffer) (accept h image 0 buffer) in take r.answer.bytes r.reply) none-applies
        ∙ take_at image (drop (length image) buffer) (length image) refl

    save-saved : SavedAs (table_in h) (take (save_from h form older buffer).answer.bytes (save_from h form older buffer).reply)
    save-saved =
        let a = first-none (save_rows (table_in h) form older buffer) none-applies in
        saved-as form (table_in h) _ (not-false (sound (table_in h)) a.0) (not-false (fits_form form (table_in h)) a.1.1.0) (sym save-written)

-- FOR AN OLDER DESK

module _ (h : Lent) (form : Form) (buffer : List ℕ) (z : (save_from h form true buffer).answer.number ≡ 0) where
  save-older : load_saved_for older_slots (take (save_from h form true buffer).answer.bytes (save_from h form true buffer).reply) ≡ some (cut older_slots (table_in h))
  save-older =
      let t : LeaseTable = table_in h in
      let a = first-none (save_rows t form true buffer) (none-applies h form true buffer z) in
      ap (load_saved_for older_slots) (save-written h form true buffer z)
      ∙ older-loads-saved older_slots t (not-false (sound t) a.0) (ltb-false older_slots (length (used_leases t)) a.1.0) (omega arith) form (not-false (fits_form form t) a.1.1.0)

pub saved-forms : SavedForms
saved-forms = record {
  accepts = load-accepts;
  refuses = load-refuses;
  writes = λ b form older buffer z. (save-written (lent_in b) form older buffer z, save-saved (lent_in b) form older buffer z);
  goes_back = λ b older buffer s not-many.
      let h : Lent = lent_in b in
      let many : Bool = too_many? (table_in h) older in
      let fits : Bool = fits_form First (table_in h) in
      let short : Bool = ltb (length buffer) (length (image_as First (table_in h))) in
      let number = save-number h First older buffer in (
        λ e. lost-to (sound (table_in h)) many fits short (sym number ∙ e),
        λ e. number ∙ lost-of (sound (table_in h)) many fits short s (λ e₁. not-many (number ∙ e₁)) e,
      );
  keeps-names = λ b older buffer e.
      let h : Lent = lent_in b in
      true≢false (lost-to (sound (table_in h)) (too_many? (table_in h) older) true (ltb (length buffer) (length (image_as Second (table_in h)))) (sym (save-number h Second older buffer) ∙ e));
  older-reads = λ b form buffer z. save-older (lent_in b) form buffer z;
  older-refused = λ b form buffer s.
      let h : Lent = lent_in b in
      let n : ℕ = length (used_leases (table_in h)) in
      let fits : Bool = fits_form form (table_in h) in
      let short : Bool = ltb (length buffer) (length (image_as form (table_in h))) in
      let number = save-number h form true buffer in (
        λ e. ltb-true older_slots n (many-to (sound (table_in h)) (ltb older_slots n) fits short (sym number ∙ e)),
        λ e. number ∙ many-of (sound (table_in h)) (ltb older_slots n) fits short s (lt-ltb older_slots n e),
      );
  not_chosen = λ b form buffer e.
      let h : Lent = lent_in b in
      true≢false (sym (many-to (sound (table_in h)) false (fits_form form (table_in h)) (ltb (length buffer) (length (image_as form (table_in h)))) (sym (save-number h form false buffer) ∙ e)));
}
