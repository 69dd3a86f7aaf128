-- The two forms: load accepts both and never a mixture, and a table goes from one to the other and back.
-- Assumes nothing.
use Prim.Native.Nat.{ℕ, ◌-◌, ◌<◌}
use mathlib.Core.Path.{◌≡◌, refl, sym, ap, ◌∙◌}
use mathlib.Core.Logic.{◌⊎◌, inl, inr, ◌↔◌}
use mathlib.Core.Bool.{Bool, true, false, ◌&&◌}
use mathlib.Core.List.{List}
use mathlib.Core.Option.{some}
use native.Mathlib.Omega.{arith}
use lib.ListN.{length}
use lib.Dec.{leb, eqb}
use borrow.Author.Tests.{le-leb}
use Rattle.lists.specs.Lists.{All, and}
use Rattle.lists.proofs.Tests.{cond-true, cond-false, and-list-of}
use Rattle.table.specs.declared.LeaseTable.{LeaseTable}
use Rattle.table.specs.Table.{sound}
use Rattle.image.specs.declared.Form.{Form}
use Rattle.image.specs.declared.Form.TheVariants.{First, Second}
use Rattle.image.specs.Fields.{number16}
use Rattle.image.specs.Image.{le16, le32, head_size, head_record_in, image_as, fits_form}
use Rattle.image.specs.Reading.{head_tests_in, load_in, form_of, load_saved}
use Rattle.image.proofs.ImageLaws.{load-image-in, image-loaded-in}

-- The head tells the form.
not-second : (a b : Bool) → (a && (b && (false && true))) ≡ false
not-second true true = refl
not-second true false = refl
not-second false b = refl

pub form-of-image : (form : Form) (t : LeaseTable) → form_of (image_as form t) ≡ form
unfolding image_as head_record_in le16 le32 number16
form-of-image First t =
    let s : List ℕ = image_as First t in
    cond-true (and (head_tests_in First s)) First Second (and-list-of (head_tests_in First s) (le-leb head_size (length s) (omega arith), (refl, (refl, tt))))
form-of-image Second t =
    let s : List ℕ = image_as Second t in
    cond-false (and (head_tests_in First s)) First Second (not-second (leb head_size (length s)) (eqb (number16 s 0) (head_size - 2)))

-- "one image per book now holds per form": the two differ.
pub two-images : (t : LeaseTable) → image_as First t ≡ image_as Second t → ⊥
two-images t e =
    let same : First ≡ Second = sym (form-of-image First t) ∙ ap form_of e ∙ form-of-image Second t in
    let z : ◌≡◌ {A = ℕ} 0 1 = cc in
    omega arith

-- What is saved in a form that it fits loads as the same table.
pub saves-loads : (form : Form) (t : LeaseTable) → sound t ≡ true → fits_form form t ≡ true → load_saved (image_as form t) ≡ some t
saves-loads form t e fits = ap (λ (f : Form). load_in f (image_as form t)) (form-of-image form t) ∙ load-image-in form t e fits

-- What loads fits the form of its bytes, and is saved in that form as the same bytes.
pub loads-back : (s : List ℕ) (t : LeaseTable) → All (λ b. b < 256) s → (form : Form) → form_of s ≡ form → load_saved s ≡ some t → (fits_form form t ≡ true) × (image_as form t ≡ s)
loads-back s t a form f e = (image-loaded-in form s t a (ap (λ (g : Form). load_in g s) (sym f) ∙ e)).1

-- "Load accepts both forms, never a mixture": it accepts bytes exactly if they are the image of a sound table in the second form, or in the first, where no
-- lease of the table has a name.
pub loads⇔saved : (s : List ℕ) (t : LeaseTable) → All (λ b. b < 256) s
    → (load_saved s ≡ some t) ↔ ((sound t ≡ true) × ((image_as Second t ≡ s) ⊎ ((fits_form First t ≡ true) × (image_as First t ≡ s))))
loads⇔saved s t a = (loaded, saved)
  where
    cases : (form : Form) → form_of s ≡ form → load_saved s ≡ some t → (image_as Second t ≡ s) ⊎ ((fits_form First t ≡ true) × (image_as First t ≡ s))
    cases First f e = inr (loads-back s t a First f e)
    cases Second f e = inl (loads-back s t a Second f e).1

    loaded : load_saved s ≡ some t → (sound t ≡ true) × ((image_as Second t ≡ s) ⊎ ((fits_form First t ≡ true) × (image_as First t ≡ s)))
    loaded e = ((image-loaded-in (form_of s) s t a e).0, cases (form_of s) refl e)

    saved : (sound t ≡ true) × ((image_as Second t ≡ s) ⊎ ((fits_form First t ≡ true) × (image_as First t ≡ s))) → load_saved s ≡ some t
    saved (e, inl p) = ap load_saved (sym p) ∙ saves-loads Second t e refl
    saved (e, inr p) = ap load_saved (sym p.1) ∙ saves-loads First t e p.0

-- "A book moves from the first form to the second with empty names and back again": the same table has both images, and each loads as it.
pub there_and_back : (s : List ℕ) (t : LeaseTable) → All (λ b. b < 256) s → form_of s ≡ First → load_saved s ≡ some t
    → (load_saved (image_as Second t) ≡ some t) × ((fits_form First t ≡ true) × (image_as First t ≡ s))
there_and_back s t a f e = (saves-loads Second t (image-loaded-in (form_of s) s t a e).0 refl, loads-back s t a First f e)
