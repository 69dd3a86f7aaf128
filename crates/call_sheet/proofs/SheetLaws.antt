-- The sheet of saved bytes as an answer in numbers.
-- Assumes nothing.
use Prim.Native.Nat.{ℕ}
use mathlib.Core.Path.{◌≡◌, refl, sym, ap, ◌∙◌}
use mathlib.Core.Bool.{Bool, true, false}
use mathlib.Core.List.{List}
use mathlib.Core.Option.{Option, none, some}
use lib.ListN.{length}
use lib.Dec.{ltb}
use Rattle.table.specs.declared.LeaseTable.{LeaseTable}
use Rattle.image.specs.Reading.{form_of, load_saved}
use Rattle.std.specs.Prelude.{Result, Ok, Err}
use Rattle.sheet_text.specs.declared.SheetFault.{SheetFault}
use Rattle.sheet_text.specs.declared.SheetFault.TheVariants.{NotSound, TooSmall}
use Rattle.sheet_text.specs.Sheet.{sheet_text}
use Rattle.sheet_text.specs.Answers.{sheet_of, sheet_of_image}
use Rattle.sheet_text.proofs.SheetLaws.{loads-sound}
use Rattle.ledger.specs.declared.Answer.{Answer}
use Rattle.ledger.specs.Ledger.{refusal, acceptance}
use Rattle.call_sheet.specs.SheetImage.{sheet_image}

abbrev pub answer_of : Result ℕ SheetFault → Answer
answer_of (Ok bytes) = acceptance bytes 0
answer_of (Err NotSound) = refusal 5 0
answer_of (Err TooSmall) = refusal 14 0

sheet-is : (saved l : List ℕ) → ◌≡◌ {A = Answer × List ℕ} (answer_of (sheet_of_image saved l).0, (sheet_of_image saved l).1) (sheet_image saved l)
unfolding sheet_image sheet_of sheet_of_image
sheet-is saved l = cases (load_saved saved) refl
  where
    cases : (o : Option LeaseTable) → load_saved saved ≡ o → ◌≡◌ {A = Answer × List ℕ} (answer_of (sheet_of_image saved l).0, (sheet_of_image saved l).1) (sheet_image saved l)
    cases none e = rw e refl
    cases (some t) e = into-is (ltb (length l) (length (sheet_text t))) refl
      where
        into-is : (b : Bool) → ltb (length l) (length (sheet_text t)) ≡ b → ◌≡◌ {A = Answer × List ℕ} (answer_of (sheet_of_image saved l).0, (sheet_of_image saved l).1) (sheet_image saved l)
        into-is true h = rw (e, loads-sound (form_of saved) saved t e, h) refl
        into-is false h = rw (e, loads-sound (form_of saved) saved t e, h) refl

pub sheet-answered : (saved l : List ℕ) {l₁ : List ℕ} {a b : Result ℕ SheetFault} {r : Answer} → (a, l₁) ≡ sheet_of_image saved l → a ≡ b → r ≡ answer_of b → (r, l₁) ≡ sheet_image saved l
sheet-answered saved l {l₁} e g f =
    ap (λ (x : Answer). (x, l₁)) (f ∙ ap (λ (x : Result ℕ SheetFault). answer_of x) (sym g))
    ∙ ap (λ (p : Result ℕ SheetFault × List ℕ). (answer_of p.0, p.1)) e
    ∙ sheet-is saved l
