-- Laws of the refusals as the code has them: none has number 0, and what an option reads as tells rows 6, 7 and 16.
-- Assumes nothing.
use Prim.Native.Nat.{ℕ}
use native.Mathlib.Omega.{arith}
use mathlib.Core.Path.{◌≡◌, refl, sym, ap, subst, ◌∙◌}
use mathlib.Core.Bool.{Bool, true, false, cond, ◌||◌, true≢false}
use mathlib.Core.List.{[], ◌∷◌, List}
use mathlib.Core.Option.{none, some}
use Rattle.option.specs.Values.{SuboptionValue, Outcome, refused, accepted}
use Rattle.option.specs.Reading.{End, whole, bad_at, ended, option?, read_suboptions, read_option}
use Rattle.option.specs.declared.Fault.TheVariants.{Framing, Field}
use Rattle.option.specs.Contents.{refuses?, place_in, suboptions}
use Rattle.ledger.specs.Ledger.{Call, Row, first_of, placed?, refusal_place, bad_selection?, option_rows}
use Rattle.ledger.specs.declared.Refusal.{Refusal}
use Rattle.ledger.specs.declared.Refusal.TheVariants.{ReplyTooShort, NoClient, TimeBeforeLast, TimeTooLate, NotSound, NotTheOption, BadFraming, WrongSuboptions, TableFull, NoFreePrefix, NothingFound, BadTerms, OutsideRules, BufferTooShort, SheetDiffers, BadField, NameTooLong, NamesLost, NoSuchPool, TooManyLeases}
use Rattle.ledger.specs.Answers.{refusal_number}

pub number-some : (e : Refusal) → refusal_number e ≡ 0 → ⊥
number-some ReplyTooShort z = omega arith
number-some NoClient z = omega arith
number-some TimeBeforeLast z = omega arith
number-some TimeTooLate z = omega arith
number-some NotSound z = omega arith
number-some NotTheOption z = omega arith
number-some (BadFraming place) z = omega arith
number-some WrongSuboptions z = omega arith
number-some TableFull z = omega arith
number-some NoFreePrefix z = omega arith
number-some NothingFound z = omega arith
number-some BadTerms z = omega arith
number-some OutsideRules z = omega arith
number-some BufferTooShort z = omega arith
number-some SheetDiffers z = omega arith
number-some (BadField place) z = omega arith
number-some NameTooLong z = omega arith
number-some NamesLost z = omega arith
number-some NoSuchPool z = omega arith
number-some TooManyLeases z = omega arith

-- Only those of rows 7 and 16 have a place.
pub unplaced : (e : Refusal) → ((place : ℕ) → e ≡ BadFraming place → ⊥) → ((place : ℕ) → e ≡ BadField place → ⊥) → placed? (refusal_number e) ≡ false
unplaced ReplyTooShort a b = refl
unplaced NoClient a b = refl
unplaced TimeBeforeLast a b = refl
unplaced TimeTooLate a b = refl
unplaced NotSound a b = refl
unplaced NotTheOption a b = refl
unplaced (BadFraming place) a b = absurd (a place refl)
unplaced WrongSuboptions a b = refl
unplaced TableFull a b = refl
unplaced NoFreePrefix a b = refl
unplaced NothingFound a b = refl
unplaced BadTerms a b = refl
unplaced OutsideRules a b = refl
unplaced BufferTooShort a b = refl
unplaced SheetDiffers a b = refl
unplaced (BadField place) a b = absurd (b place refl)
unplaced NameTooLong a b = refl
unplaced NamesLost a b = refl
unplaced NoSuchPool a b = refl
unplaced TooManyLeases a b = refl

-- ROWS 6, 7 AND 16 of a call whose option 118, if it has one, is not bad.

abbrev reader_rows : Outcome → Bool → List Row
reader_rows o bad = (6, refuses? 6 o || bad) ∷ (7, refuses? 7 o) ∷ (16, refuses? 16 o) ∷ []

abbrev number_in : Outcome → ℕ
number_in (refused n place) = n
number_in (accepted subs) = 0

abbrev refused? : Outcome → Bool
refused? (refused n place) = true
refused? (accepted subs) = false

refused-row : (ok : Bool) (subs : List SuboptionValue) (e : End) (n place : ℕ) → cond ok (ended subs e) (refused 6 0) ≡ refused n place
    → (first_of (reader_rows (cond ok (ended subs e) (refused 6 0)) false) ≡ some n) × (place ≡ cond (placed? n) (place_in (cond ok (ended subs e) (refused 6 0))) 0)
refused-row true subs whole n place is = absurd (true≢false (sym (ap refused? is)))
refused-row true subs (bad_at Framing at) n place is = (ap some (ap number_in is), sym (ap place_in is) ∙ ap (λ (m : ℕ). cond (placed? m) at 0) (ap number_in is))
refused-row true subs (bad_at Field at) n place is = (ap some (ap number_in is), sym (ap place_in is) ∙ ap (λ (m : ℕ). cond (placed? m) at 0) (ap number_in is))
refused-row false subs e n place is = (ap some (ap number_in is), sym (ap place_in is) ∙ ap (λ (m : ℕ). cond {A = ℕ} (placed? m) 0 0) (ap number_in is))

module _ (c : Call) (selected : bad_selection? c.selection ≡ false) where
  pub option-refused : (n place : ℕ) → read_option c.option ≡ refused n place → (first_of (option_rows c) ≡ some n) × (place ≡ refusal_place c.option n)
  unfolding read_option
  option-refused n place is =
      let r = refused-row (option? c.option) (read_suboptions c.option 3).0 (read_suboptions c.option 3).1 n place is in
      (ap (λ (b : Bool). first_of (reader_rows (read_option c.option) b)) selected ∙ r.0, r.1)

  pub option-accepted : (subs : List SuboptionValue) → read_option c.option ≡ accepted subs → first_of (option_rows c) ≡ none
  option-accepted subs is = ap (λ (b : Bool). first_of (reader_rows (read_option c.option) b)) selected ∙ ap (λ (o : Outcome). first_of (reader_rows o false)) is
