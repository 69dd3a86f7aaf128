-- Laws of option 118 as an ask and a take carry it.
-- Assumes nothing.
use Prim.Native.Nat.{ℕ}
use mathlib.Core.Path.{◌≡◌, refl, sym, ap, ◌∙◌}
use mathlib.Core.Bool.{Bool, true, false, not, cond}
use mathlib.Core.List.{List}
use mathlib.Core.Option.{Option, some, none}
use Rattle.std.specs.Prelude.{Option as Maybe, Some, None, Result, Ok, Err}
use Rattle.std.proofs.lemmas.Option.{none-some, same_Some}
use Rattle.std.specs.Result.{result_ok, result_err}
use Rattle.lists.proofs.Tests.{cond-true, cond-false}
use Rattle.option.specs.Reading.{four}
use Rattle.option.specs.Selection.{Selected, address, refused, selection?, read_selection}
use Rattle.option.specs.Answers.{selected_by}
use Rattle.ledger.specs.declared.Refusal.{Refusal}
use Rattle.ledger.specs.declared.Refusal.TheVariants.{NotTheOption}
use Rattle.ledger.specs.Ledger.{bad_selection?}
use Rattle.call_rows.specs.Admission.{selection_read}

-- What the reader says, as the code's answer.
abbrev answer_in : Selected → Result (Maybe ℕ) Refusal
answer_in (refused number) = Err NotTheOption
answer_in (address a) = Ok (Some a)

pub carried-read : (s : List ℕ) (x y : Maybe ℕ) → selected_by x ≡ read_selection s → x ≡ y → answer_in (selected_by y) ≡ selection_read (some s)
unfolding read_selection
carried-read s x y e f = ap answer_in (ap selected_by (sym f) ∙ e) ∙ go (selection? s)
  where
    go : (b : Bool) → answer_in (cond b (address (four s 2)) (refused 6)) ≡ cond b (Ok (Some (four s 2))) (Err NotTheOption)
    go true = refl
    go false = refl

-- WHAT A CALL KNOWS OF IT

pub selection-bad : (c : Option (List ℕ)) (e : Refusal) → Err e ≡ selection_read c → (e ≡ NotTheOption) × (bad_selection? c ≡ true)
selection-bad none e is = absurd (none-some _ (ap result_ok is))
selection-bad (some s) e is = go (selection? s) refl
  where
    go : (b : Bool) → selection? s ≡ b → (e ≡ NotTheOption) × (not (selection? s) ≡ true)
    go true good = absurd (none-some _ (ap result_ok is ∙ ap result_ok (cond-true (selection? s) _ _ good)))
    go false bad = (same_Some e NotTheOption (ap result_err is ∙ ap result_err (cond-false (selection? s) _ _ bad)), ap not bad)

pub selection-good : (c : Option (List ℕ)) (a : Maybe ℕ) → Ok a ≡ selection_read c → bad_selection? c ≡ false
selection-good none a is = refl
selection-good (some s) a is = go (selection? s) refl
  where
    go : (b : Bool) → selection? s ≡ b → not (selection? s) ≡ false
    go true good = ap not good
    go false bad = absurd (none-some a (sym (ap result_ok is ∙ ap result_ok (cond-false (selection? s) _ _ bad))))
