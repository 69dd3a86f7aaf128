-- Laws of rows 6, 7 and 16: what the reader's answer says of them, and what holds where none applies.
-- Assumes nothing.
use mathlib.Core.Path.{◌≡◌, refl, sym, ap, ◌∙◌}
use mathlib.Core.Bool.{Bool, true, false, cond, ◌||◌, true≢false}
use mathlib.Core.List.{List, [], ◌∷◌}
use mathlib.Core.Option.{none}
use Rattle.option.specs.Values.{SuboptionValue, Outcome, refused, accepted}
use Rattle.option.specs.Reading.{End, whole, bad_at, ended, option?, read_suboptions, read_option}
use Rattle.option.specs.Answers.{checked_of}
use Rattle.option.specs.declared.Fault.TheVariants.{Framing, Field}
use Rattle.option.specs.Contents.{refuses?, place_in}
use Rattle.ledger.specs.declared.Answer.{Answer}
use Rattle.ledger.specs.Ledger.{Call, Row, first_of, or_else, placed?, refusal, acceptance, bad_selection?, option_rows}
use Rattle.ledger.specs.Answers.{checked_answer, answered}
use Rattle.ledger.proofs.RowLaws.{first-none}

-- Rows 6, 7 and 16 of what an option reads as.
abbrev reader_rows : Outcome → List Row
reader_rows o = (6, refuses? 6 o) ∷ (7, refuses? 7 o) ∷ (16, refuses? 16 o) ∷ []

abbrev reader_answer : Outcome → Answer
reader_answer o = or_else (first_of (reader_rows o)) (λ number. refusal number (cond (placed? number) (place_in o) 0)) (acceptance 0 0)

reader-rows : (ok : Bool) (subs : List SuboptionValue) (e : End)
    → checked_answer (checked_of (cond ok (ended subs e) (refused 6 0))) ≡ reader_answer (cond ok (ended subs e) (refused 6 0))
reader-rows true subs whole = refl
reader-rows true subs (bad_at Framing place) = refl
reader-rows true subs (bad_at Field place) = refl
reader-rows false subs e = refl

-- Of a call whose option 118, if it has one, is not bad.
pub option-rows : (c : Call) → bad_selection? c.selection ≡ false → checked_answer (checked_of (read_option c.option)) ≡ answered (first_of (option_rows c)) c.option
unfolding read_option
option-rows c e =
    reader-rows (option? c.option) (read_suboptions c.option 3).0 (read_suboptions c.option 3).1
    ∙ ap (λ (b : Bool). answered (first_of (rows_with b)) c.option) (sym (or-none (refuses? 6 (read_option c.option)) (bad_selection? c.selection) e))
  where
    rows_with : Bool → List Row
    rows_with b = (6, b) ∷ (7, refuses? 7 (read_option c.option)) ∷ (16, refuses? 16 (read_option c.option)) ∷ []

    or-none : (a b : Bool) → b ≡ false → (a || b) ≡ a
    or-none true b e = refl
    or-none false b e = e

-- Where none applies the option reads as suboptions.
readable : (ok : Bool) (subs : List SuboptionValue) (e : End) → refuses? 6 (cond ok (ended subs e) (refused 6 0)) ≡ false
    → refuses? 7 (cond ok (ended subs e) (refused 6 0)) ≡ false → refuses? 16 (cond ok (ended subs e) (refused 6 0)) ≡ false → cond ok (ended subs e) (refused 6 0) ≡ accepted subs
readable true subs whole six seven sixteen = refl
readable true subs (bad_at Framing place) six seven sixteen = absurd (true≢false seven)
readable true subs (bad_at Field place) six seven sixteen = absurd (true≢false sixteen)
readable false subs e six seven sixteen = absurd (true≢false six)

pub option-passed : (c : Call) → first_of (option_rows c) ≡ none → read_option c.option ≡ accepted (read_suboptions c.option 3).0
unfolding read_option
option-passed c e =
    let rows = first-none (option_rows c) e in
    readable (option? c.option) (read_suboptions c.option 3).0 (read_suboptions c.option 3).1 (or-first (refuses? 6 (read_option c.option)) (bad_selection? c.selection) rows.0) rows.1.0 rows.1.1.0
  where
    or-first : (a b : Bool) → (a || b) ≡ false → a ≡ false
    or-first true b e = e
    or-first false b e = refl
