-- Laws of how a call goes by its rows: what the admission and the reader's answer say of them, and what the call leaves at each row that refuses it and
-- where none does.
-- Assumes nothing.
use Prim.Native.Nat.{ℕ, ◌≤◌}
use native.Mathlib.Omega.{arith}
use mathlib.Core.Path.{◌≡◌, refl, sym, ap, ap₂, subst, ◌∙◌}
use mathlib.Core.Bool.{Bool, true, false, not, cond, ◌||◌, true≢false}
use mathlib.Core.List.{List, [], ◌∷◌, ◌++◌}
use mathlib.Core.Option.{Option, none, some}
use lib.ListN.{length}
use lib.Dec.{eqb}
use borrow.Author.Tests.{eqb-false}
use Rattle.lists.specs.Lists.{All}
use Rattle.lists.proofs.Tests.{cond-true, cond-false, not-of, not-to}
use Rattle.lists.proofs.ListLaws.{all_map}
use Rattle.option.specs.Reading.{End, whole, bad_at, ended, option?, read_suboptions, read_option}
use Rattle.option.specs.Values.{SuboptionValue, Outcome}
use Rattle.option.specs.Values as values
use Rattle.option.specs.Contents.{refuses?, place_in, suboptions}
use Rattle.option.specs.Answers.{fault_of, checked_of, place_of}
use Rattle.option.specs.declared.{OptionFault.OptionFault}
use Rattle.option.specs.declared.OptionFault.TheVariants.{NotTheOption, BadSuboption}
use Rattle.option.specs.declared.Fault.TheVariants.{Framing, Field}
use Rattle.std.specs.Result.{result_ok, result_err}
use Rattle.std.proofs.lemmas.Option.{none-some, same_Some}
use Rattle.table.specs.Table.{pools_of}
use Rattle.ledger.specs.declared.Answer.{Answer}
use Rattle.ledger.specs.Ledger.{State, Call, call, Result, outcome, refusal, Row, first_of, by_rows, placed?, refusal_place, nothing?, bad_selection?, narrowed, option_rows, ground_rows}
use Rattle.ledger.specs.Sizes.{Bytes}
use Rattle.std.specs.Prelude.{Ok, Err}
use Rattle.ledger.specs.declared.Refusal.{Refusal}
use Rattle.ledger.specs.Answers.{refusal_number, bad_place, answer_of}
use Rattle.ledger.proofs.ReadLaws.{place_short}
use Rattle.ledger.proofs.RowLaws.{first-none, first-number, first-before, first-after, nothing-none, nothing-some}
use Rattle.ledger.proofs.RefusalLaws.{number-some, option-refused, option-accepted}
use Rattle.option_scan.specs.declared.Contents.{Contents}
use Rattle.option_scan.specs.Scanned.{Columns}
use Rattle.image_check.specs.declared.ImageSummary.{ImageSummary}
use Rattle.call_spec.specs.ImageCalls.{Lent, table_in, state_in, stored_in, settled}
use Rattle.call_spec.proofs.StoreLaws.{settled-accepted, no_row}
use Rattle.call_rows.specs.Admission.{admission_rows, Admits, refusal_of, ReadOption}

-- WHAT THE CHECK OF AN OPTION SAYS of its reading.

checked-place : (o : Outcome) → place_in o ≤ 257 → (f : OptionFault) → Err f ≡ checked_of o → place_of f ≤ 257
checked-place (values.accepted subs) h f e = absurd (none-some f (sym (ap result_err e)))
checked-place (values.refused number place) h f e =
    subst (λ (x : OptionFault). place_of x ≤ 257) (sym (same_Some f (fault_of number place) (ap result_err e))) (pick (eqb number 6))
  where
    pick : (b : Bool) → place_of (cond b NotTheOption (BadSuboption (record { fault = cond (eqb number 7) Framing Field; place = place }))) ≤ 257
    pick true = omega arith
    pick false = h

checked-good : (o : Outcome) → Ok tt ≡ checked_of o → o ≡ values.accepted (suboptions o)
checked-good (values.accepted subs) e = refl
checked-good (values.refused number place) e = absurd (none-some tt (sym (ap result_ok e)))

abbrev as_read : OptionFault → Outcome
as_read f = values.refused (refusal_number (refusal_of f)) (bad_place (refusal_of f))

checked-bad : (ok : Bool) (subs : List SuboptionValue) (end : End) (f : OptionFault) → Err f ≡ checked_of (cond ok (ended subs end) (values.refused 6 0))
    → cond ok (ended subs end) (values.refused 6 0) ≡ as_read f
checked-bad true subs whole f e = absurd (none-some f (sym (ap result_err e)))
checked-bad true subs (bad_at Framing place) f e = ap as_read (sym (same_Some f (fault_of 7 place) (ap result_err e)))
checked-bad true subs (bad_at Field place) f e = ap as_read (sym (same_Some f (fault_of 16 place) (ap result_err e)))
checked-bad false subs end f e = ap as_read (sym (same_Some f (fault_of 6 0) (ap result_err e)))

module _ (option : List ℕ) where
  -- The place of a bad suboption is within the option.
  pub place-small : Bytes option → (f : OptionFault) → Err f ≡ checked_of (read_option option) → place_of f ≤ 257
  place-small b = checked-place (read_option option) (place_short option b 7)

  pub read-good : Ok tt ≡ checked_of (read_option option) → read_option option ≡ values.accepted (suboptions (read_option option))
  read-good = checked-good (read_option option)

  pub read-bad : (f : OptionFault) → Err f ≡ checked_of (read_option option) → read_option option ≡ as_read f
  unfolding read_option
  read-bad = checked-bad (option? option) (read_suboptions option 3).0 (read_suboptions option 3).1

-- THE ROWS UP TO THE OPTION, AND WHAT FOLLOWS THEM

-- None of them has a place.
admission-numbers : (sheet short : Bool) (h : Lent) (now client : ℕ) → All (λ (r : Row). placed? r.0 ≡ false) (admission_rows sheet short h now client)
admission-numbers true short h now client = (refl, (refl, (refl, (refl, (refl, (refl, tt))))))
admission-numbers false short h now client = (refl, (refl, (refl, (refl, (refl, tt)))))

module _ (sheet short : Bool) (h : Lent) (now client : ℕ) (rest : List Row) where
  abbrev first : List Row
  first = admission_rows sheet short h now client

  pub not-admitted : (n : ℕ) → first_of first ≡ some n → (first_of (first ++ rest) ≡ some n) × (placed? n ≡ false)
  not-admitted n e = (first-before first rest n e, first-number (λ (m : ℕ). placed? m ≡ false) first (admission-numbers sheet short h now client) n e)

  module _ (summary : ImageSummary) (ad : Admits sheet short h now client (Ok summary)) where
    -- Row 1 has passed.
    pub admitted-short : short ≡ false
    admitted-short = (first-none first ad.0).0

    pub admitted-rows : first_of (first ++ rest) ≡ first_of rest
    admitted-rows = first-after first rest ad.0

-- OPTION 118 that is not bad leaves rows 6, 7 and 16 as they are without it.
pub rows-without : (c : Call) → bad_selection? c.selection ≡ false → option_rows c ≡ option_rows (call 0 c.option [])
rows-without c e =
    ap (λ (b : Bool). (6, refuses? 6 (read_option c.option) || b) ∷ (7, refuses? 7 (read_option c.option)) ∷ (16, refuses? 16 (read_option c.option)) ∷ []) e

-- A CALL WITH AN OPTION, at each of its steps. Its rows are those up to the option, rows 6, 7 and 16, row 8, which is about the option's suboptions, and its own.

-- It is admitted, its option 118 is not bad if it has one, and its option is read.
pub record ReadCall (sheet short : Bool) (h : Lent) (now : ℕ) (c : Call) : Type 0 where
  pub summary : ImageSummary
  pub admits : Admits sheet short h now c.client (Ok summary)
  pub selected : bad_selection? c.selection ≡ false
  pub contents : Contents
  pub columns : Columns
  pub reads : ReadOption c.option contents columns

-- The call gives `after`, whichever of these rows refuses it (`row-refuses`, `list-row-refuses` of crate `call_spec`).
abbrev pub RefusedBy : List Row → Lent → Call → Result Lent → Type 0
RefusedBy rows h c after = (n : ℕ) → (n ≡ 0 → ⊥) → first_of rows ≡ some n → outcome (refusal n (refusal_place c.option n)) h c.reply ≡ after

refused-as : (rows : List Row) (h : Lent) (c : Call) (after : Result Lent) → RefusedBy rows h c after
    → (e : Refusal) → first_of rows ≡ some (refusal_number e) → bad_place e ≡ refusal_place c.option (refusal_number e) → outcome (answer_of (Err e)) h c.reply ≡ after
refused-as rows h c after by_Row e number place = ap (λ (p : ℕ). outcome (refusal (refusal_number e) p) h c.reply) place ∙ by_Row (refusal_number e) (number-some e) number

or-second : (a b : Bool) → b ≡ true → (a || b) ≡ true
or-second true b e = refl
or-second false b e = e

abbrev pub rows_with8 : Bool → Bool → Lent → ℕ → Call → (List SuboptionValue → Bool) → List Row → List Row
rows_with8 sheet short h now c wanted own = admission_rows sheet short h now c.client ++ (option_rows c ++ ((8, not (wanted (suboptions (read_option c.option)))) ∷ own))

module _ (sheet short : Bool) (h : Lent) (now : ℕ) (c : Call) (wanted : List SuboptionValue → Bool) (own : List Row) (after : Result Lent)
    (by_Row : RefusedBy (rows_with8 sheet short h now c wanted own) h c after) where
  abbrev row-8 : List Row
  row-8 = (8, not (wanted (suboptions (read_option c.option)))) ∷ own

  abbrev rows : List Row
  rows = rows_with8 sheet short h now c wanted own

  -- Rows 1, 5, 15, 2, 3 and 4: none of them has a place.
  pub refused-admission : (e : Refusal) → Admits sheet short h now c.client (Err e) → outcome (answer_of (Err e)) h c.reply ≡ after
  refused-admission e ad =
      let r = not-admitted sheet short h now c.client (option_rows c ++ row-8) (refusal_number e) ad.0 in
      refused-as rows h c after by_Row e r.0 (ad.1 ∙ sym (cond-false (placed? (refusal_number e)) (place_in (read_option c.option)) 0 r.1))

  module _ (summary : ImageSummary) (ad : Admits sheet short h now c.client (Ok summary)) where
    up-to-option : first_of rows ≡ first_of (option_rows c ++ row-8)
    up-to-option = admitted-rows sheet short h now c.client (option_rows c ++ row-8) summary ad

    -- Row 6 of option 118, whatever option 220 is.
    pub refused-selection : bad_selection? c.selection ≡ true → outcome (refusal 6 0) h c.reply ≡ after
    refused-selection bad =
        by_Row 6 (λ e. omega arith)
        (up-to-option ∙ cond-true (refuses? 6 (read_option c.option) || bad_selection? c.selection) (some 6) _ (or-second (refuses? 6 (read_option c.option)) (bad_selection? c.selection) bad))

    -- Rows 6, 7 and 16.
    pub refused-option : bad_selection? c.selection ≡ false → (e : Refusal) → read_option c.option ≡ values.refused (refusal_number e) (bad_place e)
        → outcome (answer_of (Err e)) h c.reply ≡ after
    refused-option selected e is =
        let r = option-refused c selected (refusal_number e) (bad_place e) is in
        refused-as rows h c after by_Row e (up-to-option ∙ first-before (option_rows c) row-8 (refusal_number e) r.0) r.1

  module _ (s : ReadCall sheet short h now c) where
    up-to-8 : first_of rows ≡ first_of row-8
    up-to-8 = up-to-option s.summary s.admits ∙ first-after (option_rows c) row-8 (option-accepted c s.selected _ s.reads.accepted)

    -- Row 8.
    pub refused-8 : wanted (suboptions (read_option c.option)) ≡ false → outcome (refusal 8 0) h c.reply ≡ after
    refused-8 e = by_Row 8 (λ z. omega arith) (up-to-8 ∙ cond-true (not (wanted (suboptions (read_option c.option)))) (some 8) (first_of own) (not-of (wanted (suboptions (read_option c.option))) e))

    pub own-left : wanted (suboptions (read_option c.option)) ≡ true → first_of rows ≡ first_of own
    own-left e = up-to-8 ∙ cond-false (not (wanted (suboptions (read_option c.option)))) (some 8) (first_of own) (not-to (wanted (suboptions (read_option c.option))) e)

-- WHERE ROW 19 IS LEFT, of an ask or a take: the address of its option 118 lies in no pool, or it has its ground.

module _ (h : Lent) (c : Call) (rows : List Row) (after : Result Lent) (by_Row : RefusedBy rows h c after) (own : List Row) (left : first_of rows ≡ first_of (ground_rows (table_in h) c ++ own)) where
  pub no-ground : nothing? (pools_of (narrowed (table_in h) c)) ≡ true → outcome (refusal 19 0) h c.reply ≡ after
  no-ground e = by_Row 19 (λ z. omega arith) (left ∙ cond-true (nothing? (pools_of (narrowed (table_in h) c))) (some 19) (first_of own) e)

  pub ground-left : nothing? (pools_of (narrowed (table_in h) c)) ≡ false → first_of rows ≡ first_of own
  ground-left e = left ∙ cond-false (nothing? (pools_of (narrowed (table_in h) c))) (some 19) (first_of own) e

-- WHERE ROW 11 IS LEFT: nothing is found, or something.

module _ {A : Type 0} (h : Lent) (c : Call) (rows : List Row) (after : Result Lent) (by_Row : RefusedBy rows h c after) (found : List A) (left : first_of rows ≡ first_of ((11, nothing? found) ∷ [])) where
  pub nothing-found : length found ≡ 0 → outcome (refusal 11 0) h c.reply ≡ after
  nothing-found e = by_Row 11 (λ z. omega arith) (left ∙ cond-true (nothing? found) (some 11) none (nothing-none found e))

  pub none_left : (length found ≡ 0 → ⊥) → first_of rows ≡ none
  none_left k = left ∙ cond-false (nothing? found) (some 11) none (nothing-some found k)

-- WHERE NO ROW IS LEFT: what is lent holds the table and the rows that the ledger leaves.

pub accepts : (h : Lent) (rows : List Row) (place : ℕ → ℕ) (reply : List ℕ) (accepted : Result State) → first_of rows ≡ none
    → (r : Result State) → r.answer.number ≡ 0 → r ≡ accepted → (g : Lent) → g ≡ stored_in r.state h.bytes h
    → outcome r.answer g r.reply ≡ settled (by_rows rows place (state_in h) reply accepted) h
accepts h rows place reply accepted none_of r number is g here =
    ap (λ (w : Lent). outcome r.answer w r.reply) here
    ∙ sym (settled-accepted r h number)
    ∙ ap (λ (w : Result State). settled w h) is
    ∙ no_row h rows place reply accepted none_of
