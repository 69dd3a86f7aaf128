-- Laws of rows 6, 7, 16 and 8: the tests of the code, on counts, and the ledger's, on the pieces of an option.
-- Assumes nothing.
use Prim.Native.Nat.{ℕ}
use native.Mathlib.Omega.{arith}
use mathlib.Core.Path.{◌≡◌, refl, sym, ap, subst, ◌∙◌}
use mathlib.Core.Bool.{Bool, true, false, not, cond}
use mathlib.Core.List.{List, [], ◌∷◌}
use mathlib.Core.Option.{none, some}
use Rattle.std.specs.Prelude.{Err}
use Rattle.lists.proofs.Tests.{cond-true, cond-false, not-of, not-to}
use Rattle.option.specs.Values.{SuboptionValue, refused, accepted}
use Rattle.option.specs.Reading.{End, whole, bad_at, option?, ended, read_suboptions, read_option}
use Rattle.option.specs.Contents.{suboptions, requests, entries, entries_in}
use Rattle.option.proofs.SuboptionLaws.{option-long}
use Rattle.ledger.specs.declared.Refusal.{Refusal}
use Rattle.ledger.specs.declared.Refusal.TheVariants.{WrongSuboptions}
use Rattle.ledger.specs.Answers.{refusal_number, bad_place}
use Rattle.ledger.specs.Ledger.{Call, call, first_of, option_rows, for_take}
use Rattle.ledger.proofs.RowLaws.{first-before, first-after, nothing-none, nothing-some}
use Rattle.ledger.proofs.RefusalLaws.{option-refused, option-accepted}
use Rattle.option_scan.specs.declared.Contents.{Contents}
use Rattle.option_scan.specs.Scanned.{Columns}
use Rattle.call_rows.specs.Admission.{ReadOption}
use Rattle.call_entries.specs.EntryFigures.{first_entries, LeftAt}
use Rattle.call_entries.specs.EntryRows.{EntriesRead, ReadsEntries}
use Rattle.call_entries.proofs.FiguresLaws.{left-first}

-- An option that is accepted is one, and its suboptions are read to the end.
good-option : (b : Bool) (subs : List SuboptionValue) (e : End) (others : List SuboptionValue) → cond b (ended subs e) (refused 6 0) ≡ accepted others
    → (b ≡ true) × (e ≡ whole) × (suboptions (cond b (ended subs e) (refused 6 0)) ≡ subs)
good-option true subs whole others k = (refl, refl, refl)
good-option true subs (bad_at f p) others k = let z : ◌≡◌ {A = ℕ} 0 1 = cc in absurd (omega arith)
good-option false subs e others k = let z : ◌≡◌ {A = ℕ} 0 1 = cc in absurd (omega arith)

module _ (option : List ℕ) where
  abbrev by : Call
  by = call 0 option []

  abbrev subs : List SuboptionValue
  subs = suboptions (read_option option)

  abbrev right : Bool
  right = for_take subs

  -- Rows 6, 7 and 16.
  pub entries-unread : (networks lengths : List ℕ) (e : Refusal) → read_option option ≡ refused (refusal_number e) (bad_place e) → ReadsEntries option (Err e) networks lengths
  entries-unread networks lengths e is =
      let row = option-refused by refl (refusal_number e) (bad_place e) is in
      (first-before (option_rows by) ((8, not right) ∷ []) (refusal_number e) row.0, row.1)

  module _ (m : Contents) (c : Columns) (read : ReadOption option m c) where
    none-of-three : first_of (option_rows by) ≡ none
    none-of-three = option-accepted by refl subs read.accepted

    -- Row 8.
    wrong : (networks lengths : List ℕ) → right ≡ false → ReadsEntries option (Err WrongSuboptions) networks lengths
    wrong networks lengths e = (first-after (option_rows by) ((8, not right) ∷ []) none-of-three ∙ cond-true (not right) (some 8) none (not-of right e), refl)

    pub entries-asked : (networks lengths : List ℕ) → (m.requests ≡ 0 → ⊥) → ReadsEntries option (Err WrongSuboptions) networks lengths
    entries-asked networks lengths k = wrong networks lengths (rw (nothing-some (requests subs) (λ e. k (read.holds.requests ∙ e))) refl)

    module _ (z : m.requests ≡ 0) where
      pub entries-missing : (networks lengths : List ℕ) → m.entries ≡ 0 → ReadsEntries option (Err WrongSuboptions) networks lengths
      entries-missing networks lengths e =
          wrong networks lengths (rw (nothing-none (requests subs) (sym read.holds.requests ∙ z), nothing-none (entries subs) (sym read.holds.entries ∙ e)) refl)

      -- The figures are left to read.
      figures-left : LeftAt option first_entries (entries_in option)
      unfolding read_option
      figures-left =
          let good = good-option (option? option) (read_suboptions option 3).0 (read_suboptions option 3).1 subs read.accepted in
          subst (LeftAt option first_entries) (ap entries (sym good.2))
          (left-first option (read_suboptions option 3).0 (omega (arith, option-long option good.0)) (ap (λ (e : End). ((read_suboptions option 3).0, e)) good.1))

      pub entries-there : (m.entries ≡ 0 → ⊥) → EntriesRead option c.networks c.lengths m.entries
      entries-there k = record {
        passed = λ rest.
            first-after (option_rows by) ((8, not right) ∷ rest) none-of-three
            ∙ cond-false (not right) (some 8) (first_of rest)
            (not-to right (rw (nothing-none (requests subs) (sym read.holds.requests ∙ z), nothing-some (entries subs) (λ e. k (read.holds.entries ∙ e))) refl));
        few = read.holds.few;
        left = figures-left;
        hold = (read.holds.networks, read.holds.lengths);
        many = read.holds.entries;
      }
