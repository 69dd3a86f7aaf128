-- How long the texts of rows are: their pieces, and at most so much.
-- Assumes nothing.
use Prim.Native.Nat.{ℕ, ◌+◌, ◌-◌, ◌*◌, ◌/◌, ◌%◌, ◌^◌, ◌≤◌, ◌<◌}
use mathlib.Core.Path.{◌≡◌, sym, ap, ap₂, ◌∙◌}
use mathlib.Core.Logic.{inl, inr}
use mathlib.Core.Bool.{Bool, true, false, cond}
use mathlib.Core.List.{List, [], ◌++◌, map}
use native.Mathlib.Omega.{arith}
use lib.ListN.{length, take, replicate, length-append, length-map}
use lib.Seq.{take-append_seam}
use borrow.Author.Tests.{eq-eqb, ne_eqb}
use Rattle.lists.proofs.Tests.{cond-true, cond-false}
use Rattle.lists.proofs.MapLaws.{map-append}
use Rattle.text.specs.Ascii.{ascii}
use Rattle.text.specs.Decimal.{decimal}
use Rattle.text.proofs.TextLaws.{length_digits}
use Rattle.prefix.specs.declared.Prefix.{Prefix}
use Rattle.names.specs.declared.Name.{Name}
use Rattle.names.specs.Names.{unnamed?, name_octets, name_text, name_length}
use Rattle.names.proofs.NameLaws.{unnamed-length, name-short, text-octets}
use Rattle.sheet_text.specs.declared.Used.{Used}
use Rattle.sheet_text.specs.Sheet.{prefix_used, Row, used_row, free_row, shown, name_row, prefix_text, row_text, head_text}
use Rattle.sheet_text.specs.SheetSizes.{prefix_most, number_most, prefix_marks, used_words, name_most, used_most, free_most, lease_digits, free_digits, head_most}
use Rattle.sheet_text.specs.InnerScan.{prefix_size, used_size, free_size, head_text_size}

-- THEIR PIECES

pub used-length : (x : Used) → length (row_text (used_row x)) ≡ used_size x
unfolding row_text prefix_text
used-length x = simp length-append (omega arith)

pub free-length : (p : Prefix) → length (row_text (free_row p)) ≡ free_size p
unfolding row_text prefix_text
free-length p = simp length-append (omega arith)

pub head-length : (leases free : ℕ) → length (head_text leases free) ≡ head_text_size leases free
unfolding head_text
head-length leases free = simp length-append (omega arith)

-- NAMES

-- A name as a row shows it.
abbrev pub shown_name : Name → List ℕ
shown_name n = map shown (name_text n)

module _ (n : Name) where
  pub row-unnamed : name_length n ≡ 0 → name_row n ≡ []
  unfolding name_row
  row-unnamed e = cond-true (unnamed? n) [] (ascii " name " ++ shown_name n) (unnamed-length n ∙ eq-eqb (name_length n) 0 e)

  pub row_named : (name_length n ≡ 0 → ⊥) → name_row n ≡ ascii " name " ++ shown_name n
  unfolding name_row
  row_named e = cond-false (unnamed? n) [] (ascii " name " ++ shown_name n) (unnamed-length n ∙ ne_eqb (name_length n) 0 e)

  pub length-shown : length (shown_name n) ≡ name_length n
  length-shown = length-map (name_text n) shown

  pub length-named : (name_length n ≡ 0 → ⊥) → length (name_row n) ≡ length (ascii " name ") + name_length n
  length-named e = ap length (row_named e) ∙ length-append (ascii " name ") (shown_name n) ∙ omega (arith, length-shown)

  -- The name is the first of the 24 octets.
  pub shown-octets : take (name_length n) (map shown (name_octets n)) ≡ shown_name n
  shown-octets =
      let zeros : List ℕ = replicate (24 - name_length n) 0 in
      ap (λ (l : List ℕ). take (name_length n) (map shown l)) (text-octets n)
      ∙ ap₂ (λ (m : ℕ) (l : List ℕ). take m l) (sym length-shown) (map-append shown (name_text n) zeros)
      ∙ take-append_seam (shown_name n) (map shown zeros)

-- AT MOST

name-most : (n : Name) → length (name_row n) ≤ name_most
unfolding name_row
name-most n = cases (unnamed? n)
  where
    cases : (b : Bool) → length (cond b [] (ascii " name " ++ shown_name n)) ≤ name_most
    cases true = omega arith
    cases false = omega (arith, length-append (ascii " name ") (shown_name n), length-shown n, name-short n)

any-number : (n : ℕ) → length (decimal n) ≤ number_most
any-number n = length_digits 9 9 n (inl (omega arith))

any-prefix : (p : Prefix) → prefix_size p ≤ 5 * number_most + prefix_marks
any-prefix p =
    omega (arith, any-number (p.network / 16777216), any-number (p.network / 65536 % 256), any-number (p.network / 256 % 256), any-number (p.network % 256), any-number p.length)

any-used : (x : Used) → used_size x ≤ 7 * number_most + prefix_marks + used_words + name_most
any-used x = omega (arith, any-prefix (prefix_used x), any-number x.client, any-number x.expires, name-most x.name)

any-free : (p : Prefix) → free_size p ≤ 7 * number_most + prefix_marks + used_words
any-free p = omega (arith, any-prefix p)

pub any-row : (r : Row) → length (row_text r) ≤ 7 * number_most + prefix_marks + used_words + name_most
any-row (used_row x) = omega (arith, used-length x, any-used x)
any-row (free_row p) = omega (arith, free-length p, any-free p)

pub any_head : (leases free : ℕ) → head_text_size leases free ≤ 7 * number_most + prefix_marks + used_words
any_head leases free = omega (arith, any-number leases, any-number free)

-- A prefix of 32-bit addresses, with a length of two digits.
abbrev pub Short : Prefix → Type 0
Short p = (p.network < 4294967296) × (p.length < 100)

short-prefix : (p : Prefix) → Short p → prefix_size p ≤ prefix_most
short-prefix p h =
    omega (
      arith,
      length_digits 9 2 (p.network / 16777216) (inr (omega arith)),
      length_digits 9 2 (p.network / 65536 % 256) (inr (omega arith)),
      length_digits 9 2 (p.network / 256 % 256) (inr (omega arith)),
      length_digits 9 2 (p.network % 256) (inr (omega arith)),
      length_digits 9 1 p.length (inr (omega arith)),
    )

pub free-most : (p : Prefix) → Short p → length (row_text (free_row p)) ≤ free_most
free-most p h = omega (arith, free-length p, short-prefix p h)

pub used-most : (x : Used) → Short (prefix_used x) → length (row_text (used_row x)) ≤ used_most
used-most x h = omega (arith, used-length x, short-prefix (prefix_used x) h, any-number x.client, any-number x.expires, name-most x.name)

pub head-most : (leases free : ℕ) → leases < 10 ^ lease_digits → free < 10 ^ free_digits → length (head_text leases free) ≤ head_most
head-most leases free h k = omega (arith, head-length leases free, length_digits 9 (lease_digits - 1) leases (inr h), length_digits 9 (free_digits - 1) free (inr k))
