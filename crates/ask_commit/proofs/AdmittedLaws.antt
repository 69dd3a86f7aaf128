-- Laws of the image of a call that is admitted: how many leases are present, and what fits.
-- Assumes nothing.
use Prim.Native.Nat.{ℕ, ◌+◌, ◌-◌, ◌*◌, ◌≤◌}
use native.Mathlib.Omega.{arith}
use mathlib.Core.Path.{◌≡◌, refl, sym, ap, subst}
use mathlib.Core.Logic.{⊎_elim}
use mathlib.Core.Bool.{true, false}
use mathlib.Core.List.{List, [], ◌∷◌}
use lib.ListN.{length}
use lib.Dec.{leb}
use borrow.Author.Tests.{leb-true, leb-false}
use Rattle.lists.specs.Lists.{filter}
use Rattle.lists.proofs.Tests.{bool_cases}
use Rattle.lists.proofs.FilterLaws.{filter-yes, filter-no}
use Rattle.table.specs.declared.{Lease.Lease}
use Rattle.table.specs.Table.{lease_slots, present}
use Rattle.table.proofs.TableLaws.{sound-default, present-yes, present-no}
use Rattle.image.specs.Image.{lease_size, used_leases}
use Rattle.image_check.specs.declared.ImageSummary.{ImageSummary}
use Rattle.image_figures.specs.Sheets.{row_size}
use Rattle.call_spec.specs.ImageCalls.{Lent, table_in}
use Rattle.call_rows.specs.Admission.{leases_from, Admitted}
use Rattle.ask_commit.specs.InnerRest.{AdmittedImage}

-- A lease has expired or is present.
present-left : (now : ℕ) (xs : List Lease) → length (filter (λ x. leb x.expires now) xs) + length (present now xs) ≡ length xs
unfolding present
present-left now [] = refl
present-left now (x ∷ xs) =
    ⊎_elim
    (λ (e : leb x.expires now ≡ true).
    omega (arith, ap length (filter-yes (λ (y : Lease). leb y.expires now) x xs e), ap length (present-no now x xs (leb-true x.expires now e)), present-left now xs))
    (λ (e : leb x.expires now ≡ false).
    omega (arith, ap length (filter-no (λ (y : Lease). leb y.expires now) x xs e), ap length (present-yes now x xs (leb-false x.expires now e)), present-left now xs))
    (bool_cases (leb x.expires now))

-- The leases that are present.
abbrev pub here : Lent → ℕ → List Lease
here h now = present now (table_in h).leases

module _ (image : List ℕ) (now client : ℕ) (summary : ImageSummary) (q : AdmittedImage image now client summary) where
  abbrev h : Lent
  h = q.lent

  abbrev o : Admitted true q.lent now client summary
  o = q.admitted

  long-image : length q.lent.image ≡ length image
  long-image = ap length q.same

  -- How many leases are present.
  pub fewer : summary.expired ≤ summary.leases
  fewer = omega (arith, o.leases, o.expired, present-left now (used_leases (table_in h)))

  pub present-many : summary.leases - summary.expired ≡ length (here h now)
  present-many = omega (arith, o.leases, o.expired, ap length o.present-used, present-left now (used_leases (table_in h)))

  pub present-few : summary.leases - summary.expired ≤ lease_slots
  present-few = omega (arith, o.few-leases)

  -- The default length is that of a table.
  pub default-long : 1 ≤ summary.default_length
  default-long = subst (λ (d : ℕ). 1 ≤ d) (sym o.default) (sound-default (table_in h) o.sound).0

  -- The records stand in the buffer, and so does what is granted to empty slots; the sheet has their rows.
  pub records-fit : leases_from summary + lease_size * summary.leases ≤ length image
  records-fit = omega (arith, o.size, o.within, long-image)

  pub fits : (n : ℕ) → n ≤ lease_slots - (summary.leases - summary.expired)
      → (leases_from summary + lease_size * (summary.leases - summary.expired + n) ≤ length image) × (row_size * (summary.leases - summary.expired + n) ≤ length h.figures)
  fits n few = (omega (arith, o.few-pools, o.room, present-few, long-image), omega (arith, (o.sheet-in refl).size, present-few))

  pub rows_fit : row_size * summary.leases ≤ length h.figures
  rows_fit = omega (arith, o.few-leases, (o.sheet-in refl).size)
