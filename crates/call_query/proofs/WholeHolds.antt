-- The query answers the number of whole free blocks of a length, or 5.
-- Assumes nothing.
use Prim.Native.Nat.{ℕ}
use mathlib.Core.Path.{◌≡◌, refl, sym, ap, subst, ◌∙◌}
use mathlib.Core.Logic.{◌⊎◌, inl, inr, ⊎_elim}
use mathlib.Core.Bool.{Bool, true, false, not, true≢false}
use mathlib.Core.List.{List, [], ◌∷◌, map}
use native.Mathlib.Omega.{arith}
use Rattle.lists.proofs.Tests.{bool_cases}
use Rattle.table.specs.declared.LeaseTable.{LeaseTable}
use Rattle.table.specs.Table.{prefix_of, pools_of, present, sound}
use Rattle.counts.specs.Counts.{counts_of, sum_at}
use Rattle.counts.specs.Meaning.{CountsWholes}
use Rattle.counts.proofs.SumLaws.{sum-counts-wholes}
use Rattle.ledger.specs.declared.Answer.{Answer}
use Rattle.ledger.specs.Ledger.{first_of, or_else, refusal, acceptance}
use Rattle.call_spec.specs.Books.{Book, state_in_book, whole_book}
use Rattle.call_spec.proofs.CountsHold.{sound-right}
use Rattle.call_query.specs.WholeMeans.{WholeMeans}

module _ (b : Book) (len : ℕ) where
  abbrev t : LeaseTable
  t = (state_in_book b).table

  abbrev by : Bool → Answer
  by s = or_else (first_of ((5, not s) ∷ [])) (λ number. refusal number 0) (acceptance 0 (sum_at b.counts len))

  answered : whole_book b len ≡ by (sound t)
  unfolding whole_book
  answered = refl

  when-sound : sound t ≡ true → whole_book b len ≡ acceptance 0 (sum_at (counts_of t) len)
  when-sound s = answered ∙ ap by s ∙ ap (λ (c : List (List ℕ)). acceptance 0 (sum_at c len)) (sound-right b s)

  when-not : sound t ≡ false → whole_book b len ≡ refusal 5 0
  when-not s = answered ∙ ap by s

  counts-are : (whole_book b len).number ≡ 0 → CountsWholes (pools_of t) (map prefix_of (present t.last t.leases)) len (whole_book b len).count
  counts-are z =
      ⊎_elim
      (λ (s : sound t ≡ true).
      subst (λ (a : Answer). CountsWholes (pools_of t) (map prefix_of (present t.last t.leases)) len a.count) (sym (when-sound s)) (sum-counts-wholes t s len))
      (λ (s : sound t ≡ false). absurd (omega (arith, z, ap (λ (a : Answer). a.number) (when-not s))))
      (bool_cases (sound t))

  refused-to : (whole_book b len).number ≡ 5 → sound t ≡ false
  refused-to e =
      ⊎_elim
      (λ (s : sound t ≡ true). absurd (omega (arith, e, ap (λ (a : Answer). a.number) (when-sound s))))
      (λ (s : sound t ≡ false). s)
      (bool_cases (sound t))

  either : ((whole_book b len).number ≡ 0) ⊎ ((whole_book b len).number ≡ 5)
  either =
      ⊎_elim
      (λ (s : sound t ≡ true). inl (ap (λ (a : Answer). a.number) (when-sound s)))
      (λ (s : sound t ≡ false). inr (ap (λ (a : Answer). a.number) (when-not s)))
      (bool_cases (sound t))

pub whole-means : WholeMeans
whole-means = record {
  counts = counts-are;
  refused = λ b len. (refused-to b len, λ s. ap (λ (a : Answer). a.number) (when-not b len s));
  only = either;
}
