-- Laws of the open book: what is lent where its counts are right, and what a call on it leaves.
-- Assumes nothing.
use Prim.Native.Nat.{ℕ}
use mathlib.Core.Path.{◌≡◌, refl, sym, ap, ◌∙◌}
use mathlib.Core.Logic.{⊎_elim}
use mathlib.Core.Bool.{Bool, true, false, cond, true≢false}
use mathlib.Core.List.{List, []}
use lib.Dec.{eqb}
use lib.ListN.{take}
use borrow.Author.Tests.{eq-eqb, ne_eqb}
use Rattle.lists.proofs.Tests.{bool_cases, cond-true, cond-false}
use Rattle.table.specs.Table.{sound, blank}
use Rattle.image.specs.Image.{loaded_table}
use Rattle.image.specs.Reading.{load_image}
use Rattle.counts.specs.Counts.{counts_of, same_counts?}
use Rattle.counts.proofs.CountLaws.{same-counts-to, same-counts-refl}
use Rattle.ledger.specs.declared.Answer.{Answer}
use Rattle.ledger.specs.Ledger.{Result, outcome}
use Rattle.call_spec.specs.ImageCalls.{Lent, lent, holds?, table_in, state_in}
use Rattle.call_spec.specs.Books.{Book, counted?, lent_in, counted, kept}
use Rattle.call_spec.proofs.TableLaws.{blank-unsound, nothing-loads}

-- WHAT IS LENT

pub cond_both : (c : Bool) (n : ℕ) → cond c n n ≡ n
cond_both true n = refl
cond_both false n = refl

-- No bytes of a buffer are the image of a table.
pub no_bytes : (image figures : List ℕ) → table_in (lent image 0 figures) ≡ blank
unfolding table_in
no_bytes image figures =
    ap (λ (n : ℕ). loaded_table (load_image (take n image))) (cond_both (holds? (lent image 0 figures)) 0) ∙ ap loaded_table nothing-loads

module _ (b : Book) where
  pub lent-counted : counted? b ≡ true → lent_in b ≡ b.lent
  unfolding lent_in
  lent-counted e = cond-true (counted? b) b.lent (lent b.lent.image 0 b.lent.figures) e

  pub lent-differing : counted? b ≡ false → lent_in b ≡ lent b.lent.image 0 b.lent.figures
  unfolding lent_in
  lent-differing e = cond-false (counted? b) b.lent (lent b.lent.image 0 b.lent.figures) e

  -- The buffers are the same ones.
  pub same-buffers : ((lent_in b).image ≡ b.lent.image) × ((lent_in b).figures ≡ b.lent.figures)
  same-buffers =
      ⊎_elim
      (λ (e : counted? b ≡ true). (ap (λ (h : Lent). h.image) (lent-counted e), ap (λ (h : Lent). h.figures) (lent-counted e)))
      (λ (e : counted? b ≡ false). (ap (λ (h : Lent). h.image) (lent-differing e), ap (λ (h : Lent). h.figures) (lent-differing e)))
      (bool_cases (counted? b))

  pub counted_of : b.counts ≡ counts_of (table_in b.lent) → counted? b ≡ true
  unfolding counted?
  counted_of e = ap (λ (c : List (List ℕ)). same_counts? c (counts_of (table_in b.lent))) e ∙ same-counts-refl (counts_of (table_in b.lent))

  pub counted-to : counted? b ≡ true → b.counts ≡ counts_of (table_in b.lent)
  unfolding counted?
  counted-to e = same-counts-to b.counts (counts_of (table_in b.lent)) e

  -- Counts that differ make it unsound.
  pub differing-unsound : counted? b ≡ false → sound (table_in (lent_in b)) ≡ false
  differing-unsound e = ap (λ (h : Lent). sound (table_in h)) (lent-differing e) ∙ ap sound (no_bytes b.lent.image b.lent.figures) ∙ blank-unsound

  pub sound-counted : sound (table_in (lent_in b)) ≡ true → counted? b ≡ true
  sound-counted s =
      ⊎_elim
      (λ (e : counted? b ≡ true). e)
      (λ (e : counted? b ≡ false). absurd (true≢false (sym s ∙ differing-unsound e)))
      (bool_cases (counted? b))

  pub sound-lent : sound (table_in (lent_in b)) ≡ true → lent_in b ≡ b.lent
  sound-lent s = lent-counted (sound-counted s)

-- What has its table's counts is found again.
pub counted-again : (h : Lent) → lent_in (counted h) ≡ h
counted-again h = lent-counted (counted h) (counted_of (counted h) refl)

-- WHAT A CALL LEAVES

module _ (b : Book) (r : Result Lent) where
  pub kept-refused : (r.answer.number ≡ 0 → ⊥) → kept r b ≡ outcome r.answer b r.reply
  unfolding kept
  kept-refused k = ap (λ (w : Book). outcome r.answer w r.reply) (cond-false (eqb r.answer.number 0) (counted r.state) b (ne_eqb r.answer.number 0 k))

  pub kept-accepted : r.answer.number ≡ 0 → kept r b ≡ outcome r.answer (counted r.state) r.reply
  unfolding kept
  kept-accepted e = ap (λ (w : Book). outcome r.answer w r.reply) (cond-true (eqb r.answer.number 0) (counted r.state) b (eq-eqb r.answer.number 0 e))

  module _ (a : Answer) (g : Lent) (reply : List ℕ) (is : outcome a g reply ≡ r) where
    answer-is : a ≡ r.answer
    answer-is = ap (λ (w : Result Lent). w.answer) is

    -- A call on the book that refuses, and one that accepts, where the one on what is lent does.
    pub refuses-book : (a.number ≡ 0 → ⊥) → outcome a b reply ≡ kept r b
    refuses-book k =
        ap (λ (w : Result Lent). outcome w.answer b w.reply) is
        ∙ sym (kept-refused (λ z. k (ap (λ (w : Answer). w.number) answer-is ∙ z)))

    pub accepts-book : a.number ≡ 0 → (counts : List (List ℕ)) → counts ≡ counts_of (table_in g) → outcome a (record { lent = g; counts = counts }) reply ≡ kept r b
    accepts-book z counts e =
        ap (λ (c : List (List ℕ)). outcome a (record { lent = g; counts = c }) reply) e
        ∙ ap (λ (w : Result Lent). outcome w.answer (counted w.state) w.reply) is
        ∙ sym (kept-accepted (sym (ap (λ (w : Answer). w.number) answer-is) ∙ z))
