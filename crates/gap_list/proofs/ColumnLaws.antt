-- Gaps in a buffer: one more at the end, and the four ways in which a gap is split.
-- Assumes nothing.
use Prim.Native.Nat.{ℕ, zero, suc, ◌+◌, ◌-◌, ◌≤◌, ◌<◌}
use mathlib.Core.Path.{◌≡◌, refl, sym, ap, ap₂, ◌∙◌}
use mathlib.Core.List.{List, [], ◌∷◌, ◌++◌, map, append-nil}
use native.Mathlib.Omega.{arith}
use native.Mathlib.Numerals.{add-one}
use lib.ListN.{length, take, drop, set, get_or, length-drop}
use lib.Seq.{take-suc-set, take-set-lt, get_or-take, take-take, take-paste}
use Rattle.std.specs.Prelude.{slice_set}
use Rattle.std.specs.List.{copy_within}
use Rattle.std.proofs.lemmas.List.{drop-take}
use Rattle.lists.proofs.TakeLaws.{take_short}
use Rattle.prefix.specs.declared.Prefix.{Prefix}
use Rattle.prefix.specs.Prefixes.{size, prefix, end}
use Rattle.gap_list.specs.declared.Ends.{Ends}
use Rattle.gap_list.specs.Gaps.{Gap, between, without, LiesIn, solid}
use Rattle.gap_list.specs.Columns.{gap_of, held, held_in, Kept, Carved}
use Rattle.gap_list.specs.InnerSearch.{doubled}
use Rattle.gap_list.proofs.FitLaws.{between-some, between_none}

abbrev pub ends : ℕ → ℕ → Ends
ends first last = record { first = first; last = last }

abbrev pub no_ends : Ends
no_ends = ends 0 0

held-snoc : (es : List Ends) (e : Ends) → held (es ++ (e ∷ [])) ≡ held es ++ (gap_of e ∷ [])
held-snoc [] e = refl
held-snoc (x ∷ es) e = ap (λ (gs : List Gap). gap_of x ∷ gs) (held-snoc es e)

module _ (es : List Ends) (n from to : ℕ) where
  pub push-some : n < length es → from < to → Kept n (held_in es n ++ between from to) (n + 1) (set es n (ends from (to - 1)))
  push-some h some = record {
    gaps =
        ap (held_in (set es n (ends from (to - 1)))) (add-one n)
        ∙ ap held (take-suc-set es n (ends from (to - 1)) h)
        ∙ held-snoc (take n es) (ends from (to - 1))
        ∙ ap (λ (b : ℕ). held_in es n ++ (record { from = from; to = b } ∷ [])) (omega arith)
        ∙ ap (λ (gs : List Gap). held_in es n ++ gs) (sym (between-some from to some));
    few = omega arith;
  }

  pub push-none : to ≤ from → Kept n (held_in es n ++ between from to) n es
  push-none h = record {
    gaps = sym (ap (λ (gs : List Gap). held_in es n ++ gs) (between_none from to h) ∙ append-nil (held_in es n));
    few = omega arith;
  }

-- the gap that p lies in

pub lies_within : (p : Prefix) (i : ℕ) (es : List Ends) → LiesIn p i (held es) → i < length es
lies_within p i [] k = absurd k
lies_within p zero (e ∷ es) k = omega arith
lies_within p (suc i) (e ∷ es) k = let t = lies_within p i es k in omega (arith, t)

pub at_lies : (p : Prefix) (i : ℕ) (es : List Ends) → i < length es → (get_or es i no_ends).first ≤ p.network → end p ≤ (get_or es i no_ends).last + 1 → LiesIn p i (held es)
at_lies p i [] h low high = absurd (omega arith)
at_lies p zero (e ∷ es) h low high = (low, high)
at_lies p (suc i) (e ∷ es) h low high = at_lies p i es (omega arith) low high

-- What is left on both sides, below, above, and nothing.
module _ (p : Prefix) where
  split-both : (i : ℕ) (es : List Ends) → LiesIn p i (held es) → (get_or es i no_ends).first < p.network → end p ≤ (get_or es i no_ends).last
      → held (set (set (doubled es i) (suc i) (ends (end p) (get_or es i no_ends).last)) i (ends (get_or es i no_ends).first (p.network - 1))) ≡ without p i (held es)
  split-both i [] k low high = absurd k
  split-both zero (e ∷ es) k low high =
      let back : p.network - 1 + 1 ≡ p.network = omega arith in
      ap (λ (b : ℕ). record { from = e.first; to = b } ∷ record { from = end p; to = e.last + 1 } ∷ held es) back
      ∙ sym (ap₂ (λ (gs hs : List Gap). gs ++ (hs ++ held es)) (between-some e.first p.network low) (between-some (end p) (e.last + 1) (omega arith)))
  split-both (suc i) (e ∷ es) k low high = ap (λ (gs : List Gap). gap_of e ∷ gs) (split-both i es k low high)

  split_below : (i : ℕ) (es : List Ends) → LiesIn p i (held es) → (get_or es i no_ends).first < p.network → (get_or es i no_ends).last < end p
      → held (set es i (ends (get_or es i no_ends).first (p.network - 1))) ≡ without p i (held es)
  split_below i [] k low high = absurd k
  split_below zero (e ∷ es) k low high =
      let back : p.network - 1 + 1 ≡ p.network = omega arith in
      ap (λ (b : ℕ). record { from = e.first; to = b } ∷ held es) back
      ∙ sym (ap₂ (λ (gs hs : List Gap). gs ++ (hs ++ held es)) (between-some e.first p.network low) (between_none (end p) (e.last + 1) (omega arith)))
  split_below (suc i) (e ∷ es) k low high = ap (λ (gs : List Gap). gap_of e ∷ gs) (split_below i es k low high)

  split-above : (i : ℕ) (es : List Ends) → LiesIn p i (held es) → p.network ≤ (get_or es i no_ends).first → end p ≤ (get_or es i no_ends).last
      → held (set es i (ends (end p) (get_or es i no_ends).last)) ≡ without p i (held es)
  split-above i [] k low high = absurd k
  split-above zero (e ∷ es) k low high =
      sym (ap₂ (λ (gs hs : List Gap). gs ++ (hs ++ held es)) (between_none e.first p.network low) (between-some (end p) (e.last + 1) (omega arith)))
  split-above (suc i) (e ∷ es) k low high = ap (λ (gs : List Gap). gap_of e ∷ gs) (split-above i es k low high)

  split-none : (i : ℕ) (es : List Ends) → LiesIn p i (held es) → p.network ≤ (get_or es i no_ends).first → (get_or es i no_ends).last < end p
      → solid (held (set es i (ends 1 0))) ≡ solid (without p i (held es))
  split-none i [] k low high = absurd k
  split-none zero (e ∷ es) k low high =
      sym (ap₂ (λ (gs hs : List Gap). solid (gs ++ (hs ++ held es))) (between_none e.first p.network low) (between_none (end p) (e.last + 1) (omega arith)))
  split-none (suc i) (e ∷ es) k low high = ap (λ (gs : List Gap). between e.first (e.last + 1) ++ gs) (split-none i es k low high)

pub lies-below : (p : Prefix) (i : ℕ) (es : List Ends) (n : ℕ) → LiesIn p i (held_in es n) → i < n
lies-below p i es n k = omega (arith, lies_within p i (take n es) k, take_short n es)

-- The same of a buffer of which the first n places are used, as the code changes it.
module _ (es : List Ends) (n i network l : ℕ) (within : i < n) (lies : LiesIn (prefix network l) i (held_in es n)) where
  here : get_or (take n es) i no_ends ≡ get_or es i no_ends
  here = get_or-take n es i no_ends within

  abbrev pub last : ℕ
  last = (get_or es i no_ends).last

  abbrev pub first : ℕ
  first = (get_or es i no_ends).first

  -- The gaps from the i-th to the n-th one place up, with the i-th kept in its place too.
  moved : n < length es → take (n + 1) (copy_within es i n (i + 1)) ≡ doubled (take n es) i
  moved room =
      let e : n + 1 ≡ i + 1 + (n - i) = omega arith in
      let f : n ≡ i + (n - i) = omega arith in
      let s : i + 1 ≡ suc i = add-one i in
      ap (λ (k : ℕ). take k (copy_within es i n (i + 1))) e
      ∙ take-paste es (i + 1) (drop i es) (n - i) (omega arith) (omega (arith, length-drop i es))
      ∙ ap₂ (λ (xs ys : List Ends). xs ++ ys) (ap (λ (k : ℕ). take k es) s ∙ sym (take-take (suc i) n es (omega arith))) (sym (ap (λ (k : ℕ). drop i (take k es)) f ∙ drop-take i (n - i) es))

  pub part-both : n < length es → (ms : List Ends) → ms ≡ copy_within es i n (i + 1)
      → (after : ℕ) → after ≡ network + size l → first < network → after ≤ last
      → Carved n (without (prefix network l) i (held_in es n)) (n + 1) (set (set ms (i + 1) (ends after last)) i (ends first (network - 1)))
  part-both room ms up after g low high = record {
    gaps =
        ap (λ (xs : List Ends). solid (held xs))
        (take-set-lt (n + 1) (set ms (i + 1) (ends after last)) i (ends first (network - 1)) (omega arith)
        ∙ ap (λ (xs : List Ends). set xs i (ends first (network - 1)))
        (take-set-lt (n + 1) ms (i + 1) (ends after last) (omega arith)
        ∙ ap₂ (λ (xs : List Ends) (j : ℕ). set xs j (ends after last)) (ap (take (n + 1)) up ∙ moved room) (add-one i)
        ∙ ap₂ (λ (x : ℕ) (e : Ends). set (doubled (take n es) i) (suc i) (ends x e.last)) g (sym here))
        ∙ ap (λ (e : Ends). set (set (doubled (take n es) i) (suc i) (ends (network + size l) (get_or (take n es) i no_ends).last)) i (ends e.first (network - 1))) (sym here))
        ∙ ap solid (split-both (prefix network l) i (take n es) lies (rw here low) (rw here (omega arith)));
    few = omega arith;
  }

  pub part-below : first < network → last < network + size l → Carved n (without (prefix network l) i (held_in es n)) n (set es i (ends first (network - 1)))
  part-below low high = record {
    gaps =
        ap (λ (xs : List Ends). solid (held xs))
        (take-set-lt n es i (ends first (network - 1)) within ∙ ap (λ (e : Ends). set (take n es) i (ends e.first (network - 1))) (sym here))
        ∙ ap solid (split_below (prefix network l) i (take n es) lies (rw here low) (rw here high));
    few = omega arith;
  }

  pub part-above : (after : ℕ) → after ≡ network + size l → network ≤ first → after ≤ last → Carved n (without (prefix network l) i (held_in es n)) n (set es i (ends after last))
  part-above after g low high = record {
    gaps =
        ap (λ (xs : List Ends). solid (held xs))
        (take-set-lt n es i (ends after last) within ∙ ap₂ (λ (x : ℕ) (e : Ends). set (take n es) i (ends x e.last)) g (sym here))
        ∙ ap solid (split-above (prefix network l) i (take n es) lies (rw here low) (rw here (omega arith)));
    few = omega arith;
  }

  pub part_none : network ≤ first → last < network + size l → Carved n (without (prefix network l) i (held_in es n)) n (set es i (ends 1 0))
  part_none low high = record {
    gaps = ap (λ (xs : List Ends). solid (held xs)) (take-set-lt n es i (ends 1 0) within) ∙ split-none (prefix network l) i (take n es) lies (rw here low) (rw here high);
    few = omega arith;
  }
