-- Laws of what is put into a list: what stays before and after it, and what is put over it.
-- Assumes nothing.
use Prim.Native.Nat.{ℕ, zero, suc, ◌+◌, ◌≤◌}
use native.Mathlib.Omega.{arith}
use mathlib.Core.Path.{◌≡◌, refl, sym, ap, ap₂, ◌∙◌}
use mathlib.Core.Logic.{⊎_elim}
use mathlib.Core.Bool.{true, false}
use mathlib.Core.List.{List, [], ◌∷◌, ◌++◌, append_assoc, append-nil}
use lib.ListN.{length, set, take, drop, length-append, take-append-drop}
use lib.Dec.{leb}
use lib.Seq.{take-set-le, drop-set-lt, take_at, drop_at, take-add, length-take-le, set-set}
use borrow.Author.Tests.{leb-true, leb-false}
use Rattle.lists.specs.Put.{put}
use Rattle.lists.proofs.Tests.{bool_cases}
use Rattle.lists.proofs.PutLaws.{put-fits, put-past, put-before, put-append}

module _ {A : Type 0} where
  pub drop-take : (k w : ℕ) (l : List A) → k ≤ length l → drop k (take (k + w) l) ≡ take w (drop k l)
  drop-take k w l h = ap (drop k) (take-add k w l) ∙ drop_at (take k l) (take w (drop k l)) k (length-take-le k l h)

  -- Before it, and after it, all stays.
  pub take_put : (zs : List A) (l : List A) (at k : ℕ) → k ≤ at → take k (put l at zs) ≡ take k l
  unfolding put
  take_put [] l at k h = refl
  take_put (z ∷ zs) l at k h = take_put zs (set l at z) (at + 1) k (omega arith) ∙ take-set-le k l at z h

  pub drop-put : (zs : List A) (l : List A) (at k : ℕ) → at + length zs ≤ k → drop k (put l at zs) ≡ drop k l
  unfolding put
  drop-put [] l at k h = refl
  drop-put (z ∷ zs) l at k h = drop-put zs (set l at z) (at + 1) k (omega arith) ∙ drop-set-lt k l at z (omega arith)

  -- What is put stands there.
  pub drop-put-at : (zs : List A) (l : List A) (at : ℕ) → at + length zs ≤ length l → drop at (put l at zs) ≡ zs ++ drop (at + length zs) l
  drop-put-at zs l at h =
      ap (drop at) (put-fits zs l at h) ∙ ap (drop at) (append_assoc (take at l) zs (drop (at + length zs) l))
      ∙ drop_at (take at l) (zs ++ drop (at + length zs) l) at (length-take-le at l (omega arith))

  pub take-put-at : (zs : List A) (l : List A) (at : ℕ) → at + length zs ≤ length l → take (at + length zs) (put l at zs) ≡ take at l ++ zs
  take-put-at zs l at h =
      ap (take (at + length zs)) (put-fits zs l at h)
      ∙ take_at (take at l ++ zs) (drop (at + length zs) l) (at + length zs) (omega (arith, length-append (take at l) zs, length-take-le at l (omega arith)))

  -- Put into the second of two lists, and over the front of a list.
  pub set-behind : (p r : List A) (a : ℕ) (z : A) → set (p ++ r) (length p + a) z ≡ p ++ set r a z
  set-behind [] r a z = let e : 0 + a ≡ a = omega arith in ap (λ (k : ℕ). set r k z) e
  set-behind (x ∷ p) r a z =
      let e : suc (length p) + a ≡ suc (length p + a) = omega arith in
      ap (λ (k : ℕ). set (x ∷ (p ++ r)) k z) e ∙ ap (λ (l : List A). x ∷ l) (set-behind p r a z)

  pub put-behind : (zs : List A) (p r : List A) (a : ℕ) → put (p ++ r) (length p + a) zs ≡ p ++ put r a zs
  unfolding put
  put-behind [] p r a = refl
  put-behind (z ∷ zs) p r a =
      let e : length p + a + 1 ≡ length p + (a + 1) = omega arith in
      ap₂ (λ (l : List A) (k : ℕ). put l k zs) (set-behind p r a z) e ∙ put-behind zs p (set r a z) (a + 1)

  pub put_front : (zs p r : List A) → length p ≡ length zs → put (p ++ r) 0 zs ≡ zs ++ r
  put_front zs p r e =
      let z : 0 + length zs ≡ length zs = omega arith in
      put-fits zs (p ++ r) 0 (omega (arith, length-append p r)) ∙ ap (λ (k : ℕ). zs ++ drop k (p ++ r)) z
      ∙ ap (λ (l : List A). zs ++ l) (drop_at p r (length zs) e)

  pub put-inside : (at : ℕ) (zs p q r : List A) → length p ≡ at → length q ≡ length zs → put (p ++ (q ++ r)) at zs ≡ p ++ (zs ++ r)
  put-inside at zs p q r e f =
      let z : at ≡ length p + 0 = omega arith in
      ap (λ (k : ℕ). put (p ++ (q ++ r)) k zs) z ∙ put-behind zs p (q ++ r) 0 ∙ ap (λ (l : List A). p ++ l) (put_front zs q r f)

  -- What stands there already changes nothing.
  pub put_same : (zs : List A) (l : List A) (at : ℕ) (q : List A) → drop at l ≡ zs ++ q → put l at zs ≡ l
  put_same zs l at q e =
      ⊎_elim
      (λ (b : leb at (length l) ≡ true).
      let here : l ≡ take at l ++ (zs ++ q) = sym (take-append-drop at l) ∙ ap (λ (r : List A). take at l ++ r) e in
      ap (λ (k : List A). put k at zs) here
      ∙ put-inside at zs (take at l) zs q (length-take-le at l (leb-true at (length l) b)) refl ∙ sym here)
      (λ (b : leb at (length l) ≡ false). let past = leb-false at (length l) b in put-past zs l at (omega arith))
      (bool_cases (leb at (length l)))

  -- Of what was put before, that stays which reaches behind what is put over it.
  pub put-upon : (xs ys : List A) (l : List A) (at : ℕ) → put (put l at xs) at ys ≡ put l at (ys ++ drop (length ys) xs)
  unfolding put
  put-upon xs [] l at = refl
  put-upon [] (y ∷ ys) l at = sym (ap (put l at) (append-nil (y ∷ ys)))
  put-upon (x ∷ xs) (y ∷ ys) l at =
      ap (λ (m : List A). put m (at + 1) ys) (put-before (y ∷ []) (set l at x) at xs ∙ ap (λ (m : List A). put m (at + 1) xs) (set-set l at x y))
      ∙ put-upon xs ys (set l at y) (at + 1)

  drop_past : (k : ℕ) (s : List A) → length s ≤ k → drop k s ≡ []
  drop_past zero [] h = refl
  drop_past (suc k) [] h = refl
  drop_past zero (z ∷ s) h = absurd (omega arith)
  drop_past (suc k) (z ∷ s) h = drop_past k s (omega arith)

  -- Over all of it, it is alone there.
  pub put-over : (xs ys : List A) (l : List A) (at : ℕ) → length xs ≤ length ys → put (put l at xs) at ys ≡ put l at ys
  put-over xs ys l at h = put-upon xs ys l at ∙ ap (put l at) (ap (λ (s : List A). ys ++ s) (drop_past (length ys) xs h) ∙ append-nil ys)

  -- What is put over the last of it.
  pub put-over-last : (p q r : List A) (l : List A) (at : ℕ) → length q ≤ length r → put (put l at (p ++ q)) (at + length p) r ≡ put l at (p ++ r)
  put-over-last p q r l at h =
      ap (λ (m : List A). put m (at + length p) r) (sym (put-append p l at q)) ∙ put-over q r (put l at p) (at + length p) h ∙ put-append p l at r
