-- Laws of putting elements into a list, over any element type.
-- Assumes nothing.
use Prim.Native.Nat.{ℕ, suc, ◌+◌, ◌≤◌, ◌<◌}
use native.Mathlib.Omega.{arith}
use native.Mathlib.Numerals.{add-one}
use mathlib.Core.Path.{◌≡◌, refl, sym, ap, ap₂, ◌∙◌}
use mathlib.Core.List.{List, [], ◌∷◌, ◌++◌, append_assoc}
use lib.ListN.{length, set, take, drop, length-set}
use lib.Seq.{drop-drop, sets, sets-eq, set_out, set_comm}
use borrow.Rule.Slice.PartMut.{put_mid}
use Rattle.lists.specs.Put.{put}

module _ {A : Type 0} where
  -- Nothing put, and one element put.
  pub put-nothing : (l : List A) (at : ℕ) → put l at [] ≡ l
  unfolding put
  put-nothing l at = refl

  pub put_one : (l : List A) (at : ℕ) (x : A) → put l at (x ∷ []) ≡ set l at x
  unfolding put
  put_one l at x = refl

  -- What is put in two parts, the second after the first, is put at once.
  pub put-append : (xs : List A) (l : List A) (at : ℕ) (ys : List A) → put (put l at xs) (at + length xs) ys ≡ put l at (xs ++ ys)
  unfolding put
  put-append [] l at ys = let e : at + 0 ≡ at = omega arith in ap (λ (n : ℕ). put l n ys) e
  put-append (x ∷ xs) l at ys =
      let e : at + suc (length xs) ≡ at + 1 + length xs = omega arith in
      ap (λ (n : ℕ). put (put (set l at x) (at + 1) xs) n ys) e ∙ put-append xs (set l at x) (at + 1) ys

  pub length-put : (xs : List A) (l : List A) (at : ℕ) → length (put l at xs) ≡ length l
  unfolding put
  length-put [] l at = refl
  length-put (x ∷ xs) l at = length-put xs (set l at x) (at + 1) ∙ length-set l at x

  -- Past the end nothing changes.
  pub put-past : (xs : List A) (l : List A) (at : ℕ) → length l ≤ at → put l at xs ≡ l
  unfolding put
  put-past [] l at h = refl
  put-past (x ∷ xs) l at h =
      ap (λ (k : List A). put k (at + 1) xs) (set_out l at x h) ∙ put-past xs l (at + 1) (omega arith)

  put-sets : (xs : List A) (l : List A) (at : ℕ) → put l at xs ≡ sets l at xs
  unfolding put
  put-sets [] l at = refl
  put-sets (x ∷ xs) l at = ap (λ (n : ℕ). put (set l at x) n xs) (add-one at) ∙ put-sets xs (set l at x) (suc at)

  -- Where there is room: what stood before, what is put, what stood after.
  pub put-fits : (xs : List A) (l : List A) (at : ℕ) → at + length xs ≤ length l → put l at xs ≡ take at l ++ xs ++ drop (at + length xs) l
  put-fits xs l at h = put-sets xs l at ∙ sets-eq xs l at h

  -- What a write to a part of a slice, `s[at..at + k]`, leaves of it.
  pub put_mid-put : (xs l : List A) (at k : ℕ) → k ≡ length xs → at + k ≤ length l → put_mid at k l xs ≡ put l at xs
  put_mid-put xs l at k e h =
      ap (λ (r : List A). take at l ++ (xs ++ r)) (drop-drop k at l ∙ ap (λ (n : ℕ). drop (at + n) l) e)
      ∙ sym (put-fits xs l at (omega arith) ∙ append_assoc (take at l) xs (drop (at + length xs) l))

  -- Put at the front, and what stays behind it.
  pub put_front : (xs l : List A) → length xs ≤ length l → put l 0 xs ≡ xs ++ drop (length xs) l
  put_front xs l h = let z : 0 + length xs ≡ length xs = omega arith in put-fits xs l 0 (omega arith) ∙ ap (λ (k : ℕ). xs ++ drop k l) z

  -- A further part, or one element more, put after what is put already: how a writer goes on.
  pub put-more : (l l₁ l₂ : List A) (at : ℕ) (xs : List A) (p : ℕ) (ys : List A) → l₁ ≡ put l at xs → p ≡ at + length xs → l₂ ≡ put l₁ p ys → l₂ ≡ put l at (xs ++ ys)
  put-more l l₁ l₂ at xs p ys e₁ ep e₂ = e₂ ∙ ap₂ (λ (k : List A) (n : ℕ). put k n ys) e₁ ep ∙ put-append xs l at ys

  pub set_more : (l l₁ l₂ : List A) (at : ℕ) (xs : List A) (p : ℕ) (x : A) → l₁ ≡ put l at xs → p ≡ at + length xs → l₂ ≡ set l₁ p x → l₂ ≡ put l at (xs ++ x ∷ [])
  set_more l l₁ l₂ at xs p x e₁ ep e₂ = put-more l l₁ l₂ at xs p (x ∷ []) e₁ ep (e₂ ∙ sym (put_one l₁ p x))

  -- What stands before may be put after what follows it.
  set-put : (ys : List A) (l : List A) (at p : ℕ) (x : A) → at < p → set (put l p ys) at x ≡ put (set l at x) p ys
  unfolding put
  set-put [] l at p x h = refl
  set-put (y ∷ ys) l at p x h =
      let apart : p ≡ at → ⊥ = λ (e : p ≡ at). omega arith in
      set-put ys (set l p y) at (p + 1) x (omega arith) ∙ ap (λ (k : List A). put k (p + 1) ys) (set_comm l p at y x apart)

  pub put-before : (xs : List A) (l : List A) (at : ℕ) (ys : List A) → put (put l (at + length xs) ys) at xs ≡ put l at (xs ++ ys)
  unfolding put
  put-before [] l at ys = let e : at + 0 ≡ at = omega arith in ap (λ (n : ℕ). put l n ys) e
  put-before (x ∷ xs) l at ys =
      let e : at + suc (length xs) ≡ at + 1 + length xs = omega arith in
      ap (λ (k : List A). put k (at + 1) xs) (set-put ys l at (at + suc (length xs)) x (omega arith))
      ∙ ap (λ (n : ℕ). put (put (set l at x) n ys) (at + 1) xs) e
      ∙ put-before xs (set l at x) (at + 1) ys
