-- Laws of elements copied one after another: out of a list, into a list, and down in a list.
-- Assumes nothing.
use Prim.Native.Nat.{ℕ, ◌+◌, ◌≤◌, ◌<◌}
use native.Mathlib.Omega.{arith}
use native.Mathlib.Numerals.{add-one}
use mathlib.Core.Path.{◌≡◌, refl, sym, ap, ◌∙◌}
use mathlib.Core.List.{List, [], ◌∷◌, ◌++◌}
use lib.ListN.{length, set, get_or, take, drop, length-drop}
use lib.Seq.{take-suc, take-suc-set, take-add, drop-drop, get_or-drop, length-take-le}
use Rattle.lists.specs.Put.{put}
use Rattle.lists.proofs.PutLaws.{set_more, put-more}
use Rattle.image_records.proofs.PutForms.{drop-put}

module _ {A : Type 0} where
  pub taken_more : (d : A) (l out : List A) (at k : ℕ) → at + k < length l → k < length out → take k out ≡ take k (drop at l)
      → take (k + 1) (set out k (get_or l (at + k) d)) ≡ take (k + 1) (drop at l)
  taken_more d l out at k h room e =
      let x : A = get_or l (at + k) d in
      let there : k < length (drop at l) = omega (arith, length-drop at l) in
      ap (λ (n : ℕ). take n (set out k x)) (add-one k)
      ∙ take-suc-set out k x room
      ∙ ap (λ (s : List A). s ++ (x ∷ [])) e
      ∙ ap (λ (y : A). take k (drop at l) ++ (y ∷ [])) (sym (get_or-drop at l k d))
      ∙ sym (take-suc (drop at l) k d there)
      ∙ ap (λ (n : ℕ). take n (drop at l)) (sym (add-one k))

  pub given-more : (d : A) (l l₁ s : List A) (at k : ℕ) → k < length s → l₁ ≡ put l at (take k s) → set l₁ (at + k) (get_or s k d) ≡ put l at (take (k + 1) s)
  given-more d l l₁ s at k h e =
      let size : length (take k s) ≡ k = length-take-le k s (omega arith) in
      set_more l l₁ (set l₁ (at + k) (get_or s k d)) at (take k s) (at + k) (get_or s k d) e (omega arith) refl
      ∙ ap (put l at) (sym (take-suc s k d h) ∙ ap (λ (n : ℕ). take n s) (sym (add-one k)))

  -- The first k elements from `at` on have been moved down to `to`; the next w are next.
  pub lowered-more : (l : List A) (to at w k : ℕ) (l₁ s : List A) → to ≤ at → at + k + w ≤ length l → l₁ ≡ put l to (take k (drop at l)) → s ≡ take w (drop (at + k) l₁)
      → put l₁ (to + k) s ≡ put l to (take (k + w) (drop at l))
  lowered-more l to at w k l₁ s h within e read =
      let low : List A = take k (drop at l) in
      let size : length low ≡ k = length-take-le k (drop at l) (omega (arith, length-drop at l)) in
      let next : s ≡ take w (drop k (drop at l)) =
      read
      ∙ ap (take w) (ap (drop (at + k)) e ∙ drop-put low l to (at + k) (omega arith) ∙ sym (drop-drop k at l)) in
      put-more l l₁ (put l₁ (to + k) s) to low (to + k) s e (omega arith) refl
      ∙ ap (put l to) (ap (λ (z : List A). low ++ z) next ∙ sym (take-add k w (drop at l)))
