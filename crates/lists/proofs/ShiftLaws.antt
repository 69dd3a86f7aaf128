-- Laws of shifting inside an array: the elements from a place on one place up, or one place down, moved one at a time.
-- Assumes nothing.
use mathlib.Core.Path.{◌≡◌, refl, sym, ap, ◌∙◌, subst}
use mathlib.Core.List.{List, [], ◌∷◌, ◌++◌, append-nil, append_assoc}
use Prim.Native.Nat.{ℕ, suc, ◌+◌, ◌-◌, ◌<◌, ◌≤◌}
use native.Mathlib.Nat.{sub_self}
use native.Mathlib.Numerals.{add-one}
use native.Mathlib.Omega.{arith}
use lib.ListN.{length, take, drop, set, get_or, length-drop, length-append, take-append-drop, get_or-append}
use lib.Seq.{take_all, take-suc, drop-cons, set_at, length-take-le, append_snoc, get_or-take, get_or-append-add, get_or-drop}

-- The elements from k on one place up, with the one at k kept in its place too, of a list of n + 1.
abbrev pub shifted : {A : Type 0} → ℕ → List A → ℕ → List A
shifted n l k = take (k + 1) l ++ take (n - k) (drop k l)

module _ {A : Type 0} (n : ℕ) (l : List A) (full : length l ≡ n + 1) where
  pub shifted_none : l ≡ shifted n l n
  shifted_none =
      sym (ap (λ (j : ℕ). take (n + 1) l ++ take j (drop n l)) (sub_self n) ∙ append-nil (take (n + 1) l) ∙ take_all (n + 1) l (omega arith))

  pub shifted-set : (k : ℕ) (x : A) → k ≤ n → set (shifted n l k) k x ≡ take k l ++ (x ∷ take (n - k) (drop k l))
  shifted-set k x h =
      let lt : k < length l = omega arith in
      let len : length (take k l) ≡ k = length-take-le k l (omega arith) in
      rw (add-one k, take-suc l k x lt, append_snoc) (set_at (take k l) (get_or l k x) (take (n - k) (drop k l)) x k len)

  step : (d : A) (j : ℕ) → suc j ≤ n → set (shifted n l (suc j)) (suc j) (get_or (shifted n l (suc j)) j d) ≡ shifted n l j
  step d j h =
      let lt : j < length l = omega arith in
      let in-front : j < length (take (suc j + 1) l) = rw (length-take-le (suc j + 1) l (omega arith)) (omega arith) in
      let less : n - j ≡ suc (n - suc j) = omega arith in
      ap (set (shifted n l (suc j)) (suc j)) (get_or-append (take (suc j + 1) l) (take (n - suc j) (drop (suc j) l)) d j in-front ∙ get_or-take (suc j + 1) l j d (omega arith))
      ∙ shifted-set (suc j) (get_or l j d) h
      ∙ rw (add-one j, less, drop-cons l j d lt) refl

  pub shifted-more : (d : A) (k : ℕ) → 0 < k → k ≤ n → set (shifted n l k) k (get_or (shifted n l k) (k - 1) d) ≡ shifted n l (k - 1)
  shifted-more d k p h =
      let e : suc (k - 1) ≡ k = omega arith in
      subst (λ (m : ℕ). set (shifted n l m) m (get_or (shifted n l m) (k - 1) d) ≡ shifted n l (k - 1)) e (step d (k - 1) (omega arith))

-- The elements between i and k one place down, with the one at k kept in its place too.
abbrev pub lowered : {A : Type 0} → List A → ℕ → ℕ → List A
lowered l i k = (take i l ++ take (k - i) (drop (i + 1) l)) ++ drop k l

module _ {A : Type 0} (l : List A) (i : ℕ) where
  pub lowered_none : l ≡ lowered l i i
  lowered_none = sym (rw (sub_self i, append-nil) (take-append-drop i l))

  front : (k : ℕ) → i ≤ k → k < length l → length (take i l ++ take (k - i) (drop (i + 1) l)) ≡ k
  front k h lt =
      length-append (take i l) (take (k - i) (drop (i + 1) l))
      ∙ simp (length-take-le i l (omega arith), length-take-le (k - i) (drop (i + 1) l) (rw length-drop (omega arith))) (omega arith)

  pub lowered-set : (k : ℕ) (x : A) → i ≤ k → k < length l → set (lowered l i k) k x ≡ (take i l ++ take (k - i) (drop (i + 1) l)) ++ (x ∷ drop (k + 1) l)
  lowered-set k x h lt =
      rw (add-one k, drop-cons l k x lt) (set_at (take i l ++ take (k - i) (drop (i + 1) l)) (get_or l k x) (drop (suc k) l) x k (front k h lt))

  pub lowered-more : (d : A) (k : ℕ) → i ≤ k → k + 1 < length l → set (lowered l i k) k (get_or (lowered l i k) (k + 1) d) ≡ lowered l i (k + 1)
  lowered-more d k h lt =
      let rest = drop (i + 1) l in
      let x = get_or l (k + 1) d in
      let there : get_or (lowered l i k) (k + 1) d ≡ x =
      ap (λ (n : ℕ). get_or (lowered l i k) (n + 1) d) (sym (front k h (omega arith)))
      ∙ get_or-append-add (take i l ++ take (k - i) rest) (drop k l) 1 d ∙ get_or-drop k l 1 d in
      let less : k + 1 - i ≡ suc (k - i) = omega arith in
      let index : i + 1 + (k - i) ≡ k + 1 = omega arith in
      let last : get_or rest (k - i) d ≡ x = get_or-drop (i + 1) l (k - i) d ∙ ap (λ (n : ℕ). get_or l n d) index in
      let inside : k - i < length rest = rw length-drop (omega arith) in
      ap (set (lowered l i k) k) there
      ∙ lowered-set k x h (omega arith)
      ∙ sym (rw (less, take-suc rest (k - i) d inside, last, ← append_assoc (take i l) (take (k - i) rest) (x ∷ []), append_snoc))
