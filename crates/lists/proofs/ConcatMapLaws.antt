-- Laws of gathered lists.
-- Assumes nothing.
use Prim.Native.Nat.{ℕ, zero, suc, ◌+◌, ◌*◌, ◌≤◌, ◌<◌}
use native.Mathlib.Nat.{add_comm, mul-zero, mul-suc}
use native.Mathlib.Omega.{arith}
use mathlib.Core.Path.{◌≡◌, refl, sym, ap, ap₂, ◌∙◌}
use mathlib.Core.List.{List, [], ◌∷◌, ◌++◌, append_assoc, append-nil}
use lib.ListN.{length, drop, get_or, length-append}
use lib.Seq.{drop-drop, drop_at}
use Rattle.lists.specs.Lists.{All, concat_map}

module _ {A B : Type 0} (f : A → List B) where
  pub concat_map-append : (xs ys : List A) → concat_map f (xs ++ ys) ≡ concat_map f xs ++ concat_map f ys
  concat_map-append [] ys = refl
  concat_map-append (x ∷ xs) ys = ap (λ (l : List B). f x ++ l) (concat_map-append xs ys) ∙ sym (append_assoc (f x) (concat_map f xs) (concat_map f ys))

  pub concat_map-one : (x : A) → concat_map f (x ∷ []) ≡ f x
  concat_map-one x = append-nil (f x)

  -- Where each list has n elements.
  pub length-concat_map : (n : ℕ) (xs : List A) → All (λ x. length (f x) ≡ n) xs → length (concat_map f xs) ≡ n * length xs
  length-concat_map n [] a = omega arith
  length-concat_map n (x ∷ xs) a = length-append (f x) (concat_map f xs) ∙ omega (arith, a.0, length-concat_map n xs a.1)

-- Where each has n elements, those of the first i are the first n * i.
pub concat_map-drop : {A B : Type 0} (f : A → List B) (n : ℕ) → ((x : A) → length (f x) ≡ n) → (xs : List A) (i : ℕ) (q : List B) → i ≤ length xs
    → drop (n * i) (concat_map f xs ++ q) ≡ concat_map f (drop i xs) ++ q
concat_map-drop f n each xs zero q h = rw (mul-zero n) refl
concat_map-drop f n each [] (suc i) q h = absurd (omega arith)
concat_map-drop f n each (x ∷ xs) (suc i) q h =
    let e : n * suc i ≡ n + n * i = mul-suc n i ∙ add_comm (n * i) n in
    ap₂ drop e (append_assoc (f x) (concat_map f xs) q)
    ∙ sym (drop-drop (n * i) n (f x ++ (concat_map f xs ++ q)))
    ∙ ap (drop (n * i)) (drop_at (f x) (concat_map f xs ++ q) n (each x))
    ∙ concat_map-drop f n each xs i q (omega arith)

-- The list of one element is no longer than all.
pub length-concat_map-at : {A B : Type 0} (f : A → List B) (l : List A) (i : ℕ) (d : A) → i < length l → length (f (get_or l i d)) ≤ length (concat_map f l)
length-concat_map-at f [] i d h = absurd (omega arith)
length-concat_map-at f (x ∷ xs) zero d h = omega (arith, length-append (f x) (concat_map f xs))
length-concat_map-at f (x ∷ xs) (suc i) d h = omega (arith, length-append (f x) (concat_map f xs), length-concat_map-at f xs i d (omega arith))
