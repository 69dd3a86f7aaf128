-- Laws of a part of a list: its length, one element more, and what holds of each of its elements.
-- Assumes nothing.
use Prim.Native.Nat.{ℕ, ◌+◌, ◌≤◌, ◌<◌}
use native.Mathlib.Omega.{arith}
use native.Mathlib.Numerals.{add-one}
use mathlib.Core.Path.{◌≡◌, ap, ◌∙◌}
use mathlib.Core.List.{List, [], ◌∷◌, ◌++◌, map}
use lib.ListN.{length, get_or, drop, length-take, length-drop, length-map, get_or-map}
use lib.Seq.{take-suc, get_or-take, get_or-drop}
use Rattle.option_measure.specs.Lists.{part}

module _ {A : Type 0} (l : List A) (first : ℕ) where
  pub length_part : (count : ℕ) → first + count ≤ length l → length (part first count l) ≡ count
  length_part count h = simp (length-take, length-drop) (omega arith)

  pub length_is_part : (s : List A) (count : ℕ) → s ≡ part first count l → first + count ≤ length l → length s ≡ count
  length_is_part s count e h = ap length e ∙ length_part count h

  pub part-more : (i : ℕ) (d : A) → first + i < length l → part first (i + 1) l ≡ part first i l ++ (get_or l (first + i) d ∷ [])
  part-more i d h =
      let inside : i < length (drop first l) = simp length-drop (omega arith) in
      ap (λ (n : ℕ). part first n l) (add-one i)
      ∙ take-suc (drop first l) i d inside
      ∙ ap (λ (x : A). part first i l ++ (x ∷ [])) (get_or-drop first l i d)

  pub part_at : (count i : ℕ) (d : A) → i < count → get_or (part first count l) i d ≡ get_or l (first + i) d
  part_at count i d h = get_or-take count (drop first l) i d h ∙ get_or-drop first l i d

-- A part of the images: the image of the element there.
pub map-part-at : {A B : Type 0} (f : A → B) (l : List A) (first count i : ℕ) (d : A) → i < count → get_or (map f (part first count l)) i (f d) ≡ f (get_or l (first + i) d)
map-part-at f l first count i d h = get_or-map f (part first count l) i d ∙ ap f (part_at l first count i d h)

pub length-map-part : {A B : Type 0} (f : A → B) (l : List A) (first count : ℕ) → first + count ≤ length l → length (map f (part first count l)) ≡ count
length-map-part f l first count h = length-map (part first count l) f ∙ length_part l first count h
