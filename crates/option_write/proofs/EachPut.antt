-- The images of a list's elements put one after another, as a loop over the list puts them.
-- Assumes nothing.
use Prim.Native.Nat.{ℕ, ◌+◌, ◌≤◌, ◌<◌}
use native.Mathlib.Omega.{arith}
use native.Mathlib.Numerals.{add-one}
use mathlib.Core.Path.{◌≡◌, ap, sym, ◌∙◌}
use mathlib.Core.List.{List, [], ◌∷◌, ◌++◌, map}
use lib.ListN.{length, get_or, take, length-append}
use lib.Seq.{take-suc, take_all}
use Rattle.lists.specs.Lists.{concat_map}
use Rattle.lists.specs.Put.{put}
use Rattle.lists.proofs.ConcatMapLaws.{concat_map-append, concat_map-one}
use Rattle.lists.proofs.MapLaws.{map-append}
use Rattle.lists.proofs.PutLaws.{put-nothing, put-more}
use Rattle.option_write.specs.Inner.{PutAt}

module _ {A B : Type 0} (f : A → B) (bytes : B → List ℕ) (xs : List A) where
  -- The bytes of the first k.
  abbrev pub up_to : ℕ → List ℕ
  up_to k = concat_map bytes (map f (take k xs))

  pub put_none : (l : List ℕ) (at : ℕ) → PutAt l l at at (up_to 0)
  put_none l at = record { stored = sym (put-nothing l at); place = omega arith }

  one_more : (i : ℕ) (d : A) → i < length xs → up_to (i + 1) ≡ up_to i ++ bytes (f (get_or xs i d))
  one_more i d h =
      ap up_to (add-one i)
      ∙ ap (λ (l : List A). concat_map bytes (map f l)) (take-suc xs i d h)
      ∙ ap (concat_map bytes) (map-append f (take i xs) (get_or xs i d ∷ []))
      ∙ concat_map-append bytes (map f (take i xs)) (f (get_or xs i d) ∷ [])
      ∙ ap (λ (l : List ℕ). up_to i ++ l) (concat_map-one bytes (f (get_or xs i d)))

  pub put_one_more : (l l₁ l₂ : List ℕ) (at p p₂ i : ℕ) (d : A) → i < length xs → PutAt l l₁ at p (up_to i) → PutAt l₁ l₂ p p₂ (bytes (f (get_or xs i d)))
      → PutAt l l₂ at p₂ (up_to (i + 1))
  put_one_more l l₁ l₂ at p p₂ i d h a b =
      let m = one_more i d h in
      let n : length (up_to (i + 1)) ≡ length (up_to i) + length (bytes (f (get_or xs i d))) = ap length m ∙ length-append (up_to i) (bytes (f (get_or xs i d))) in
      record {
        stored = put-more l l₁ l₂ at (up_to i) p (bytes (f (get_or xs i d))) a.stored a.place b.stored ∙ ap (put l at) (sym m);
        place = omega (arith, a.place, b.place, n);
      }

  pub put_all : (l l₁ : List ℕ) (at p k : ℕ) → length xs ≤ k → PutAt l l₁ at p (up_to k) → PutAt l l₁ at p (concat_map bytes (map f xs))
  put_all l l₁ at p k h a =
      let e = ap (λ (s : List A). concat_map bytes (map f s)) (take_all k xs h) in record {
        stored = a.stored ∙ ap (put l at) e;
        place = a.place ∙ ap (λ (s : List ℕ). at + length s) e;
      }
