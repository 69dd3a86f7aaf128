-- Laws for a loop that goes through a list: what all of the rest pass, and those of the rest that pass, one element further.
-- Assumes nothing.
use Prim.Native.Nat.{ℕ, zero, suc, ◌+◌, ◌≤◌, ◌<◌}
use mathlib.Core.Path.{◌≡◌}
use mathlib.Core.Bool.{Bool, cond, ◌&&◌}
use mathlib.Core.List.{List, [], ◌∷◌}
use native.Mathlib.Numerals.{add-one}
use lib.ListN.{length, drop, get_or, drop_of_length-le}
use lib.Seq.{drop-cons}
pub use Rattle.lists.proofs.IndexLaws.{all-at}
use Rattle.lists.specs.Lists.{All, all?, filter}

module _ {A : Type 0} (xs : List A) (i : ℕ) (d : A) (lt : i < length xs) where
  pub drop_at : drop i xs ≡ get_or xs i d ∷ drop (i + 1) xs
  drop_at = rw (add-one i) (drop-cons xs i d lt)

  pub all?-at : (f : A → Bool) → all? f (drop i xs) ≡ f (get_or xs i d) && all? f (drop (i + 1) xs)
  all?-at f = rw drop_at

  pub filter-at : (f : A → Bool) → filter f (drop i xs) ≡ cond (f (get_or xs i d)) (get_or xs i d ∷ filter f (drop (i + 1) xs)) (filter f (drop (i + 1) xs))
  filter-at f = rw drop_at

module _ {A : Type 0} (xs : List A) (i : ℕ) (past : length xs ≤ i) where
  pub drop-end : drop i xs ≡ []
  drop-end = drop_of_length-le xs past

  pub filter-end : (f : A → Bool) → filter f (drop i xs) ≡ []
  filter-end f = rw drop-end

pub all_drop : {A : Type 0} (P : A → Type 0) (i : ℕ) (xs : List A) → All P xs → All P (drop i xs)
all_drop P zero xs a = a
all_drop P (suc i) [] a = tt
all_drop P (suc i) (x ∷ xs) a = all_drop P i xs a.1
