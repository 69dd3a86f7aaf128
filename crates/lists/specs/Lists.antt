-- What holds of all elements of a list, of some, of each two; tests of these; those elements that pass a test.
use Rattle.std.specs.Prelude.{Bool, true, false, cond, ◌&&◌, ◌||◌, ◌⊎◌, List, [], ◌∷◌, ◌++◌, ℕ, ltb}
use Rattle.std.proofs.Math.Option.{Option, none, some}

-- P holds of every element.
abbrev pub All : {A : Type 0} → (A → Type 0) → List A → Type 0
All P [] = Unit {0}
All P (x ∷ xs) = P x × All P xs

-- P holds of some element.
abbrev pub Any : {A : Type 0} → (A → Type 0) → List A → Type 0
Any P [] = ⊥
Any P (x ∷ xs) = P x ⊎ Any P xs

-- R holds between each element and every later one.
abbrev pub Pairwise : {A : Type 0} → (A → A → Type 0) → List A → Type 0
Pairwise R [] = Unit {0}
Pairwise R (x ∷ xs) = All (R x) xs × Pairwise R xs

-- All of these tests pass.
abbrev pub and : List Bool → Bool
and [] = true
and (b ∷ bs) = b && and bs

-- The test passes at every element; at some element.
abbrev pub all? : {A : Type 0} → (A → Bool) → List A → Bool
all? f [] = true
all? f (x ∷ xs) = f x && all? f xs

abbrev pub any? : {A : Type 0} → (A → Bool) → List A → Bool
any? f [] = false
any? f (x ∷ xs) = f x || any? f xs

-- The elements that pass the test, in order.
abbrev pub filter : {A : Type 0} → (A → Bool) → List A → List A
filter f [] = []
filter f (x ∷ xs) = let rest = filter f xs in cond (f x) (x ∷ rest) rest

-- The lists that f makes of the elements, one after the other.
abbrev pub concat_map : {A B : Type 0} → (A → List B) → List A → List B
concat_map f [] = []
concat_map f (x ∷ xs) = f x ++ concat_map f xs

-- What is there of a list of what may be missing.
abbrev pub cat_maybes : {A : Type 0} → List (Option A) → List A
cat_maybes [] = []
cat_maybes (none ∷ xs) = cat_maybes xs
cat_maybes (some x ∷ xs) = x ∷ cat_maybes xs

-- x among the others: before the first with a larger key.
unfoldable pub insert_by : {A : Type 0} → (A → ℕ) → A → List A → List A
insert_by key x [] = x ∷ []
insert_by key x (y ∷ ys) = let rest = insert_by key x ys in cond (ltb (key x) (key y)) (x ∷ y ∷ ys) (y ∷ rest)

unfoldable pub sort_by : {A : Type 0} → (A → ℕ) → List A → List A
sort_by key [] = []
sort_by key (x ∷ xs) = insert_by key x (sort_by key xs)
