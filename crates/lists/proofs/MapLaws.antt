-- Laws of images, and of a test together with a change or with another test.
-- Assumes nothing.
use mathlib.Core.Path.{◌≡◌, refl, sym, ap, ap₂, ◌∙◌}
use mathlib.Core.Logic.{⊎_elim}
use mathlib.Core.Bool.{Bool, true, false, cond, ◌&&◌, ◌||◌}
use mathlib.Core.List.{List, [], ◌∷◌, ◌++◌, map}
use native.Mathlib.Omega.{arith}
use lib.ListN.{length}
use lib.Dec.{eqb}
use borrow.Author.Tests.{eqb-true, eq-eqb, ne_eqb}
use Rattle.lists.specs.Lists.{all?, any?, filter}
use Rattle.lists.proofs.Tests.{bool_cases, bool-ext, and-to, and-of}
use Rattle.lists.proofs.FilterLaws.{filter-yes, filter-no, filter-fewer}

pub map-append : {A B : Type 0} (f : A → B) (xs ys : List A) → map f (xs ++ ys) ≡ map f xs ++ map f ys
map-append f [] ys = refl
map-append {A} {B} f (x ∷ xs) ys = ap (λ (l : List B). f x ∷ l) (map-append f xs ys)

pub map_same : {A B : Type 0} (f g : A → B) → ((x : A) → f x ≡ g x) → (xs : List A) → map f xs ≡ map g xs
map_same f g same [] = refl
map_same {A} {B} f g same (x ∷ xs) = ap₂ (λ (y : B) (l : List B). y ∷ l) (same x) (map_same f g same xs)

pub map-map : {A B C : Type 0} (f : A → B) (g : B → C) (xs : List A) → map g (map f xs) ≡ map (λ x. g (f x)) xs
map-map f g [] = refl
map-map {C = C} f g (x ∷ xs) = ap (λ (l : List C). g (f x) ∷ l) (map-map f g xs)

-- Those of the changed ones that pass, where the change is the same for all that pass and changes no one's test.
pub filter_map : {A : Type 0} (p : A → Bool) (f g : A → A) → ((x : A) → p (f x) ≡ p x) → ((x : A) → p x ≡ true → f x ≡ g x) → (xs : List A)
    → filter p (map f xs) ≡ map g (filter p xs)
filter_map p f g keeps same [] = refl
filter_map {A} p f g keeps same (x ∷ xs) =
    ⊎_elim
    (λ (e : p x ≡ true).
    filter-yes p (f x) (map f xs) (keeps x ∙ e)
    ∙ ap (λ (y : A). y ∷ filter p (map f xs)) (same x e)
    ∙ ap (λ (l : List A). g x ∷ l) (filter_map p f g keeps same xs)
    ∙ sym (ap (map g) (filter-yes p x xs e)))
    (λ (e : p x ≡ false).
    filter-no p (f x) (map f xs) (keeps x ∙ e) ∙ filter_map p f g keeps same xs ∙ sym (ap (map g) (filter-no p x xs e)))
    (bool_cases (p x))

-- Some of those that pass one test pass another: some pass both.
pub any?-filter : {A : Type 0} (p f : A → Bool) (xs : List A) → any? f (filter p xs) ≡ any? (λ x. p x && f x) xs
any?-filter p f [] = refl
any?-filter p f (x ∷ xs) =
    ⊎_elim
    (λ (e : p x ≡ true). ap (any? f) (filter-yes p x xs e) ∙ ap (λ (b : Bool). f x || b) (any?-filter p f xs) ∙ rw e refl)
    (λ (e : p x ≡ false). ap (any? f) (filter-no p x xs e) ∙ any?-filter p f xs ∙ rw e refl)
    (bool_cases (p x))

-- Those that pass both tests are those that pass the second among those that pass the first.
pub filter-filter : {A : Type 0} (p f : A → Bool) (xs : List A) → filter f (filter p xs) ≡ filter (λ x. p x && f x) xs
filter-filter p f [] = refl
filter-filter {A} p f (x ∷ xs) =
    ⊎_elim
    (λ (e : p x ≡ true). ap (filter f) (filter-yes p x xs e) ∙ ap (λ (l : List A). cond (f x) (x ∷ l) l) (filter-filter p f xs) ∙ rw e refl)
    (λ (e : p x ≡ false). ap (filter f) (filter-no p x xs e) ∙ filter-filter p f xs ∙ rw e refl)
    (bool_cases (p x))

-- Some pass, of a list with one element more.
pub any-more : {A : Type 0} (f : A → Bool) (xs : List A) (y : A) → any? f (xs ++ (y ∷ [])) ≡ any? f xs || f y
any-more f [] y = or-none (f y)
  where
    or-none : (b : Bool) → (b || false) ≡ b
    or-none true = refl
    or-none false = refl
any-more f (x ∷ xs) y = ap (λ (b : Bool). f x || b) (any-more f xs y) ∙ or_assoc (f x) (any? f xs) (f y)
  where
    or_assoc : (a b c : Bool) → (a || (b || c)) ≡ ((a || b) || c)
    or_assoc true b c = refl
    or_assoc false b c = refl

-- All pass exactly if as many pass as there are.
pub all?-count : {A : Type 0} (f : A → Bool) (xs : List A) → all? f xs ≡ eqb (length (filter f xs)) (length xs)
all?-count f [] = refl
all?-count f (x ∷ xs) =
    ⊎_elim
    (λ (e : f x ≡ true).
    bool-ext (all? f (x ∷ xs)) (eqb (length (filter f (x ∷ xs))) (length (x ∷ xs)))
    (λ (a : all? f (x ∷ xs) ≡ true).
    let rest : length (filter f xs) ≡ length xs = eqb-true (length (filter f xs)) (length xs) (sym (all?-count f xs) ∙ (and-to (f x) (all? f xs) a).1) in
    eq-eqb (length (filter f (x ∷ xs))) (length (x ∷ xs)) (omega (arith, ap length (filter-yes f x xs e))))
    (λ (a : eqb (length (filter f (x ∷ xs))) (length (x ∷ xs)) ≡ true).
    let same = eqb-true (length (filter f (x ∷ xs))) (length (x ∷ xs)) a in
    let rest : length (filter f xs) ≡ length xs = omega (arith, same, ap length (filter-yes f x xs e)) in
    and-of (f x) (all? f xs) e (all?-count f xs ∙ eq-eqb (length (filter f xs)) (length xs) rest)))
    (λ (e : f x ≡ false).
    let fewer : length (filter f (x ∷ xs)) ≡ length (x ∷ xs) → ⊥ =
    λ (k : length (filter f (x ∷ xs)) ≡ length (x ∷ xs)). omega (arith, k, ap length (filter-no f x xs e), filter-fewer f xs) in
    ap (λ (b : Bool). b && all? f xs) e ∙ sym (ne_eqb (length (filter f (x ∷ xs))) (length (x ∷ xs)) fewer))
    (bool_cases (f x))
