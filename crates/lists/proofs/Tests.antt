-- Laws of Booleans and of lists of tests.
-- Assumes nothing.
use mathlib.Core.Path.{◌≡◌, refl, sym}
use mathlib.Core.Logic.{◌⊎◌, inl, inr, ⊎_elim}
use mathlib.Core.Bool.{Bool, true, false, not, cond, ◌&&◌, ◌||◌, true≢false, false≢true}
use mathlib.Core.List.{List, [], ◌∷◌}
use Rattle.lists.specs.Lists.{All, Any, and, all?, any?}

pub bool_cases : (b : Bool) → (b ≡ true) ⊎ (b ≡ false)
bool_cases true = inl refl
bool_cases false = inr refl

pub not-true⇒false : (b : Bool) → (b ≡ true → ⊥) → b ≡ false
not-true⇒false true h = absurd (h refl)
not-true⇒false false h = refl

-- b is true exactly where c is.
pub bool-ext : (b c : Bool) → (b ≡ true → c ≡ true) → (c ≡ true → b ≡ true) → b ≡ c
bool-ext true c f g = sym (f refl)
bool-ext false true f g = absurd (false≢true (g refl))
bool-ext false false f g = refl

pub and-to : (s t : Bool) → (s && t) ≡ true → (s ≡ true) × (t ≡ true)
and-to true t e = (refl, e)
and-to false t e = absurd (false≢true e)

pub and-of : (s t : Bool) → s ≡ true → t ≡ true → (s && t) ≡ true
and-of s t e f = rw (e, f)

pub or-to : (s t : Bool) → (s || t) ≡ true → (s ≡ true) ⊎ (t ≡ true)
or-to true t e = inl refl
or-to false t e = inr e

pub or_left : (s t : Bool) → s ≡ true → (s || t) ≡ true
or_left s t e = rw e

pub or_right : (s t : Bool) → t ≡ true → (s || t) ≡ true
or_right true t e = refl
or_right false t e = e

pub not-of : (b : Bool) → b ≡ false → not b ≡ true
not-of b e = rw e

pub not-to : (b : Bool) → b ≡ true → not b ≡ false
not-to b e = rw e

pub cond-true : {A : Type 0} (b : Bool) (x y : A) → b ≡ true → cond b x y ≡ x
cond-true true x y e = refl
cond-true false x y e = absurd (false≢true e)

pub cond-false : {A : Type 0} (b : Bool) (x y : A) → b ≡ false → cond b x y ≡ y
cond-false true x y e = absurd (true≢false e)
cond-false false x y e = refl

pub and-list-to : (bs : List Bool) → and bs ≡ true → All (λ (b : Bool). b ≡ true) bs
and-list-to [] e = tt
and-list-to (b ∷ bs) e = let t = and-to b (and bs) e in (t.0, and-list-to bs t.1)

pub and-list-of : (bs : List Bool) → All (λ (b : Bool). b ≡ true) bs → and bs ≡ true
and-list-of [] a = refl
and-list-of (b ∷ bs) a = and-of b (and bs) a.0 (and-list-of bs a.1)

-- The tests of all and of some element decide what they say, where the test of one does.
pub all?-to : {A : Type 0} {P : A → Type 0} (f : A → Bool) → ((x : A) → f x ≡ true → P x) → (xs : List A) → all? f xs ≡ true → All P xs
all?-to f p [] e = tt
all?-to f p (x ∷ xs) e = let t = and-to (f x) (all? f xs) e in (p x t.0, all?-to f p xs t.1)

pub all?-of : {A : Type 0} {P : A → Type 0} (f : A → Bool) → ((x : A) → P x → f x ≡ true) → (xs : List A) → All P xs → all? f xs ≡ true
all?-of f p [] a = refl
all?-of f p (x ∷ xs) a = and-of (f x) (all? f xs) (p x a.0) (all?-of f p xs a.1)

pub any?-to : {A : Type 0} {P : A → Type 0} (f : A → Bool) → ((x : A) → f x ≡ true → P x) → (xs : List A) → any? f xs ≡ true → Any P xs
any?-to f p [] e = absurd (false≢true e)
any?-to f p (x ∷ xs) e = ⊎_elim (λ t. inl (p x t)) (λ t. inr (any?-to f p xs t)) (or-to (f x) (any? f xs) e)

pub any?-of : {A : Type 0} {P : A → Type 0} (f : A → Bool) → ((x : A) → P x → f x ≡ true) → (xs : List A) → Any P xs → any? f xs ≡ true
any?-of f p [] a = absurd a
any?-of f p (x ∷ xs) (inl a) = or_left (f x) (any? f xs) (p x a)
any?-of f p (x ∷ xs) (inr a) = or_right (f x) (any? f xs) (any?-of f p xs a)
