-- Laws of All, Any, Pairwise and Holds.
-- Assumes nothing.
use mathlib.Core.Path.{◌≡◌, refl}
use mathlib.Core.Logic.{◌⊎◌, inl, inr, ⊎_elim}
use mathlib.Core.List.{List, [], ◌∷◌, ◌++◌, map}
use mathlib.Core.Option.{Option, none, some}
use Rattle.lists.specs.Lists.{All, Any, Pairwise}
use Rattle.lists.specs.Properties.{OfSome}

pub all_map : {A : Type 0} {P Q : A → Type 0} → ((x : A) → P x → Q x) → (xs : List A) → All P xs → All Q xs
all_map f [] a = tt
all_map f (x ∷ xs) a = (f x a.0, all_map f xs a.1)

pub all-map₂ : {A : Type 0} {P Q R : A → Type 0} → ((x : A) → P x → Q x → R x) → (xs : List A) → All P xs → All Q xs → All R xs
all-map₂ f [] a b = tt
all-map₂ f (x ∷ xs) a b = (f x a.0 b.0, all-map₂ f xs a.1 b.1)

pub all_append : {A : Type 0} (P : A → Type 0) (xs ys : List A) → All P xs → All P ys → All P (xs ++ ys)
all_append P [] ys a b = b
all_append P (x ∷ xs) ys a b = (a.0, all_append P xs ys a.1 b)

pub all_left : {A : Type 0} (P : A → Type 0) (xs ys : List A) → All P (xs ++ ys) → All P xs
all_left P [] ys a = tt
all_left P (x ∷ xs) ys a = (a.0, all_left P xs ys a.1)

pub all_right : {A : Type 0} (P : A → Type 0) (xs ys : List A) → All P (xs ++ ys) → All P ys
all_right P [] ys a = a
all_right P (x ∷ xs) ys a = all_right P xs ys a.1

-- What holds of the images, and of the elements.
pub all-image : {A B : Type 0} (f : A → B) (P : B → Type 0) (xs : List A) → All (λ x. P (f x)) xs → All P (map f xs)
all-image f P [] a = tt
all-image f P (x ∷ xs) a = (a.0, all-image f P xs a.1)

pub all-preimage : {A B : Type 0} (f : A → B) (P : B → Type 0) (xs : List A) → All P (map f xs) → All (λ x. P (f x)) xs
all-preimage f P [] a = tt
all-preimage f P (x ∷ xs) a = (a.0, all-preimage f P xs a.1)

pub all-every : {A : Type 0} {P : A → Type 0} → ((x : A) → P x) → (xs : List A) → All P xs
all-every f [] = tt
all-every f (x ∷ xs) = (f x, all-every f xs)

pub any-map : {A : Type 0} {P Q : A → Type 0} → ((x : A) → P x → Q x) → (xs : List A) → Any P xs → Any Q xs
any-map f [] a = absurd a
any-map f (x ∷ xs) (inl a) = inl (f x a)
any-map f (x ∷ xs) (inr a) = inr (any-map f xs a)

pub any-map₂ : {A : Type 0} {P Q R : A → Type 0} → ((x : A) → P x → Q x → R x) → (xs : List A) → Any P xs → All Q xs → Any R xs
any-map₂ f [] a b = absurd a
any-map₂ f (x ∷ xs) (inl a) b = inl (f x a b.0)
any-map₂ f (x ∷ xs) (inr a) b = inr (any-map₂ f xs a b.1)

pub any_left : {A : Type 0} (P : A → Type 0) (xs ys : List A) → Any P xs → Any P (xs ++ ys)
any_left P [] ys a = absurd a
any_left P (x ∷ xs) ys (inl a) = inl a
any_left P (x ∷ xs) ys (inr a) = inr (any_left P xs ys a)

pub any-right : {A : Type 0} (P : A → Type 0) (xs ys : List A) → Any P ys → Any P (xs ++ ys)
any-right P [] ys a = a
any-right P (x ∷ xs) ys a = inr (any-right P xs ys a)

pub any_append : {A : Type 0} (P : A → Type 0) (xs ys : List A) → Any P (xs ++ ys) → Any P xs ⊎ Any P ys
any_append P [] ys a = inr a
any_append P (x ∷ xs) ys (inl a) = inl (inl a)
any_append P (x ∷ xs) ys (inr a) = ⊎_elim (λ b. inl (inr b)) inr (any_append P xs ys a)

-- An element of which both hold.
pub any-all : {A : Type 0} {P Q : A → Type 0} (xs : List A) → Any P xs → All Q xs → (x : A) × P x × Q x
any-all [] a b = absurd a
any-all (x ∷ xs) (inl a) b = (x, a, b.0)
any-all (x ∷ xs) (inr a) b = any-all xs a b.1

-- Each element is one of the elements.
pub all-member : {A : Type 0} (xs : List A) → All (λ v. Any (λ x. x ≡ v) xs) xs
all-member [] = tt
all-member (x ∷ xs) = (inl refl, all_map (λ v a. inr a) xs (all-member xs))

pub pairwise_map : {A : Type 0} {R S : A → A → Type 0} → ((x y : A) → R x y → S x y) → (xs : List A) → Pairwise R xs → Pairwise S xs
pairwise_map f [] p = tt
pairwise_map f (x ∷ xs) p = (all_map (f x) xs p.0, pairwise_map f xs p.1)

pub pairwise_append : {A : Type 0} (R : A → A → Type 0) (xs ys : List A) → Pairwise R xs → Pairwise R ys → All (λ x. All (R x) ys) xs → Pairwise R (xs ++ ys)
pairwise_append R [] ys p q a = q
pairwise_append R (x ∷ xs) ys p q a = (all_append (R x) xs ys p.0 a.0, pairwise_append R xs ys p.1 q a.1)

pub pairwise_image : {A B : Type 0} (f : A → B) (R : B → B → Type 0) (xs : List A) → Pairwise (λ x y. R (f x) (f y)) xs → Pairwise R (map f xs)
pairwise_image f R [] p = tt
pairwise_image f R (x ∷ xs) p = (all-image f (R (f x)) xs p.0, pairwise_image f R xs p.1)

pub holds-map : {A : Type 0} {P Q : A → Type 0} → ((x : A) → P x → Q x) → (o : Option A) → OfSome P o → OfSome Q o
holds-map f none a = tt
holds-map f (some x) a = f x a
