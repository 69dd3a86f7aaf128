-- What a permutation keeps: what holds of each, of some, or of each two elements, the images, the length.
-- Assumes nothing.
use Prim.Native.Nat.{suc}
use mathlib.Core.Path.{◌≡◌, refl, ap, subst, ◌∙◌}
use mathlib.Core.Logic.{inl, inr}
use mathlib.Core.List.{List, map, Permᴰ}
use lib.ListN.{length}
use Rattle.lists.specs.Lists.{All, Any, Pairwise}

pub perm-all : {A : Type 0} (P : A → Type 0) {xs ys : List A} → Permᴰ xs ys → All P xs → All P ys
perm-all P Permᴰ.nil a = tt
perm-all P (Permᴰ.cons e d) a = (subst P e a.0, perm-all P d a.1)
perm-all P (Permᴰ.swap e₁ e₂) a = (subst P e₂ a.1.0, (subst P e₁ a.0, a.1.1))
perm-all P (Permᴰ.trans d₁ d₂) a = perm-all P d₂ (perm-all P d₁ a)

pub perm-any : {A : Type 0} (P : A → Type 0) {xs ys : List A} → Permᴰ xs ys → Any P xs → Any P ys
perm-any P Permᴰ.nil a = a
perm-any P (Permᴰ.cons e d) (inl a) = inl (subst P e a)
perm-any P (Permᴰ.cons e d) (inr a) = inr (perm-any P d a)
perm-any P (Permᴰ.swap e₁ e₂) (inl a) = inr (inl (subst P e₁ a))
perm-any P (Permᴰ.swap e₁ e₂) (inr (inl a)) = inl (subst P e₂ a)
perm-any P (Permᴰ.swap e₁ e₂) (inr (inr a)) = inr (inr a)
perm-any P (Permᴰ.trans d₁ d₂) a = perm-any P d₂ (perm-any P d₁ a)

pub perm-map : {A B : Type 0} (f : A → B) {xs ys : List A} → Permᴰ xs ys → Permᴰ (map f xs) (map f ys)
perm-map f Permᴰ.nil = Permᴰ.nil
perm-map f (Permᴰ.cons e d) = Permᴰ.cons (ap f e) (perm-map f d)
perm-map f (Permᴰ.swap e₁ e₂) = Permᴰ.swap (ap f e₁) (ap f e₂)
perm-map f (Permᴰ.trans d₁ d₂) = Permᴰ.trans (perm-map f d₁) (perm-map f d₂)

pub perm-length : {A : Type 0} {xs ys : List A} → Permᴰ xs ys → length xs ≡ length ys
perm-length Permᴰ.nil = refl
perm-length (Permᴰ.cons e d) = ap suc (perm-length d)
perm-length (Permᴰ.swap e₁ e₂) = refl
perm-length (Permᴰ.trans d₁ d₂) = perm-length d₁ ∙ perm-length d₂

-- What holds of each two, whichever comes first, holds in every order.
pub perm-pairwise : {A : Type 0} (R : A → A → Type 0) → ((x y : A) → R x y → R y x) → {xs ys : List A} → Permᴰ xs ys → Pairwise R xs → Pairwise R ys
perm-pairwise R turn Permᴰ.nil a = tt
perm-pairwise R turn (Permᴰ.cons {a = x} {l₂ = ys} e d) p = (subst (λ z. All (R z) ys) e (perm-all (R x) d p.0), perm-pairwise R turn d p.1)
perm-pairwise R turn (Permᴰ.swap {a = x} {b = y} {a' = y'} {l = l} e₁ e₂) p = (
  (subst (R y') e₁ (subst (λ z. R z x) e₂ (turn x y p.0.0)), subst (λ z. All (R z) l) e₂ p.1.0),
  (subst (λ z. All (R z) l) e₁ p.0.1, p.1.1),
)
perm-pairwise R turn (Permᴰ.trans d₁ d₂) a = perm-pairwise R turn d₂ (perm-pairwise R turn d₁ a)
