-- The whole free prefixes in one prefix: what the walk lists, and what a new lease does to them.
-- Assumes nothing.
use Prim.Native.Nat.{ℕ, zero, suc, ◌+◌, ◌-◌, ◌≤◌, ◌<◌}
use mathlib.Core.Path.{◌≡◌, refl, sym, ap, subst, ◌∙◌}
use mathlib.Core.Logic.{◌⊎◌, inl, inr, ⊎_elim, by_cases}
use mathlib.Core.Bool.{Bool, true, false, true≢false}
use mathlib.Core.List.{List, [], ◌∷◌, ◌++◌}
use native.Mathlib.Nat.{add-zero}
use native.Mathlib.Decide.{dec_lt}
use native.Mathlib.Omega.{arith}
use Rattle.lists.specs.Lists.{All, Any}
use Rattle.lists.proofs.Tests.{not-true⇒false, all?-to, all?-of, any?-to}
use Rattle.lists.proofs.ListLaws.{all_map, all-map₂, all_append, any_left, any-right, any-all}
use Rattle.prefix.specs.declared.Prefix.{Prefix}
use Rattle.prefix.specs.Prefixes.{Aligned, Inside, inside?, Apart, apart?, lower, upper}
use Rattle.prefix.proofs.PrefixLaws.{inside-to, inside_of, inside-not, apart-to, apart_of, apart-not, apart-sym, lower-inside, upper-inside}
use Rattle.prefix.proofs.Nesting.{order, inside-refl, inside-trans, apart-sub, apart-absurd, all-apart-sub, inside-order, inside-same-order, aligned-lower, aligned-upper, in-half}
use Rattle.free_space.specs.Space.{unused?}
use Rattle.free_space.specs.Grant.{covered?, pick, walk}
use Rattle.free_space.proofs.Weights.{Up, up_le, rest}

-- what the tests decide

pub unused-to : (leases : List Prefix) (p : Prefix) → unused? leases p ≡ true → All (Apart p) leases
unused-to leases p = all?-to (apart? p) (apart-to p) leases

pub unused-of : (leases : List Prefix) (p : Prefix) → All (Apart p) leases → unused? leases p ≡ true
unused-of leases p = all?-of (apart? p) (apart_of p) leases

pub covered-to : (outer : List Prefix) (p : Prefix) → covered? outer p ≡ true → Any (Inside p) outer
covered-to outer p = any?-to (inside? p) (inside-to p) outer

-- A walk goes down to length 32.
abbrev pub Level : ℕ → Prefix → Type 0
Level left p = p.length + left ≡ 32

pub short : (h : ℕ) (p : Prefix) → Level (suc h) p → p.length < 32
short h p v = omega arith

-- The sum of a number for each prefix, that goes by its order.
abbrev pub sum : (ℕ → ℕ) → List Prefix → ℕ
sum f [] = 0
sum f (w ∷ ws) = f (order w) + sum f ws

pub sum-append : (f : ℕ → ℕ) (xs ys : List Prefix) → sum f (xs ++ ys) ≡ sum f xs + sum f ys
sum-append f [] ys = omega arith
sum-append f (x ∷ xs) ys = omega (arith, sum-append f xs ys)

-- the clauses of the walk

pub walk-unused : (leases : List Prefix) (h : ℕ) (p : Prefix) → All (Apart p) leases → walk leases h p ≡ p ∷ []
walk-unused leases zero p a = rw (unused-of leases p a)
walk-unused leases (suc h) p a = rw (unused-of leases p a)

pub walk-covered : (leases : List Prefix) (h : ℕ) (p : Prefix) → unused? leases p ≡ false → covered? leases p ≡ true → walk leases h p ≡ []
walk-covered leases zero p e c = rw (e, c)
walk-covered leases (suc h) p e c = rw (e, c)

pub walk-halves : (leases : List Prefix) (h : ℕ) (p : Prefix) → unused? leases p ≡ false → covered? leases p ≡ false
    → walk leases (suc h) p ≡ walk leases h (lower p) ++ walk leases h (upper p)
walk-halves leases h p e c = rw (e, c)

-- A lease apart from the prefix changes nothing in it.
pub walk-skip : (leases : List Prefix) (b : Prefix) (h : ℕ) (p : Prefix) → Level h p → Apart p b → walk (b ∷ leases) h p ≡ walk leases h p
walk-skip leases b zero p v a = rw (apart_of p b a, inside-not p b (λ i. apart-absurd p b i a))
walk-skip leases b (suc h) p v a =
    rw (
      apart_of p b a,
      inside-not p b (λ i. apart-absurd p b i a),
      walk-skip leases b h (lower p) (omega arith) (apart-sub (lower p) p b (lower-inside p (short h p v)) a),
      walk-skip leases b h (upper p) (omega arith) (apart-sub (upper p) p b (upper-inside p (short h p v)) a),
    )

carve-no : (b p : Prefix) → order b < order p → Inside p b → ⊥
carve-no b p q k = omega (arith, inside-order p b k)

carve-off : (p : Prefix) (leases : List Prefix) → All (Apart p) leases → Any (Inside p) leases → ⊥
carve-off p leases a c = let t = any-all leases c a in apart-absurd p t.0 t.1 t.2

beside : (leases : List Prefix) (b : Prefix) (h : ℕ) (p : Prefix) (f : ℕ → ℕ) → Level h p → Apart p b → All (Apart p) leases → sum f (walk (b ∷ leases) h p) ≡ f h
beside leases b h p f v q a =
    let e : order p ≡ h = omega arith in
    ap (sum f) (walk-skip leases b h p v q ∙ walk-unused leases h p a) ∙ add-zero (f (order p)) ∙ ap f e

-- Where an aligned prefix is taken out of an unused one, one of each order between is left.
carve : {j h : ℕ} (u : Up j h) (leases : List Prefix) (p b : Prefix) (f : ℕ → ℕ)
    → All (Apart p) leases → Level h p → order b ≡ j → Aligned p → Aligned b → Inside b p → sum f (walk (b ∷ leases) h p) ≡ rest f u
carve {j} Up.here leases p b f a v o u w i =
    let k : Inside p b = inside-same-order b p (omega arith) i in
    ap (sum f) (walk-covered (b ∷ leases) j p
    (rw (apart-not p b (apart-absurd p b k)))
    (rw (inside_of p b k)))
carve {j} (Up.next {h = h} q) leases p b f a v o u w i =
    let l : j ≤ h = up_le q in
    let s = short h p v in
    let e : unused? (b ∷ leases) p ≡ false = rw (apart-not p b (λ k. apart-absurd b p i (apart-sym p b k))) in
    let d : covered? (b ∷ leases) p ≡ false =
    rw (inside-not p b (λ k. carve-no b p (omega arith) k)) (not-true⇒false (covered? leases p) (λ t. carve-off p leases a (covered-to leases p t))) in
    let low = all-apart-sub (lower p) p leases (lower-inside p s) a in
    let high = all-apart-sub (upper p) p leases (upper-inside p s) a in
    ap (sum f) (walk-halves (b ∷ leases) h p e d) ∙ sum-append f (walk (b ∷ leases) h (lower p)) (walk (b ∷ leases) h (upper p)) ∙
    ⊎_elim
    (λ (k : Inside b (lower p)).
    omega (arith, carve q leases (lower p) b f low (omega arith) o (aligned-lower p u) w k, beside leases b h (upper p) f (omega arith) (inr k.1) high))
    (λ (k : Inside b (upper p)).
    omega (arith, carve q leases (upper p) b f high (omega arith) o (aligned-upper p u) w k, beside leases b h (lower p) f (omega arith) (inl k.0) low))
    (in-half p u b s w (omega arith) i)

-- What is known of each prefix that a walk lists.
pub record Listed (leases : List Prefix) (p w : Prefix) : Type 0 where
  pub inside : Inside w p
  pub length : w.length ≤ 32
  pub aligned : Aligned w
  pub unused : All (Apart w) leases

listed-up : (leases : List Prefix) (x p w : Prefix) → Inside x p → Listed leases x w → Listed leases p w
listed-up leases x p w i k = record { inside = inside-trans w x p k.inside i; length = k.length; aligned = k.aligned; unused = k.unused }

listed-self : (leases : List Prefix) (p : Prefix) → p.length ≤ 32 → Aligned p → All (Apart p) leases → Listed leases p p
listed-self leases p l u a = record { inside = inside-refl p; length = l; aligned = u; unused = a }

pub pick_all : (P : Prefix → Type 0) (s t : Bool) (p : Prefix) (ws : List Prefix) → (s ≡ true → P p) → (s ≡ false → t ≡ false → All P ws) → All P (pick s t p ws)
pick_all P true t p ws f g = (f refl, tt)
pick_all P false true p ws f g = tt
pick_all P false false p ws f g = g refl refl

pub walk-listed : (leases : List Prefix) (h : ℕ) (p : Prefix) → Level h p → Aligned p → All (Listed leases p) (walk leases h p)
walk-listed leases zero p v u =
    pick_all (Listed leases p) (unused? leases p) (covered? leases p) p [] (λ e. listed-self leases p (omega arith) u (unused-to leases p e)) (λ _ _. tt)
walk-listed leases (suc h) p v u =
    pick_all (Listed leases p) (unused? leases p) (covered? leases p) p (walk leases h (lower p) ++ walk leases h (upper p))
    (λ e. listed-self leases p (omega arith) u (unused-to leases p e))
    (λ _ _. all_append (Listed leases p) (walk leases h (lower p)) (walk leases h (upper p))
    (all_map (λ w. listed-up leases (lower p) p w (lower-inside p (short h p v))) (walk leases h (lower p)) (walk-listed leases h (lower p) (omega arith) (aligned-lower p u)))
    (all_map (λ w. listed-up leases (upper p) p w (upper-inside p (short h p v))) (walk leases h (upper p)) (walk-listed leases h (upper p) (omega arith) (aligned-upper p u))))

-- Each unused prefix inside p is inside one that the walk lists.
pick-any : (P : Prefix → Type 0) (s t : Bool) (p : Prefix) (ws : List Prefix) → P p → (t ≡ true → ⊥) → (s ≡ false → Any P ws) → Any P (pick s t p ws)
pick-any P true t p ws a c q = inl a
pick-any P false true p ws a c q = absurd (c refl)
pick-any P false false p ws a c q = q refl

cover-unused : (leases : List Prefix) (p b : Prefix) → order p ≤ order b → Inside b p → All (Apart b) leases → unused? leases p ≡ true
cover-unused leases p b o i a = unused-of leases p (all-apart-sub p b leases (inside-same-order b p (omega (arith, inside-order b p i)) i) a)

cover-not : (leases : List Prefix) (p b : Prefix) → Inside b p → All (Apart b) leases → covered? leases p ≡ true → ⊥
cover-not leases p b i a e =
    let t = any-all leases (covered-to leases p e) a in
    apart-absurd b t.0 (inside-trans b p t.0 i t.1) t.2

pub walk-covers : (leases : List Prefix) (h : ℕ) (p b : Prefix) → Level h p → Aligned p → Aligned b → Inside b p → All (Apart b) leases → Any (Inside b) (walk leases h p)
walk-covers leases zero p b v u w i a =
    pick-any (Inside b) (unused? leases p) (covered? leases p) p [] i (cover-not leases p b i a)
    (λ e. true≢false (sym (cover-unused leases p b (omega arith) i a) ∙ e))
walk-covers leases (suc h) p b v u w i a =
    let low : List Prefix = walk leases h (lower p) in
    let high : List Prefix = walk leases h (upper p) in
    pick-any (Inside b) (unused? leases p) (covered? leases p) p (low ++ high) i (cover-not leases p b i a)
    (λ e. by_cases (dec_lt (order b) (order p))
    (λ q. ⊎_elim
    (λ k. any_left (Inside b) low high (walk-covers leases h (lower p) b (omega arith) (aligned-lower p u) w k a))
    (λ k. any-right (Inside b) low high (walk-covers leases h (upper p) b (omega arith) (aligned-upper p u) w k a))
    (in-half p u b (short h p v) w q i))
    (λ q. absurd (true≢false (sym (cover-unused leases p b (omega arith) i a) ∙ e))))

-- What taking b out of the listed prefix w does to those listed in p: w goes, and what is left of it comes.
abbrev pub Removal : List Prefix → ℕ → Prefix → Prefix → Type 0
Removal leases h p w = (b : Prefix) → Aligned b → Inside b w → (u : Up (order b) (order w)) (f : ℕ → ℕ)
    → sum f (walk (b ∷ leases) h p) + f (order w) ≡ sum f (walk leases h p) + rest f u

removal-self : (leases : List Prefix) (h : ℕ) (p : Prefix) → Level h p → Aligned p → unused? leases p ≡ true → Removal leases h p p
removal-self leases h p v u e b w i q f =
    let a = unused-to leases p e in
    let o : h ≡ order p = omega arith in
    subst (λ (x : ℕ). sum f (walk (b ∷ leases) x p) + f (order p) ≡ sum f (walk leases x p) + rest f q) (sym o)
    (omega (arith, carve q leases p b f a (omega arith) refl u w i, ap (sum f) (walk-unused leases (order p) p a)))

module _ (leases : List Prefix) (h : ℕ) (p : Prefix) (v : Level (suc h) p) (e : unused? leases p ≡ false) (d : covered? leases p ≡ false) where
  sum-halves : (f : ℕ → ℕ) → sum f (walk leases (suc h) p) ≡ sum f (walk leases h (lower p)) + sum f (walk leases h (upper p))
  sum-halves f = ap (sum f) (walk-halves leases h p e d) ∙ sum-append f (walk leases h (lower p)) (walk leases h (upper p))

  sum-halves-less : (b : Prefix) (f : ℕ → ℕ) → order b < order p → Inside b p
      → sum f (walk (b ∷ leases) (suc h) p) ≡ sum f (walk (b ∷ leases) h (lower p)) + sum f (walk (b ∷ leases) h (upper p))
  sum-halves-less b f q i =
      ap (sum f) (walk-halves (b ∷ leases) h p
      (rw (apart-not p b (λ k. apart-absurd b p i (apart-sym p b k))))
      (rw (inside-not p b (λ k. carve-no b p q k)) d))
      ∙ sum-append f (walk (b ∷ leases) h (lower p)) (walk (b ∷ leases) h (upper p))

  removal-lower : (w : Prefix) → Listed leases (lower p) w → Removal leases h (lower p) w → Removal leases (suc h) p w
  removal-lower w k r b a i q f =
      let j = inside-trans b w (lower p) i k.inside in
      omega (
        arith,
        sum-halves-less b f (omega (arith, inside-order b (lower p) j)) (inside-trans b (lower p) p j (lower-inside p (short h p v))),
        sum-halves f,
        r b a i q f,
        ap (sum f) (walk-skip leases b h (upper p) (omega arith) (inr j.1)),
      )

  removal-upper : (w : Prefix) → Listed leases (upper p) w → Removal leases h (upper p) w → Removal leases (suc h) p w
  removal-upper w k r b a i q f =
      let j = inside-trans b w (upper p) i k.inside in
      omega (
        arith,
        sum-halves-less b f (omega (arith, inside-order b (upper p) j)) (inside-trans b (upper p) p j (upper-inside p (short h p v))),
        sum-halves f,
        r b a i q f,
        ap (sum f) (walk-skip leases b h (lower p) (omega arith) (inl j.0)),
      )

pub walk-removal : (leases : List Prefix) (h : ℕ) (p : Prefix) → Level h p → Aligned p → All (Removal leases h p) (walk leases h p)
walk-removal leases zero p v u = pick_all (Removal leases 0 p) (unused? leases p) (covered? leases p) p [] (removal-self leases 0 p v u) (λ _ _. tt)
walk-removal leases (suc h) p v u =
    let low : List Prefix = walk leases h (lower p) in
    let high : List Prefix = walk leases h (upper p) in
    pick_all (Removal leases (suc h) p) (unused? leases p) (covered? leases p) p (low ++ high) (removal-self leases (suc h) p v u)
    (λ e d. all_append (Removal leases (suc h) p) low high
    (all-map₂ (removal-lower leases h p v e d) low (walk-listed leases h (lower p) (omega arith) (aligned-lower p u)) (walk-removal leases h (lower p) (omega arith) (aligned-lower p u)))
    (all-map₂ (removal-upper leases h p v e d) high (walk-listed leases h (upper p) (omega arith) (aligned-upper p u)) (walk-removal leases h (upper p) (omega arith) (aligned-upper p u))))
