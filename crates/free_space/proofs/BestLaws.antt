-- `best` takes of the prefixes that are large enough the smallest, and of these the lowest; and nothing else does.
-- Assumes nothing.
use Prim.Native.Nat.{ℕ, ◌≤◌, ◌<◌}
use mathlib.Core.Path.{◌≡◌, refl, sym, ap, subst}
use mathlib.Core.Logic.{inl, inr}
use mathlib.Core.Bool.{Bool, true, false, ◌&&◌, ◌||◌}
use mathlib.Core.List.{List, [], ◌∷◌}
use mathlib.Core.Option.{Option, none, some}
use native.Mathlib.Nat.{le_refl}
use native.Mathlib.Omega.{arith}
use lib.Arith.{lt_of_le-ne}
use lib.Dec.{leb, ltb, eqb}
use borrow.Author.Tests.{leb-true, leb-false, ltb-true, ltb-false, eqb-true, eqb-false}
use Rattle.lists.specs.Lists.{All, Any}
use Rattle.lists.specs.Properties.{OfSome}
use Rattle.lists.proofs.ListLaws.{all_map, any-all, all-member}
use Rattle.prefix.specs.declared.Prefix.{Prefix}
use Rattle.prefix.proofs.Nesting.{prefix-path}
use Rattle.free_space.specs.Space.{NotWorse}
use Rattle.free_space.specs.Grant.{better?, better, consider, best}

-- What `best` should answer.
abbrev pub Best : ℕ → List Prefix → Option Prefix → Type 0
Best length ws none = All (λ w. length < w.length) ws
Best length ws (some v) = (v.length ≤ length) × All (λ w. w.length ≤ length → NotWorse v w) ws

pub not-worse-refl : (v : Prefix) → NotWorse v v
not-worse-refl v = inr (refl, le_refl v.network)

pub not-worse-trans : (u v w : Prefix) → NotWorse u v → NotWorse v w → NotWorse u w
not-worse-trans u v w (inl a) (inl b) = inl (omega arith)
not-worse-trans u v w (inl a) (inr b) = inl (omega arith)
not-worse-trans u v w (inr a) (inl b) = inl (omega arith)
not-worse-trans u v w (inr a) (inr b) = inr (omega arith)

pub not-worse-antisym : (v w : Prefix) → NotWorse v w → NotWorse w v → v ≡ w
not-worse-antisym v w (inl a) (inl b) = absurd (omega arith)
not-worse-antisym v w (inl a) (inr b) = absurd (omega arith)
not-worse-antisym v w (inr a) (inl b) = absurd (omega arith)
not-worse-antisym v w (inr a) (inr b) = prefix-path v w (omega arith) a.0

-- what the test decides

abbrev Says : Bool → Prefix → Prefix → Type 0
Says true w v = NotWorse w v
Says false w v = NotWorse v w

says : (w v : Prefix) (s q t : Bool) → ltb v.length w.length ≡ s → eqb v.length w.length ≡ q → ltb w.network v.network ≡ t → Says (s || (q && t)) w v
says w v true q t d e f = inl (ltb-true v.length w.length d)
says w v false true true d e f = inr (sym (eqb-true v.length w.length e), omega (arith, ltb-true w.network v.network f))
says w v false true false d e f = inr (eqb-true v.length w.length e, ltb-false w.network v.network f)
says w v false false t d e f = inl (lt_of_le-ne (ltb-false v.length w.length d) (λ k. eqb-false v.length w.length e (sym k)))

better-says : (w v : Prefix) → Says (better? w v) w v
better-says w v = says w v (ltb v.length w.length) (eqb v.length w.length) (ltb w.network v.network) refl refl refl

better-true : (w v : Prefix) → better? w v ≡ true → NotWorse w v
better-true w v e = subst (λ (t : Bool). Says t w v) e (better-says w v)

better-false : (w v : Prefix) → better? w v ≡ false → NotWorse v w
better-false w v e = subst (λ (t : Bool). Says t w v) e (better-says w v)

-- `best` is the best

best-better : (length : ℕ) (w v : Prefix) (ws : List Prefix) (t : Bool) → better? w v ≡ t → w.length ≤ length → Best length ws (some v) → Best length (w ∷ ws) (better t w v)
best-better length w v ws true e p b = (p, ((λ _. not-worse-refl w), all_map (λ x k q. not-worse-trans w v x (better-true w v e) (k q)) ws b.1))
best-better length w v ws false e p b = (b.0, ((λ _. better-false w v e), b.1))

best-step : (length : ℕ) (w : Prefix) (ws : List Prefix) (t : Bool) → leb w.length length ≡ t → (o : Option Prefix) → Best length ws o → Best length (w ∷ ws) (consider t w o)
best-step length w ws false e none b = (leb-false _ _ e, b)
best-step length w ws false e (some v) b = (b.0, ((λ q. absurd (omega (arith, leb-false w.length length e))), b.1))
best-step length w ws true e none b = (leb-true _ _ e, ((λ _. not-worse-refl w), all_map (λ x k q. absurd (omega arith)) ws b))
best-step length w ws true e (some v) b = best-better length w v ws (better? w v) refl (leb-true _ _ e) b

pub best-best : (length : ℕ) (ws : List Prefix) → Best length ws (best length ws)
best-best length [] = tt
best-best length (w ∷ ws) = best-step length w ws (leb w.length length) refl (best length ws) (best-best length ws)

-- What holds of each prefix holds of it.

holds-better : (P : Prefix → Type 0) (t : Bool) (w v : Prefix) → P w → P v → OfSome P (better t w v)
holds-better P true w v p q = p
holds-better P false w v p q = q

holds-consider : (P : Prefix → Type 0) (t : Bool) (w : Prefix) (o : Option Prefix) → P w → OfSome P o → OfSome P (consider t w o)
holds-consider P false w o p q = q
holds-consider P true w none p q = p
holds-consider P true w (some v) p q = holds-better P (better? w v) w v p q

pub best-holds : (P : Prefix → Type 0) (length : ℕ) (ws : List Prefix) → All P ws → OfSome P (best length ws)
best-holds P length [] a = tt
best-holds P length (w ∷ ws) a = holds-consider P (leb w.length length) w (best length ws) a.0 (best-holds P length ws a.1)

-- `best` is the one answer that is best and is one of the prefixes.
pub best-unique : (length : ℕ) (ws : List Prefix) (o : Option Prefix) → Best length ws o → OfSome (λ v. Any (λ x. x ≡ v) ws) o → best length ws ≡ o
best-unique length ws o b a = go (best length ws) (best-best length ws) (best-holds (λ v. Any (λ x. x ≡ v) ws) length ws (all-member ws)) o b a
  where
    clash : (w : Prefix) → w.length ≤ length → Any (λ x. x ≡ w) ws → All (λ x. length < x.length) ws → ⊥
    clash w q a l = let t = any-all ws a l in omega (arith, t.2, ap (λ (x : Prefix). x.length) t.1)

    worse : (v w : Prefix) → Best length ws (some v) → w.length ≤ length → Any (λ x. x ≡ w) ws → NotWorse v w
    worse v w b q a = let t = any-all ws a b.1 in subst (NotWorse v) t.1 (t.2 (subst (λ (x : Prefix). x.length ≤ length) (sym t.1) q))

    go : (p : Option Prefix) → Best length ws p → OfSome (λ v. Any (λ x. x ≡ v) ws) p → (o : Option Prefix) → Best length ws o → OfSome (λ v. Any (λ x. x ≡ v) ws) o → p ≡ o
    go none b a none b' a' = refl
    go none b a (some w) b' a' = absurd (clash w b'.0 a' b)
    go (some v) b a none b' a' = absurd (clash v b.0 a b')
    go (some v) b a (some w) b' a' = ap (λ (x : Prefix). some x) (not-worse-antisym v w (worse v w b b'.0 a') (worse w v b' b.0 a))
