-- The order in which the leases are held does not matter.
-- Assumes nothing.
use Prim.Native.Nat.{ℕ, zero, suc, ◌-◌}
use mathlib.Core.Path.{◌≡◌, refl, ap}
use mathlib.Core.Bool.{true}
use mathlib.Core.List.Permᴰ
use mathlib.Core.List.{List, [], ◌∷◌, Permᴰ}
use Rattle.lists.specs.Lists.{Any}
use Rattle.lists.proofs.Tests.{bool-ext, any?-of}
use Rattle.lists.proofs.Permutations.{perm-all, perm-any}
use Rattle.prefix.specs.declared.Prefix.{Prefix}
use Rattle.prefix.specs.Prefixes.{Apart, Inside, inside?, lower, upper}
use Rattle.prefix.proofs.PrefixLaws.{inside_of}
use Rattle.free_space.specs.Space.{Free, unused?}
use Rattle.free_space.specs.Grant.{covered?, walk, wholes, best, lowest_part, grant}
use Rattle.free_space.proofs.WalkLaws.{unused-to, unused-of, covered-to}

pub covered_of : (outer : List Prefix) (p : Prefix) → Any (Inside p) outer → covered? outer p ≡ true
covered_of outer p = any?-of (inside? p) (inside_of p) outer

unused-perm : {ls ms : List Prefix} → Permᴰ ls ms → (p : Prefix) → unused? ls p ≡ unused? ms p
unused-perm {ls} {ms} d p =
    bool-ext (unused? ls p) (unused? ms p)
    (λ e. unused-of ms p (perm-all (Apart p) d (unused-to ls p e)))
    (λ e. unused-of ls p (perm-all (Apart p) (Permᴰ.symm d) (unused-to ms p e)))

covered-perm : {ls ms : List Prefix} → Permᴰ ls ms → (p : Prefix) → covered? ls p ≡ covered? ms p
covered-perm {ls} {ms} d p =
    bool-ext (covered? ls p) (covered? ms p)
    (λ e. covered_of ms p (perm-any (Inside p) d (covered-to ls p e)))
    (λ e. covered_of ls p (perm-any (Inside p) (Permᴰ.symm d) (covered-to ms p e)))

walk-perm : {ls ms : List Prefix} → Permᴰ ls ms → (h : ℕ) (p : Prefix) → walk ls h p ≡ walk ms h p
walk-perm d zero p = rw (unused-perm d p, covered-perm d p)
walk-perm d (suc h) p = rw (unused-perm d p, covered-perm d p, walk-perm d h (lower p), walk-perm d h (upper p))

pub wholes-perm : (pools : List Prefix) {ls ms : List Prefix} → Permᴰ ls ms → wholes pools ls ≡ wholes pools ms
wholes-perm [] d = refl
wholes-perm (p ∷ ps) d = rw (walk-perm d (32 - p.length) p, wholes-perm ps d)

pub grant-perm : (pools : List Prefix) {ls ms : List Prefix} → Permᴰ ls ms → (l : ℕ) → grant pools ls l ≡ grant pools ms l
grant-perm pools d l = ap (λ (ws : List Prefix). lowest_part l (best l ws)) (wholes-perm pools d)

pub free-perm : (pools : List Prefix) {ls ms : List Prefix} → Permᴰ ls ms → (p : Prefix) → Free pools ls p → Free pools ms p
free-perm pools d p f = record { aligned = f.aligned; pooled = f.pooled; unused = perm-all (Apart p) d f.unused }
