-- The theorems about asks and lists of asks: when one is refused, and that a list which can be packed is granted.
-- Assumes nothing.
use Prim.Native.Nat.{ℕ, ◌-◌, ◌≤◌, ◌<◌}
use mathlib.Core.Path.{◌≡◌, refl, sym, ap, ap₂, subst, ◌∙◌}
use mathlib.Core.Logic.{◌↔◌}
use mathlib.Core.List.{List, [], ◌∷◌, map, nil≢cons, head-eq_of_cons-eq, tail-eq_of_cons-eq}
use mathlib.Core.Option.{Option, none, some, some-ne-none, none-ne-some, some-injective}
use native.Mathlib.Omega.{arith}
use Rattle.lists.specs.Lists.{All, Any, Pairwise}
use Rattle.lists.specs.Properties.{OfSome}
use Rattle.lists.proofs.ListLaws.{all_map, all-map₂, any-all}
use Rattle.prefix.specs.declared.Prefix.{Prefix}
use Rattle.prefix.specs.Prefixes.{prefix, Aligned, Inside, Apart}
use Rattle.prefix.proofs.PrefixLaws.{apart-sym}
use Rattle.prefix.proofs.Nesting.{order, inside-order}
use Rattle.free_space.specs.Space.{Free}
use Rattle.free_space.specs.Grant.{wholes, best, lowest_part, grant}
use Rattle.free_space.specs.Serving.{Pools, Packing, with_grant, serve}
use Rattle.free_space.proofs.BestLaws.{Best, best-best, best-holds}
use Rattle.free_space.proofs.GrantLaws.{ChosenWhole, found, cover, Fits, takes, lowest-free, granted}

serve-step : (pools leases : List Prefix) (l : ℕ) (ls : List ℕ) (g : Prefix) (gs : List Prefix)
    → grant pools leases l ≡ some g → serve pools (g ∷ leases) ls ≡ map some gs → serve pools leases (l ∷ ls) ≡ map some (g ∷ gs)
serve-step pools leases l ls g gs e f =
    ap (λ (o : Option Prefix). o ∷ serve pools (with_grant o leases) ls) e ∙ ap (λ (xs : List (Option Prefix)). some g ∷ xs) f

-- Leases as the table keeps them: each aligned and inside a pool, no two sharing an address.
pub record Leases (pools leases : List Prefix) : Type 0 where
  pub aligned : All Aligned leases
  pub pooled : All (λ l. Any (Inside l) pools) leases
  pub disjoint : Pairwise Apart leases

module _ (pools : List Prefix) (good : Pools pools) where
  free_more : (leases : List Prefix) (b c : Prefix) → Apart b c → Free pools leases c → Free pools (b ∷ leases) c
  free_more leases b c d a = record { aligned = a.aligned; pooled = a.pooled; unused = (apart-sym b c d, a.unused) }

  pub free-less : (leases : List Prefix) (b c : Prefix) → Free pools (b ∷ leases) c → Free pools leases c
  free-less leases b c a = record { aligned = a.aligned; pooled = a.pooled; unused = a.unused.1 }

  -- "An ask is refused for want of ground exactly when no free aligned block of its length lies inside a root."
  pub refused⇔none-free : (leases : List Prefix) (l : ℕ) → (grant pools leases l ≡ none) ↔ ((network : ℕ) → Free pools leases (prefix network l) → ⊥)
  refused⇔none-free leases l =
      (never (best l ws) (best-best l ws), granting (best l ws) (best-best l ws) (best-holds (ChosenWhole pools leases) l ws (found pools good leases)))
    where
      ws : List Prefix
      ws = wholes pools leases

      never : (o : Option Prefix) → Best l (wholes pools leases) o → lowest_part l o ≡ none → (n : ℕ) → Free pools leases (prefix n l) → ⊥
      never none k f n a =
          let both : All (λ w. (l < w.length) × (w.length ≤ 32)) (wholes pools leases) =
          all-map₂ (λ w u v. (u, v.length)) (wholes pools leases) k (found pools good leases) in
          let t = any-all (wholes pools leases) (cover pools good leases (prefix n l) a) both in
          smaller t.0 t.2.0 t.2.1 (inside-order (prefix n l) t.0 t.1)
        where
          smaller : (w : Prefix) → l < w.length → w.length ≤ 32 → 32 - l ≤ order w → ⊥
          smaller w u v q = omega arith
      never (some w) k f n a = some-ne-none (prefix w.network l) f

      granting : (o : Option Prefix) → Best l (wholes pools leases) o → OfSome (ChosenWhole pools leases) o → ((n : ℕ) → Free pools leases (prefix n l) → ⊥) → lowest_part l o ≡ none
      granting none k a h = refl
      granting (some w) k a h = absurd (h w.network (lowest-free pools good leases w l a.free k.0))

  -- What is granted is a free prefix of the length asked for.
  pub granted-free : (leases : List Prefix) (l : ℕ) (g : Prefix) → grant pools leases l ≡ some g → Free pools leases g × (g.length ≡ l)
  granted-free leases l g = go (best l (wholes pools leases)) (best-best l (wholes pools leases)) (best-holds (ChosenWhole pools leases) l (wholes pools leases) (found pools good leases))
    where
      go : (o : Option Prefix) → Best l (wholes pools leases) o → OfSome (ChosenWhole pools leases) o → lowest_part l o ≡ some g → Free pools leases g × (g.length ≡ l)
      go none b a e = absurd (none-ne-some g e)
      go (some w) b a e =
          let p = some-injective (prefix w.network l) g e in
          (subst (Free pools leases) p (lowest-free pools good leases w l a.free b.0), ap (λ (x : Prefix). x.length) (sym p))

  -- A grant keeps the leases aligned, in the pools and disjoint: "no two lines share an address".
  pub grant-keeps : (leases : List Prefix) (l : ℕ) (g : Prefix) → Leases pools leases → grant pools leases l ≡ some g → Leases pools (g ∷ leases)
  grant-keeps leases l g s e =
      let a = (granted-free leases l g e).0 in
      record { aligned = (a.aligned, s.aligned); pooled = (a.pooled, s.pooled); disjoint = (a.unused, s.disjoint) }

  -- Prefixes that can be chosen are no more than there is room for.
  pub packing-fits : (chosen leases : List Prefix) → All (Free pools leases) chosen → Pairwise Apart chosen → Fits pools leases (map (λ b. b.length) chosen)
  packing-fits [] leases a d k = omega arith
  packing-fits (b ∷ bs) leases a d k =
      omega (
        arith,
        takes pools good leases b a.0 k,
        packing-fits bs (b ∷ leases) (all-map₂ (λ c. free_more leases b c) bs d.0 a.1) d.1 k,
      )

  pub packed-fits : (leases : List Prefix) (ls : List ℕ) (chosen : List Prefix) → Packing pools leases ls chosen → Fits pools leases ls
  packed-fits leases ls chosen p = subst (Fits pools leases) p.asked (packing-fits chosen leases p.free p.disjoint)

  -- Every ask of the list is granted, and what is granted was free at the start and shares no address.
  abbrev pub Served : List Prefix → List ℕ → Type 0
  Served leases ls = (gs : List Prefix) × (serve pools leases ls ≡ map some gs) × Packing pools leases ls gs

  pub served : (ls : List ℕ) (leases : List Prefix) → Fits pools leases ls → Served leases ls
  served [] leases fit = ([], refl, record { asked = refl; free = tt; disjoint = tt })
  served (l ∷ ls) leases fit =
      let t = granted pools good leases l ls fit in
      let g : Prefix = prefix t.0.network l in
      let s = served ls (g ∷ leases) t.3 in (
        g ∷ s.0,
        serve-step pools leases l ls g s.0 (ap (lowest_part l) t.1) s.1,
        record {
          asked = ap (λ (xs : List ℕ). l ∷ xs) s.2.asked;
          free = (t.2, all_map (λ c. free-less leases g c) s.0 s.2.free);
          disjoint = (all_map (λ c a. apart-sym c g a.unused.0) s.0 s.2.free, s.2.disjoint);
        },
      )

  -- THE LIST THEOREM. "If free aligned blocks can be chosen in the first book, one of its length for each well-formed ask of the list, no two sharing an
  -- address, .. then every well-formed ask is granted. In that case the blocks granted were free in the first book and share no address."
  pub list-theorem : (leases : List Prefix) (ls : List ℕ) (chosen : List Prefix) → Packing pools leases ls chosen → Served leases ls
  list-theorem leases ls chosen p = served ls leases (packed-fits leases ls chosen p)

  -- Where every ask is granted, what is granted is a packing.
  pub serve-packing : (ls : List ℕ) (leases gs : List Prefix) → serve pools leases ls ≡ map some gs → Packing pools leases ls gs
  serve-packing [] leases [] e = record { asked = refl; free = tt; disjoint = tt }
  serve-packing [] leases (g ∷ gs) e = absurd (nil≢cons e)
  serve-packing (l ∷ ls) leases [] e = absurd (nil≢cons (sym e))
  serve-packing (l ∷ ls) leases (g ∷ gs) e =
      let h : grant pools leases l ≡ some g = head-eq_of_cons-eq e in
      let a = granted-free leases l g h in
      let s = serve-packing ls (g ∷ leases) gs (subst (λ (o : Option Prefix). serve pools (with_grant o leases) ls ≡ map some gs) h (tail-eq_of_cons-eq e)) in
      record {
        asked = ap₂ (λ (x : ℕ) (xs : List ℕ). x ∷ xs) a.1 s.asked;
        free = (a.0, all_map (λ c. free-less leases g c) gs s.free);
        disjoint = (all_map (λ c b. apart-sym c g b.unused.0) gs s.free, s.disjoint);
      }

  -- Every ask of a list is granted exactly where prefixes of its lengths can be chosen at all.
  pub all-granted⇔packable : (leases : List Prefix) (ls : List ℕ)
      → ((gs : List Prefix) × (serve pools leases ls ≡ map some gs)) ↔ ((chosen : List Prefix) × Packing pools leases ls chosen)
  all-granted⇔packable leases ls =
      ((λ t. (t.0, serve-packing ls leases t.0 t.1)), (λ t. let s = list-theorem leases ls t.0 t.1 in (s.0, s.1)))
