-- One gap between leases: its smallest whole free prefix that is large enough is found at one of its two ends.
-- Assumes nothing.
use Prim.Native.Nat.{ℕ, zero, suc, ◌+◌, ◌-◌, ◌*◌, ◌%◌, ◌/◌, ◌≤◌, ◌<◌}
use mathlib.Core.Path.{◌≡◌, refl, sym, ap, subst, ◌∙◌}
use mathlib.Core.Logic.{◌⊎◌, inl, inr, ⊎_elim, by_cases}
use mathlib.Core.Bool.{Bool, true, false, cond}
use mathlib.Core.List.{List}
use mathlib.Core.Option.{Option, none, some}
use native.Mathlib.Nat.{le_refl, mod-lt, mul-mod_left, div-add-mod', div-mul-le_self, lt-div-mul-add, add-suc, mod-eq-sub-mod}
use native.Mathlib.Numerals.{add-one}
use native.Mathlib.Decide.{dec_le, dec_lt}
use native.Mathlib.Omega.{arith}
use lib.Dec.{leb, ltb, eqb}
use lib.Pow.{pow_mono}
use borrow.Author.Tests.{leb-true, leb-false, ltb-true, eqb-true, eqb-false}
use Rattle.lists.specs.Properties.{OfSome}
use Rattle.lists.proofs.Tests.{bool_cases, cond-true, cond-false}
use Rattle.lists.proofs.ListLaws.{holds-map, any-all}
use Rattle.prefix.specs.declared.Prefix.{Prefix}
use Rattle.prefix.specs.Prefixes.{size, prefix, end, Aligned, Inside}
use Rattle.prefix.proofs.PrefixLaws.{size-positive, size-half}
use Rattle.prefix.proofs.Nesting.{order, inside-order, aligned-down, aligned-add, aligned-pow, aligned-end, next_multiple}
use Rattle.free_space.specs.Space.{Free, around, Whole, NotWorse}
use Rattle.free_space.specs.Serving.{Length, Pools}
use Rattle.free_space.specs.Scan.{round_up, round_down, length_of, levels, in_gap}
use Rattle.free_space.proofs.BestLaws.{not-worse-trans}
use Rattle.free_space.proofs.Rules.{largest}

-- rounding

module _ (l a : ℕ) where
  -- a is a multiple already, or lies between the multiple a / size * size and the next one.
  up-cases : ((a % size l ≡ 0) × (round_up l a ≡ a)) ⊎ ((0 < a % size l) × (round_up l a ≡ a / size l * size l + size l))
  up-cases =
      ⊎_elim
      (λ (e : eqb (a % size l) 0 ≡ true). inl (eqb-true (a % size l) 0 e, cond-true (eqb (a % size l) 0) a (a + (size l - a % size l)) e))
      (λ (e : eqb (a % size l) 0 ≡ false).
      inr (
        positive (a % size l) (eqb-false (a % size l) 0 e),
        cond-false (eqb (a % size l) 0) a (a + (size l - a % size l)) e ∙ omega (arith, div-add-mod' a (size l), mod-lt a (size-positive l)),
      ))
      (bool_cases (eqb (a % size l) 0))
    where
      positive : (n : ℕ) → (n ≡ 0 → ⊥) → 0 < n
      positive zero z = absurd (z refl)
      positive (suc n) z = omega arith

  pub up_multiple : round_up l a % size l ≡ 0
  up_multiple =
      ⊎_elim (λ t. ap (λ (x : ℕ). x % size l) t.1 ∙ t.0)
      (λ t. ap (λ (x : ℕ). x % size l) t.1
      ∙ aligned-add (a / size l * size l) (size l) (32 - l) (mul-mod_left (a / size l) (size l)) (aligned-pow (32 - l) (32 - l) (le_refl (32 - l))))
      up-cases

  pub up-ge : a ≤ round_up l a
  up-ge = ⊎_elim (λ t. omega (arith, t.1)) (λ t. omega (arith, t.1, lt-div-mul-add {a = a} (size-positive l))) up-cases

  pub up_least : (m : ℕ) → m % size l ≡ 0 → a ≤ m → round_up l a ≤ m
  up_least m e h =
      ⊎_elim (λ t. omega (arith, t.1))
      (λ t. omega (arith, t.1, next_multiple (size l) (a / size l * size l) m (mul-mod_left (a / size l) (size l)) e (omega (arith, t.0, div-add-mod' a (size l)))))
      up-cases

  pub down_is : round_down l a ≡ a / size l * size l
  down_is = omega (arith, div-add-mod' a (size l))

  pub down-multiple : round_down l a % size l ≡ 0
  down-multiple = ap (λ (x : ℕ). x % size l) down_is ∙ mul-mod_left (a / size l) (size l)

  pub down_le : round_down l a ≤ a
  down_le = omega arith

  pub down-greatest : (m : ℕ) → m % size l ≡ 0 → m ≤ a → m ≤ round_down l a
  down-greatest m e h =
      by_cases (dec_le m (round_down l a)) (λ q. q)
      (λ q. absurd (omega (arith, down_is, next_multiple (size l) (round_down l a) m down-multiple e (omega arith), lt-div-mul-add {a = a} (size-positive l))))

-- What is found below an address, for asks of length l.

abbrev pub Beats : Option Prefix → Prefix → Type 0
Beats none w = ⊥
Beats (some v) w = NotWorse v w

module _ (pools leases : List Prefix) (good : Pools pools) (l : ℕ) (block : Length l) where
  -- No free prefix lies across c.
  abbrev pub Edge : ℕ → Type 0
  Edge c = (x : Prefix) → Free pools leases x → (end x ≤ c) ⊎ (c ≤ x.network)

  -- Every aligned prefix from a to b is free.
  abbrev pub Clear : ℕ → ℕ → Type 0
  Clear a b = (x : Prefix) → Aligned x → a ≤ x.network → end x ≤ b → Free pools leases x

  -- `best` is the best of the whole free prefixes of length at most l with a network below c.
  pub record Below (c : ℕ) (best : Option Prefix) : Type 0 where
    pub is : OfSome (λ v. Whole pools leases v × (v.length ≤ l) × (v.network ≤ c)) best
    pub all : (w : Prefix) → Whole pools leases w → w.length ≤ l → (c ≤ w.network) ⊎ Beats best w

  -- Whole free prefixes of length at most l whose network is from a on and below b.
  pub record Within (a b : ℕ) (w : Prefix) : Type 0 where
    pub whole : Whole pools leases w
    pub large : w.length ≤ l
    pub from : a ≤ w.network
    pub below : w.network < b

  -- `best` stays the best where it beats all that the next addresses have.
  pub below-keep : (a b : ℕ) (best : Option Prefix) → a ≤ b → ((w : Prefix) → Within a b w → Beats best w) → Below a best → Below b best
  below-keep a b best h f k = record {
    is = holds-map (λ v t. (t.0, t.1, omega (arith, t.2))) best k.is;
    all = λ w u q.
        by_cases (dec_le b w.network) inl
        (λ n. ⊎_elim (λ m. inr (f w (record { whole = u; large = q; from = m; below = omega arith }))) inr (k.all w u q));
  }

  -- A smaller one takes its place where it beats all that the next addresses have.
  below-improve : (a b : ℕ) (best : Option Prefix) (v : Prefix) → Whole pools leases v → v.length ≤ l → v.network ≤ b → length_of best < v.length
      → ((w : Prefix) → Within a b w → NotWorse v w) → Below a best → Below b (some v)
  below-improve a b best v u q n s f k = record {
    is = (u, q, n);
    all = λ w t r.
        by_cases (dec_le b w.network) inl
        (λ m. inr (⊎_elim (λ c. f w (record { whole = t; large = r; from = c; below = omega arith })) (λ c. through w best s c) (k.all w t r)));
  }
    where
      through : (w : Prefix) (best : Option Prefix) → length_of best < v.length → Beats best w → NotWorse v w
      through w none s c = absurd c
      through w (some x) s c = not-worse-trans v x w (inl s) c

  -- A whole prefix has length 1 or more, as the pools have.
  whole-positive : (w : Prefix) → Whole pools leases w → 0 < w.length
  whole-positive w k = let t = any-all pools k.free.pooled good.lengths in omega (arith, inside-order w t.0 t.1, t.2.0)

  module _ (a b A B : ℕ) (ordered : a ≤ b) (room : A < B) (inner : B ≤ b)
      (edge_a : (x : Prefix) → x.length ≤ l → Free pools leases x → (end x ≤ A) ⊎ (A ≤ x.network))
      (edge_b : (x : Prefix) → x.length ≤ l → Free pools leases x → (end x ≤ B) ⊎ (B ≤ x.network)) (clear : Clear A B)
      (ends : (w : Prefix) → Within a b w → (A ≤ w.network) × (end w ≤ B)) where
    -- No whole prefix is the half of one that lies from A to B.
    no-half : (m : ℕ) → m ≤ 32 → A % size m ≡ 0 → (w : Prefix) → Within a b w → w.length ≡ suc m → w.network / size m * size m + size m ≤ B → ⊥
    no-half m q e w k f h =
        let x : Prefix = prefix (w.network / size m * size m) m in
        let u : Aligned x = mul-mod_left (w.network / size m) (size m) in
        let low : x.network ≤ w.network = div-mul-le_self w.network (size m) in
        let high : w.network < end x = lt-div-mul-add (size-positive m) in
        let t = ends w k in
        let c : A ≤ x.network =
        by_cases (dec_le A x.network) (λ r. r) (λ r. absurd (omega (arith, next_multiple (size m) x.network A u e (omega arith), t.0))) in
        let i : Inside w x =
        (low, next_multiple (size w.length) w.network (end x) k.whole.free.aligned (aligned-end x (order w) (omega arith) u) high) in
        omega (arith, ap (λ (y : Prefix). y.length) (largest pools good leases w x k.whole q i (clear x u c h)))

    nothing-better : (best : Option Prefix) → ((w : Prefix) → Within a b w → w.length ≤ length_of best) → Below a best → (w : Prefix) → Within a b w → Beats best w
    nothing-better none f k w t = absurd (omega (arith, f w t, whole-positive w t.whole))
    nothing-better (some v) f k w t =
        by_cases (dec_lt w.length v.length) inl
        (λ q. inr (omega (arith, f w t), omega (arith, k.is.2, t.from)))

    module _ (stop n : ℕ) (best : Option Prefix) (here : length_of best ≡ stop) (long : stop + suc n ≤ l)
        (multiple_a : A % size (stop + suc n) ≡ 0) (multiple_b : B % size (stop + suc n) ≡ 0)
        (small : (w : Prefix) → Within a b w → w.length ≤ stop + suc n) (below : Below a best) where
      parent : stop + suc n - 1 ≡ stop + n
      parent = omega (arith, add-suc stop n)

      -- A is no multiple of twice the size: the prefix at A is whole.
      at_low : (A % size (stop + n) ≡ 0 → ⊥) → Below b (some (prefix A (stop + suc n)))
      at_low odd =
          below-improve a b best v whole long (omega arith) (omega arith)
          (λ w k. let t = ends w k in by_cases (dec_lt w.length (stop + suc n)) inl (λ q. inr (omega (arith, small w k), t.0))) below
        where
          v : Prefix
          v = prefix A (stop + suc n)

          whole : Whole pools leases (prefix A (stop + suc n))
          whole = record {
            free = clear (prefix A (stop + suc n)) multiple_a (le_refl A) (next_multiple (size (stop + suc n)) A B multiple_a multiple_b room);
            maximal = inr (λ f.
                let P : ℕ = size (stop + suc n - 1) in
                let e : P ≡ size (stop + n) = ap size parent in
                ⊎_elim
                (λ h. omega (arith, h, lt-div-mul-add {a = A} (size-positive (stop + suc n - 1))))
                (λ h. odd (subst (λ (x : ℕ). A % x ≡ 0) e (omega (arith, h, div-add-mod' A P))))
                (edge_a (around (prefix A (stop + suc n))) (omega arith) f));
          }

      -- A is a multiple of twice the size and B is not: the prefix that ends at B is whole.
      at_high : A % size (stop + n) ≡ 0 → (B % size (stop + n) ≡ 0 → ⊥) → Below b (some (prefix (B - size (stop + suc n)) (stop + suc n)))
      at_high even odd = below-improve a b best v whole long (omega arith) (omega arith) beats below
        where
          v : Prefix
          v = prefix (B - size (stop + suc n)) (stop + suc n)

          fits : A + size (stop + suc n) ≤ B
          fits = next_multiple (size (stop + suc n)) A B multiple_a multiple_b room

          aligned : (B - size (stop + suc n)) % size (stop + suc n) ≡ 0
          aligned = sym (mod-eq-sub-mod {n = B} {m = size (stop + suc n)} (omega (arith, fits))) ∙ multiple_b

          whole : Whole pools leases (prefix (B - size (stop + suc n)) (stop + suc n))
          whole = record {
            free = clear (prefix (B - size (stop + suc n)) (stop + suc n)) aligned (omega (arith, fits)) (omega (arith, fits));
            maximal = inr (λ f.
                let x : Prefix = around (prefix (B - size (stop + suc n)) (stop + suc n)) in
                let u : Aligned x = mul-mod_left ((B - size (stop + suc n)) / size (stop + suc n - 1)) (size (stop + suc n - 1)) in
                let low : x.network ≤ B - size (stop + suc n) = div-mul-le_self (B - size (stop + suc n)) (size (stop + suc n - 1)) in
                let high : B - size (stop + suc n) < end x = lt-div-mul-add (size-positive (stop + suc n - 1)) in
                let reach : B - size (stop + suc n) + size (stop + suc n) ≤ end x =
                next_multiple (size (stop + suc n)) (B - size (stop + suc n)) (end x) aligned (aligned-end x (32 - (stop + suc n)) (omega arith) u) high in
                ⊎_elim
                (λ h. odd (subst (λ (y : ℕ). B % size y ≡ 0) parent (subst (λ (y : ℕ). y % size (stop + suc n - 1) ≡ 0) (omega (arith, h, reach, fits)) (aligned-end x (order x) (le_refl (order x)) u))))
                (λ h. omega (arith, h, low, fits, size-positive (stop + suc n)))
                (edge_b x (omega arith) f));
          }

          beats : (w : Prefix) → Within a b w → NotWorse (prefix (B - size (stop + suc n)) (stop + suc n)) w
          beats w k =
              let t = ends w k in
              by_cases (dec_lt w.length (stop + suc n)) inl
              (λ q.
              let e : w.length ≡ stop + suc n = omega (arith, small w k) in
              inr (
                sym e,
                by_cases (dec_le (B - size (stop + suc n)) w.network) (λ r. r)
                    (λ r. absurd (no-half (stop + n) (omega arith) even w k (omega (arith, e, add-suc stop n))
                    (omega (
                      arith,
                      div-mul-le_self w.network (size (stop + n)),
                      size-half (stop + n) (omega arith),
                      ap size (add-suc stop n),
                      ap size (add-one (stop + n)),
                      next_multiple (size (stop + suc n)) w.network (B - size (stop + suc n)) (subst (λ (y : ℕ). w.network % size y ≡ 0) e k.whole.free.aligned) aligned (omega arith),
                    )))),
              ))

      -- Both are multiples of twice the size: nothing in the gap is as small as this.
      smaller : A % size (stop + n) ≡ 0 → B % size (stop + n) ≡ 0 → (w : Prefix) → Within a b w → w.length ≤ stop + n
      smaller even_a even_b w k =
          by_cases (dec_le w.length (stop + n)) (λ q. q)
          (λ q. absurd (no-half (stop + n) (omega arith) even_a w k (omega (arith, small w k, add-suc stop n))
          (next_multiple (size (stop + n)) (w.network / size (stop + n) * size (stop + n)) B (mul-mod_left (w.network / size (stop + n)) (size (stop + n))) even_b
          (omega (arith, div-mul-le_self w.network (size (stop + n)), ends w k, size-positive w.length)))))

    levels-below : (n stop : ℕ) (best : Option Prefix) → length_of best ≡ stop → stop + n ≤ l → A % size (stop + n) ≡ 0 → B % size (stop + n) ≡ 0
        → ((w : Prefix) → Within a b w → w.length ≤ stop + n) → Below a best → Below b (levels A B stop n best)
    levels-below zero stop best here long m_a m_b small below =
        below-keep a b best ordered (nothing-better best (λ w k. omega (arith, small w k, here)) below) below
    levels-below (suc n) stop best here long m_a m_b small below =
        go (eqb (A % size (stop + n)) 0) (eqb (B % size (stop + n)) 0) refl refl
        (λ e_a e_b. levels-below n stop best here (omega arith) e_a e_b (smaller stop n best here long m_a m_b small below e_a e_b) below)
      where
        go : (t u : Bool) → eqb (A % size (stop + n)) 0 ≡ t → eqb (B % size (stop + n)) 0 ≡ u
            → (A % size (stop + n) ≡ 0 → B % size (stop + n) ≡ 0 → Below b (levels A B stop n best))
            → Below b (cond t (cond u (levels A B stop n best) (some (prefix (B - size (stop + suc n)) (stop + suc n)))) (some (prefix A (stop + suc n))))
        go true true e f rec = rec (eqb-true _ _ e) (eqb-true _ _ f)
        go true false e f rec = at_high stop n best here long m_a m_b small below (eqb-true _ _ e) (eqb-false _ _ f)
        go false u e f rec = at_low stop n best here long m_a m_b small below (eqb-false _ _ e)

  module _ (a b : ℕ) (ordered : a ≤ b) (edge_a : Edge a) (edge_b : Edge b) (clear : Clear a b) where
    multiple : (w : Prefix) → w.length ≤ l → Aligned w → (w.network % size l ≡ 0) × (end w % size l ≡ 0)
    multiple w q u = (aligned-down w.network (32 - l) (order w) (omega arith) u, aligned-end w (32 - l) (omega arith) u)

    within-ends : (w : Prefix) → Within a b w → (round_up l a ≤ w.network) × (end w ≤ round_down l b)
    within-ends w k =
        let m = multiple w k.large k.whole.free.aligned in (
          up_least l a w.network m.0 k.from,
          down-greatest l b (end w) m.1 (⊎_elim (λ h. h) (λ h. absurd (omega (arith, k.below))) (edge_b w k.whole.free)),
        )

    -- No free prefix of length at most l lies across the ends of that part either.
    edge-up : (x : Prefix) → x.length ≤ l → Free pools leases x → (end x ≤ round_up l a) ⊎ (round_up l a ≤ x.network)
    edge-up x q f = ⊎_elim (λ h. inl (omega (arith, up-ge l a))) (λ h. inr (up_least l a x.network (multiple x q f.aligned).0 h)) (edge_a x f)

    edge-down : (x : Prefix) → x.length ≤ l → Free pools leases x → (end x ≤ round_down l b) ⊎ (round_down l b ≤ x.network)
    edge-down x q f = ⊎_elim (λ h. inl (down-greatest l b (end x) (multiple x q f.aligned).1 h)) (λ h. inr (omega (arith, down_le l b))) (edge_b x f)

    clear-part : Clear (round_up l a) (round_down l b)
    clear-part x u h k = clear x u (omega (arith, up-ge l a)) (omega (arith, down_le l b))

    pub gap_below : (best : Option Prefix) → length_of best ≤ l → Below a best → Below b (in_gap l best a b)
    gap_below best short below = go (ltb b (a + size l)) (leb (round_down l b) (round_up l a)) refl refl
      where
        go : (t u : Bool) → ltb b (a + size l) ≡ t → leb (round_down l b) (round_up l a) ≡ u
            → Below b (cond t best (cond u best (levels (round_up l a) (round_down l b) (length_of best) (l - length_of best) best)))
        go true u e f =
            below-keep a b best ordered
            (λ w k. absurd (omega (arith, ltb-true b (a + size l) e, within-ends w k, k.from, down_le l b, pow_mono {i = 32 - l} {j = order w} (omega (arith, k.large))))) below
        go false true e f =
            below-keep a b best ordered (λ w k. absurd (omega (arith, leb-true (round_down l b) (round_up l a) f, within-ends w k, size-positive w.length))) below
        go false false e f =
            let d : length_of best + (l - length_of best) ≡ l = omega arith in
            levels-below a b (round_up l a) (round_down l b) ordered (leb-false (round_down l b) (round_up l a) f) (down_le l b) edge-up edge-down clear-part within-ends
            (l - length_of best) (length_of best) best refl (omega arith)
            (subst (λ (x : ℕ). round_up l a % size x ≡ 0) (sym d) (up_multiple l a)) (subst (λ (x : ℕ). round_down l b % size x ≡ 0) (sym d) (down-multiple l b))
            (λ w k. omega (arith, k.large)) below
