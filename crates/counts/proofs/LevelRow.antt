-- The row of a pool by levels is the row of the fresh walk.
-- Assumes nothing.
use Prim.Native.Nat.{ℕ, zero, suc, ◌+◌, ◌-◌, ◌≤◌, ◌<◌}
use mathlib.Core.Path.{◌≡◌, refl, sym, ap, ap₂, subst, ◌∙◌}
use mathlib.Core.Logic.{◌⊎◌, inl, inr, ⊎_elim, by_cases}
use mathlib.Core.Bool.{false}
use mathlib.Core.List.{List, [], ◌∷◌, ◌++◌, map, append-nil}
use native.Mathlib.Decide.{dec_le}
use native.Mathlib.Omega.{arith}
use lib.ListN.{length}
use lib.Dec.{leb, eqb}
use Rattle.lists.specs.Lists.{All, Pairwise}
use Rattle.lists.proofs.Tests.{bool-ext, not-true⇒false}
use Rattle.lists.proofs.ListLaws.{all_map, all-map₂, all_append, all_left, any_left, any_append, any-all}
use Rattle.prefix.specs.declared.Prefix.{Prefix}
use Rattle.prefix.specs.Prefixes.{Aligned, In, Inside, Apart, lower, upper}
use Rattle.prefix.proofs.PrefixLaws.{size-positive, apart-sym, lower-inside, upper-inside, halves-meet}
use Rattle.prefix.proofs.Nesting.{order, all-apart-sub, apart-absurd, inside-order, inside-same-order, aligned-lower, aligned-upper, in-half}
use Rattle.free_space.specs.Space.{unused?}
use Rattle.free_space.specs.Grant.{covered?, walk}
use Rattle.free_space.specs.Serving.{one?, number, Before}
use Rattle.free_space.proofs.Permuted.{covered_of}
use Rattle.free_space.proofs.WalkLaws.{Level, short, unused-to, unused-of, covered-to, walk-unused, walk-covered, walk-halves, walk-skip}
use Rattle.counts.proofs.CommonLaws.{common-halves}
use Rattle.table.specs.Table.{shortest_pool}
use Rattle.counts.specs.Counts.{lengths_from, count_row, counted_lengths}
use Rattle.counts.specs.InnerLevels.{Lies, common_bits, equal_to, up_to, openings_after, openings, lengths, free_after, frees_after, level_row}
use Rattle.counts.proofs.OneLaws.{one-step, one-next, one_shift, equal-append, up-append, lengths-append, number_append}

-- LEASES APART FROM A PREFIX CHANGE NOTHING IN IT

pub walk_after : (xs ys : List Prefix) (h : ℕ) (p : Prefix) → Level h p → All (Apart p) ys → walk (xs ++ ys) h p ≡ walk xs h p
walk_after xs ys h p v a = go h p v a
  where
    unused-same : (p : Prefix) → All (Apart p) ys → unused? (xs ++ ys) p ≡ unused? xs p
    unused-same p a =
        bool-ext (unused? (xs ++ ys) p) (unused? xs p)
        (λ e. unused-of xs p (all_left (Apart p) xs ys (unused-to (xs ++ ys) p e)))
        (λ e. unused-of (xs ++ ys) p (all_append (Apart p) xs ys (unused-to xs p e) a))

    covered_same : (p : Prefix) → All (Apart p) ys → covered? (xs ++ ys) p ≡ covered? xs p
    covered_same p a =
        bool-ext (covered? (xs ++ ys) p) (covered? xs p)
        (λ e.
        ⊎_elim (λ i. covered_of xs p i)
        (λ i. let t = any-all ys i a in absurd (apart-absurd p t.0 t.1 t.2))
        (any_append (Inside p) xs ys (covered-to (xs ++ ys) p e)))
        (λ e. covered_of (xs ++ ys) p (any_left (Inside p) xs ys (covered-to xs p e)))

    go : (h : ℕ) (p : Prefix) → Level h p → All (Apart p) ys → walk (xs ++ ys) h p ≡ walk xs h p
    go zero p v a = rw (unused-same p a, covered_same p a)
    go (suc h) p v a =
        rw (
          unused-same p a,
          covered_same p a,
          go h (lower p) (omega arith) (all-apart-sub (lower p) p ys (lower-inside p (short h p v)) a),
          go h (upper p) (omega arith) (all-apart-sub (upper p) p ys (upper-inside p (short h p v)) a),
        )

pub walk_before : (xs ys : List Prefix) (h : ℕ) (p : Prefix) → Level h p → All (Apart p) xs → walk (xs ++ ys) h p ≡ walk ys h p
walk_before [] ys h p v a = refl
walk_before (x ∷ xs) ys h p v a = walk-skip (xs ++ ys) x h p v a.0 ∙ walk_before xs ys h p v a.1

-- THE LEASES OF A PREFIX

lies_in : (p x : Prefix) → Lies p x → In x.network p
lies_in p x l = (l.inside.0, omega (arith, l.inside.1, size-positive x.length))

module _ (p : Prefix) (s : p.length < 32) (aligned : Aligned p) where
  -- A block in the lower half is not behind one in the upper.
  not_behind : (x y : Prefix) → Lies (upper p) x → Lies (lower p) y → Before x y → ⊥
  not_behind x y lx ly b = omega (arith, lx.inside.0, ly.inside.1, size-positive x.length, size-positive y.length, halves-meet p s)

  -- The leases in the lower half, then those in the upper.
  pub record Parts (us : List Prefix) : Type 0 where
    pub low : List Prefix
    pub high : List Prefix
    pub all : us ≡ low ++ high
    pub lows : All (Lies (lower p)) low
    pub highs : All (Lies (upper p)) high
    pub ascend_low : Pairwise Before low
    pub ascend_high : Pairwise Before high

  all_upper : (x : Prefix) (us : List Prefix) → Lies (upper p) x → All (Before x) us → All (λ y. Lies (lower p) y ⊎ Lies (upper p) y) us → All (Lies (upper p)) us
  all_upper x us lx =
      all-map₂ (λ y b h. ⊎_elim (λ (l : Lies (lower p) y). absurd (not_behind x y lx l b)) (λ (u : Lies (upper p) y). u) h) us

  before-left : (x : Prefix) (low high us : List Prefix) → us ≡ low ++ high → All (Before x) us → All (Before x) low
  before-left x low high us e a = all_left (Before x) low high (subst (All (Before x)) e a)

  pub parts : (us : List Prefix) → All (λ x. Lies (lower p) x ⊎ Lies (upper p) x) us → Pairwise Before us → Parts us
  parts [] a w = record { low = []; high = []; all = refl; lows = tt; highs = tt; ascend_low = tt; ascend_high = tt }
  parts (x ∷ us) a w =
      ⊎_elim
      (λ (l : Lies (lower p) x).
      let r : Parts us = parts us a.1 w.1 in
      record {
        low = x ∷ r.low;
        high = r.high;
        all = ap (λ (ys : List Prefix). x ∷ ys) r.all;
        lows = (l, r.lows);
        highs = r.highs;
        ascend_low = (before-left x r.low r.high us r.all w.0, r.ascend_low);
        ascend_high = r.ascend_high;
      })
      (λ (u : Lies (upper p) x).
      record { low = []; high = x ∷ us; all = refl; lows = tt; highs = (u, all_upper x us u w.0 a.1); ascend_low = tt; ascend_high = w })
      a.0

  -- OPENINGS IN HALVES

  abbrev common : (a b : Prefix) → Lies (lower p) a → Lies (upper p) b → common_bits a.network b.network ≡ p.length
  common a b la lb = common-halves p a.network b.network s aligned (lies_in (lower p) a la) (lies_in (upper p) b lb)

  -- The first lease of the upper half opens there, after those of the lower half.
  pub opened-later : (m : Prefix) (xs : List Prefix) (y : Prefix) (ys : List Prefix) → Lies (lower p) m → All (Lies (lower p)) xs → Lies (upper p) y
      → openings_after m.network (xs ++ (y ∷ ys)) ≡ openings_after m.network xs ++ ((p.length + 1) ∷ openings_after y.network ys)
  opened-later m [] y ys lm a ly = ap (λ (k : ℕ). (k + 1) ∷ openings_after y.network ys) (common m y lm ly)
  opened-later m (x ∷ xs) y ys lm a ly = ap (λ (ks : List ℕ). (common_bits m.network x.network + 1) ∷ ks) (opened-later x xs y ys a.0 a.1 ly)

  -- Beside what opens in the halves, one opens at p, and one of those that open at a half does not.
  pub record Opened (low high us : List Prefix) (l : ℕ) : Type 0 where
    pub here : equal_to (suc l) (openings p us) + one? (eqb p.length l)
        ≡ equal_to (suc l) (openings (lower p) low) + equal_to (suc l) (openings (upper p) high) + one? (eqb p.length (suc l))
    pub up : up_to l (openings p us) ≡ up_to l (openings (lower p) low) + up_to l (openings (upper p) high) + one? (eqb p.length l)

  pub opened-halves : (low high : List Prefix) → All (Lies (lower p)) low → All (Lies (upper p)) high → 1 ≤ length (low ++ high) → (l : ℕ) → Opened low high (low ++ high) l
  opened-halves [] [] a b some l = absurd (omega arith)
  opened-halves [] (y ∷ ys) a b some l = record {
    here = omega (arith, one_shift p.length l);
    up = omega (arith, one-step p.length l);
  }
  opened-halves (x ∷ xs) [] a b some l =
      subst (λ (us : List Prefix). Opened (x ∷ xs) [] us l) (sym (append-nil (x ∷ xs)))
      (record {
        here = omega (arith, one_shift p.length l);
        up = omega (arith, one-step p.length l);
      })
  opened-halves (x ∷ xs) (y ∷ ys) a b some l =
      let e = opened-later x xs y ys a.0 a.1 b.0 in
      let rest : List ℕ = (p.length + 1) ∷ openings_after y.network ys in
      record {
        here =
            omega (
              arith,
              one_shift p.length l,
              ap (equal_to (suc l)) e,
              equal-append (suc l) (openings_after x.network xs) rest,
            );
        up =
            omega (
              arith,
              one-step p.length l,
              ap (up_to l) e,
              up-append l (openings_after x.network xs) rest,
            );
      }

-- THE COUNT OF A LENGTH

abbrev Counted : List Prefix → ℕ → Prefix → ℕ → Type 0
Counted us h p l =
    number (suc l) (walk us h p) + (equal_to (suc l) (openings p us) + up_to l (lengths us)) ≡ one? (eqb p.length (suc l)) + up_to l (openings p us)

counted-unused : (h : ℕ) (p : Prefix) (l : ℕ) → Counted [] h p l
counted-unused h p l = omega (arith, ap (number (suc l)) (walk-unused [] h p tt))

-- A lease as large as p is p, and the only one in it.
counted-covered : (x : Prefix) (us : List Prefix) (h : ℕ) (p : Prefix) → Level h p → Lies p x → All (Lies p) us → All (Before x) us → order p ≤ order x → (l : ℕ) → Counted (x ∷ us) h p l
counted-covered x [] h p v i is b o l =
    let same : order x ≡ order p = omega (arith, inside-order x p i.inside) in
    let c : Inside p x = inside-same-order x p same i.inside in
    let len : x.length ≡ p.length = omega (arith, i.long) in
    let none : walk (x ∷ []) h p ≡ [] =
    walk-covered (x ∷ []) h p
    (not-true⇒false (unused? (x ∷ []) p) (λ e. apart-absurd p x c (unused-to (x ∷ []) p e).0))
    (covered_of (x ∷ []) p (inl c)) in
    omega (arith, ap (number (suc l)) none, one-next p.length l, ap (λ (k : ℕ). one? (leb k l)) len)
counted-covered x (y ∷ us) h p v i is b o l =
    let same : order x ≡ order p = omega (arith, inside-order x p i.inside) in
    let c : Inside p x = inside-same-order x p same i.inside in
    absurd (omega (arith, c.1, b.0, is.0.inside.1, size-positive y.length))

module _ (h : ℕ) (p : Prefix) (v : Level (suc h) p) (aligned : Aligned p) (us : List Prefix) (lie : All (Lies p) us) (small : All (λ x. order x < order p) us) where
  lies-half : (x : Prefix) → Lies p x → order x < order p → Lies (lower p) x ⊎ Lies (upper p) x
  lies-half x i o =
      ⊎_elim
      (λ (k : Inside x (lower p)). inl (record { inside = k; aligned = i.aligned; long = i.long }))
      (λ (k : Inside x (upper p)). inr (record { inside = k; aligned = i.aligned; long = i.long }))
      (in-half p aligned x (short h p v) i.aligned o i.inside)

  pub halves : Pairwise Before us → Parts p (short h p v) aligned us
  halves w = parts p (short h p v) aligned us (all-map₂ lies-half us lie small) w

  small-not : (x : Prefix) → order x < order p → Inside p x → ⊥
  small-not x o k = omega (arith, inside-order p x k)

  not_covered : covered? us p ≡ false
  not_covered =
      not-true⇒false (covered? us p)
      (λ e. let t = any-all us (covered-to us p e) small in small-not t.0 t.2 t.1)

not-unused : (x : Prefix) (us : List Prefix) (p : Prefix) → Lies p x → unused? (x ∷ us) p ≡ false
not-unused x us p i = not-true⇒false (unused? (x ∷ us) p) (λ e. apart-absurd x p i.inside (apart-sym p x (unused-to (x ∷ us) p e).0))

-- Leases beside one that is smaller than p are smaller too.
all_small : (x : Prefix) (us : List Prefix) (p : Prefix) → Lies p x → All (Lies p) us → All (Before x) us → All (λ y. order y < order p) us
all_small x us p i =
    all-map₂ (λ y (k : Lies p y) (b : Before x y).
    by_cases (dec_le (order p) (order y))
    (λ o.
    let same : order y ≡ order p = omega (arith, inside-order y p k.inside) in
    let c : Inside p y = inside-same-order y p same k.inside in
    absurd (omega (arith, c.0, i.inside.0, size-positive x.length)))
    (λ o. omega arith)) us

abbrev AllCounted : ℕ → Type 0
AllCounted h = (p : Prefix) → Level h p → Aligned p → (us : List Prefix) → All (Lies p) us → Pairwise Before us → (l : ℕ) → Counted us h p l

counted-low : AllCounted 0
counted-low p v aligned [] lie w l = counted-unused 0 p l
counted-low p v aligned (x ∷ us) lie w l = counted-covered x us 0 p v lie.0 lie.1 w.0 (omega arith) l

counted-more : (h : ℕ) → AllCounted h → AllCounted (suc h)
counted-more h less p v aligned [] lie w l = counted-unused (suc h) p l
counted-more h less p v aligned (x ∷ us) lie w l =
    by_cases (dec_le (order p) (order x))
    (λ o. counted-covered x us (suc h) p v lie.0 lie.1 w.0 o l)
    (λ o.
    let s : p.length < 32 = short h p v in
    let small : All (λ y. order y < order p) (x ∷ us) = (omega arith, all_small x us p lie.0 lie.1 w.0) in
    let r : Parts p s aligned (x ∷ us) = halves h p v aligned (x ∷ us) lie small w in
    let apart_low : All (Apart (lower p)) r.high = all_map (λ y (k : Lies (upper p) y). inl k.inside.0) r.high r.highs in
    let apart_high : All (Apart (upper p)) r.low = all_map (λ y (k : Lies (lower p) y). inr k.inside.1) r.low r.lows in
    let first : Counted r.low h (lower p) l = less (lower p) (omega arith) (aligned-lower p aligned) r.low r.lows r.ascend_low l in
    let second : Counted r.high h (upper p) l = less (upper p) (omega arith) (aligned-upper p aligned) r.high r.highs r.ascend_high l in
    let walked : walk (x ∷ us) (suc h) p ≡ walk r.low h (lower p) ++ walk r.high h (upper p) =
    walk-halves (x ∷ us) h p (not-unused x us p lie.0) (not_covered h p v aligned (x ∷ us) lie small)
    ∙ ap₂ (λ (a b : List Prefix). a ++ b)
    (ap (λ (zs : List Prefix). walk zs h (lower p)) r.all ∙ walk_after r.low r.high h (lower p) (omega arith) apart_low)
    (ap (λ (zs : List Prefix). walk zs h (upper p)) r.all ∙ walk_before r.low r.high h (upper p) (omega arith) apart_high) in
    let n : number (suc l) (walk (x ∷ us) (suc h) p) ≡ number (suc l) (walk r.low h (lower p)) + number (suc l) (walk r.high h (upper p)) =
    ap (number (suc l)) walked ∙ number_append (suc l) (walk r.low h (lower p)) (walk r.high h (upper p)) in
    let opened : Opened p s aligned r.low r.high (x ∷ us) l =
    subst (λ (zs : List Prefix). Opened p s aligned r.low r.high zs l) (sym r.all)
    (opened-halves p s aligned r.low r.high r.lows r.highs (omega (arith, ap length r.all)) l) in
    let closed : up_to l (lengths (x ∷ us)) ≡ up_to l (lengths r.low) + up_to l (lengths r.high) =
    ap (λ (zs : List Prefix). up_to l (lengths zs)) r.all ∙ lengths-append l r.low r.high in
    sums l
    (number (suc l) (walk (x ∷ us) (suc h) p)) _ _ n
    (equal_to (suc l) (openings p (x ∷ us))) _ _
    (up_to l (lengths (x ∷ us))) _ _ closed
    (up_to l (openings p (x ∷ us))) _ _
    (one? (eqb p.length l)) (one? (eqb p.length (suc l)))
    opened.here opened.up
    (first ∙ ap (λ (k : ℕ). k + up_to l (openings (lower p) r.low)) (one_shift p.length l))
    (second ∙ ap (λ (k : ℕ). k + up_to l (openings (upper p) r.high)) (one_shift p.length l)))
  where
    sums : (l n n₁ n₂ : ℕ) → n ≡ n₁ + n₂ → (e e₁ e₂ c c₁ c₂ : ℕ) → c ≡ c₁ + c₂ → (u u₁ u₂ a b : ℕ) → e + a ≡ e₁ + e₂ + b → u ≡ u₁ + u₂ + a
        → n₁ + (e₁ + c₁) ≡ a + u₁ → n₂ + (e₂ + c₂) ≡ a + u₂ → n + (e + c) ≡ b + u
    sums l n n₁ n₂ en e e₁ e₂ c c₁ c₂ ec u u₁ u₂ a b ee eu f s = omega arith

pub counted : (h : ℕ) → AllCounted h
counted zero = counted-low
counted (suc h) = counted-more h (counted h)

-- THE ROW

pub counted-free : (p : Prefix) → p.length ≤ 32 → Aligned p → (us : List Prefix) → All (Lies p) us → Pairwise Before us → (l : ℕ)
    → number (suc l) (walk us (32 - p.length) p) ≡ free_after p.length (openings p us) (lengths us) l
counted-free p long aligned us lie w l = omega (arith, counted (32 - p.length) p (omega arith) aligned us lie w l)

-- By levels as by the fresh walk, over leases of which `before` and `after` lie beside p.
pub row-by-levels : (p : Prefix) → p.length ≤ 32 → Aligned p → (before us after : List Prefix) → All (Apart p) before → All (Apart p) after
    → All (Lies p) us → Pairwise Before us → count_row (before ++ (us ++ after)) p ≡ level_row us p
unfolding count_row lengths_from frees_after
row-by-levels p long aligned before us after ab aa lie w = go (shortest_pool - 1) counted_lengths
  where
    same : walk (before ++ (us ++ after)) (32 - p.length) p ≡ walk us (32 - p.length) p
    same = walk_before before (us ++ after) (32 - p.length) p (omega arith) ab ∙ walk_after us after (32 - p.length) p (omega arith) aa

    go : (l k : ℕ) → map (λ m. number m (walk (before ++ (us ++ after)) (32 - p.length) p)) (lengths_from (suc l) k) ≡ frees_after p.length (openings p us) (lengths us) l k
    go l zero = refl
    go l (suc k) =
        ap₂ (λ (m : ℕ) (ms : List ℕ). m ∷ ms)
        (ap (number (suc l)) same ∙ counted-free p long aligned us lie w l)
        (go (suc l) k)
