-- The walk with a cursor finds the rows of the definition. Its used rows are the leases in order, its free rows the whole free prefixes, and the free ones
-- are few.
-- Assumes nothing.
use Prim.Native.Nat.{ℕ, zero, suc, ◌+◌, ◌*◌, ◌≤◌, ◌<◌}
use mathlib.Core.Path.{◌≡◌, refl, sym, ap, ap₂, subst, ◌∙◌}
use mathlib.Core.Logic.{◌⊎◌, inl, inr, ⊎_elim, by_cases}
use mathlib.Core.Bool.{Bool, true, false, ◌&&◌}
use mathlib.Core.List.{List, [], ◌∷◌, ◌++◌, map, append_assoc}
use mathlib.Core.Option.{none, some}
use native.Mathlib.Nat.{suc-mul, mul-add}
use native.Mathlib.Decide.{dec_le}
use native.Mathlib.Omega.{arith}
use lib.ListN.{length, drop, get_or, length-append, length-drop}
use lib.Dec.{eqb}
use borrow.Author.Tests.{eqb-true, eq-eqb}
use Rattle.lists.specs.Lists.{All, any?}
use Rattle.lists.proofs.Tests.{bool_cases, not-true⇒false, and-to, and-of, cond-true, cond-false, or_left, or_right}
use Rattle.lists.proofs.ListLaws.{any-all}
use Rattle.lists.proofs.DropLaws.{drop_at}
use Rattle.prefix.specs.declared.Prefix.{Prefix}
use Rattle.prefix.specs.Prefixes.{longest, end, Aligned, Inside, inside?, Apart, lower, upper}
use Rattle.prefix.proofs.PrefixLaws.{size-positive, inside_of, lower-inside, upper-inside, upper-end}
use Rattle.prefix.proofs.Nesting.{order, apart-sub, apart-absurd, inside-order, inside-same-order, aligned-lower, aligned-upper, in-half}
use Rattle.free_space.specs.Space.{unused?}
use Rattle.free_space.specs.Grant.{covered?, walk}
use Rattle.free_space.proofs.WalkLaws.{unused-to, unused-of, covered-to, walk-unused, walk-covered, walk-halves}
use Rattle.sheet_text.specs.declared.Used.{Used}
use Rattle.sheet_text.specs.Sheet.{Row, used_row, free_row, used_in, free_in, prefix_used, used_at, rows_in}
use Rattle.sheet_text.specs.InnerScan.{Scan, clear?, both, free_scan, used_scan, scan}
use Rattle.sheet_text.proofs.ShowLaws.{used-append, free-append, length-used, length-free, scan-clear, scan-here, scan-split, clear-not, clear-yes}

-- LISTS BY INDEX

all-map-of : {A B : Type 0} (g : A → B) (P : B → Type 0) (xs : List A) (d : A) → ((k : ℕ) → k < length xs → P (g (get_or xs k d))) → All P (map g xs)
all-map-of g P [] d f = tt
all-map-of g P (x ∷ xs) d f = (f 0 (omega arith), all-map-of g P xs d (λ k h. f (suc k) (omega arith)))

all-map-at : {A B : Type 0} (g : A → B) (P : B → Type 0) (xs : List A) (d : A) → All P (map g xs) → (k : ℕ) → k < length xs → P (g (get_or xs k d))
all-map-at g P [] d a k h = absurd (omega arith)
all-map-at g P (x ∷ xs) d a zero h = a.0
all-map-at g P (x ∷ xs) d a (suc k) h = all-map-at g P xs d a.1 k (omega arith)

any?-map-at : {A B : Type 0} (f : B → Bool) (g : A → B) (xs : List A) (d : A) (k : ℕ) → k < length xs → f (g (get_or xs k d)) ≡ true → any? f (map g xs) ≡ true
any?-map-at f g [] d k h e = absurd (omega arith)
any?-map-at f g (x ∷ xs) d zero h e = or_left (f (g x)) (any? f (map g xs)) e
any?-map-at f g (x ∷ xs) d (suc k) h e = or_right (f (g x)) (any? f (map g xs)) (any?-map-at f g xs d k (omega arith) e)

-- THE CLAUSES OF THE DEFINITION

module _ (xs : List Used) (p : Prefix) where
  rows-unused : (left : ℕ) → unused? (map prefix_used xs) p ≡ true → rows_in xs left p ≡ free_row p ∷ []
  unfolding rows_in
  rows-unused zero e = rw e refl
  rows-unused (suc left) e = rw e refl

  rows-used : (left : ℕ) (x : Used) → unused? (map prefix_used xs) p ≡ false → used_at p xs ≡ some x → rows_in xs left p ≡ used_row x ∷ []
  unfolding rows_in
  rows-used zero x e f = rw (e, f) refl
  rows-used (suc left) x e f = rw (e, f) refl

  rows-halves : (left : ℕ) → unused? (map prefix_used xs) p ≡ false → used_at p xs ≡ none → rows_in xs (suc left) p ≡ rows_in xs left (lower p) ++ rows_in xs left (upper p)
  unfolding rows_in
  rows-halves left e f = rw (e, f) refl

abbrev Same : Prefix → Used → Type 0
Same p x = (x.network ≡ p.network) × (x.length ≡ p.length)

abbrev same? : Prefix → Used → Bool
same? p x = eqb x.network p.network && eqb x.length p.length

same_not : (p : Prefix) (x : Used) → (Same p x → ⊥) → same? p x ≡ false
same_not p x h =
    not-true⇒false (same? p x)
    (λ e. let t = and-to (eqb x.network p.network) (eqb x.length p.length) e in h (eqb-true _ _ t.0, eqb-true _ _ t.1))

used-first : (p : Prefix) (xs : List Used) (d : Used) (i : ℕ) → i < length xs → ((k : ℕ) → k < i → Same p (get_or xs k d) → ⊥) → Same p (get_or xs i d) → used_at p xs ≡ some (get_or xs i d)
used-first p [] d i h f s = absurd (omega arith)
used-first p (x ∷ xs) d zero h f s = cond-true (same? p x) (some x) (used_at p xs) (and-of _ _ (eq-eqb _ _ s.0) (eq-eqb _ _ s.1))
used-first p (x ∷ xs) d (suc i) h f s =
    cond-false (same? p x) (some x) (used_at p xs) (same_not p x (f 0 (omega arith))) ∙ used-first p xs d i (omega arith) (λ k l. f (suc k) (omega arith)) s

used-none : (p : Prefix) (xs : List Used) (d : Used) → ((k : ℕ) → k < length xs → Same p (get_or xs k d) → ⊥) → used_at p xs ≡ none
used-none p [] d f = refl
used-none p (x ∷ xs) d f =
    cond-false (same? p x) (some x) (used_at p xs) (same_not p x (f 0 (omega arith))) ∙ used-none p xs d (λ k l. f (suc k) (omega arith))

-- Free rows of two halves with a used row.
few-both : (m a b u x y f : ℕ) → u ≡ a + b → f ≡ x + y → 1 ≤ u → x ≤ m * a + 1 → y ≤ m * b + 1 → f ≤ suc m * u + 1
few-both m a b u x y f eu ef h i j =
    let e : suc m * u ≡ u + (m * a + m * b) = suc-mul m u ∙ omega (arith, ap (λ (k : ℕ). m * k) eu, mul-add m a b) in
    omega arith

-- ONE PREFIX

-- The leases are blocks, and ascend without overlap.
pub record Blocks (xs : List Used) (d : Used) : Type 0 where
  pub long : (k : ℕ) → k < length xs → (get_or xs k d).length ≤ longest
  pub aligned : (k : ℕ) → k < length xs → Aligned (prefix_used (get_or xs k d))
  pub ascend : (j k : ℕ) → j < k → k < length xs → end (prefix_used (get_or xs j d)) ≤ (get_or xs k d).network

module _ (xs : List Used) (d : Used) (blocks : Blocks xs d) where
  abbrev at : ℕ → Prefix
  at k = prefix_used (get_or xs k d)

  -- The leases before i end up to the address c, and those from i on start there or later.
  pub record Cursor (i c : ℕ) : Type 0 where
    pub bound : i ≤ length xs
    pub before : (k : ℕ) → k < i → end (at k) ≤ c
    pub later : (k : ℕ) → i ≤ k → k < length xs → c ≤ (get_or xs k d).network

  -- No lease is partly in p, and none around it.
  abbrev pub Tidy : Prefix → Type 0
  Tidy p = (k : ℕ) → k < length xs → Apart p (at k) ⊎ Inside (at k) p

  pub record Scanned (left : ℕ) (p : Prefix) (i : ℕ) (s : Scan) : Type 0 where
    pub rows : s.rows ≡ rows_in xs left p
    pub cursor : Cursor s.next (end p)
    pub used : drop i xs ≡ used_in s.rows ++ drop s.next xs
    pub free : free_in s.rows ≡ walk (map prefix_used xs) (suc (suc left)) p
    pub few : length (free_in s.rows) ≤ left * length (used_in s.rows) + 1

  module _ (left : ℕ) (p : Prefix) (i : ℕ) (level : p.length + left ≡ longest) (aligned : Aligned p) (tidy : Tidy p) (cursor : Cursor i p.network) where
    -- p is free.
    module _ (clear : (i < length xs → end p ≤ (get_or xs i d).network)) where
      after-p : (k : ℕ) → i ≤ k → k < length xs → end p ≤ (get_or xs k d).network
      after-p k h lt =
          by_cases (dec_le k i)
          (λ l. let e : k ≡ i = omega arith in subst (λ (j : ℕ). end p ≤ (get_or xs j d).network) (sym e) (clear (omega arith)))
          (λ l. omega (arith, clear (omega arith), blocks.ascend i k (omega arith) lt, size-positive (get_or xs i d).length))

      apart-p : All (Apart p) (map prefix_used xs)
      apart-p = all-map-of prefix_used (Apart p) xs d (λ k lt. by_cases (dec_le i k) (λ h. inl (after-p k h lt)) (λ h. inr (cursor.before k (omega arith))))

      scanned-free : Scanned left p i (free_scan p i)
      scanned-free = record {
        rows = sym (rows-unused xs p left (unused-of (map prefix_used xs) p apart-p));
        cursor = record {
          bound = cursor.bound;
          before = λ k h. omega (arith, cursor.before k h, size-positive p.length);
          later = after-p;
        };
        used = refl;
        free = sym (walk-unused (map prefix_used xs) (suc (suc left)) p apart-p);
        few = omega arith;
      }

    -- A lease is left and starts in p.
    module _ (lt : i < length xs) (starts : (get_or xs i d).network < end p) where
      shares : Apart p (at i) → ⊥
      shares (inl h) = omega arith
      shares (inr h) = omega (arith, cursor.later i (omega arith) lt, size-positive (get_or xs i d).length)

      lies : Inside (at i) p
      lies = ⊎_elim (λ h. absurd (shares h)) (λ h. h) (tidy i lt)

      taken : unused? (map prefix_used xs) p ≡ false
      taken = not-true⇒false (unused? (map prefix_used xs) p) (λ e. shares (all-map-at prefix_used (Apart p) xs d (unused-to (map prefix_used xs) p e) i lt))

      -- Of the leases before it none is p.
      earlier : (k : ℕ) → k < i → Same p (get_or xs k d) → ⊥
      earlier k h s = omega (arith, cursor.before k h, size-positive (get_or xs k d).length, s.0)

      -- It is p.
      module _ (here : (get_or xs i d).length ≤ p.length) where
        same-order : order (at i) ≡ order p
        same-order = omega (arith, inside-order (at i) p lies)

        covers : Inside p (at i)
        covers = inside-same-order (at i) p same-order lies

        same : Same p (get_or xs i d)
        same = (omega (arith, covers.0, lies.0), omega (arith, same-order, blocks.long i lt))

        scanned-used : Scanned left p i (used_scan (get_or xs i d) i)
        scanned-used = record {
          rows = sym (rows-used xs p left (get_or xs i d) taken (used-first p xs d i lt earlier same));
          cursor = record {
            bound = omega arith;
            before = λ k h.
                by_cases (dec_le i k)
                (λ l. let e : k ≡ i = omega arith in subst (λ (j : ℕ). end (at j) ≤ end p) (sym e) lies.1)
                (λ l. omega (arith, cursor.before k (omega arith), size-positive p.length));
            later = λ k h l. omega (arith, blocks.ascend i k (omega arith) l, covers.1);
          };
          used = drop_at xs i d lt;
          free =
              sym (walk-covered (map prefix_used xs) (suc (suc left)) p taken
              (any?-map-at (inside? p) prefix_used xs d i lt (inside_of p (at i) covers)));
          few = omega arith;
        }

      -- It is smaller than p.
      module _ (more : p.length < (get_or xs i d).length) where
        none_is : (k : ℕ) → k < length xs → Same p (get_or xs k d) → ⊥
        none_is k l s =
            by_cases (dec_le i k)
            (λ h. by_cases (dec_le k i)
            (λ g. let e : k ≡ i = omega arith in let t : (get_or xs i d).length ≡ p.length = subst (λ (j : ℕ). (get_or xs j d).length ≡ p.length) e s.1 in omega (arith, t))
            (λ g. omega (arith, blocks.ascend i k (omega arith) l, cursor.later i (omega arith) lt, size-positive (get_or xs i d).length, s.0)))
            (λ h. earlier k (omega arith) s)

        -- A lease inside p is smaller than p.
        smaller : (k : ℕ) → k < length xs → Inside (at k) p → order (at k) < order p
        smaller k l h =
            by_cases (dec_le (order p) (order (at k)))
            (λ g.
            let e : order (at k) ≡ order p = omega (arith, inside-order (at k) p h) in
            let c : Inside p (at k) = inside-same-order (at k) p e h in
            absurd (none_is k l (omega (arith, c.0, h.0), omega (arith, e, blocks.long k l))))
            (λ g. omega arith)

        not_covered : covered? (map prefix_used xs) p ≡ false
        not_covered =
            not-true⇒false (covered? (map prefix_used xs) p)
            (λ e.
            let no : All (λ q. Inside p q → ⊥) (map prefix_used xs) =
            all-map-of prefix_used (λ q. Inside p q → ⊥) xs d (λ k l h.
            ⊎_elim (λ a. apart-absurd p (at k) h a) (λ g. omega (arith, smaller k l g, inside-order p (at k) h)) (tidy k l)) in
            let t = any-all (map prefix_used xs) (covered-to (map prefix_used xs) p e) no in
            t.2 t.1)

        shorter : p.length < longest
        shorter = omega (arith, blocks.long i lt)

        half : (k : ℕ) → k < length xs → Inside (at k) p → Inside (at k) (lower p) ⊎ Inside (at k) (upper p)
        half k l h = in-half p aligned (at k) (omega (arith, shorter)) (blocks.aligned k l) (smaller k l h) h

        tidy-lower : Tidy (lower p)
        tidy-lower k l =
            ⊎_elim (λ a. inl (apart-sub (lower p) p (at k) (lower-inside p (omega (arith, shorter))) a))
            (λ h. ⊎_elim inr (λ u. inl (inl u.0)) (half k l h)) (tidy k l)

        tidy-upper : Tidy (upper p)
        tidy-upper k l =
            ⊎_elim (λ a. inl (apart-sub (upper p) p (at k) (upper-inside p (omega (arith, shorter))) a))
            (λ h. ⊎_elim (λ u. inl (inr u.1)) inr (half k l h)) (tidy k l)

        module _ (rest : ℕ) (low high : Scan) (first : Scanned rest (lower p) i low) (second : Scanned rest (upper p) low.next high) where
          halves-used : drop i xs ≡ used_in (low.rows ++ high.rows) ++ drop high.next xs
          halves-used =
              first.used
              ∙ ap (λ (l : List Used). used_in low.rows ++ l) second.used
              ∙ sym (append_assoc (used_in low.rows) (used_in high.rows) (drop high.next xs))
              ∙ ap (λ (l : List Used). l ++ drop high.next xs) (sym (used-append low.rows high.rows))

          halves-end : end (upper p) ≡ end p
          halves-end = upper-end p (omega (arith, shorter))

          halves-later : (k : ℕ) → high.next ≤ k → k < length xs → end p ≤ (get_or xs k d).network
          halves-later k h l = omega (arith, halves-end, second.cursor.later k h l)

          -- The lease that starts in p is one of the used rows.
          some-used : 1 ≤ length (used_in (low.rows ++ high.rows))
          some-used =
              by_cases (dec_le high.next i)
              (λ h. absurd (omega (arith, halves-later i h lt)))
              (λ h. omega (arith, ap length halves-used, length-append (used_in (low.rows ++ high.rows)) (drop high.next xs), length-drop i xs, length-drop high.next xs, second.cursor.bound))

          halves-few : length (free_in (low.rows ++ high.rows)) ≤ suc rest * length (used_in (low.rows ++ high.rows)) + 1
          halves-few = few-both rest _ _ _ _ _ _ (length-used low.rows high.rows) (length-free low.rows high.rows) some-used first.few second.few

          scanned-both : Scanned (suc rest) p i (both low high)
          scanned-both = record {
            rows = ap₂ (λ (a b : List Row). a ++ b) first.rows second.rows ∙ sym (rows-halves xs p rest taken (used-none p xs d none_is));
            cursor = record {
              bound = second.cursor.bound;
              before = λ k h. omega (arith, halves-end, second.cursor.before k h);
              later = halves-later;
            };
            used = halves-used;
            free =
                free-append low.rows high.rows
                ∙ ap₂ (λ (a b : List Prefix). a ++ b) first.free second.free
                ∙ sym (walk-halves (map prefix_used xs) (suc (suc rest)) p taken not_covered);
            few = halves-few;
          }

  abbrev lease : ℕ → Used
  lease k = get_or xs k d

  -- One turn, once its halves are done.
  turned : (left : ℕ) (p : Prefix) (i : ℕ) → p.length + left ≡ longest → Aligned p → Tidy p → Cursor i p.network
      → (clear? (length xs) (end p) i (lease i).network ≡ false → p.length < (lease i).length → Scanned left p i (scan lease (length xs) left p i))
      → Scanned left p i (scan lease (length xs) left p i)
  turned left p i level aligned tidy cursor halves =
      ⊎_elim
      (λ (e : clear? (length xs) (end p) i (lease i).network ≡ true).
      subst (Scanned left p i) (sym (scan-clear lease (length xs) p i left e))
      (scanned-free left p i level aligned tidy cursor (clear-yes (length xs) (end p) i (lease i).network e)))
      (λ (e : clear? (length xs) (end p) i (lease i).network ≡ false).
      let some = clear-not (length xs) (end p) i (lease i).network e in
      by_cases (dec_le (lease i).length p.length)
      (λ h. subst (Scanned left p i) (sym (scan-here lease (length xs) p i e left h)) (scanned-used left p i level aligned tidy cursor some.0 some.1 h))
      (λ h. halves e (omega arith)))
      (bool_cases (clear? (length xs) (end p) i (lease i).network))

  pub scanned : (left : ℕ) (p : Prefix) (i : ℕ) → p.length + left ≡ longest → Aligned p → Tidy p → Cursor i p.network → Scanned left p i (scan lease (length xs) left p i)
  scanned zero p i level aligned tidy cursor =
      turned zero p i level aligned tidy cursor
      (λ e more. absurd (omega (arith, more, blocks.long i (clear-not (length xs) (end p) i (lease i).network e).0)))
  scanned (suc left) p i level aligned tidy cursor =
      turned (suc left) p i level aligned tidy cursor
      (λ e more.
      let some = clear-not (length xs) (end p) i (lease i).network e in
      let low : Scan = scan lease (length xs) left (lower p) i in
      let first : Scanned left (lower p) i low =
      scanned left (lower p) i (omega arith) (aligned-lower p aligned) (tidy-lower (suc left) p i level aligned tidy cursor some.0 some.1 more) cursor in
      let second = scanned left (upper p) low.next (omega arith) (aligned-upper p aligned) (tidy-upper (suc left) p i level aligned tidy cursor some.0 some.1 more) first.cursor in
      subst (Scanned (suc left) p i) (sym (scan-split lease (length xs) p i e left more))
      (scanned-both (suc left) p i level aligned tidy cursor some.0 some.1 more left low (scan lease (length xs) left (upper p) low.next) first second))
