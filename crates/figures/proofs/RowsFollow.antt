-- Rows that follow leases: those kept match the leases that are present, each lease that was there finds its own, a new one finds none, and what an
-- accepted call leaves matches.
-- Assumes nothing.
use Prim.Native.Nat.{ℕ, ◌≤◌}
use native.Mathlib.Omega.{arith}
use mathlib.Core.Path.{◌≡◌, refl, sym, ap, ap₂, subst, ◌∙◌}
use mathlib.Core.Logic.{⊎_elim}
use mathlib.Core.Bool.{Bool, true, false, cond, false≢true}
use mathlib.Core.List.{List, [], ◌∷◌, map}
use mathlib.Core.Option.{Option, none, some, some-ne-none}
use lib.Dec.{ltb}
use Rattle.lists.specs.Lists.{All}
use Rattle.lists.proofs.Tests.{bool_cases, cond-true, cond-false, and-to, and-of}
use Rattle.lists.proofs.ListLaws.{all_map}
use Rattle.lists.proofs.FilterLaws.{filter-yes, filter-no}
use Rattle.prefix.specs.declared.Prefix.{Prefix}
use Rattle.prefix.specs.Prefixes.{end}
use Rattle.prefix.proofs.PrefixLaws.{size-positive}
use Rattle.table.specs.declared.{Lease.Lease, LeaseTable.LeaseTable}
use Rattle.table.specs.Table.{prefix_of, no_lease, empty?, present}
use Rattle.table.proofs.Ascending.{Ascending, ascending-low}
use Rattle.table.proofs.TableLaws.{empty-to, present?}
use Rattle.figures.specs.declared.FigureRow.{FigureRow}
use Rattle.figures.specs.Figures.{untold_row, of_lease?, untold?, fits?, matches?, kept_rows, found, or_untold, row_for, followed}
use Rattle.figures.proofs.RowsMatch.{of-lease, not-of-lease, of-lease-same, of-own, untold-is, fits-of, fits-to, image-matches}

-- THE ROWS THAT ARE KEPT

pub kept-yes : (now : ℕ) (x : Lease) (xs : List Lease) (r : FigureRow) (rs : List FigureRow) → ltb now x.expires ≡ true → kept_rows now (x ∷ xs) (r ∷ rs) ≡ r ∷ kept_rows now xs rs
kept-yes now x xs r rs e = cond-true (ltb now x.expires) (r ∷ kept_rows now xs rs) (kept_rows now xs rs) e

pub kept-no : (now : ℕ) (x : Lease) (xs : List Lease) (r : FigureRow) (rs : List FigureRow) → ltb now x.expires ≡ false → kept_rows now (x ∷ xs) (r ∷ rs) ≡ kept_rows now xs rs
kept-no now x xs r rs e = cond-false (ltb now x.expires) (r ∷ kept_rows now xs rs) (kept_rows now xs rs) e

pub kept-matches : (now : ℕ) (xs : List Lease) (rs : List FigureRow) → matches? xs rs ≡ true → matches? (present now xs) (kept_rows now xs rs) ≡ true
unfolding present
kept-matches now [] [] m = refl
kept-matches now [] (r ∷ rs) m = absurd (false≢true m)
kept-matches now (x ∷ xs) [] m = absurd (false≢true m)
kept-matches now (x ∷ xs) (r ∷ rs) m =
    let t = and-to (fits? x r) (matches? xs rs) m in
    let rest : matches? (present now xs) (kept_rows now xs rs) ≡ true = kept-matches now xs rs t.1 in
    ⊎_elim
    (λ (e : ltb now x.expires ≡ true).
    ap₂ matches? (filter-yes (present? now) x xs e) (kept-yes now x xs r rs e) ∙ and-of (fits? x r) (matches? (present now xs) (kept_rows now xs rs)) t.0 rest)
    (λ (e : ltb now x.expires ≡ false). ap₂ matches? (filter-no (present? now) x xs e) (kept-no now x xs r rs e) ∙ rest)
    (bool_cases (ltb now x.expires))

-- What holds of all rows holds of those kept.
pub kept-all : (P : FigureRow → Type 0) (now : ℕ) (xs : List Lease) (rs : List FigureRow) → All P rs → All P (kept_rows now xs rs)
kept-all P now [] rs a = tt
kept-all P now (x ∷ xs) [] a = tt
kept-all P now (x ∷ xs) (r ∷ rs) a =
    let rest = kept-all P now xs rs a.1 in
    ⊎_elim
    (λ (e : ltb now x.expires ≡ true). subst (All P) (sym (kept-yes now x xs r rs e)) (a.0, rest))
    (λ (e : ltb now x.expires ≡ false). subst (All P) (sym (kept-no now x xs r rs e)) rest)
    (bool_cases (ltb now x.expires))

-- THE ROW THAT A LEASE FINDS

-- It goes by the prefix alone.
pub found-same : (rs : List FigureRow) (x y : Lease) → prefix_of y ≡ prefix_of x → found rs y ≡ found rs x
found-same [] x y e = refl
found-same (r ∷ rs) x y e = ap₂ (λ (b : Bool) (later : Option FigureRow). cond b (some r) later) (of-lease-same x y r e) (found-same rs x y e)

-- It is a row of the lease, and one of the rows.
pub found-is : (P : FigureRow → Type 0) (rs : List FigureRow) (x : Lease) (r : FigureRow) → All P rs → found rs x ≡ some r → (of_lease? x r ≡ true) × P r
found-is P [] x r a e = absurd (some-ne-none r (sym e))
found-is P (q ∷ rs) x r a e =
    ⊎_elim
    (λ (t : of_lease? x q ≡ true).
    let s : some q ≡ some r = sym (cond-true (of_lease? x q) (some q) (found rs x) t) ∙ e in
    let same : q ≡ r = cc in
    (subst (λ (y : FigureRow). of_lease? x y ≡ true) same t, subst P same a.0))
    (λ (t : of_lease? x q ≡ false). found-is P rs x r a.1 (sym (cond-false (of_lease? x q) (some q) (found rs x) t) ∙ e))
    (bool_cases (of_lease? x q))

-- A lease with none of these prefixes finds no row of theirs.
pub found_none : (x : Lease) (ys : List Lease) (rs : List FigureRow) → matches? ys rs ≡ true → All (λ y. prefix_of y ≡ prefix_of x → ⊥) ys → found rs x ≡ none
found_none x [] [] m a = refl
found_none x [] (r ∷ rs) m a = absurd (false≢true m)
found_none x (y ∷ ys) [] m a = absurd (false≢true m)
found_none x (y ∷ ys) (r ∷ rs) m a =
    let t = and-to (fits? y r) (matches? ys rs) m in
    let at = of-lease y r (fits-to y r t.0) in
    cond-false (of_lease? x r) (some r) (found rs x)
    (not-of-lease x r (λ n l. a.0 (ap₂ (λ (p q : ℕ). record { network = p; length = q }) (sym at.0 ∙ n) (sym at.1 ∙ l))))
    ∙ found_none x ys rs t.1 a.1

-- A row of none of some leases is not looked at by them.
not-looked : (r : FigureRow) (rs : List FigureRow) (ys : List Lease) → All (λ y. of_lease? y r ≡ false) ys → map (found (r ∷ rs)) ys ≡ map (found rs) ys
not-looked r rs [] a = refl
not-looked r rs (y ∷ ys) a =
    ap₂ (λ (o : Option FigureRow) (os : List (Option FigureRow)). o ∷ os) (cond-false (of_lease? y r) (some r) (found rs y) a.0) (not-looked r rs ys a.1)

-- Leases that ascend each find the row at their place.
pub own-rows : (from : ℕ) (ys : List Lease) (rs : List FigureRow) → Ascending prefix_of from ys → matches? ys rs ≡ true → map (found rs) ys ≡ map some rs
own-rows from [] [] s m = refl
own-rows from [] (r ∷ rs) s m = absurd (false≢true m)
own-rows from (y ∷ ys) [] s m = absurd (false≢true m)
own-rows from (y ∷ ys) (r ∷ rs) s m =
    let t = and-to (fits? y r) (matches? ys rs) m in
    let own = fits-to y r t.0 in
    let at = of-lease y r own in
    let others : All (λ z. of_lease? z r ≡ false) ys =
    all_map (λ z (h : end (prefix_of y) ≤ z.network). not-of-lease z r (λ n l. omega (arith, size-positive y.length))) ys (ascending-low prefix_of (end (prefix_of y)) ys s.1) in
    ap₂ (λ (o : Option FigureRow) (os : List (Option FigureRow)). o ∷ os) (cond-true (of_lease? y r) (some r) (found rs y) own)
    (not-looked r rs ys others ∙ own-rows (end (prefix_of y)) ys rs s.1 t.1)

-- ITS ROW

pub row_new : (rs : List FigureRow) (x : Lease) → found rs x ≡ none → row_for rs x ≡ untold_row x
unfolding row_for
row_new rs x e = ap (or_untold x) e

pub row-own : (rs : List FigureRow) (x : Lease) (r : FigureRow) → found rs x ≡ some r → row_for rs x ≡ r
unfolding row_for
row-own rs x r e = ap (or_untold x) e

-- What holds of all rows and of the untold one.
pub row-all : (P : FigureRow → Type 0) (rs : List FigureRow) (x : Lease) → All P rs → P (untold_row x) → P (row_for rs x)
unfolding row_for
row-all P rs x a u = go (found rs x) refl
  where
    go : (o : Option FigureRow) → found rs x ≡ o → P (or_untold x o)
    go none e = u
    go (some r) e = (found-is P rs x r a e).1

pub row-of-lease : (rs : List FigureRow) (x : Lease) → of_lease? x (row_for rs x) ≡ true
unfolding row_for
row-of-lease rs x = go (found rs x) refl
  where
    every : (qs : List FigureRow) → All (λ q. Unit {0}) qs
    every [] = tt
    every (q ∷ qs) = (tt, every qs)

    go : (o : Option FigureRow) → found rs x ≡ o → of_lease? x (or_untold x o) ≡ true
    go none e = of-own x
    go (some r) e = (found-is (λ q. Unit {0}) rs x r (every rs) e).0

-- An empty slot finds no row of leases that are used, so its row is untold.
pub empty-found : (ys : List Lease) (rs : List FigureRow) → matches? ys rs ≡ true → All (λ y. 1 ≤ y.length) ys → found rs no_lease ≡ none
empty-found ys rs m a =
    let other : (y : Lease) → 1 ≤ y.length → prefix_of y ≡ prefix_of no_lease → ⊥ = λ y l e. omega (arith, ap (λ (p : Prefix). p.length) e) in
    found_none no_lease ys rs m (all_map other ys a)

pub empty-row : (rs : List FigureRow) (x : Lease) → found rs no_lease ≡ none → empty? x ≡ true → row_for rs x ≡ untold_row x
empty-row rs x e z = row_new rs x (ap (found rs) (empty-to x z) ∙ e)

-- WHAT AN ACCEPTED CALL LEAVES MATCHES

pub row_fits : (rs : List FigureRow) → found rs no_lease ≡ none → (x : Lease) → fits? x (row_for rs x) ≡ true
row_fits rs e x = fits-of x (row_for rs x) (row-of-lease rs x) (λ z. ap untold? (empty-row rs x e z) ∙ untold-is x)

pub followed-matches : (now : ℕ) (t : LeaseTable) (rows : List FigureRow) (u : LeaseTable) → matches? t.leases rows ≡ true → All (λ x. 1 ≤ x.length) (present now t.leases)
    → matches? u.leases (followed now t rows u) ≡ true
unfolding followed
followed-matches now t rows u m a =
    let rs : List FigureRow = kept_rows now t.leases rows in
    image-matches (row_for rs) (row_fits rs (empty-found (present now t.leases) rs (kept-matches now t.leases rows m) a)) u.leases
