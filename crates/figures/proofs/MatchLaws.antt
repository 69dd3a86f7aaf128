-- Laws of matching: the rows of a whole table are those of its leases, and those of empty slots behind them.
-- Assumes nothing.
use Prim.Native.Nat.{ℕ, zero, suc, ◌+◌}
use native.Mathlib.Omega.{arith}
use mathlib.Core.Path.{◌≡◌, refl, sym, ap, ap₂, ◌∙◌}
use mathlib.Core.Bool.{Bool, true, false, not, ◌&&◌, ◌||◌}
use mathlib.Core.List.{List, [], ◌∷◌, ◌++◌, map}
use lib.ListN.{length, drop, replicate, length-append, length-replicate, length-drop}
use lib.Dec.{eqb}
use borrow.Author.Tests.{eqb-true}
use Rattle.lists.specs.Lists.{All, and, all?}
use Rattle.lists.proofs.Tests.{and-to, and-of, and-list-to}
use Rattle.names.specs.Names.{unnamed?}
use Rattle.table.specs.declared.Lease.{Lease}
use Rattle.table.specs.Table.{no_lease, empty?}
use Rattle.figures.specs.declared.FigureRow.{FigureRow}
use Rattle.figures.specs.Figures.{untold, empty_row, of_lease?, untold?, fits?, matches?}
use Rattle.figures.specs.Inner.{leases_match?, empty_row?}

shift_and : (a b u : Bool) → ((a && (b && true)) && u) ≡ (a && (b && u))
shift_and true true u = refl
shift_and true false u = refl
shift_and false b u = refl

and_assoc : (a b u : Bool) → ((a && b) && u) ≡ (a && (b && u))
and_assoc true b u = refl
and_assoc false b u = refl

and-true : (b : Bool) → (b && true) ≡ b
and-true true = refl
and-true false = refl

pub empty-fits : (r : FigureRow) → fits? no_lease r ≡ empty_row? r
unfolding fits? empty_row? of_lease? untold? unnamed? empty?
empty-fits r =
    shift_and (eqb r.network 0) (eqb r.length 0) (and (eqb r.high_water.0 untold ∷ eqb r.in_use.0 untold ∷ eqb r.unusable.0 untold ∷ []))

pub used-fits : (x : Lease) (r : FigureRow) → empty? x ≡ false → fits? x r ≡ of_lease? x r
unfolding fits?
used-fits x r e = ap (λ (b : Bool). of_lease? x r && (not b || untold? r)) e ∙ and-true (of_lease? x r)

empties-match : (m : ℕ) (rows : List FigureRow) → m ≡ length rows → matches? (replicate m no_lease) rows ≡ all? empty_row? rows
empties-match zero [] e = refl
empties-match zero (r ∷ rows) e = absurd (omega arith)
empties-match (suc m) [] e = absurd (omega arith)
empties-match (suc m) (r ∷ rows) e = ap₂ (λ (a b : Bool). a && b) (empty-fits r) (empties-match m rows (omega arith))

pub padded-match : (xs : List Lease) (m : ℕ) (rows : List FigureRow) → All (λ x. empty? x ≡ false) xs → length xs + m ≡ length rows
    → matches? (xs ++ replicate m no_lease) rows ≡ (leases_match? xs rows && all? empty_row? (drop (length xs) rows))
padded-match [] m rows u e = empties-match m rows (omega arith)
padded-match (x ∷ xs) m [] u e = absurd (omega arith)
padded-match (x ∷ xs) m (r ∷ rows) u e =
    ap₂ (λ (a b : Bool). a && b) (used-fits x r u.0) (padded-match xs m rows u.1 (omega arith))
    ∙ sym (and_assoc (of_lease? x r) (leases_match? xs rows) (all? empty_row? (drop (length xs) rows)))

-- WHAT A MATCH SAYS

-- Only the empty row is empty.
five : (a b c d e : Bool) → and (a ∷ b ∷ c ∷ d ∷ e ∷ []) ≡ true → (a ≡ true) × (b ≡ true) × (c ≡ true) × (d ≡ true) × (e ≡ true)
five a b c d e p = let t = and-list-to (a ∷ b ∷ c ∷ d ∷ e ∷ []) p in (t.0, t.1.0, t.1.1.0, t.1.1.1.0, t.1.1.1.1.0)

row_of : ℕ → ℕ → ℕ → ℕ → ℕ → FigureRow
row_of network len high busy bad = record { network = network; length = len; high_water = record { 0 = high }; in_use = record { 0 = busy }; unusable = record { 0 = bad } }

pub empty-is : (r : FigureRow) → empty_row? r ≡ true → r ≡ empty_row
unfolding empty_row? row_of
empty-is r e =
    let h : ℕ = r.high_water.0 in
    let u : ℕ = r.in_use.0 in
    let b : ℕ = r.unusable.0 in
    let t = five (eqb r.network 0) (eqb r.length 0) (eqb h untold) (eqb u untold) (eqb b untold) e in
    ap₂ (λ (n l : ℕ). row_of n l h u b) (eqb-true r.network 0 t.0) (eqb-true r.length 0 t.1)
    ∙ ap₂ (λ (x y : ℕ). row_of 0 0 x y b) (eqb-true h untold t.2) (eqb-true u untold t.3)
    ∙ ap (row_of 0 0 untold untold) (eqb-true b untold t.4)

pub all-empty : (rows : List FigureRow) → all? empty_row? rows ≡ true → rows ≡ replicate (length rows) empty_row
all-empty [] e = refl
all-empty (r ∷ rows) e =
    let t = and-to (empty_row? r) (all? empty_row? rows) e in
    ap₂ (λ (q : FigureRow) (l : List FigureRow). q ∷ l) (empty-is r t.0) (all-empty rows t.1)

pub matches-length : (xs : List Lease) (rows : List FigureRow) → matches? xs rows ≡ true → length xs ≡ length rows
matches-length [] [] e = refl
matches-length [] (r ∷ rows) e = let z : ◌≡◌ {A = ℕ} 0 1 = cc in absurd (omega arith)
matches-length (x ∷ xs) [] e = let z : ◌≡◌ {A = ℕ} 0 1 = cc in absurd (omega arith)
matches-length (x ∷ xs) (r ∷ rows) e = ap suc (matches-length xs rows (and-to (fits? x r) (matches? xs rows) e).1)

-- Rows of leases, and of empty slots behind them.
pub record Matched (xs : List Lease) (m : ℕ) (rows : List FigureRow) : Type 0 where
  pub size : length rows ≡ length xs + m
  pub leases : leases_match? xs rows ≡ true
  pub behind : drop (length xs) rows ≡ replicate m empty_row

pub matched : (xs : List Lease) (m : ℕ) (rows : List FigureRow) → All (λ x. empty? x ≡ false) xs → matches? (xs ++ replicate m no_lease) rows ≡ true → Matched xs m rows
matched xs m rows u e =
    let size : length rows ≡ length xs + m =
    sym (matches-length (xs ++ replicate m no_lease) rows e) ∙ omega (arith, length-append xs (replicate m no_lease), length-replicate m no_lease) in
    let t = and-to (leases_match? xs rows) (all? empty_row? (drop (length xs) rows)) (sym (padded-match xs m rows u (sym size)) ∙ e) in
    let rest : length (drop (length xs) rows) ≡ m = omega (arith, length-drop (length xs) rows, size) in
    record {
      size = size;
      leases = t.0;
      behind = all-empty (drop (length xs) rows) t.1 ∙ ap (λ (k : ℕ). replicate k empty_row) rest;
    }

-- A row for each of some leases matches them, if it is each one's.
pub matches-each : (row : Lease → FigureRow) (xs : List Lease) → All (λ x. fits? x (row x) ≡ true) xs → matches? xs (map row xs) ≡ true
matches-each row [] a = refl
matches-each row (x ∷ xs) a = and-of (fits? x (row x)) (matches? xs (map row xs)) a.0 (matches-each row xs a.1)

pub empty-row-fits : fits? no_lease empty_row ≡ true
unfolding empty_row?
empty-row-fits = empty-fits empty_row
