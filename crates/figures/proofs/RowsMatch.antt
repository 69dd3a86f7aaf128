-- Rows that match leases: what the test says of a row, and rows that match because each is made of its lease.
-- Assumes nothing.
use Prim.Native.Nat.{suc}
use mathlib.Core.Path.{◌≡◌, refl, ap}
use mathlib.Core.Logic.{⊎_elim}
use mathlib.Core.Bool.{true, false, not, ◌||◌, false≢true}
use mathlib.Core.List.{List, [], ◌∷◌, map}
use lib.ListN.{length}
use lib.Dec.{eqb}
use borrow.Author.Tests.{eqb-true, eq-eqb}
use Rattle.lists.specs.Lists.{and}
use Rattle.lists.proofs.Tests.{bool_cases, and-to, and-of, and-list-to, or_left, or_right, not-of}
use Rattle.prefix.specs.declared.Prefix.{Prefix}
use Rattle.table.specs.declared.Lease.{Lease}
use Rattle.table.specs.Table.{prefix_of, empty?}
use Rattle.figures.specs.declared.FigureRow.{FigureRow}
use Rattle.figures.specs.Figures.{untold_row, of_lease?, untold?, fits?, matches?}

-- A ROW OF A LEASE

pub of-lease : (x : Lease) (r : FigureRow) → of_lease? x r ≡ true → (r.network ≡ x.network) × (r.length ≡ x.length)
unfolding of_lease?
of-lease x r e =
    let t = and-list-to (eqb r.network x.network ∷ eqb r.length x.length ∷ []) e in
    (eqb-true r.network x.network t.0, eqb-true r.length x.length t.1.0)

pub not-of-lease : (x : Lease) (r : FigureRow) → (r.network ≡ x.network → r.length ≡ x.length → ⊥) → of_lease? x r ≡ false
not-of-lease x r k =
    ⊎_elim (λ (e : of_lease? x r ≡ true). let at = of-lease x r e in absurd (k at.0 at.1)) (λ (e : of_lease? x r ≡ false). e) (bool_cases (of_lease? x r))

-- It goes by the prefix alone.
pub of-lease-same : (x y : Lease) (r : FigureRow) → prefix_of y ≡ prefix_of x → of_lease? y r ≡ of_lease? x r
unfolding of_lease?
of-lease-same x y r e = ap (λ (p : Prefix). and (eqb r.network p.network ∷ eqb r.length p.length ∷ [])) e

pub of-own : (x : Lease) → of_lease? x (untold_row x) ≡ true
unfolding of_lease?
of-own x = rw (eq-eqb x.network x.network refl, eq-eqb x.length x.length refl) refl

pub untold-is : (x : Lease) → untold? (untold_row x) ≡ true
unfolding untold?
untold-is x = refl

-- A ROW THAT FITS

-- It is the lease's, and untold where the slot is empty.
pub fits-of : (x : Lease) (r : FigureRow) → of_lease? x r ≡ true → (empty? x ≡ true → untold? r ≡ true) → fits? x r ≡ true
unfolding fits?
fits-of x r e k =
    and-of (of_lease? x r) (not (empty? x) || untold? r) e
    (⊎_elim
    (λ (z : empty? x ≡ true). or_right (not (empty? x)) (untold? r) (k z))
    (λ (z : empty? x ≡ false). or_left (not (empty? x)) (untold? r) (not-of (empty? x) z))
    (bool_cases (empty? x)))

pub fits-to : (x : Lease) (r : FigureRow) → fits? x r ≡ true → of_lease? x r ≡ true
unfolding fits?
fits-to x r e = (and-to (of_lease? x r) (not (empty? x) || untold? r) e).0

pub untold-fits : (x : Lease) → fits? x (untold_row x) ≡ true
untold-fits x = fits-of x (untold_row x) (of-own x) (λ z. untold-is x)

-- ROWS THAT MATCH

pub image-matches : (f : Lease → FigureRow) → ((x : Lease) → fits? x (f x) ≡ true) → (xs : List Lease) → matches? xs (map f xs) ≡ true
image-matches f k [] = refl
image-matches f k (x ∷ xs) = and-of (fits? x (f x)) (matches? xs (map f xs)) (k x) (image-matches f k xs)

-- "open and load fill it"
pub filled-matches : (xs : List Lease) → matches? xs (map untold_row xs) ≡ true
filled-matches xs = image-matches untold_row untold-fits xs

pub matches-length : (xs : List Lease) (rs : List FigureRow) → matches? xs rs ≡ true → length rs ≡ length xs
matches-length [] [] m = refl
matches-length [] (r ∷ rs) m = absurd (false≢true m)
matches-length (x ∷ xs) [] m = absurd (false≢true m)
matches-length (x ∷ xs) (r ∷ rs) m = ap suc (matches-length xs rs (and-to (fits? x r) (matches? xs rs) m).1)
