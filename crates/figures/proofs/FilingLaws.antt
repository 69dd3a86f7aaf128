-- A take files entry by entry, each in the row of the lease that it names, if there is one: so the row of each of the client's present leases is filed by all.
-- Assumes nothing.
use Prim.Native.Nat.{ℕ, zero, suc, ◌<◌}
use native.Mathlib.Omega.{arith}
use mathlib.Core.Path.{◌≡◌, refl, sym, ap, ap₂, ◌∙◌}
use mathlib.Core.Bool.{Bool, true, false, cond, ◌&&◌}
use mathlib.Core.List.{List, [], ◌∷◌, ◌++◌}
use lib.ListN.{length, get_or, set}
use lib.Dec.{ltb, eqb}
use borrow.Author.Tests.{eqb-true, ne_eqb}
use Rattle.lists.specs.Lists.{All, Pairwise, and}
use Rattle.lists.proofs.Tests.{and-to}
use Rattle.lists.proofs.ListLaws.{all_map}
use Rattle.lists.proofs.IndexLaws.{all-at}
use Rattle.option_entry.specs.Entries.{Entry}
use Rattle.option_entry.specs.Steps.{figures_of}
use Rattle.table.specs.declared.Lease.{Lease}
use Rattle.table.specs.Table.{no_lease}
use Rattle.figures.specs.declared.FigureRow.{FigureRow}
use Rattle.figures.specs.Figures.{empty_row, of_lease?, names?, filed, filed_by}
use Rattle.figures.specs.Inner.{leases_match?, with_each, filing}
use Rattle.figures.proofs.FoundLaws.{lease-network, lease-length}
use Rattle.figures.proofs.FileLaws.{filed-by-lease, filed-by-more}

-- Before the first entry.
pub file-nothing : (now client : ℕ) (xs : List Lease) (rows : List FigureRow) → with_each (filing now client []) xs rows ≡ rows
file-nothing now client [] rows = refl
file-nothing now client (x ∷ xs) [] = refl
file-nothing now client (x ∷ xs) (r ∷ rows) =
    ap₂ (λ (q : FigureRow) (l : List FigureRow). q ∷ l) (either (ltb now x.expires && eqb x.client client)) (file-nothing now client xs rows)
  where
    either : (b : Bool) → cond b r r ≡ r
    either true = refl
    either false = refl

pass : (p q w : Bool) (a b r : FigureRow) → (p && (q && w)) ≡ false → cond (p && q) (cond w a b) r ≡ cond (p && q) b r
pass true true true a b r e = let z : ◌≡◌ {A = ℕ} 0 1 = cc in absurd (omega arith)
pass true true false a b r e = refl
pass true false w a b r e = refl
pass false q w a b r e = refl

hit : (p q w : Bool) (r s : FigureRow) (f : FigureRow → FigureRow) → (p && (q && w)) ≡ true → cond (p && q) (cond w (f s) s) r ≡ f (cond (p && q) s r)
hit true true true r s f e = refl
hit true true false r s f e = let z : ◌≡◌ {A = ℕ} 0 1 = cc in absurd (omega arith)
hit true false w r s f e = let z : ◌≡◌ {A = ℕ} 0 1 = cc in absurd (omega arith)
hit false q w r s f e = let z : ◌≡◌ {A = ℕ} 0 1 = cc in absurd (omega arith)

module _ (now client : ℕ) (e : Entry) where
  -- "equals a present line of this station in network and length"
  abbrev pub entry_names? : Lease → Bool
  entry_names? x = ltb now x.expires && and (eqb x.client client ∷ eqb x.network e.network ∷ eqb x.length e.length ∷ [])

  module _ (es : List Entry) where
    row-names : (x : Lease) (r : FigureRow) → of_lease? x r ≡ true → names? r e ≡ and (eqb x.network e.network ∷ eqb x.length e.length ∷ [])
    row-names x r m = ap₂ (λ (n l : ℕ). and (eqb n e.network ∷ eqb l e.length ∷ [])) (lease-network x r m) (lease-length x r m)

    more : (x : Lease) (r : FigureRow) → of_lease? x r ≡ true
        → filing now client (es ++ (e ∷ [])) x r
        ≡ cond (ltb now x.expires && eqb x.client client) (cond (and (eqb x.network e.network ∷ eqb x.length e.length ∷ [])) (filed (figures_of e.figures) (filed_by es r)) (filed_by es r)) r
    more x r m =
        ap (λ (q : FigureRow). cond (ltb now x.expires && eqb x.client client) q r)
        (filed-by-more es e r ∙ ap (λ (b : Bool). cond b (filed (figures_of e.figures) (filed_by es r)) (filed_by es r)) (row-names x r m))

    unnamed : (x : Lease) (r : FigureRow) → of_lease? x r ≡ true → entry_names? x ≡ false → filing now client (es ++ (e ∷ [])) x r ≡ filing now client es x r
    unnamed x r m n =
        more x r m
        ∙ pass (ltb now x.expires) (eqb x.client client) (and (eqb x.network e.network ∷ eqb x.length e.length ∷ []))
        (filed (figures_of e.figures) (filed_by es r)) (filed_by es r) r n

    named : (x : Lease) (r : FigureRow) → of_lease? x r ≡ true → entry_names? x ≡ true → filing now client (es ++ (e ∷ [])) x r ≡ filed (figures_of e.figures) (filing now client es x r)
    named x r m n =
        more x r m
        ∙ hit (ltb now x.expires) (eqb x.client client) (and (eqb x.network e.network ∷ eqb x.length e.length ∷ [])) r (filed_by es r) (filed (figures_of e.figures)) n

    -- An entry that names none of the leases changes nothing.
    pub file-none : (xs : List Lease) (rows : List FigureRow) → leases_match? xs rows ≡ true → All (λ x. entry_names? x ≡ false) xs
        → with_each (filing now client (es ++ (e ∷ []))) xs rows ≡ with_each (filing now client es) xs rows
    file-none [] rows m a = refl
    file-none (x ∷ xs) [] m a = refl
    file-none (x ∷ xs) (r ∷ rows) m a =
        let t = and-to (of_lease? x r) (leases_match? xs rows) m in
        ap₂ (λ (q : FigureRow) (l : List FigureRow). q ∷ l) (unnamed x r t.0 a.0) (file-none xs rows t.1 a.1)

    elsewhere : (x : Lease) → (x.network ≡ e.network → ⊥) → entry_names? x ≡ false
    elsewhere x other =
        ap (λ (b : Bool). ltb now x.expires && (eqb x.client client && (b && (eqb x.length e.length && true)))) (ne_eqb x.network e.network other)
        ∙ nothing (ltb now x.expires) (eqb x.client client)
      where
        nothing : (p q : Bool) → (p && (q && false)) ≡ false
        nothing true true = refl
        nothing true false = refl
        nothing false q = refl

    at-network : (x : Lease) → entry_names? x ≡ true → x.network ≡ e.network
    at-network x n =
        let t = and-to (ltb now x.expires) (eqb x.client client && (eqb x.network e.network && (eqb x.length e.length && true))) n in
        let u = and-to (eqb x.client client) (eqb x.network e.network && (eqb x.length e.length && true)) t.1 in
        eqb-true x.network e.network (and-to (eqb x.network e.network) (eqb x.length e.length && true) u.1).0

    -- One that names the lease at a place is filed in the row there.
    pub file-one : (xs : List Lease) (rows : List FigureRow) (i : ℕ) → Pairwise (λ x y. x.network < y.network) xs → leases_match? xs rows ≡ true → i < length xs
        → entry_names? (get_or xs i no_lease) ≡ true
        → with_each (filing now client (es ++ (e ∷ []))) xs rows
        ≡ set (with_each (filing now client es) xs rows) i (filed (figures_of e.figures) (get_or (with_each (filing now client es) xs rows) i empty_row))
    file-one [] rows i a m lt n = absurd (omega arith)
    file-one (x ∷ xs) [] i a m lt n = let z : ◌≡◌ {A = ℕ} 0 1 = cc in absurd (omega arith)
    file-one (x ∷ xs) (r ∷ rows) zero a m lt n =
        let t = and-to (of_lease? x r) (leases_match? xs rows) m in
        let here = at-network x n in
        ap₂ (λ (q : FigureRow) (l : List FigureRow). q ∷ l) (named x r t.0 n)
        (file-none xs rows t.1 (all_map (λ z (later : x.network < z.network). elsewhere z (λ at. omega (arith, later, at, here))) xs a.0))
    file-one (x ∷ xs) (r ∷ rows) (suc i) a m lt n =
        let t = and-to (of_lease? x r) (leases_match? xs rows) m in
        let there = at-network (get_or xs i no_lease) n in
        let later : x.network < (get_or xs i no_lease).network = all-at (λ z. x.network < z.network) xs a.0 i no_lease (omega arith) in
        ap₂ (λ (q : FigureRow) (l : List FigureRow). q ∷ l) (unnamed x r t.0 (elsewhere x (λ at. omega (arith, later, at, there))))
        (file-one xs rows i a.1 t.1 (omega arith) n)

-- Filed rows are of the same leases.
pub filing-lease : (now client : ℕ) (es : List Entry) (x : Lease) (r : FigureRow) → of_lease? x (filing now client es x r) ≡ of_lease? x r
filing-lease now client es x r = either (ltb now x.expires && eqb x.client client)
  where
    either : (b : Bool) → of_lease? x (cond b (filed_by es r) r) ≡ of_lease? x r
    either true = filed-by-lease es r x
    either false = refl
