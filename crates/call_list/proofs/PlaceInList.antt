-- Laws of the place that a list resumes at: the leases from there on are those above the position.
-- Assumes nothing.
use Prim.Native.Nat.{ℕ, ◌<◌}
use mathlib.Core.Path.{◌≡◌, refl, sym, ap, ◌∙◌}
use mathlib.Core.Logic.{⊎_elim}
use mathlib.Core.Bool.{Bool, true, false, ◌&&◌}
use mathlib.Core.List.{List, [], ◌∷◌}
use mathlib.Core.Option.{Option, none, some}
use lib.ListN.{length, drop}
use lib.Dec.{leb, ltb, eqb}
use borrow.Author.Tests.{lt-ltb, le-ltb, lt-leb, leb-true, leb-false}
use Rattle.lists.specs.Lists.{All, and, filter}
use Rattle.lists.proofs.FilterLaws.{filter-same-on, filter-yes, filter-no, filter_none}
use Rattle.lists.proofs.ListLaws.{all_map, all-every}
use Rattle.lists.proofs.Tests.{bool_cases}
use Rattle.lists.proofs.MapLaws.{filter-filter}
use Rattle.table.specs.declared.Lease.{Lease}
use Rattle.table.specs.Table.{present}
use Rattle.ledger.specs.Ledger.{above?, listed}
use Rattle.image_records.specs.Records.{Ascending}
use Rattle.image_records.proofs.FindLaws.{all_above}
use Rattle.call_list.specs.InnerPage.{shown?, start_of}

-- The ledger's test, on the leases in the image.
abbrev meant? : ℕ → ℕ → Option ℕ → Lease → Bool
meant? now client p x = ltb now x.expires && and (eqb x.client client ∷ x.leased ∷ above? p x.network ∷ [])

meant_is : (now client : ℕ) (p : Option ℕ) (xs : List Lease) → filter (meant? now client p) xs ≡ listed client p (present now xs)
unfolding present
meant_is now client p xs =
    sym (filter-filter (λ (x : Lease). ltb now x.expires) (λ (x : Lease). and (eqb x.client client ∷ x.leased ∷ above? p x.network ∷ [])) xs)

same_test : (a b c : Bool) → (b && (c && a)) ≡ (a && (b && (c && (true && true))))
same_test true true true = refl
same_test true true false = refl
same_test true false c = refl
same_test false true true = refl
same_test false true false = refl
same_test false false c = refl

never : (a b c : Bool) → (a && (b && (c && (false && true)))) ≡ false
never true true true = refl
never true true false = refl
never true false c = refl
never false b c = refl

shown-meant : (now client : ℕ) (p : Option ℕ) (x : Lease) → above? p x.network ≡ true → shown? now client x ≡ meant? now client p x
shown-meant now client p x e = rw e (same_test (ltb now x.expires) (eqb x.client client) x.leased)

not-meant : (now client : ℕ) (p : Option ℕ) (x : Lease) → above? p x.network ≡ false → meant? now client p x ≡ false
not-meant now client p x e = rw e (never (ltb now x.expires) (eqb x.client client) x.leased)

-- Where all of them are above the position.
all_shown : (now client : ℕ) (p : Option ℕ) (xs : List Lease) → All (λ x. above? p x.network ≡ true) xs → filter (shown? now client) xs ≡ filter (meant? now client p) xs
all_shown now client p xs a = filter-same-on (shown? now client) (meant? now client p) xs (all_map (shown-meant now client p) xs a)

from-position : (now client p : ℕ) (xs : List Lease) → Ascending xs
    → filter (shown? now client) (drop (length (filter (λ x. leb x.network p) xs)) xs) ≡ filter (meant? now client (some p)) xs
unfolding Ascending
from-position now client p [] a = refl
from-position now client p (x ∷ xs) a =
    ⊎_elim
    (λ (t : leb x.network p ≡ true).
    let skipped : meant? now client (some p) x ≡ false = not-meant now client (some p) x (le-ltb p x.network (leb-true x.network p t)) in
    ap (λ (l : List Lease). filter (shown? now client) (drop (length l) (x ∷ xs))) (filter-yes (λ (y : Lease). leb y.network p) x xs t)
    ∙ from-position now client p xs a.1
    ∙ sym (filter-no (meant? now client (some p)) x xs skipped))
    (λ (t : leb x.network p ≡ false).
    let above = all_above p x xs a (leb-false x.network p t) in
    let nothing = filter_none (λ (y : Lease). leb y.network p) (x ∷ xs) (all_map (λ y (h : p < y.network). lt-leb y.network p h) (x ∷ xs) above) in
    ap (λ (l : List Lease). filter (shown? now client) (drop (length l) (x ∷ xs))) nothing
    ∙ all_shown now client (some p) (x ∷ xs) (all_map (λ y (h : p < y.network). lt-ltb p y.network h) (x ∷ xs) above))
    (bool_cases (leb x.network p))

pub listed-from : (now client : ℕ) (p : Option ℕ) (xs : List Lease) → Ascending xs → filter (shown? now client) (drop (start_of p xs) xs) ≡ listed client p (present now xs)
listed-from now client none xs a = all_shown now client none xs (all-every (λ x. refl) xs) ∙ meant_is now client none xs
listed-from now client (some p) xs a = from-position now client p xs a ∙ meant_is now client (some p) xs
