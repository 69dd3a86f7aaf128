-- How many: what an ask grants, what the entries of a take find, what a page of a list has; and that each reply fits every buffer that row 1 lets pass.
-- Assumes nothing.
use Prim.Native.Nat.{ℕ, zero, suc, ◌≤◌, ◌<◌}
use mathlib.Core.Path.{◌≡◌, ap}
use mathlib.Core.Logic.{◌⊎◌, inl, inr, ⊎_elim}
use mathlib.Core.Bool.{Bool, true, false, not}
use mathlib.Core.List.{List, [], ◌∷◌, map}
use native.Mathlib.Omega.{arith}
use lib.ListN.{length, length-append}
use lib.ListN.{take as up_to}
use lib.Dec.{leb, eqb}
use borrow.Author.Tests.{leb-true, eqb-true}
use Rattle.lists.specs.Lists.{All, all?, filter, cat_maybes}
use Rattle.lists.proofs.PartLaws.{cat_maybes-few}
use Rattle.lists.proofs.Tests.{bool_cases, and-list-to}
use Rattle.lists.proofs.ListLaws.{all_map}
use Rattle.lists.proofs.FilterLaws.{filter-yes, filter-no, filter_none}
use Rattle.prefix.specs.Prefixes.{end}
use Rattle.prefix.proofs.PrefixLaws.{size-positive}
use Rattle.option.specs.Values.{Entry, information}
use Rattle.option.specs.Writing.{option_bytes}
use Rattle.names.specs.declared.Name.{Name}
use Rattle.table.specs.declared.Lease.{Lease}
use Rattle.table.specs.declared.LeaseTable.{LeaseTable}
use Rattle.table.specs.Table.{prefix_of, present, sound}
use Rattle.table.proofs.Ascending.{Ascending, ascending-low}
use Rattle.table.proofs.TableLaws.{sound-fine}
use Rattle.option.specs.Contents.{Request}
use Rattle.option_reply.specs.Reply.{entry_of}
use Rattle.ledger.specs.Ledger.{for_ask, information_for, again, ask_offers, ask_gives, names?, found}
use Rattle.ledger.proofs.AgainLaws.{again-length, turn-length}
use Rattle.ledger.proofs.ReplyLaws.{ask-bytes, information-bytes}

pub up_to-all : {A : Type 0} (P : A → Type 0) (n : ℕ) (xs : List A) → All P xs → All P (up_to n xs)
up_to-all P zero xs a = tt
up_to-all P (suc n) [] a = tt
up_to-all P (suc n) (x ∷ xs) a = (a.0, up_to-all P n xs a.1)

-- ASK: no more than it has requests, and these are at most 25.

pub asks-few : (rs : List Request) → for_ask rs ≡ true → length rs ≤ 25
asks-few rs e = leb-true (length rs) 25 (and-list-to (leb 1 (length rs) ∷ leb (length rs) 25 ∷ all? (λ r. not r.i) rs ∷ []) e).1.0

pub granted-few : (t : LeaseTable) (now client : ℕ) (name : Name) (hs xs : List Lease) (rs : List Request) → for_ask rs ≡ true → length (cat_maybes (ask_gives t now client name hs xs rs)) ≤ 25
granted-few t now client name hs xs rs e =
    omega (arith, cat_maybes-few (ask_gives t now client name hs xs rs), turn-length now (again t client hs rs) (ask_offers t now client name hs xs rs), again-length t client rs hs, asks-few rs e)

-- "25 make Len 251": with Code and Len 253 bytes.
pub ask-fits : (gs : List Lease) → length gs ≤ 25 → length (option_bytes (map information_for gs)) ≤ 253
ask-fits gs l = omega (arith, ask-bytes gs)

-- TAKE: an entry names at most one lease of a sound table.

abbrev name_tests : ℕ → Lease → Entry → List Bool
name_tests client x e = eqb x.client client ∷ eqb x.network e.network ∷ eqb x.length e.length ∷ []

not_named : (client network : ℕ) (e : Entry) (xs : List Lease) → network ≡ e.network → All (λ y. network < y.network) xs → filter (λ x. names? client x e) xs ≡ []
not_named client network e xs q a = filter_none (λ x. names? client x e) xs (all_map (λ y (l : network < y.network). no y l (bool_cases (names? client y e))) xs a)
  where
    no : (y : Lease) → network < y.network → (names? client y e ≡ true) ⊎ (names? client y e ≡ false) → names? client y e ≡ false
    no y l (inl h) = absurd (omega (arith, q, l, eqb-true y.network e.network (and-list-to (name_tests client y e) h).1.0))
    no y l (inr h) = h

pub named-once : (client from : ℕ) (e : Entry) (xs : List Lease) → Ascending prefix_of from xs → length (filter (λ x. names? client x e) xs) ≤ 1
named-once client from e [] s = omega arith
named-once client from e (x ∷ xs) s =
    ⊎_elim
    (λ (h : names? client x e ≡ true).
    let up : All (λ y. x.network < y.network) xs =
    all_map (λ y (l : end (prefix_of x) ≤ y.network). omega (arith, size-positive x.length)) xs (ascending-low prefix_of (end (prefix_of x)) xs s.1) in
    omega (
      arith,
      ap length (filter-yes (λ x. names? client x e) x xs h),
      ap length (not_named client x.network e xs (eqb-true x.network e.network (and-list-to (name_tests client x e) h).1.0) up),
    ))
    (λ (h : names? client x e ≡ false).
    omega (arith, ap length (filter-no (λ x. names? client x e) x xs h), named-once client (end (prefix_of x)) e xs s.1))
    (bool_cases (names? client x e))

found-few-in : (client : ℕ) (xs : List Lease) → Ascending prefix_of 0 xs → (es : List Entry) → length (found client xs es) ≤ length es
found-few-in client xs s [] = omega arith
found-few-in client xs s (e ∷ es) =
    omega (arith, length-append (filter (λ x. names? client x e) xs) (found client xs es), named-once client 0 e xs s, found-few-in client xs s es)

pub found-few : (t : LeaseTable) (now client : ℕ) (es : List Entry) → sound t ≡ true → length (found client (present now t.leases) es) ≤ length es
found-few t now client es s = found-few-in client (present now t.leases) (sound-fine t s now).1 es

-- TAKE AND LIST: 35 entries in one Information need 251 bytes.
pub information-fits : (c s : Bool) (gs : List Lease) → length gs ≤ 35 → length (option_bytes (information c s (map entry_of gs) ∷ [])) ≤ 251
information-fits c s gs l = omega (arith, information-bytes c s gs)
