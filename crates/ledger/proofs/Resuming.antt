-- RESUMING A LIST by its position never skips or repeats a lease that is still there, whatever was returned in between. (Document 01's last mistake:
-- "resuming a list by position in the table, which skips a line after a return".)
-- Assumes nothing.
use Prim.Native.Nat.{ℕ, zero, suc, ◌-◌, ◌≤◌, ◌<◌}
use mathlib.Core.Path.{◌≡◌, refl, sym, ap, ap₂, subst, ◌∙◌}
use mathlib.Core.Logic.{⊎_elim}
use mathlib.Core.Bool.{Bool, true, false, not, ◌&&◌}
use mathlib.Core.List.{List, [], ◌∷◌, map, nil≢cons, head-eq_of_cons-eq, tail-eq_of_cons-eq}
use mathlib.Core.Option.{Option, none, some}
use native.Mathlib.Omega.{arith}
use lib.ListN.{length, drop}
use lib.ListN.{take as up_to}
use lib.Dec.{ltb, eqb}
use borrow.Author.Tests.{ltb-true, lt-ltb, le-ltb}
use Rattle.lists.specs.Lists.{All, and, filter}
use Rattle.lists.proofs.MapLaws.{filter-filter}
use Rattle.lists.proofs.FilterLaws.{filter_same, filter-same-on, filter-yes, filter-no, filter-all, filter-whole}
use Rattle.lists.proofs.Tests.{bool_cases, and-to}
use Rattle.lists.proofs.ListLaws.{all_map, all-every}
use Rattle.prefix.specs.Prefixes.{end}
use Rattle.prefix.proofs.PrefixLaws.{size-positive}
use Rattle.option.specs.Values.{request, information}
use Rattle.option.specs.Reading.{read_option}
use Rattle.table.specs.declared.Lease.{Lease}
use Rattle.table.specs.declared.LeaseTable.{LeaseTable}
use Rattle.table.specs.Table.{lease_slots, prefix_of, padded, present, sound, store}
use Rattle.table.proofs.Ascending.{Ascending, ascending-low}
use Rattle.table.proofs.TableLaws.{sound-fine, present-padded}
use Rattle.option.specs.Contents.{suboptions, entries_in, last_network, position}
use Rattle.option_reply.specs.Reply.{most_entries, entry_of}
use Rattle.ledger.specs.Ledger.{State, left, Call, call, Result, ledger, named_by?, above?, listed, listed_in, release_rows, release}
use Rattle.ledger.specs.Histories.{Event, next, afterwards}
use Rattle.ledger.specs.ReadBack.{page}
use Rattle.ledger.specs.Resuming.{AllReturns, Continues, Resumes}
use Rattle.ledger.proofs.EmptySlots.{present-later}
use Rattle.ledger.proofs.RowLaws.{served-or-not}
use Rattle.ledger.proofs.ReadBack.{list-reads-back}

abbrev tests : ℕ → Option ℕ → Lease → List Bool
tests client p x = eqb x.client client ∷ x.leased ∷ above? p x.network ∷ []

abbrev wanted : ℕ → Option ℕ → Lease → Bool
wanted client p x = and (tests client p x)

-- What is above an address that passed is above it too.
above-later : (p : Option ℕ) (a b : ℕ) → above? p a ≡ true → a < b → above? p b ≡ true
above-later none a b e l = refl
above-later (some q) a b e l = lt-ltb q b (omega (arith, ltb-true q a e))

higher : (x : Lease) (xs : List Lease) → Ascending prefix_of (end (prefix_of x)) xs → All (λ y. x.network < y.network) xs
higher x xs s = all_map (λ y (h : end (prefix_of x) ≤ y.network). omega (arith, size-positive x.length)) xs (ascending-low prefix_of (end (prefix_of x)) xs s)

third : (a b c : Bool) → c ≡ false → (a && (b && (c && true))) ≡ false
third true true c e = ap (λ (v : Bool). v && true) e
third true false c e = refl
third false b c e = refl

-- After the first that is listed come the others: those above its network.
after_first : (client : ℕ) (p : Option ℕ) (from : ℕ) (xs : List Lease) (g : Lease) (gs : List Lease) → Ascending prefix_of from xs → listed client p xs ≡ g ∷ gs
    → listed client (some g.network) xs ≡ gs
after_first client p from [] g gs s e = absurd (nil≢cons e)
after_first client p from (x ∷ xs) g gs s e =
    ⊎_elim yes-first (λ (b : wanted client p x ≡ false). not_first (λ q. after_first client p (end (prefix_of x)) xs g gs s.1 q) b) (bool_cases (wanted client p x))
  where
    up : All (λ y. x.network < y.network) xs
    up = higher x xs s.1

    yes-first : wanted client p x ≡ true → listed client (some g.network) (x ∷ xs) ≡ gs
    yes-first b =
        let q : x ∷ listed client p xs ≡ g ∷ gs = sym (filter-yes (wanted client p) x xs b) ∙ e in
        let h : x ≡ g = head-eq_of_cons-eq q in
        let ab : above? p x.network ≡ true =
        (and-to (above? p x.network) true (and-to x.leased _ (and-to (eqb x.client client) _ b).1).1).0 in
        ap (λ (y : Lease). listed client (some y.network) (x ∷ xs)) (sym h)
        ∙ filter-no (wanted client (some x.network)) x xs (third (eqb x.client client) x.leased (ltb x.network x.network) (le-ltb x.network x.network (omega arith)))
        ∙ filter-same-on (wanted client (some x.network)) (wanted client p) xs
        (all_map (λ y (l : x.network < y.network). ap (λ (v : Bool). eqb y.client client && (y.leased && (v && true))) (lt-ltb x.network y.network l ∙ sym (above-later p x.network y.network ab l))) xs up)
        ∙ tail-eq_of_cons-eq q

    not_first : (listed client p xs ≡ g ∷ gs → listed client (some g.network) xs ≡ gs) → wanted client p x ≡ false → listed client (some g.network) (x ∷ xs) ≡ gs
    not_first rest b =
        let q : listed client p xs ≡ g ∷ gs = sym (filter-no (wanted client p) x xs b) ∙ e in
        let l : x.network < g.network = (subst (All (λ y. x.network < y.network)) q (filter-all (wanted client p) (λ y. x.network < y.network) xs up)).0 in
        filter-no (wanted client (some g.network)) x xs (third (eqb x.client client) x.leased (ltb g.network x.network) (le-ltb g.network x.network (omega arith)))
        ∙ rest q

-- After a page of n: exactly what remained.
after-page : (n client : ℕ) (p : Option ℕ) (from : ℕ) (xs gs : List Lease) → Ascending prefix_of from xs → listed client p xs ≡ gs
    → listed client (last_network p (map entry_of (up_to n gs))) xs ≡ drop n gs
after-page zero client p from xs gs s e = e
after-page (suc n) client p from xs [] s e = e
after-page (suc n) client p from xs (g ∷ gs) s e = after-page n client (some g.network) from xs gs s (after_first client p from xs g gs s e)

and-swap : (a b : Bool) → (a && b) ≡ (b && a)
and-swap true true = refl
and-swap true false = refl
and-swap false true = refl
and-swap false false = refl

filter-swap : (p q : Lease → Bool) (xs : List Lease) → filter p (filter q xs) ≡ filter q (filter p xs)
filter-swap p q xs = filter-filter q p xs ∙ filter_same (λ x. q x && p x) (λ x. p x && q x) (λ x. and-swap (q x) (p x)) xs ∙ sym (filter-filter p q xs)

-- A SECOND LIST, whose position is the last network of the first one's page, on a table that keeps some of the leases (those not returned and not
-- ended): exactly those of the leases after the page that are still there, in order; so none is skipped and none is listed again.
resumed : (t u : LeaseTable) (now later client : ℕ) (option resuming : List ℕ) (keep : Lease → Bool) → sound t ≡ true
    → present later u.leases ≡ filter keep (present now t.leases)
    → Continues t now client option resuming
    → listed_in u later client resuming ≡ filter keep (drop most_entries (listed_in t now client option))
resumed t u now later client option resuming keep s k e =
    let p : Option ℕ = position none (suboptions (read_option option)) in
    let xs : List Lease = present now t.leases in
    let q : Option ℕ = last_network p (map entry_of (up_to most_entries (listed client p xs))) in
    ap₂ (λ (o : Option ℕ) (l : List Lease). listed client o l) e k
    ∙ filter-swap (wanted client q) keep xs
    ∙ ap (filter keep) (after-page most_entries client p 0 xs (listed client p xs) (sound-fine t s now).1 refl)

-- The position of an option that asks for more and echoes a page: "the network of the last entry of the last Information with c and s set".
pub echoed : (h : Bool) (len : ℕ) (p : Option ℕ) (g : Lease) (gs : List Lease)
    → position none (request h true len ∷ information true true (map entry_of (g ∷ gs)) ∷ []) ≡ last_network p (map entry_of (g ∷ gs))
echoed h len p g gs = refl

-- RETURNS IN BETWEEN keep some of the leases, and change none of those.

all-kept : (xs : List Lease) → xs ≡ filter (λ x. true) xs
all-kept xs = sym (filter-whole (λ x. true) xs (all-every (λ x. refl) xs))

ended-later : (now later : ℕ) (keep : Lease → Bool) (xs : List Lease)
    → present later (padded (filter keep (present now xs))) ≡ filter (λ x. ltb now x.expires && keep x) (present later xs)
unfolding present
ended-later now later keep xs =
    present-padded later (lease_slots - length (filter keep (present now xs))) (filter keep (present now xs))
    ∙ ap (filter (λ x. ltb later x.expires)) (filter-filter (λ x. ltb now x.expires) keep xs)
    ∙ filter-swap (λ x. ltb later x.expires) (λ x. ltb now x.expires && keep x) xs

-- What is still there at a later time, of what was there at an earlier one.
abbrev StillThere : LeaseTable → ℕ → LeaseTable → ℕ → Type 0
StillThere t now u later = (keep : Lease → Bool) × (present later u.leases ≡ filter keep (present now t.leases))

return-keeps : (s : State) (now : ℕ) (c : Call) (later : ℕ) → StillThere s.table later (release s now c).state.table later
unfolding release store left
return-keeps s now c later =
    served-or-not (λ (r : Result State). StillThere s.table later r.state.table later) (release_rows s now c) _ _
    (λ n. ((λ x. true), all-kept (present later s.table.leases)))
    (λ e. ((λ x. ltb now x.expires && not (named_by? c.client (entries_in c.option) x)), ended-later now later (λ x. not (named_by? c.client (entries_in c.option) x)) s.table.leases))

-- A history of returns.
returns-keep : (es : List Event) → AllReturns es → (s : State) (later : ℕ) → StillThere s.table later (afterwards ledger s es).table later
unfolding afterwards
returns-keep [] a s later = ((λ x. true), all-kept (present later s.table.leases))
returns-keep (e ∷ es) a s later =
    let first = return-keeps s a.0.0 a.0.1 later in
    let rest = returns-keep es a.1 (next ledger s e) later in (
      (λ x. first.0 x && rest.0 x),
      rest.1
          ∙ ap (λ (v : Event). filter rest.0 (present later (next ledger s v).table.leases)) a.0.2
          ∙ ap (filter rest.0) first.1
          ∙ filter-filter first.0 rest.0 (present later s.table.leases),
    )

-- Whatever was returned in between: with `keep` the leases that are still there, the second list is those of the rest that are, and its reply shows them.
pub resumed-after-returns : Resumes ledger
resumed-after-returns s now later client option resuming es so l a e =
    let u : State = afterwards ledger s es in
    let r = returns-keep es a s later in
    let keep : Lease → Bool = λ x. ltb later x.expires && r.0 x in
    let k : present later u.table.leases ≡ filter keep (present now s.table.leases) =
    r.1 ∙ ap (filter r.0) (sym (present-later now later l s.table.leases)) ∙ filter-filter (λ x. ltb later x.expires) r.0 (present now s.table.leases) in
    let q : listed_in u.table later client resuming ≡ filter keep (drop most_entries (listed_in s.table now client option)) =
    resumed s.table u.table now later client option resuming keep so k e in
    record { keep = keep; there = k; rest = q; told = λ reply z. list-reads-back u later (call client resuming reply) z ∙ ap page q }
