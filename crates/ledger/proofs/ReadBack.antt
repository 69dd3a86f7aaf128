-- What take and list write reads back, by the reader: an accepted take's reply as one Information with the leases found, an accepted list's as one with
-- its page. Of ask's reply that is `reply-is-granted` in CallLaws.
-- Assumes nothing.
use Prim.Native.Nat.{ℕ, zero, suc, ◌≤◌}
use mathlib.Core.Path.{◌≡◌, refl, sym, ap, subst, ◌∙◌}
use mathlib.Core.Bool.{Bool, true, false, not, true≢false}
use mathlib.Core.List.{List, [], ◌∷◌, ◌++◌, map, append-nil}
use mathlib.Core.Option.{none}
use native.Mathlib.Omega.{arith}
use lib.ListN.{length, drop, length-map}
use lib.ListN.{take as up_to}
use lib.Dec.{ltb}
use borrow.Author.Tests.{le-leb, not-false}
use Rattle.lists.specs.Lists.{All, all?, filter}
use Rattle.lists.proofs.Tests.{and-of}
use Rattle.lists.proofs.ListLaws.{all_append, all_map, all-image}
use Rattle.lists.proofs.FilterLaws.{filter-all}
use Rattle.prefix.specs.declared.Prefix.{Prefix}
use Rattle.option.specs.Values.{most_entries, Entry, SuboptionValue, information, accepted}
use Rattle.option.specs.Reading.{read_option}
use Rattle.option.specs.Writing.{option_bytes}
use Rattle.option.specs.Writer.{entry_writable?, writable?}
use Rattle.option.proofs.WrittenReadsBack.{bytes-read-back}
use Rattle.table.specs.declared.Lease.{Lease}
use Rattle.table.specs.Table.{pools_of, present, sound}
use Rattle.table.proofs.TableLaws.{Good, sound-fine}
use Rattle.option_reply.specs.Reply.{entry_of}
use Rattle.ledger.specs.Ledger.{State, Call, Row, first_of, by_rows, accept, refusal_place, nothing?, found, names?, usable_entries, returned, ask_rows, ask, take_rows, take, listed_in, list_rows, list, ledger}
use Rattle.ledger.specs.ReadBack.{read_in, follows, TakesReadBack, SelectionReturned, ListsReadBack}
use Rattle.ledger.specs.Demand3.{option220}
use Rattle.ledger.proofs.RowLaws.{Numbered, first-none, accepted-none, numbered-ask, numbered-take, numbered-list}
use Rattle.ledger.proofs.ReplyLaws.{entry-writable, reply-220, reply-follows}
use Rattle.ledger.proofs.Counts.{up_to-all}

-- Each passes, so all do.
and-all : {A : Type 0} (f : A → Bool) (xs : List A) → All (λ x. f x ≡ true) xs → all? f xs ≡ true
and-all f [] a = refl
and-all f (x ∷ xs) a = and-of (f x) (all? f xs) a.0 (and-all f xs a.1)

-- Leases that are good can be told of in one Information.
information-writable : (ps : List Prefix) (now : ℕ) (c s : Bool) (xs : List Lease) → 1 ≤ length xs → All (Good ps now) xs → writable? (information c s (map entry_of xs)) ≡ true
unfolding writable?
information-writable ps now c s xs some good =
    and-of _ _ (le-leb 1 (length (map entry_of xs)) (omega (arith, length-map xs entry_of)))
    (and-all entry_writable? (map entry_of xs) (all-image entry_of (λ e. entry_writable? e ≡ true) xs (all_map (λ x (g : Good ps now x). entry-writable ps now x g) xs good)))

all_found : (ps : List Prefix) (now client : ℕ) (xs : List Lease) → All (Good ps now) xs → (es : List Entry) → All (Good ps now) (found client xs es)
all_found ps now client xs a [] = tt
all_found ps now client xs a (e ∷ es) =
    all_append (Good ps now) (filter (λ x. names? client x e) xs) (found client xs es) (filter-all (λ x. names? client x e) (Good ps now) xs a) (all_found ps now client xs a es)

some_in : {A : Type 0} (xs : List A) → nothing? xs ≡ false → 1 ≤ length xs
some_in [] e = absurd (true≢false e)
some_in (x ∷ xs) e = omega arith

some-up_to : {A : Type 0} (n : ℕ) (xs : List A) → 1 ≤ n → 1 ≤ length xs → 1 ≤ length (up_to n xs)
some-up_to zero xs low some = absurd (omega arith)
some-up_to (suc n) [] low some = some
some-up_to (suc n) (x ∷ xs) low some = omega arith

-- The suboptions that an accepted call writes, with the option `back` behind them, are those that the reader reads in its reply.
written-reads-back : (rows : List Row) (place : ℕ → ℕ) (s t : State) (reply : List ℕ) (sub : SuboptionValue) (back bytes : List ℕ) → bytes ≡ option_bytes (sub ∷ []) ++ back → (count : ℕ) → Numbered rows
    → (first_of rows ≡ none → writable? sub ≡ true)
    → let r = by_rows rows place s reply (accept t bytes count reply) in
    r.answer.number ≡ 0 → read_in r ≡ accepted (sub ∷ [])
written-reads-back rows place s t reply sub back bytes e count numbered good z =
    let free : first_of rows ≡ none = accepted-none rows place s reply (accept t bytes count reply) numbered z in
    rw free
    (subst (λ (w : List ℕ). read_option (option220 (up_to (length w) (w ++ drop (length w) reply))) ≡ accepted (sub ∷ [])) (sym e)
    (ap read_option (reply-220 (sub ∷ []) back (drop (length (option_bytes (sub ∷ []) ++ back)) reply)) ∙ bytes-read-back (sub ∷ []) (omega arith) (good free, tt)))

-- And that option follows them.
written-follows : (rows : List Row) (place : ℕ → ℕ) (s t : State) (reply : List ℕ) (subs : List SuboptionValue) (back : List ℕ) (count : ℕ) → Numbered rows
    → let r = by_rows rows place s reply (accept t (option_bytes subs ++ back) count reply) in
    r.answer.number ≡ 0 → follows r ≡ back
written-follows rows place s t reply subs back count numbered z =
    let free : first_of rows ≡ none = accepted-none rows place s reply (accept t (option_bytes subs ++ back) count reply) numbered z in
    rw free (reply-follows subs back (drop (length (option_bytes subs ++ back)) reply))

-- Where no row applies the table is sound, so every lease that is present is good.
here-good : (s : State) (now : ℕ) → not (sound s.table) ≡ false → All (Good (pools_of s.table) now) (present now s.table.leases)
here-good s now e = (sound-fine s.table (not-false (sound s.table) e) now).0

pub take-reads-back : TakesReadBack ledger
unfolding take take_rows
take-reads-back s now c =
    let gs : List Lease = found c.client (present now s.table.leases) (usable_entries s.table c) in
    written-reads-back (take_rows s now c) (refusal_place c.option) s _ c.reply (information false false (map entry_of gs)) (returned c.selection) _ refl (length gs) (numbered-take s now c)
    (λ free.
    let rows = first-none (take_rows s now c) free in
    information-writable (pools_of s.table) now false false gs (some_in gs rows.1.1.1.1.1.1.1.1.1.1.1.0)
    (all_found (pools_of s.table) now c.client (present now s.table.leases) (here-good s now rows.1.0) (usable_entries s.table c)))

pub list-reads-back : ListsReadBack ledger
unfolding list list_rows
list-reads-back s now c =
    let gs : List Lease = listed_in s.table now c.client c.option in
    written-reads-back (list_rows s now c) (refusal_place c.option) s s c.reply (information true (ltb most_entries (length gs)) (map entry_of (up_to most_entries gs))) [] (option_bytes (information true (ltb most_entries (length gs)) (map entry_of (up_to most_entries gs)) ∷ []))
    (sym (append-nil (option_bytes (information true (ltb most_entries (length gs)) (map entry_of (up_to most_entries gs)) ∷ [])))) (length (up_to most_entries gs)) (numbered-list s now c)
    (λ free.
    let rows = first-none (list_rows s now c) free in
    information-writable (pools_of s.table) now true (ltb most_entries (length gs)) (up_to most_entries gs) (some-up_to most_entries gs (omega arith) (some_in gs rows.1.1.1.1.1.1.1.1.1.0))
    (up_to-all (Good (pools_of s.table) now) most_entries gs (filter-all _ (Good (pools_of s.table) now) (present now s.table.leases) (here-good s now rows.1.0))))

-- THE OPTION THAT CAME FOLLOWS, unaltered.

module _ (s : State) (now : ℕ) (c : Call) where
  ask-follows : (ask s now c).answer.number ≡ 0 → follows (ask s now c) ≡ returned c.selection
  unfolding ask
  ask-follows = written-follows (ask_rows s now c) (refusal_place c.option) s _ c.reply _ (returned c.selection) _ (numbered-ask s now c)

  take-follows : (take s now c).answer.number ≡ 0 → follows (take s now c) ≡ returned c.selection
  unfolding take
  take-follows = written-follows (take_rows s now c) (refusal_place c.option) s _ c.reply _ (returned c.selection) _ (numbered-take s now c)

pub selection-returned : SelectionReturned ledger
selection-returned = record { asks = ask-follows; takes = take-follows }
