-- RESULTS ARE IN RANGE: of arguments within the sizes of the code's types every call, and so every history, gives tables, rows of figures, reply buffers and
-- answers within them.
-- Assumes nothing.
use Prim.Native.Nat.{ℕ, zero, suc, ◌+◌, ◌-◌, ◌≤◌}
use mathlib.Core.Path.{◌≡◌, refl, sym, subst}
use mathlib.Core.Bool.{Bool, true, false, not, cond, ◌||◌, true≢false}
use mathlib.Core.List.{List, [], ◌∷◌, ◌++◌, map}
use mathlib.Core.Option.{Option, none}
use native.Mathlib.Omega.{arith}
use lib.ListN.{length, drop, get_or, replicate, length-append}
use lib.ListN.{take as up_to}
use lib.Dec.{leb, ltb, eqb}
use borrow.Author.Tests.{leb-true, ltb-false, eqb-false, not-false}
use Rattle.lists.specs.Lists.{All, all?, filter, concat_map, cat_maybes}
use Rattle.lists.proofs.Tests.{all?-to}
use Rattle.lists.proofs.TakeLaws.{take_short}
use Rattle.lists.proofs.ListLaws.{all_map, all_append, all-image, all-every, any-all}
use Rattle.lists.proofs.DropLaws.{all_drop}
use Rattle.lists.proofs.FilterLaws.{filter-all, filter-fewer, all_replicate}
use Rattle.lists.proofs.SortingLaws.{sort_by-all}
use Rattle.prefix.specs.declared.Prefix.{Prefix}
use Rattle.prefix.specs.Prefixes.{longest, end}
use Rattle.prefix.proofs.PrefixLaws.{size-positive}
use Rattle.option.specs.Values.{longest_option, most_requests, most_entries, Entry, SuboptionValue, information}
use Rattle.option.specs.Writing.{flags, four_bytes, entry_head, entry_bytes, entries_bytes, information_head, suboption_bytes, suboptions_bytes, option_head, option_bytes}
use Rattle.option.specs.Reading.{read_option}
use Rattle.option.specs.Contents.{Request, refuses?, requests_in, entries_in, first_name_in}
use Rattle.option.proofs.WritingLaws.{option-length}
use Rattle.option_reply.specs.Reply.{entry_of}
use Rattle.option_reply.proofs.ReplyLaws.{entries-length}
use Rattle.names.specs.declared.Name.{Name}
use Rattle.names.specs.Names.{longest_name, name_of}
use Rattle.names.proofs.NameLaws.{name-words}
use Rattle.table.specs.declared.Pool.{Pool}
use Rattle.table.specs.declared.Lease.{Lease}
use Rattle.table.specs.declared.LeaseTable.{LeaseTable}
use Rattle.table.specs.Table.{pool_slots, lease_slots, latest, addresses, prefix_of, no_pool, no_lease, blank, pools_of, present, sound, store}
use Rattle.table.proofs.TableLaws.{Good, sound-term, sound-fine, sound-fewer}
use Rattle.figures.specs.declared.FigureRow.{FigureRow}
use Rattle.figures.specs.Figures.{untold, untold_row, kept_rows, row_for, filed, filed_by, followed, taken as taken_rows}
use Rattle.figures.proofs.RowsFollow.{kept-all, row-all}
use Rattle.figures.proofs.RowsFile.{figure_at, newest, filed-high-water, filed-in-use, filed-unusable, filed-by}
use Rattle.option.specs.Answers.{figures_of}
use Rattle.table_open.specs.Open.{pool_network, given, sort_pools, fresh}
use Rattle.ledger.specs.Ledger.{State, state, filled, bad_selection?, returned as returned_option, narrowed, usable_leases, usable_entries, left, Call, Result, Row, first_of, by_rows, accept, refusal_place, open_rows, open_table, information_for, offers, held_by?, again, rest_of, hold_again, ask_held, ask_offers, ask_gives, ask_leases, for_ask, ask_rows, ask_name, ask, named_by?, names?, found, renew, renew_named, renewed, take_rows, take, listed_in, list_rows, list, release_rows, release, at?, with_d, mark_rows, mark, Calls, ledger}
use Rattle.ledger.specs.Histories.{Event, asked, taken, was_listed, returned, marked, saved, next, afterwards}
use Rattle.ledger.specs.Sizes.{Byte, Bytes}
use Rattle.ledger.specs.InRange.{Word, Figure, highest_number, PoolInRange, NameInRange, LeaseInRange, TableInRange, RowInRange, StateInRange, CallInRange, ResultInRange, InRange, EventInRange, StaysInRange, OpenInRange, OpensInRange}
use Rattle.ledger.proofs.RowLaws.{first-none, by-numbers}
use Rattle.ledger.proofs.ReadLaws.{requests-short, figures-short, name-bytes, entries-few, option-short, place_short}
use Rattle.ledger.proofs.Counts.{up_to-all, granted-few, ask-fits, found-few, information-fits}
use Rattle.option.specs.Selection.{selection_size}
use Rattle.ledger.proofs.GroundLaws.{Ground, area, usable-all, usable-entries, usable-entries-fewer, returned-short}
use Rattle.ledger.proofs.OfferLaws.{pools-within, Offered, offers-all, add_all-all, offers-good, length-bounds}
use Rattle.ledger.proofs.AgainLaws.{again-all, held_all, rest_all, turn-all}

-- A CALL THAT GOES BY ITS ROWS, on what is in range

module _ {S : Type 0} (Fits : S → Type 0) where
  pub rows-in-range : (rows : List Row) (place : ℕ → ℕ) (s : S) (reply : List ℕ) (accepted : Result S) → all? (λ r. leb r.0 highest_number) rows ≡ true
      → ((n : ℕ) → place n ≤ longest_option) → Fits s → Bytes reply → (first_of rows ≡ none → ResultInRange Fits accepted)
      → ResultInRange Fits (by_rows rows place s reply accepted)
  rows-in-range rows place s reply accepted low near f b served =
      by-numbers (λ n. n ≤ highest_number) (ResultInRange Fits) rows _ _
      (all?-to (λ (r : Row). leb r.0 highest_number) (λ r e. leb-true r.0 highest_number e) rows low)
      (λ n l. record { answer = record { number = l; place = near n; bytes = omega arith; count = omega arith }; left = f; reply = b }) served

  pub accepted-in-range : (s : S) (written : List ℕ) (count : ℕ) (reply : List ℕ) → Fits s → Bytes written → length written ≤ longest_option + selection_size → count ≤ lease_slots → Bytes reply
      → ResultInRange Fits (accept s written count reply)
  accepted-in-range s written count reply f a short few b = record {
    answer = record { number = omega arith; place = omega arith; bytes = short; count = few };
    left = f;
    reply = all_append Byte written (drop (length written) reply) a (all_drop Byte (length written) reply b);
  }

-- THE BYTES OF A REPLY

pub all-concat_map : {A B : Type 0} (f : A → List B) (P : B → Type 0) (xs : List A) → All (λ x. All P (f x)) xs → All P (concat_map f xs)
all-concat_map f P [] a = tt
all-concat_map f P (x ∷ xs) a = all_append P (f x) (concat_map f xs) a.0 (all-concat_map f P xs a.1)

four_bytes_fit : (n : ℕ) → Word n → Bytes (four_bytes n)
unfolding four_bytes
four_bytes_fit n l = (omega arith, (omega arith, (omega arith, (omega arith, tt))))

flags-byte : (b a : Bool) → Byte (flags b a)
flags-byte true true = omega arith
flags-byte true false = omega arith
flags-byte false true = omega arith
flags-byte false false = omega arith

-- A lease whose network and length an entry can hold.
abbrev Told : Lease → Type 0
Told x = Word x.network × Byte x.length

entry-bytes : (x : Lease) → Told x → Bytes (entry_bytes (entry_of x))
unfolding entry_bytes entry_head
entry-bytes x w =
    let rest : List ℕ = x.length ∷ flags x.h x.d ∷ 0 ∷ [] in
    all_append Byte (four_bytes x.network ++ rest) []
    (all_append Byte (four_bytes x.network) rest (four_bytes_fit x.network w.0) (w.1, (flags-byte x.h x.d, (omega arith, tt)))) tt

information-bytes : (c s : Bool) (xs : List Lease) → length xs ≤ most_entries → All Told xs → Bytes (suboption_bytes (information c s (map entry_of xs)))
unfolding suboption_bytes information_head entries_bytes
information-bytes c s xs few a =
    all_append Byte (2 ∷ (1 + length (entries_bytes (map entry_of xs))) ∷ flags c s ∷ []) (entries_bytes (map entry_of xs))
    (omega arith, (omega (arith, entries-length xs), (flags-byte c s, tt)))
    (all-concat_map entry_bytes Byte (map entry_of xs) (all-image entry_of (λ (e : Entry). Bytes (entry_bytes e)) xs (all_map entry-bytes xs a)))

option-bytes : (subs : List SuboptionValue) → length (option_bytes subs) ≤ longest_option → All (λ x. Bytes (suboption_bytes x)) subs → Bytes (option_bytes subs)
unfolding option_bytes option_head suboptions_bytes
option-bytes subs l a =
    all_append Byte (220 ∷ (1 + length (suboptions_bytes subs)) ∷ 0 ∷ []) (suboptions_bytes subs)
    (omega arith, (omega (arith, option-length subs), (omega arith, tt))) (all-concat_map suboption_bytes Byte subs a)

ask-bytes : (gs : List Lease) → length gs ≤ most_requests → All Told gs → Bytes (option_bytes (map information_for gs))
ask-bytes gs few a =
    option-bytes (map information_for gs) (omega (arith, ask-fits gs few))
    (all-image information_for (λ (v : SuboptionValue). Bytes (suboption_bytes v)) gs (all_map (λ x (w : Told x). information-bytes false false (x ∷ []) (omega arith) (w, tt)) gs a))

page-bytes : (c s : Bool) (gs : List Lease) → length gs ≤ most_entries → All Told gs → Bytes (option_bytes (information c s (map entry_of gs) ∷ []))
page-bytes c s gs few a = option-bytes (information c s (map entry_of gs) ∷ []) (omega (arith, information-fits c s gs few)) (information-bytes c s gs few a, tt)

-- TABLES

no-pool-in-range : PoolInRange no_pool
no-pool-in-range = record { network = omega arith; length = omega arith }

no-lease-in-range : LeaseInRange no_lease
no-lease-in-range = record { network = omega arith; length = omega arith; client = omega arith; expires = omega arith; name = record { first = omega arith; second = omega arith; third = omega arith } }

pub pools-padded : (ps : List Pool) (n : ℕ) → All PoolInRange ps → All PoolInRange (ps ++ replicate n no_pool)
pools-padded ps n a = all_append PoolInRange ps (replicate n no_pool) a (all_replicate PoolInRange n no_pool no-pool-in-range)

pub leases-padded : (xs : List Lease) (n : ℕ) → All LeaseInRange xs → All LeaseInRange (xs ++ replicate n no_lease)
leases-padded xs n a = all_append LeaseInRange xs (replicate n no_lease) a (all_replicate LeaseInRange n no_lease no-lease-in-range)

pub blank-in-range : TableInRange blank
blank-in-range = record { pools = pools-padded [] pool_slots tt; leases = leases-padded [] lease_slots tt; term = omega arith; default = omega arith; last = omega arith }

store-in-range : (t : LeaseTable) (now : ℕ) (xs : List Lease) → TableInRange t → now ≤ latest → All LeaseInRange xs → TableInRange (store t now xs)
unfolding store
store-in-range t now xs f l a = record { pools = f.pools; leases = leases-padded xs (lease_slots - length xs) a; term = f.term; default = f.default; last = omega arith }

present-in-range : (t : LeaseTable) (now : ℕ) → TableInRange t → All LeaseInRange (present now t.leases)
unfolding present
present-in-range t now f = filter-all (λ x. ltb now x.expires) LeaseInRange t.leases f.leases

-- Leases of which some are changed.
changed-in-range : (f : Lease → Lease) (p : Lease → Bool) → ((x : Lease) → LeaseInRange x → LeaseInRange (f x)) → (xs : List Lease) → All LeaseInRange xs
    → All LeaseInRange (map (λ x. cond (p x) (f x) x) xs)
changed-in-range f p k xs a = all-image (λ x. cond (p x) (f x) x) LeaseInRange xs (all_map (λ x (s : LeaseInRange x). pick x (p x) (k x s) s) xs a)
  where
    pick : (x : Lease) (b : Bool) → LeaseInRange (f x) → LeaseInRange x → LeaseInRange (cond b (f x) x)
    pick x true a c = a
    pick x false a c = c

-- ROWS OF FIGURES

untold-in-range : (x : Lease) → LeaseInRange x → RowInRange (untold_row x)
untold-in-range x v = record { network = v.network; length = v.length; high-water = omega arith; in_use = omega arith; unusable = omega arith }

pub filled-in-range : (t : LeaseTable) → TableInRange t → StateInRange (filled t)
filled-in-range t f = record { table = f; rows = all-image untold_row RowInRange t.leases (all_map untold-in-range t.leases f.leases) }

row-in-range : (now : ℕ) (s : State) (x : Lease) → StateInRange s → LeaseInRange x → RowInRange (row_for (kept_rows now s.table.leases s.rows) x)
row-in-range now s x f v = row-all RowInRange _ x (kept-all RowInRange now s.table.leases s.rows f.rows) (untold-in-range x v)

left-in-range : (s : State) (now : ℕ) (xs : List Lease) → StateInRange s → TableInRange (store s.table now xs) → StateInRange (left s now xs)
unfolding left followed
left-in-range s now xs f k =
    let u : LeaseTable = store s.table now xs in
    record { table = k; rows = all-image _ RowInRange u.leases (all_map (λ x (v : LeaseInRange x). row-in-range now s x f v) u.leases k.leases) }

-- A figure of an entry has 16 bits, and so has what is filed.
figure-in-range : (l : List ℕ) → All Figure l → (i : ℕ) → Figure (get_or l i untold)
figure-in-range [] a i = omega arith
figure-in-range (n ∷ l) a zero = a.0
figure-in-range (n ∷ l) a (suc i) = figure-in-range l a.1 i

newest-in-range : (old new : ℕ) → Figure old → Figure new → Figure (newest old new)
newest-in-range old new a b = go (eqb new untold)
  where
    go : (c : Bool) → Figure (cond c old new)
    go true = a
    go false = b

filed-in-range : (e : Entry) → All Figure e.figures → (r : FigureRow) → RowInRange r → RowInRange (filed (figures_of e.figures) r)
unfolding filed
filed-in-range e a r v = record {
  network = v.network;
  length = v.length;
  high-water = subst Figure (sym (filed-high-water e r)) (newest-in-range r.high_water.0 (figure_at 0 e) v.high-water (figure-in-range e.figures a 0));
  in_use = subst Figure (sym (filed-in-use e r)) (newest-in-range r.in_use.0 (figure_at 1 e) v.in_use (figure-in-range e.figures a 1));
  unusable = subst Figure (sym (filed-unusable e r)) (newest-in-range r.unusable.0 (figure_at 2 e) v.unusable (figure-in-range e.figures a 2));
}

renewed-in-range : (s : State) (now : ℕ) (c : Call) → StateInRange s → CallInRange c
    → TableInRange (store s.table now (renew_named now s.table.term c.client (usable_entries s.table c) (present now s.table.leases))) → StateInRange (renewed s now c)
unfolding renewed taken_rows
renewed-in-range s now c f w k =
    let u : LeaseTable = store s.table now (renew_named now s.table.term c.client (usable_entries s.table c) (present now s.table.leases)) in
    record { table = k; rows = all-image _ RowInRange u.leases (all_map (λ x (v : LeaseInRange x). one x (eqb x.client c.client) (row-in-range now s x f v)) u.leases k.leases) }
  where
    one : (x : Lease) (b : Bool) → RowInRange (row_for (kept_rows now s.table.leases s.rows) x)
        → RowInRange (cond b (filed_by (usable_entries s.table c) (row_for (kept_rows now s.table.leases s.rows) x)) (row_for (kept_rows now s.table.leases s.rows) x))
    one x true v =
        filed-by RowInRange (usable_entries s.table c)
        (all_map filed-in-range (usable_entries s.table c) (usable-entries s.table c (λ e. All Figure e.figures) (figures-short c.option w.option))) _ v
    one x false v = v

-- The leases of a sound table lie in its pools.
good-told : (t : LeaseTable) (now : ℕ) → sound t ≡ true → (xs : List Lease) → All (Good (pools_of t) now) xs → All Told xs
good-told t now s xs a = all_map (λ x (g : Good (pools_of t) now x). told x g) xs a
  where
    told : (x : Lease) → Good (pools_of t) now x → Told x
    told x g = let i = any-all (pools_of t) g.pooled (pools-within t s) in (omega (arith, i.1, i.2, size-positive x.length), omega (arith, g.long))

present-told : (t : LeaseTable) (now : ℕ) → sound t ≡ true → All Told (present now t.leases)
present-told t now s = good-told t now s (present now t.leases) (sound-fine t s now).0

-- The name of an ask is made of bytes of its option.
ask-name-in-range : (s : List ℕ) → Bytes s → NameInRange (name_of (first_name_in s))
ask-name-in-range s a =
    let name : List ℕ = first_name_in s in
    let w = name-words (name ++ replicate (longest_name - length name) 0) (all_append Byte name (replicate (longest_name - length name) 0) (name-bytes s a) (all_replicate Byte (longest_name - length name) 0 (omega arith))) in
    record { first = w.0; second = w.1; third = w.2 }

-- What an ask adds, on ground among these pools.
module _ (pools : List Prefix) (t : LeaseTable) (now client : ℕ) (name : Name) (within : All (λ p. end p ≤ addresses) pools) (g : Ground pools t) (l : now ≤ latest) (w : Word client) (n : NameInRange name) where
  offered-in-range : (xs : List Lease) (r : Request) (x : Lease) → r.length ≤ longest → Offered t now client name xs r x → LeaseInRange x
  offered-in-range xs r x k o =
      let i = any-all pools (g.part (prefix_of x) o.free.pooled) within in
      record {
        network = omega (arith, i.1, i.2, size-positive x.length);
        length = omega (arith, o.len, length-bounds t g.default r k);
        client = omega (arith, o.owner);
        expires = omega (arith, o.until);
        name = subst NameInRange (sym o.label) n;
      }

  offers-in-range : (rs : List Request) (xs : List Lease) → All (λ r. r.length ≤ longest) rs → All LeaseInRange (cat_maybes (offers t now client name xs rs))
  offers-in-range = offers-all t now client name g.good (λ r. r.length ≤ longest) LeaseInRange (λ xs r x k o. offered-in-range xs r x k o)

-- A lease given again.
held-in-range : (now : ℕ) → now ≤ latest → (x : Lease) → LeaseInRange x → LeaseInRange (hold_again now x)
held-in-range now l x v = record { network = v.network; length = v.length; client = v.client; expires = omega arith; name = v.name }

-- THE CALLS

module _ (s : State) (now : ℕ) (c : Call) (f : StateInRange s) (k : CallInRange c) where
  abbrev t : LeaseTable
  t = s.table

  abbrev xs : List Lease
  xs = present now t.leases

  abbrev es : List Entry
  es = entries_in c.option

  -- What a take finds and an ask gives again on its ground.
  abbrev ds : List Entry
  ds = usable_entries s.table c

  abbrev us : List Lease
  us = usable_leases s.table c (present now s.table.leases)

  abbrev own : LeaseTable
  own = narrowed s.table c

  -- The two parts of row 6, and the option behind the entries.
  row-six : (a b : Bool) → (a || b) ≡ false → (a ≡ false) × (b ≡ false)
  row-six true b e = absurd (true≢false e)
  row-six false b e = (refl, e)

  abbrev back : List ℕ
  back = returned_option c.selection

  with-back : (written : List ℕ) → Bytes written → length written ≤ longest_option → bad_selection? c.selection ≡ false
      → Bytes (written ++ back) × (length (written ++ back) ≤ longest_option + selection_size)
  with-back written b l e = (all_append Byte written back b k.selection, omega (arith, length-append written back, returned-short c.selection e))

  served-in-range : (rows : List Row) (accepted : Result State) → all? (λ r. leb r.0 highest_number) rows ≡ true
      → (All (λ (r : Row). r.1 ≡ false) rows → ResultInRange StateInRange accepted) → ResultInRange StateInRange (by_rows rows (refusal_place c.option) s c.reply accepted)
  served-in-range rows accepted low served =
      rows-in-range StateInRange rows (refusal_place c.option) s c.reply accepted low (place_short c.option k.option) f k.reply (λ e. served (first-none rows e))

  ask-in-range : ResultInRange StateInRange (ask s now c)
  unfolding ask ask_rows
  ask-in-range =
      served-in-range (ask_rows s now c) _ refl
      (λ r.
      let so : sound t ≡ true = not-false (sound t) r.1.0 in
      let named : c.client ≡ 0 → ⊥ = eqb-false c.client 0 r.1.1.1.0 in
      let l : now ≤ latest = ltb-false latest now r.1.1.1.1.1.0 in
      let rs : List Request = requests_in c.option in
      let given : List (Option Lease) = again own c.client us rs in
      let held : List Lease = ask_held own now c.client us xs rs in
      let os : List (Option Lease) = ask_offers own now c.client (ask_name c) us xs rs in
      let gs : List Lease = cat_maybes (ask_gives own now c.client (ask_name c) us xs rs) in
      let ys : List Lease = ask_leases own now c.client (ask_name c) us xs rs in
      let short : All (λ r. r.length ≤ longest) (rest_of given rs) = rest_all (λ r. r.length ≤ longest) given rs (requests-short c.option) in
      let few : length gs ≤ most_requests = granted-few own now c.client (ask_name c) us xs rs (not-false (for_ask rs) r.1.1.1.1.1.1.1.1.1.0) in
      let told : All Told gs =
      turn-all now Told given os
      (all_map (λ x (b : (held_by? c.client x ≡ true) × Told x). b.1) (cat_maybes given) (again-all own c.client Told rs us (usable-all t c Told xs (present-told t now so))))
      (good-told t now so (cat_maybes os) (offers-good own now c.client (ask_name c) (area t c so).good (pools_of t) (area t c so) named (rest_of given rs) held short)) in
      let there : All LeaseInRange ys =
      add_all-all LeaseInRange os held (offers-in-range (pools_of t) own now c.client (ask_name c) (pools-within t so) (area t c so) l k.client (ask-name-in-range c.option k.option) (rest_of given rs) held short)
      (held_all now (cat_maybes given) LeaseInRange (held-in-range now l) xs (present-in-range t now f.table)) in
      let out = with-back (option_bytes (map information_for gs)) (ask-bytes gs few told) (omega (arith, ask-fits gs few)) (row-six (refuses? 6 (read_option c.option)) (bad_selection? c.selection) r.1.1.1.1.1.1.0).1 in
      accepted-in-range StateInRange (left s now ys) (option_bytes (map information_for gs) ++ back) (length gs) c.reply (left-in-range s now ys f (store-in-range t now ys f.table l there))
      out.0 out.1 (omega arith) k.reply)

  found-told : sound t ≡ true → All Told (found c.client xs ds)
  found-told so =
      all-concat_map (λ e. filter (λ x. names? c.client x e) xs) Told ds
      (all-every {P = λ e. All Told (filter (λ x. names? c.client x e) xs)} (λ e. filter-all (λ x. names? c.client x e) Told xs (present-told t now so)) ds)

  take-in-range : ResultInRange StateInRange (take s now c)
  unfolding take take_rows
  take-in-range =
      served-in-range (take_rows s now c) _ refl
      (λ r.
      let so : sound t ≡ true = not-false (sound t) r.1.0 in
      let l : now ≤ latest = ltb-false latest now r.1.1.1.1.1.0 in
      let six = row-six (refuses? 6 (read_option c.option)) (bad_selection? c.selection) r.1.1.1.1.1.1.0 in
      let gs : List Lease = found c.client xs ds in
      let few : length gs ≤ most_entries =
      omega (arith, found-few t now c.client ds so, usable-entries-fewer t c, entries-few c.option (option-short c.option k.option six.0)) in
      let out = with-back (option_bytes (information false false (map entry_of gs) ∷ [])) (page-bytes false false gs few (found-told so)) (omega (arith, information-fits false false gs few)) six.1 in
      accepted-in-range StateInRange (renewed s now c) (option_bytes (information false false (map entry_of gs) ∷ []) ++ back) (length gs) c.reply
      (renewed-in-range s now c f k
      (store-in-range t now (renew_named now t.term c.client ds xs) f.table l
      (changed-in-range (renew now t.term) (named_by? c.client ds)
      (λ x (v : LeaseInRange x). record { network = v.network; length = v.length; client = v.client; expires = omega (arith, (sound-term t so).1); name = v.name }) xs (present-in-range t now f.table))))
      out.0 out.1 (omega arith) k.reply)

  list-in-range : ResultInRange StateInRange (list s now c)
  unfolding list list_rows
  list-in-range =
      served-in-range (list_rows s now c) _ refl
      (λ r.
      let so : sound t ≡ true = not-false (sound t) r.1.0 in
      let gs : List Lease = listed_in t now c.client c.option in
      let page : List Lease = up_to most_entries gs in
      let more : Bool = ltb most_entries (length gs) in
      let few : length page ≤ most_entries = take_short most_entries gs in
      accepted-in-range StateInRange s (option_bytes (information true more (map entry_of page) ∷ [])) (length page) c.reply f
      (page-bytes true more page few (up_to-all Told most_entries gs (filter-all _ Told xs (present-told t now so)))) (omega (arith, information-fits true more page few)) (omega arith) k.reply)

  release-in-range : ResultInRange StateInRange (release s now c)
  unfolding release release_rows
  release-in-range =
      served-in-range (release_rows s now c) _ refl
      (λ r.
      let so : sound t ≡ true = not-false (sound t) r.0 in
      let l : now ≤ latest = ltb-false latest now r.1.1.1.1.0 in
      let kept : List Lease = filter (λ x. not (named_by? c.client es x)) xs in
      accepted-in-range StateInRange (left s now kept) [] (length (filter (named_by? c.client es) xs)) c.reply
      (left-in-range s now kept f (store-in-range t now kept f.table l (filter-all (λ x. not (named_by? c.client es x)) LeaseInRange xs (present-in-range t now f.table))))
      tt (omega arith) (omega (arith, filter-fewer (named_by? c.client es) xs, sound-fewer t so now)) k.reply)

mark-in-range : (s : State) (now network len : ℕ) (d : Bool) → StateInRange s → ResultInRange StateInRange (mark s now network len d)
unfolding mark mark_rows
mark-in-range s now network len d f =
    rows-in-range StateInRange (mark_rows s now network len) (λ n. 0) s [] _ refl (λ n. omega arith) f tt
    (λ e.
    let r = first-none (mark_rows s now network len) e in
    let xs : List Lease = present now s.table.leases in
    let marks : List Lease = map (λ x. cond (at? network len x) (with_d d x) x) xs in
    accepted-in-range StateInRange (left s now marks) [] 0 []
    (left-in-range s now marks f
    (store-in-range s.table now marks f.table (ltb-false latest now r.1.1.1.0)
    (changed-in-range (with_d d) (at? network len) (λ x (v : LeaseInRange x). record { network = v.network; length = v.length; client = v.client; expires = v.expires; name = v.name }) xs (present-in-range s.table now f.table))))
    tt (omega arith) (omega arith) tt)

pub in-range : InRange StateInRange ledger
in-range = record { asks = ask-in-range; takes = take-in-range; lists = list-in-range; releases = release-in-range; marks = mark-in-range }

-- HISTORIES of any calls that are in range

module _ {S : Type 0} (Fits : S → Type 0) (calls : Calls S) (i : InRange Fits calls) where
  next-in-range : (s : S) (e : Event) → Fits s → EventInRange e → Fits (next calls s e)
  next-in-range s (asked now c) f k = (i.asks s now c f k).left
  next-in-range s (taken now c) f k = (i.takes s now c f k).left
  next-in-range s (was_listed now c) f k = (i.lists s now c f k).left
  next-in-range s (returned now c) f k = (i.releases s now c f k).left
  next-in-range s (marked now network len d) f k = (i.marks s now network len d f).left
  next-in-range s saved f k = f

  pub stays-in-range : StaysInRange Fits calls
  unfolding afterwards
  stays-in-range [] s f a = f
  stays-in-range (e ∷ es) s f a = stays-in-range es (next calls s e) (next-in-range s e f a.0) a.1

-- OPEN

given-in-range : (networks lengths : List ℕ) → All Word networks → All Byte lengths → All PoolInRange (given networks lengths)
unfolding given
given-in-range [] lengths a b = tt
given-in-range (n ∷ networks) [] a b = tt
given-in-range (n ∷ networks) (l ∷ lengths) a b = (record { network = a.0; length = b.0 }, given-in-range networks lengths a.1 b.1)

pub fresh-in-range : (networks lengths : List ℕ) (term default_length start : ℕ) → OpenInRange networks lengths term default_length start
    → TableInRange (fresh (given networks lengths) term default_length start)
fresh-in-range networks lengths term default_length start o =
    let ps : List Pool = sort_pools (given networks lengths) in
    record {
      pools = pools-padded ps (pool_slots - length ps) (sort_by-all pool_network PoolInRange (given networks lengths) (given-in-range networks lengths o.networks-are o.lengths-are));
      leases = leases-padded [] lease_slots tt;
      term = o.term_is;
      default = o.default-is;
      last = o.start_is;
    }

pub opens-in-range : OpensInRange
unfolding open_table
opens-in-range networks lengths term default_length start o =
    rows-in-range StateInRange (open_rows networks lengths term default_length start) (λ n. 0) (state blank []) [] _ refl (λ n. omega arith) (record { table = blank-in-range; rows = tt }) tt
    (λ e. accepted-in-range StateInRange (filled (fresh (given networks lengths) term default_length start)) [] 0 [] (filled-in-range _ (fresh-in-range networks lengths term default_length start o)) tt (omega arith) (omega arith) tt)
