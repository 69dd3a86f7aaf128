-- DEMAND 3, sentence by sentence, in the terms of document 01's paragraph "In demand 3 a call is well-formed if ..", and as document 02 reads it from M-101
-- on, as a claim about any server of ask calls: a call is known by its answer, its reply and the table after it, and nothing here speaks of how an ask is served.
use Rattle.std.specs.Prelude.{ℕ, ◌+◌, ◌≤◌, ◌<◌, ◌≡◌, ◌↔◌, Bool, true, false, not, cond, List, [], ◌∷◌, ◌++◌, map, length, get_or, take as up_to, leb, eqb}
use Rattle.std.specs.Bool.{beq}
use mathlib.Core.List.{Permᴰ}
use Rattle.std.proofs.Math.Option.{Option, none, some}
use Rattle.lists.specs.Lists.{All, Pairwise, and, any?, filter, concat_map, cat_maybes}
use Rattle.prefix.specs.declared.Prefix.{Prefix}
use Rattle.prefix.specs.Prefixes.{prefix, Apart}
use Rattle.free_space.specs.Space.{Free}
use Rattle.option.specs.Values.{Entry}
use Rattle.names.specs.declared.Name.{Name}
use Rattle.table.specs.declared.{Lease.Lease, LeaseTable.LeaseTable}
use Rattle.table.specs.Table.{lease_slots, latest, prefix_of, pools_of, present, sound}
use Rattle.option.specs.Contents.{Request, requests_in, entries_in}
use Rattle.ledger.specs.Ledger.{State, Call, Result, first_of, before, empty_slots, ask_rows, asked_length, ask_name, narrowed, usable_leases, hold_time, held_by?, again}

-- A CALL, AND WHEN IT IS WELL-FORMED

-- What answers an ask call: from what it is given, the time and what comes with the call.
abbrev pub Server : Type 0 → Type 0
Server S = S → ℕ → Call → Result S

abbrev pub none? : {A : Type 0} → Option A → Bool
none? none = true
none? (some x) = false

-- "a call is well-formed if no row before 9, as the table then stands, applies to it"
unfoldable pub well_formed : ℕ → State → Call → Bool
well_formed now s c = none? (first_of (before 9 (ask_rows s now c)))

-- "The desk accepts a time if neither row 3 nor row 4 applies to it on the first book."
abbrev pub Accepts : LeaseTable → ℕ → Type 0
Accepts t now = (t.last ≤ now) × (now ≤ latest)

-- "Each of its requests counts as an ask". Its length is the ledger's `askLength`: "the prefix asked for, or the default length for 0".
abbrev pub asks_of : Call → List Request
asks_of c = requests_in c.option

-- "a request for which the station, before the message, already held (not leased) a present line of the same length and h gets that line again": the lease
-- that each of its asks is to get again. Those that get none are "the rest". "Re-given lines (M-101) must lie in that root as well."
abbrev pub held_before : ℕ → LeaseTable → Call → List (Option Lease)
held_before now t c = again t c.client (usable_leases t c (present now t.leases)) (asks_of c)

-- GRANTED

-- The entries of a reply: of the bytes that an accepted answer says were written, read by the reader. A refusal has no reply. Option 220 is what its Len
-- says; option 118 may follow it.
abbrev pub option220 : List ℕ → List ℕ
option220 l = up_to (get_or l 1 0 + 2) l

abbrev pub reply_entries : {S : Type 0} → Result S → List Entry
reply_entries r = cond (eqb r.answer.number 0) (entries_in (option220 (up_to r.answer.bytes r.reply))) []

-- "entries pair off in order, each with the next ask of its length and h"
abbrev pub answers? : LeaseTable → Request → Entry → Bool
answers? t r e = and (eqb (asked_length t r) e.length ∷ beq r.h e.h ∷ [])

abbrev pub pair_off : LeaseTable → List Request → List Entry → List (Option Entry)
pair_off t [] es = []
pair_off t (r ∷ rs) [] = none ∷ pair_off t rs []
pair_off t (r ∷ rs) (e ∷ es) =
    let paired = some e ∷ pair_off t rs es in
    let passed = none ∷ pair_off t rs (e ∷ es) in
    cond (answers? t r e) paired passed

-- "and the book after the call has the entry's block as a line held by the call's station until now + 120"
abbrev pub is_held? : ℕ → ℕ → Entry → Lease → Bool
is_held? now client e x =
    and (eqb x.network e.network ∷ eqb x.length e.length ∷ eqb x.client client ∷ not x.leased ∷ eqb x.expires (now + hold_time) ∷ [])

abbrev pub confirmed : ℕ → ℕ → LeaseTable → Option Entry → Option Entry
confirmed now client after none = none
confirmed now client after (some e) = cond (any? (is_held? now client e) after.leases) (some e) none

-- REFUSED, ON THE TABLE THAT AN ASK MEETS

abbrev pub entry_prefix : Entry → Prefix
entry_prefix e = prefix e.network e.length

-- The prefixes in use at a time: those of the leases present.
abbrev pub in_use : ℕ → LeaseTable → List Prefix
in_use now t = map prefix_of (present now t.leases)

-- "The book that it meets is the one that its call got, with the lines newly made for the requests before it": the prefixes in use after one more
-- request. A prefix that was in use already is no lease newly made.
abbrev pub same? : Prefix → Prefix → Bool
same? a b = and (eqb a.network b.network ∷ eqb a.length b.length ∷ [])

abbrev pub meets : Option Entry → List Prefix → List Prefix
meets none used = used
meets (some e) used = cond (any? (same? (entry_prefix e)) used) used (entry_prefix e ∷ used)

-- "A well-formed ask not granted is refused: for want of lines if the book that it meets has no empty line, otherwise for want of ground."
pub data Fate : Type 0 where
  is_granted : Fate
  wants_slot : Fate
  wants_space : Fate

abbrev pub fate : List Prefix → Option Entry → Fate
fate used (some e) = is_granted
fate used none = cond (leb lease_slots (length used)) wants_slot wants_space

-- "no free aligned block of its length lies inside a root" (`Free`: aligned, inside a pool, sharing no address with what is in use). "Demand 3's first
-- sentence speaks of the ground the ask may use": t is then the table with that ground.
abbrev pub NoneFree : LeaseTable → List Prefix → ℕ → Type 0
NoneFree t used len = (network : ℕ) → Free (pools_of t) used (prefix network len) → ⊥

-- "Demand 3's first sentence now speaks of the rest": P of each ask of a call that is one of the rest, on the prefixes in use that it meets, with what it is
-- granted. `hs` has for each ask the lease that it is to get again.
abbrev pub OfTheRest : (List Prefix → Request → Option Entry → Type 0) → List Prefix → List Request → List (Option Lease) → List (Option Entry) → Type 0
OfTheRest P used [] hs gs = Unit {0}
OfTheRest P used (r ∷ rs) [] gs = ⊥
OfTheRest P used (r ∷ rs) (h ∷ hs) [] = ⊥
OfTheRest P used (r ∷ rs) (some x ∷ hs) (g ∷ gs) = OfTheRest P (meets g used) rs hs gs
OfTheRest P used (r ∷ rs) (none ∷ hs) (g ∷ gs) = P used r g × OfTheRest P (meets g used) rs hs gs

-- "While the book has an empty line, a well-formed ask is refused for want of ground exactly when no free aligned block of its length lies inside a root",
-- and for want of lines exactly when it has none.
abbrev pub Rightly : LeaseTable → List Prefix → Request → Option Entry → Type 0
Rightly t used r g = (length used < lease_slots → (fate used g ≡ wants_space) ↔ NoneFree t used (asked_length t r)) × ((fate used g ≡ wants_slot) ↔ (lease_slots ≤ length used))

abbrev pub RefusedRightly : LeaseTable → List Prefix → List Request → List (Option Lease) → List (Option Entry) → Type 0
RefusedRightly t used rs hs gs = OfTheRest (Rightly t) used rs hs gs

-- THE ASKS OF A LIST

-- "in the list, if none would apply to it on the first book"
abbrev pub well_formed_asks : ℕ → State → List Call → List Request
well_formed_asks now s cs = concat_map asks_of (filter (well_formed now s) cs)

-- "one of its length for each well-formed ask": their lengths, and the prefixes of those lengths at these networks.
abbrev pub lengths_asked : ℕ → State → List Call → List ℕ
lengths_asked now s cs = map (asked_length s.table) (well_formed_asks now s cs)

abbrev pub prefixes_at : List ℕ → List ℕ → List Prefix
prefixes_at [] lens = []
prefixes_at (n ∷ ns) [] = []
prefixes_at (n ∷ ns) (len ∷ lens) = prefix n len ∷ prefixes_at ns lens

-- "the list that follows is one whose stations hold nothing at the start, and where each station's asks come in one message". What they have leased does not
-- matter, nor do calls that are not well-formed.
abbrev pub HoldsNothing : ℕ → LeaseTable → ℕ → Type 0
HoldsNothing now t client = All (λ x. held_by? client x ≡ false) (present now t.leases)

pub record FirstAsks (now : ℕ) (s : State) (area : List Prefix) (cs : List Call) : Type 0 where
  pub nothing : All (λ c. HoldsNothing now s.table c.client) (filter (well_formed now s) cs)
  -- "lists that all name the same root, over that root's ground, or all name none, over all of it"
  pub over : All (λ c. pools_of (narrowed s.table c) ≡ area) (filter (well_formed now s) cs)
  pub once : Pairwise (λ c d. c.client ≡ d.client → ⊥) (filter (well_formed now s) cs)

-- "If free aligned blocks can be chosen in the first book, one of its length for each well-formed ask of the list, no two sharing an address, and
-- that book has an empty line for each"
pub record CanBeChosen (now : ℕ) (s : State) (area : List Prefix) (cs : List Call) : Type 0 where
  pub networks : List ℕ
  pub enough : length networks ≡ length (lengths_asked now s cs)
  pub free : All (Free area (in_use now s.table)) (prefixes_at networks (lengths_asked now s cs))
  pub apart : Pairwise Apart (prefixes_at networks (lengths_asked now s cs))
  pub slots : length (well_formed_asks now s cs) ≤ empty_slots now s.table

-- The lease that an entry granted to a client tells of, with the name of the ask.
abbrev pub lease_for : ℕ → ℕ → Name → Entry → Lease
lease_for now client name e = record { network = e.network; length = e.length; client = client; leased = false; h = e.h; d = e.d; expires = now + hold_time; name = name }

-- A call of a list, with what it got.
pub record Received (S : Type 0) : Type 0 where
  pub call : Call
  pub got : S

-- OF ANY SERVER on what holds a state: the ledger's own, or what the code is lent.
module _ {S : Type 0} (state_of : S → State) (server : Server S) where
  abbrev pub table_of : S → LeaseTable
  table_of s = (state_of s).table

  -- What each ask of a call is granted: "It is granted if the reply has an entry for it: .. and the book after the call has the entry's block".
  unfoldable pub granted : ℕ → S → Call → List (Option Entry)
  granted now s c = map (confirmed now c.client (table_of (server s now c).state)) (pair_off (table_of s) (asks_of c) (reply_entries (server s now c)))

  -- "The first call gets that book, each later call the book that the one before left, and nobody else writes it meanwhile."
  unfoldable pub received : ℕ → S → List Call → List (Received S)
  received now s [] = []
  received now s (c ∷ cs) = record { call = c; got = s } ∷ received now (server s now c).state cs

  unfoldable pub after_all : ℕ → S → List Call → S
  after_all now s [] = s
  after_all now s (c ∷ cs) = after_all now (server s now c).state cs

  abbrev pub well_formed_calls : ℕ → S → List Call → List (Received S)
  well_formed_calls now s cs = filter (λ v. well_formed now (state_of s) v.call) (received now s cs)

  -- The leases that a call's granted asks made.
  abbrev pub made : ℕ → Received S → List Lease
  made now v = map (lease_for now v.call.client (ask_name v.call)) (cat_maybes (granted now v.got v.call))

  pub record AllGranted (now : ℕ) (s : S) (area : List Prefix) (cs : List Call) : Type 0 where
    -- what was granted
    pub given : List Entry
    -- "then every well-formed ask is granted"
    pub all : concat_map (λ v. granted now v.got v.call) (well_formed_calls now s cs) ≡ map some given
    -- each of the length asked for
    pub lengths : map (λ e. e.length) given ≡ lengths_asked now (state_of s) cs
    -- "In that case the blocks granted were free in the first book and share no address"
    pub free : All (Free area (in_use now (table_of s))) (map entry_prefix given)
    pub apart : Pairwise Apart (map entry_prefix given)
    -- "after the list the lines present are those present at its start and those granted, one for each well-formed ask"
    pub left : Permᴰ (present now (table_of (after_all now s cs)).leases) (present now (table_of s).leases ++ concat_map (made now) (well_formed_calls now s cs))

  -- "a call not well-formed leaves the book as it was", and its reply buffer
  abbrev pub Untouched : ℕ → S → List Call → Type 0
  Untouched now s cs =
      All (λ v. well_formed now (state_of s) v.call ≡ false → ((server v.got now v.call).state ≡ v.got) × ((server v.got now v.call).reply ≡ v.call.reply)) (received now s cs)

  -- DEMAND 3, whole.
  pub record Demand3 : Type 0 where
    -- "While the book has an empty line, a well-formed ask is refused for want of ground exactly when no free aligned block of its length lies inside a
    -- root."
    pub sentence : (s : S) (now : ℕ) (c : Call) → well_formed now (state_of s) c ≡ true
        → RefusedRightly (narrowed (table_of s) c) (in_use now (table_of s)) (asks_of c) (held_before now (table_of s) c) (granted now s c)
    -- "take every list of ask calls, in whatever order, refused ones included, from any sound book and all at one time that the desk accepts", and what
    -- `FirstAsks`, `CanBeChosen` and `AllGranted` quote.
    pub lists : (s : S) (now : ℕ) (area : List Prefix) (cs : List Call) → sound (table_of s) ≡ true → Accepts (table_of s) now → FirstAsks now (state_of s) area cs
        → CanBeChosen now (state_of s) area cs → AllGranted now s area cs
    -- "In every case a call not well-formed leaves the book as it was."
    pub untouched : (s : S) (now : ℕ) (cs : List Call) → Untouched now s cs
