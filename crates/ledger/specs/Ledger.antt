-- THE LEDGER: document 01's sections "Ground, blocks and the book" and "The calls". A call is a function of what it is given (`State`), the time and what
-- comes with it (`Call`), to its answer, what it leaves, and the reply buffer after it; a refused one gives the first row that applies. Save and load stand
-- in crate `image`. Numbers may be of any size here; within the code's types they stay within them (`InRange`).
use Rattle.std.specs.Prelude.{ℕ, ◌+◌, Bool, true, false, not, cond, ◌&&◌, ◌||◌, List, [], ◌∷◌, ◌++◌, map, length, drop, take as up_to, leb, ltb, eqb}
use Rattle.std.specs.Bool.{beq}
use Rattle.std.proofs.Math.Option.{Option, none, some}
use Rattle.lists.specs.Lists.{and, all?, any?, filter, concat_map, cat_maybes}
use Rattle.prefix.specs.declared.Prefix.{Prefix}
use Rattle.prefix.specs.Prefixes.{prefix, end, inside?}
use Rattle.free_space.specs.Grant.{grant}
use Rattle.option.specs.Values.{longest_option, most_requests, most_entries, Entry, SuboptionValue, information}
use Rattle.option.specs.Reading.{four, read_option}
use Rattle.option.specs.Selection.{selection_size, selection?}
use Rattle.option.specs.Contents.{Request, refuses?, place_in, suboptions, requests, entries, requests_in, entries_in, first_name_in, position}
use Rattle.option.specs.Writing.{option_bytes}
use Rattle.option_reply.specs.Reply.{entry_of}
use Rattle.names.specs.declared.Name.{Name}
use Rattle.names.specs.Names.{longest_name, name_of}
use Rattle.table.specs.declared.{Pool.Pool, Lease.Lease, LeaseTable.LeaseTable}
use Rattle.table.specs.Table.{lease_slots, latest, blank, pool_prefix, prefix_of, pools_of, unused?, empty?, present, sound, store, insert}
use Rattle.figures.specs.declared.FigureRow.{FigureRow}
use Rattle.figures.specs.Figures.{untold_row, matches?, followed, taken}
use Rattle.table_open.specs.Open.{given, open_ok, fresh}
use Rattle.ledger.specs.declared.Answer.{Answer}

-- WHAT A CALL IS GIVEN, AND WHAT IT LEAVES

-- What goes from call to call: the table (document 01: the book), and the rows of "a figures sheet beside the book".
pub record State : Type 0 where
  pub table : LeaseTable
  pub rows : List FigureRow

abbrev pub state : LeaseTable → List FigureRow → State
state t rows = record { table = t; rows = rows }

-- "open and load fill it"; "A new or loaded line starts with all three untold (0xffff)".
abbrev pub filled : LeaseTable → State
filled t = state t (map untold_row t.leases)

-- What an accepted call leaves: these leases, and the rows that follow them.
unfoldable pub left : State → ℕ → List Lease → State
left s now xs = let u = store s.table now xs in state u (followed now s.table s.rows u)

-- What comes with a call: the client (document 01: the station), the bytes of the option, those of the reply buffer. "A list names each call's station,
-- option and reply buffer beforehand." A client is a number of 32 bits and a byte is below 256 in the code's types; what is claimed holds of all numbers.
pub record Call : Type 0 where
  pub client : ℕ
  pub option : List ℕ
  -- Document 02, M-106: the option 118 that came with the message, "Where the caller says with the call that it is enabled"; none where it is not enabled
  -- ("Not enabled, it is neither read nor returned") or did not come. Only an ask and a take carry it.
  pub selection : Option (List ℕ)
  pub reply : List ℕ

abbrev pub call_with : ℕ → List ℕ → Option (List ℕ) → List ℕ → Call
call_with client option selection reply = record { client = client; option = option; selection = selection; reply = reply }

abbrev pub call : ℕ → List ℕ → List ℕ → Call
call client option reply = call_with client option none reply

-- The answer, what is left, and the reply buffer after the call. A call that has no reply buffer is given and leaves an empty one. `S` is what goes from
-- call to call: the state here, what the code is lent in crate `call_spec`.
pub record Result (S : Type 0) : Type 0 where
  pub answer : Answer
  pub state : S
  pub reply : List ℕ

abbrev pub outcome : {S : Type 0} → Answer → S → List ℕ → Result S
outcome a s reply = record { answer = a; state = s; reply = reply }

-- "A refusal returns its number (7 also its place), all counts 0, and the old bytes everywhere."
abbrev pub refusal : ℕ → ℕ → Answer
refusal number place = record { number = number; place = place; bytes = 0; count = 0 }

abbrev pub refuse : {S : Type 0} → ℕ → ℕ → S → List ℕ → Result S
refuse number place s reply = outcome (refusal number place) s reply

-- "An accepted answer gives the bytes written and the count of entries (for return, of lines it struck by its entries)."
abbrev pub acceptance : ℕ → ℕ → Answer
acceptance bytes count = record { number = 0; place = 0; bytes = bytes; count = count }

-- "Bytes of the reply buffer after those written keep their content."
abbrev pub accept : {S : Type 0} → S → List ℕ → ℕ → List ℕ → Result S
accept s written count reply = outcome (acceptance (length written) count) s (written ++ drop (length written) reply)

-- THE ROWS

-- A row of "Numbers the desk answers with": its number, and whether it applies.
abbrev pub Row : Type 0
Row = ℕ × Bool

-- "The first that applies, in this row order, is given, and never otherwise."
abbrev pub first_of : List Row → Option ℕ
first_of [] = none
first_of (r ∷ rows) = let later = first_of rows in cond r.1 (some r.0) later

abbrev pub or_else : {R : Type 0} → Option ℕ → (ℕ → R) → R → R
or_else none refusing accepting = accepting
or_else (some number) refusing accepting = refusing number

-- The rows before the one with this number.
abbrev pub before : ℕ → List Row → List Row
before number [] = []
before number (r ∷ rows) = let later = before number rows in cond (eqb r.0 number) [] (r ∷ later)

abbrev pub nothing? : {A : Type 0} → List A → Bool
nothing? [] = true
nothing? (x ∷ xs) = false

-- The place of a refusal: "7 also its place", and 16 "with the same place, the suboption's number byte".
abbrev pub placed? : ℕ → Bool
placed? number = eqb number 7 || eqb number 16

abbrev pub refusal_place : List ℕ → ℕ → ℕ
refusal_place option number = cond (placed? number) (place_in (read_option option)) 0

-- A call goes by its rows: the first that applies refuses it, with the place that its number has.
abbrev pub by_rows : {S : Type 0} → List Row → (ℕ → ℕ) → S → List ℕ → Result S → Result S
by_rows rows place s reply accepted = or_else (first_of rows) (λ number. refuse number (place number) s reply) accepted

-- THE ROWS THAT CALLS SHARE

-- Row 1, of a call whose reply buffer has to have so many bytes; and how many ask, take and list want: "1 reads 263 for calls that carry an enabled
-- option", also a bad one.
abbrev pub least_reply : ℕ
least_reply = longest_option

abbrev pub least_for : Option (List ℕ) → ℕ
least_for none = least_reply
least_for (some s) = least_reply + selection_size

abbrev pub reply_rows : ℕ → Call → List Row
reply_rows least c = (1, ltb (length c.reply) least) ∷ []

-- Row 5, of the table; and row 15 after it, of a call that has the figures sheet: "a sheet that doesn't match is refused".
abbrev pub table_rows : State → List Row
table_rows s = (5, not (sound s.table)) ∷ []

abbrev pub state_rows : State → List Row
state_rows s = (5, not (sound s.table)) ∷ (15, not (matches? s.table.leases s.rows)) ∷ []

abbrev pub client_rows : Call → List Row
client_rows c = (2, eqb c.client 0) ∷ []

abbrev pub time_rows : State → ℕ → List Row
time_rows s now = (3, ltb now s.table.last) ∷ (4, ltb latest now) ∷ []

-- "16, field outside the rules, in 7's row": the reader gives at most one of them.
-- "A bad enabled option 118 gets 6": one row for both options.
abbrev pub bad_selection? : Option (List ℕ) → Bool
bad_selection? none = false
bad_selection? (some s) = not (selection? s)

abbrev pub option_rows : Call → List Row
option_rows c = (6, refuses? 6 (read_option c.option) || bad_selection? c.selection) ∷ (7, refuses? 7 (read_option c.option)) ∷ (16, refuses? 16 (read_option c.option)) ∷ []

-- Those of a call with an option, after row 1 where it has that one and before its own; `given` are those of what it is given.
abbrev pub common_rows : List Row → State → ℕ → Call → List Row
common_rows given s now c = given ++ (client_rows c ++ (time_rows s now ++ option_rows c))

-- EMPTY SLOTS

-- "At time now, lines with end at or before now count as absent, and as empty lines." (`present` of crate `table` has those that are left.)
abbrev pub empty_slot? : ℕ → Lease → Bool
empty_slot? now x = cond (empty? x) true (leb x.expires now)

unfoldable pub empty_slots : ℕ → LeaseTable → ℕ
empty_slots now t = length (filter (empty_slot? now) t.leases)

-- Leases that fill a table: it has no empty slot.
abbrev pub full : List Lease → Bool
full xs = leb lease_slots (length xs)

-- OPEN (`openTable`: `open` is a keyword)

-- Row 12 has the rules that `sound` has of the head and the pools (`headOk` and `poolOk` of crate `table`). "open has only 12"
abbrev pub open_rows : List ℕ → List ℕ → ℕ → ℕ → ℕ → List Row
open_rows networks lengths term default_length start = (12, not (open_ok networks lengths term default_length start)) ∷ []

-- "roots (any order given), term, default length and a start time make a book". Refused, it makes none: all zero.
unfoldable pub open_table : List ℕ → List ℕ → ℕ → ℕ → ℕ → Result State
open_table networks lengths term default_length start =
    by_rows (open_rows networks lengths term default_length start) (λ number. 0) (state blank []) []
    (accept (filled (fresh (given networks lengths) term default_length start)) [] 0 [])

-- THE GROUND OF A CALL (document 02, M-106): "every block of that ask comes from the root that contains its address".

-- The pool that contains an address; an unused slot contains none.
abbrev pub contains? : ℕ → Pool → Bool
contains? address p = and (not (unused? p) ∷ leb p.network address ∷ ltb address (end (pool_prefix p)) ∷ [])

-- The table with the pools that a call may use: that one, or all.
abbrev pub narrowed_to : Option (List ℕ) → LeaseTable → LeaseTable
narrowed_to none t = t
narrowed_to (some s) t = record { pools = filter (contains? (four s 2)) t.pools; leases = t.leases; term = t.term; default_length = t.default_length; last = t.last }

unfoldable pub narrowed : LeaseTable → Call → LeaseTable
narrowed t c = narrowed_to c.selection t

-- What of these lies on that ground: "Re-given lines (M-101) must lie in that root as well"; "entries outside that root count as not found".
abbrev pub on_ground : {A : Type 0} → Option (List ℕ) → LeaseTable → (A → Prefix) → List A → List A
on_ground none t f xs = xs
on_ground (some s) t f xs = filter (λ x. any? (inside? (f x)) (pools_of (narrowed_to (some s) t))) xs

unfoldable pub usable_leases : LeaseTable → Call → List Lease → List Lease
usable_leases t c xs = on_ground c.selection t prefix_of xs

unfoldable pub usable_entries : LeaseTable → Call → List Entry
usable_entries t c = on_ground c.selection t (λ e. prefix e.network e.length) (entries_in c.option)

-- Row 19: "address in no root, after 8 and 17".
abbrev pub ground_rows : LeaseTable → Call → List Row
ground_rows t c = (19, nothing? (pools_of (narrowed t c))) ∷ []

-- "The option follows, unaltered, after option 220 in the reply".
abbrev pub returned : Option (List ℕ) → List ℕ
returned none = []
returned (some s) = s

-- ASK

-- "the option has 1 to 25 requests, none with i"
abbrev pub for_ask : List Request → Bool
for_ask rs = and (leb 1 (length rs) ∷ leb (length rs) most_requests ∷ all? (λ r. not r.i) rs ∷ [])

-- "An ask's length is the prefix asked for, or the default length for 0."
abbrev pub asked_length : LeaseTable → Request → ℕ
asked_length t r = cond (eqb r.length 0) t.default_length r.length

-- "Each granted one becomes a line held until now + 120 and one Information with one entry (in line and entry h is the request's and d 0; c and s 0,
-- no figures)."
abbrev pub hold_time : ℕ
hold_time = 120

-- Document 02, M-105: "A line gets a name .. from the first Name suboption of the ask that made it, the same for all lines newly made by that message".
abbrev pub ask_name : Call → Name
ask_name c = name_of (first_name_in c.option)

abbrev pub offered : ℕ → ℕ → Name → Bool → Option Prefix → Option Lease
offered now client name h none = none
offered now client name h (some p) =
    some (record { network = p.network; length = p.length; client = client; leased = false; h = h; d = false; expires = now + hold_time; name = name })

abbrev pub information_for : Lease → SuboptionValue
information_for x = information false false (entry_of x ∷ [])

-- What a request is offered while these leases are present: nothing if no slot is empty or no prefix of its length is free. `grant` of crate `free_space`
-- is "among whole free blocks of length at most p, the smallest, the lowest network among equals, and of that the lowest part of length p".
unfoldable pub offer : LeaseTable → ℕ → ℕ → Name → List Lease → Request → Option Lease
offer t now client name xs r = cond (full xs) none (offered now client name r.h (grant (pools_of t) (map prefix_of xs) (asked_length t r)))

abbrev pub add : Option Lease → List Lease → List Lease
add none xs = xs
add (some x) xs = insert x xs

-- "They are served in order, each on the book that the one before left." "Ungranted ones have none."
unfoldable pub offers : LeaseTable → ℕ → ℕ → Name → List Lease → List Request → List (Option Lease)
offers t now client name xs [] = []
offers t now client name xs (r ∷ rs) = let o = offer t now client name xs r in o ∷ offers t now client name (add o xs) rs

unfoldable pub add_all : List (Option Lease) → List Lease → List Lease
add_all [] xs = xs
add_all (o ∷ os) xs = add_all os (add o xs)

-- ASKING AGAIN (document 02, M-101): "A box that loses our offer asks again and gets a second block."

-- "the station .. already held (not leased)" this lease.
abbrev pub held_by? : ℕ → Lease → Bool
held_by? client x = and (eqb x.client client ∷ not x.leased ∷ [])

-- "a present line of the same length and h"; "prefix 0 means the default length here too".
abbrev pub held_for? : LeaseTable → ℕ → Request → Lease → Bool
held_for? t client r x = and (held_by? client x ∷ eqb (asked_length t r) x.length ∷ beq r.h x.h ∷ [])

-- The first lease that passes a test, "lowest network first" where leases ascend; and all but that one, for "each line at most once in a message".
abbrev pub first_that : (Lease → Bool) → List Lease → Option Lease
first_that f [] = none
first_that f (x ∷ xs) = let later = first_that f xs in cond (f x) (some x) later

abbrev pub but_first : (Lease → Bool) → List Lease → List Lease
but_first f [] = []
but_first f (x ∷ xs) = let later = but_first f xs in cond (f x) xs (x ∷ later)

-- The lease that each request gets again, of those held "before the message".
unfoldable pub again : LeaseTable → ℕ → List Lease → List Request → List (Option Lease)
again t client xs [] = []
again t client xs (r ∷ rs) = first_that (held_for? t client r) xs ∷ again t client (but_first (held_for? t client r) xs) rs

-- "Only the rest take new ground": the requests that get no lease again.
unfoldable pub rest_of : List (Option Lease) → List Request → List Request
rest_of gs [] = []
rest_of [] (r ∷ rs) = r ∷ rs
rest_of (none ∷ gs) (r ∷ rs) = r ∷ rest_of gs rs
rest_of (some x ∷ gs) (r ∷ rs) = rest_of gs rs

-- "held until now + 120 (its d stays and shows in the reply)", whatever its end was; "a re-given line keeps its own" name.
abbrev pub hold_again : ℕ → Lease → Lease
hold_again now x = record { network = x.network; length = x.length; client = x.client; leased = x.leased; h = x.h; d = x.d; expires = now + hold_time; name = x.name }

-- The leases xs, with those of them that are given again held anew: networks tell them apart.
abbrev pub held_again : ℕ → List Lease → List Lease → List Lease
held_again now given xs = map (λ x. cond (any? (λ y. eqb y.network x.network) given) (hold_again now x) x) xs

-- What each request gets, in order: its lease again, or what it is offered as one of the rest.
unfoldable pub in_turn : ℕ → List (Option Lease) → List (Option Lease) → List (Option Lease)
in_turn now [] os = []
in_turn now (some x ∷ gs) os = some (hold_again now x) ∷ in_turn now gs os
in_turn now (none ∷ gs) [] = none ∷ in_turn now gs []
in_turn now (none ∷ gs) (o ∷ os) = o ∷ in_turn now gs os

-- AN ASK, on the leases xs that are present. What is given again is held anew before the rest is served: it keeps its network and its length, so it takes
-- neither ground nor an empty slot. (`InOrder`: served one by one, each request on the leases that the one before left, the same comes of it.)
-- `hs` are the leases of xs that may be given again, those on the ground of the call; `t` is the table with that ground.
abbrev pub ask_held : LeaseTable → ℕ → ℕ → List Lease → List Lease → List Request → List Lease
ask_held t now client hs xs rs = held_again now (cat_maybes (again t client hs rs)) xs

abbrev pub ask_offers : LeaseTable → ℕ → ℕ → Name → List Lease → List Lease → List Request → List (Option Lease)
ask_offers t now client name hs xs rs = offers t now client name (ask_held t now client hs xs rs) (rest_of (again t client hs rs) rs)

abbrev pub ask_gives : LeaseTable → ℕ → ℕ → Name → List Lease → List Lease → List Request → List (Option Lease)
ask_gives t now client name hs xs rs = in_turn now (again t client hs rs) (ask_offers t now client name hs xs rs)

abbrev pub ask_leases : LeaseTable → ℕ → ℕ → Name → List Lease → List Lease → List Request → List Lease
ask_leases t now client name hs xs rs = add_all (ask_offers t now client name hs xs rs) (ask_held t now client hs xs rs)

-- Of a call, on the table that it is given.
abbrev pub gives_in : LeaseTable → ℕ → Call → List (Option Lease)
gives_in t now c =
    let xs = present now t.leases in
    ask_gives (narrowed t c) now c.client (ask_name c) (usable_leases t c xs) xs (requests_in c.option)

abbrev pub leases_in : LeaseTable → ℕ → Call → List Lease
leases_in t now c =
    let xs = present now t.leases in
    ask_leases (narrowed t c) now c.client (ask_name c) (usable_leases t c xs) xs (requests_in c.option)

-- Rows 9 and 10: "If none is granted, the answer is the refusal of the first." "A re-given line needs no empty line, so 9 and 10 apply only to the rest."
abbrev pub grant_rows : State → ℕ → Call → List Row
grant_rows s now c =
    let xs = present now s.table.leases in
    let granted = cat_maybes (gives_in s.table now c) in
    (9, nothing? granted && full xs)
    ∷ (10, nothing? granted)
    ∷ []

-- Row 17: "an ask's first name above 24 octets, after 8".
abbrev pub name_rows : Call → List Row
name_rows c = (17, ltb longest_name (length (first_name_in c.option))) ∷ []

unfoldable pub ask_rows : State → ℕ → Call → List Row
ask_rows s now c =
    reply_rows (least_for c.selection) c ++ (common_rows (state_rows s) s now c
    ++ ((8, not (for_ask (requests_in c.option))) ∷ (name_rows c ++ (ground_rows s.table c ++ grant_rows s now c))))

unfoldable pub ask : State → ℕ → Call → Result State
ask s now c =
    let granted = cat_maybes (gives_in s.table now c) in
    by_rows (ask_rows s now c) (refusal_place c.option) s c.reply
    (accept (left s now (leases_in s.table now c)) (option_bytes (map information_for granted) ++ returned c.selection) (length granted) c.reply)

-- TAKE

-- "no requests, at least one entry"
abbrev pub for_take : List SuboptionValue → Bool
for_take subs = and (nothing? (requests subs) ∷ not (nothing? (entries subs)) ∷ [])

-- "Each entry that equals a present line of this station in network and length"
abbrev pub names? : ℕ → Lease → Entry → Bool
names? client x e = and (eqb x.client client ∷ eqb x.network e.network ∷ eqb x.length e.length ∷ [])

abbrev pub named_by? : ℕ → List Entry → Lease → Bool
named_by? client es x = any? (names? client x) es

-- The leases that entries name, "in order".
abbrev pub found : ℕ → List Lease → List Entry → List Lease
found client xs es = concat_map (λ e. filter (λ x. names? client x e) xs) es

-- "makes it leased until now + term"
abbrev pub renew : ℕ → ℕ → Lease → Lease
renew now term x = record { network = x.network; length = x.length; client = x.client; leased = true; h = x.h; d = x.d; expires = now + term; name = x.name }

abbrev pub renew_named : ℕ → ℕ → ℕ → List Entry → List Lease → List Lease
renew_named now term client es xs = map (λ x. cond (named_by? client es x) (renew now term x) x) xs

-- What an accepted take leaves: "a take with figures updates the rows of its lines".
unfoldable pub renewed : State → ℕ → Call → State
renewed s now c =
    let es = usable_entries s.table c in
    let u = store s.table now (renew_named now s.table.term c.client es (present now s.table.leases)) in
    state u (taken now c.client es s.table s.rows u)

unfoldable pub take_rows : State → ℕ → Call → List Row
take_rows s now c =
    reply_rows (least_for c.selection) c ++ (common_rows (state_rows s) s now c
    ++ ((8, not (for_take (suboptions (read_option c.option))))
    ∷ (ground_rows s.table c
    ++ ((11, nothing? (found c.client (present now s.table.leases) (usable_entries s.table c))) ∷ []))))

-- "The reply is one Information with those entries in order, flags and figures from the book: h, d, no figures, c and s 0."
unfoldable pub take : State → ℕ → Call → Result State
take s now c =
    let xs = present now s.table.leases in
    let gs = found c.client xs (usable_entries s.table c) in
    by_rows (take_rows s now c) (refusal_place c.option) s c.reply
    (accept (renewed s now c) (option_bytes (information false false (map entry_of gs) ∷ []) ++ returned c.selection) (length gs) c.reply)

-- LIST

-- "at least one request, all with i"
abbrev pub for_list : List Request → Bool
for_list rs = and (not (nothing? rs) ∷ all? (λ r. r.i) rs ∷ [])

-- "with network above the position"; "without one, all lines are meant"
abbrev pub above? : Option ℕ → ℕ → Bool
above? none network = true
above? (some p) network = ltb p network

-- "the station's present leased lines with network above the position, ascending"
abbrev pub listed : ℕ → Option ℕ → List Lease → List Lease
listed client p xs = filter (λ x. and (eqb x.client client ∷ x.leased ∷ above? p x.network ∷ [])) xs

abbrev pub listed_in : LeaseTable → ℕ → ℕ → List ℕ → List Lease
listed_in t now client option = listed client (position none (suboptions (read_option option))) (present now t.leases)

unfoldable pub list_rows : State → ℕ → Call → List Row
list_rows s now c =
    reply_rows least_reply c ++ (common_rows (table_rows s) s now c
    ++ ((8, not (for_list (requests_in c.option)))
    ∷ (11, nothing? (listed_in s.table now c.client c.option)) ∷ []))

-- "at most 35, in one Information with c set, and s set exactly if more remain". "List changes nothing."
unfoldable pub list : State → ℕ → Call → Result State
list s now c =
    let gs = listed_in s.table now c.client c.option in
    by_rows (list_rows s now c) (refusal_place c.option) s c.reply
    (accept s (option_bytes (information true (ltb most_entries (length gs)) (map entry_of (up_to most_entries gs)) ∷ [])) (length (up_to most_entries gs)) c.reply)

-- RETURN: "as take, but strikes the lines; no reply buffer"

unfoldable pub release_rows : State → ℕ → Call → List Row
release_rows s now c =
    common_rows (state_rows s) s now c ++ ((8, not (for_take (suboptions (read_option c.option))))
    ∷ (11, nothing? (filter (named_by? c.client (entries_in c.option)) (present now s.table.leases))) ∷ [])

-- "Held lines may be returned." The count is "of lines it struck by its entries".
unfoldable pub release : State → ℕ → Call → Result State
release s now c =
    let xs = present now s.table.leases in
    let es = entries_in c.option in
    by_rows (release_rows s now c) (refusal_place c.option) s c.reply
    (accept (left s now (filter (λ x. not (named_by? c.client es x)) xs)) [] (length (filter (named_by? c.client es) xs)) c.reply)

-- MARK: "sets or clears d on the present line with a given network and length"; "Mark has no station"

abbrev pub at? : ℕ → ℕ → Lease → Bool
at? network len x = and (eqb x.network network ∷ eqb x.length len ∷ [])

abbrev pub with_d : Bool → Lease → Lease
with_d d x = record { network = x.network; length = x.length; client = x.client; leased = x.leased; h = x.h; d = d; expires = x.expires; name = x.name }

unfoldable pub mark_rows : State → ℕ → ℕ → ℕ → List Row
mark_rows s now network len =
    state_rows s
    ++ (time_rows s now
    ++ ((11, not (any? (at? network len) (present now s.table.leases)))
    ∷ []))

-- "A count that a call has none of is 0."
unfoldable pub mark : State → ℕ → ℕ → ℕ → Bool → Result State
mark s now network len d =
    by_rows (mark_rows s now network len) (λ number. 0) s []
    (accept (left s now (map (λ x. cond (at? network len x) (with_d d x) x) (present now s.table.leases))) [] 0 [])

-- ALL OF THEM, on what S is: what they are called on holds a state.
pub record Calls (S : Type 0) : Type 0 where
  pub state_of : S → State
  pub asks : S → ℕ → Call → Result S
  pub takes : S → ℕ → Call → Result S
  pub lists : S → ℕ → Call → Result S
  pub releases : S → ℕ → Call → Result S
  pub marks : S → ℕ → ℕ → ℕ → Bool → Result S

abbrev pub ledger : Calls State
ledger = record { state_of = λ s. s; asks = ask; takes = take; lists = list; releases = release; marks = mark }
