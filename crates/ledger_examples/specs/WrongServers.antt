-- Servers of ask calls that are wrong: document 01's "Try these against it", and others. Demand 3 is refuted of each, or what M-101 says of a client that asks
-- twice, or what M-105 says of names, or of M-106's ground. (Of an invented count demand 3 says nothing: the equation of the code with the ledger rules it out.)
use Rattle.std.specs.Prelude.{ℕ, ◌+◌, false, cond, List, [], ◌∷◌, ◌++◌, map, length, take as up_to, ltb, eqb}
use Rattle.std.proofs.Math.Option.{Option, none, some}
use Rattle.lists.specs.Lists.{any?, cat_maybes}
use Rattle.option.specs.Values.{SuboptionValue, request, information, name, unknown}
use Rattle.option.specs.Reading.{read_option}
use Rattle.option.specs.Writing.{option_bytes}
use Rattle.names.specs.declared.Name.{Name}
use Rattle.names.specs.Names.{name_of}
use Rattle.table.specs.declared.Lease.{Lease}
use Rattle.table.specs.Table.{present}
use Rattle.option.specs.Contents.{suboptions, requests_in}
use Rattle.ledger.specs.Ledger.{State, left, Call, call, Result, outcome, refuse, accept, full, ask_name, hold_time, offer, offers, add_all, held_for?, first_that, again, rest_of, hold_again, held_again, in_turn, information_for, ask, take, list, release, mark, Calls}
use Rattle.ledger.specs.Demand3.{Server}

-- "a desk that refuses everything"
unfoldable pub refuses_all : Server State
refuses_all s now c = refuse 10 0 s c.reply

-- "one that always hands out the same block": it looks at no lease.
unfoldable pub same_prefix : Server State
same_prefix s now c =
    let os = map (λ r. offer s.table now c.client (ask_name c) [] r) (requests_in c.option) in
    accept (left s now (add_all os (present now s.table.leases))) (option_bytes (map information_for (cat_maybes os))) (length os) c.reply

-- "one that answers but leaves the book untouched"
unfoldable pub leaves_table : Server State
leaves_table s now c = outcome (ask s now c).answer s (ask s now c).reply

-- "one that serves an option's first request and only writes plausible entries for the rest"
unfoldable pub first_only : Server State
first_only s now c =
    let xs = present now s.table.leases in
    let os = offers s.table now c.client (ask_name c) xs (requests_in c.option) in
    accept (left s now (add_all (up_to 1 os) xs)) (option_bytes (map information_for (cat_maybes os))) (length (cat_maybes os)) c.reply

-- One that does what ask does, and answers 10 all the same.
unfoldable pub answers_ten : Server State
answers_ten s now c =
    let r = ask s now c in
    outcome (record { number = 10; place = 0; bytes = r.answer.bytes; count = r.answer.count }) r.state r.reply

-- One that serves the first request and writes its entry twice.
unfoldable pub writes_twice : Server State
writes_twice s now c =
    let xs = present now s.table.leases in
    let gs = cat_maybes (map (offer s.table now c.client (ask_name c) xs) (up_to 1 (requests_in c.option))) in
    accept (left s now (add_all (map some gs) xs)) (option_bytes (map information_for (gs ++ gs))) 2 c.reply

-- ASKING TWICE

-- A server that gives again `gs`, of leases that then stand as `xs`, and serves the rest as it should, under this name.
abbrev giving_under : Name → State → ℕ → Call → List (Option Lease) → List Lease → Result State
giving_under called s now c gs xs =
    let os = offers s.table now c.client called xs (rest_of gs (requests_in c.option)) in
    let granted = cat_maybes (in_turn now gs os) in
    accept (left s now (add_all os xs)) (option_bytes (map information_for granted)) (length granted) c.reply

abbrev giving_again : State → ℕ → Call → List (Option Lease) → List Lease → Result State
giving_again s now c gs xs = giving_under (ask_name c) s now c gs xs

-- One that gives leased leases again, and holds them.
abbrev unleased : Lease → Lease
unleased x = record { network = x.network; length = x.length; client = x.client; leased = false; h = x.h; d = x.d; expires = x.expires; name = x.name }

unfoldable pub regives_leased : Server State
regives_leased s now c =
    let xs = present now s.table.leases in
    let gs = again s.table c.client (map unleased xs) (requests_in c.option) in
    giving_again s now c gs (map (λ x. cond (any? (λ y. eqb y.network x.network) (cat_maybes gs)) (hold_again now (unleased x)) x) xs)

-- One that gives a lease to every request that it is for.
unfoldable pub regives_twice : Server State
regives_twice s now c =
    let xs = present now s.table.leases in
    let gs = map (λ r. first_that (held_for? s.table c.client r) xs) (requests_in c.option) in
    giving_again s now c gs (held_again now (cat_maybes gs) xs)

-- One that gives none again, as document 01 had it.
unfoldable pub never_again : Server State
never_again s now c = giving_again s now c (map (λ r. none) (requests_in c.option)) (present now s.table.leases)

-- One that tests for an empty slot first.
unfoldable pub nine_first : Server State
nine_first s now c = cond (full (present now s.table.leases)) (refuse 9 0 s c.reply) (ask s now c)

-- One that leaves an end that was later.
abbrev later_end : ℕ → Lease → Lease
later_end now x = cond (ltb (now + hold_time) x.expires) x (hold_again now x)

unfoldable pub keeps_end : Server State
keeps_end s now c =
    let xs = present now s.table.leases in
    let gs = again s.table c.client xs (requests_in c.option) in
    giving_again s now c gs (map (λ x. cond (any? (λ y. eqb y.network x.network) (cat_maybes gs)) (later_end now x) x) xs)

-- GROUND

-- One that gives ground of another root: it obeys no option 118.
unfoldable pub any_ground : Server State
any_ground s now c = ask s now (call c.client c.option c.reply)

-- NAMES

-- The ledger with another ask.
abbrev pub asking_by : Server State → Calls State
asking_by server = record { state_of = λ s. s; asks = server; takes = take; lists = list; releases = release; marks = mark }

-- One that takes a later Name: the last.
abbrev last_name : List ℕ → List SuboptionValue → List ℕ
last_name earlier [] = earlier
last_name earlier (request h i len ∷ subs) = last_name earlier subs
last_name earlier (information c s es ∷ subs) = last_name earlier subs
last_name earlier (name octets ∷ subs) = last_name octets subs
last_name earlier (unknown ∷ subs) = last_name earlier subs

unfoldable pub names_by_last : Server State
names_by_last s now c =
    let xs = present now s.table.leases in
    let gs = again s.table c.client xs (requests_in c.option) in
    giving_under (name_of (last_name [] (suboptions (read_option c.option)))) s now c gs (held_again now (cat_maybes gs) xs)

-- One that gives the ask's name to a lease given again.
abbrev renamed : Name → Lease → Lease
renamed called x = record { network = x.network; length = x.length; client = x.client; leased = x.leased; h = x.h; d = x.d; expires = x.expires; name = called }

unfoldable pub renames_again : Server State
renames_again s now c =
    let xs = present now s.table.leases in
    let gs = again s.table c.client xs (requests_in c.option) in
    giving_again s now c gs (map (λ x. cond (any? (λ y. eqb y.network x.network) (cat_maybes gs)) (renamed (ask_name c) (hold_again now x)) x) xs)

-- One that leaves a struck lease's name to its ground: what is new at the network of a lease that has ended gets that one's name.
abbrev inherited : List Lease → Option Lease → Option Lease
inherited old none = none
inherited old (some x) = some (inheriting (first_that (λ y. eqb y.network x.network) old))
  where
    inheriting : Option Lease → Lease
    inheriting none = x
    inheriting (some y) = renamed y.name x

unfoldable pub inherits_name : Server State
inherits_name s now c =
    let xs = present now s.table.leases in
    let os = map (inherited s.table.leases) (offers s.table now c.client (ask_name c) xs (requests_in c.option)) in
    accept (left s now (add_all os xs)) (option_bytes (map information_for (cat_maybes os))) (length (cat_maybes os)) c.reply
