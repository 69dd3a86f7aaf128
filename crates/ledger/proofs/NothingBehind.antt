-- A STRUCK LEASE LEAVES NOTHING BEHIND: two sound tables with the same pools, term, default length and present leases at a time that both accept, and with
-- the same rows of these leases, get the same answer, the same buffer and, where the call is accepted, the same state from every call (list leaves each its
-- own); and freed slots are zero, their rows untold.
-- Assumes nothing.
use Prim.Native.Nat.{ℕ}
use mathlib.Core.Path.{◌≡◌, refl, sym, ap, ap₂, subst, ◌∙◌}
use mathlib.Core.Bool.{Bool, true, false, not, cond, ◌&&◌, true≢false}
use mathlib.Core.List.{List, [], ◌∷◌, ◌++◌, map}
use mathlib.Core.Option.{Option, none, some}
use lib.ListN.{length, drop}
use lib.ListN.{take as up_to}
use lib.Dec.{ltb, eqb}
use borrow.Author.Tests.{eq-eqb, le-ltb}
use Rattle.lists.specs.Lists.{cat_maybes, filter, any?}
use Rattle.option.specs.Values.{Entry, information}
use Rattle.option.specs.Reading.{read_option}
use Rattle.option.specs.Writing.{option_bytes}
use Rattle.prefix.specs.declared.Prefix.{Prefix}
use Rattle.free_space.specs.Grant.{grant}
use Rattle.names.specs.declared.Name.{Name}
use Rattle.table.specs.declared.Lease.{Lease}
use Rattle.table.specs.declared.LeaseTable.{LeaseTable}
use Rattle.table.specs.Table.{latest, prefix_of, pools_of, padded, present, sound, store}
use Rattle.table.proofs.TableLaws.{sound-whole, store-last}
use Rattle.figures.specs.declared.FigureRow.{FigureRow}
use Rattle.figures.specs.Figures.{matches?, row_for, filed_by, kept_rows, followed, taken}
use Rattle.option.specs.Contents.{position, requests_in, entries_in, suboptions, Request}
use Rattle.option_reply.specs.Reply.{most_entries, entry_of}
use Rattle.ledger.specs.Ledger.{State, state, left, Call, Result, outcome, acceptance, accept, Row, first_of, or_else, by_rows, refusal_place, least_reply, least_for, narrowed, usable_leases, usable_entries, returned, gives_in, leases_in, table_rows, state_rows, option_rows, client_rows, nothing?, full, offered, offer, offers, add, add_all, again, rest_of, held_again, in_turn, ask_held, ask_offers, ask_gives, ask_leases, information_for, for_ask, name_rows, ask_rows, ask_name, ask, named_by?, found, renew_named, renewed, for_take, take_rows, take, for_list, listed, listed_in, list_rows, list, release_rows, release, at?, with_d, mark_rows, mark, ledger}
use Rattle.ledger.specs.Histories.{leases_of}
use Rattle.ledger.specs.NothingBehind.{Alike, Same, Cleared, EndedForgotten, Clears}
use Rattle.ledger.proofs.GroundLaws.{narrowed-pools, narrowed-default, again-same, usable_same, entries-same}
use Rattle.ledger.proofs.RowLaws.{Numbered, first-number, by_rows_lem, numbered-ask, numbered-take, numbered-release, numbered-mark}
use Rattle.ledger.proofs.SoundKept.{ask-sound, take-sound, release-sound, mark-sound}
use Rattle.ledger.proofs.MatchedKept.{ask-matched, take-matched, release-matched, mark-matched}

abbrev SameState : Result State → Result State → Type 0
SameState r q = Same (λ s. s) r q

not-zero : (n : ℕ) → eqb n 0 ≡ false → n ≡ 0 → ⊥
not-zero n e z = true≢false (sym (eq-eqb n 0 z) ∙ e)

accept-same : (reply : List ℕ) {v w : State} {b c : List ℕ} {m n : ℕ} → v ≡ w → b ≡ c → m ≡ n → SameState (accept v b m reply) (accept w c n reply)
accept-same reply e f g = record {
  answer = ap₂ (λ (l : List ℕ) (k : ℕ). acceptance (length l) k) f g;
  reply = ap (λ (l : List ℕ). l ++ drop (length l) reply) f;
  left = λ z. e;
}

-- OFFERS on tables with the same pools and the same default length, and what is given again

module _ (now : ℕ) (t v : LeaseTable) (pools : pools_of t ≡ pools_of v) (default : t.default_length ≡ v.default_length) where
  offer-same : (client : ℕ) (name : Name) (xs : List Lease) (r : Request) → offer t now client name xs r ≡ offer v now client name xs r
  unfolding offer
  offer-same client name xs r = ap₂ (λ (ps : List Prefix) (n : ℕ). cond (full xs) none (offered_from ps n)) pools (ap (λ (n : ℕ). cond (eqb r.length 0) n r.length) default)
    where
      offered_from : List Prefix → ℕ → Option Lease
      offered_from ps n = offered now client name r.h (grant ps (map prefix_of xs) n)

  offers-same : (client : ℕ) (name : Name) (xs : List Lease) (rs : List Request) → offers t now client name xs rs ≡ offers v now client name xs rs
  unfolding offers
  offers-same client name xs [] = refl
  offers-same client name xs (r ∷ rs) =
      ap (λ (o : Option Lease). o ∷ offers t now client name (add o xs) rs) (offer-same client name xs r)
      ∙ ap (λ (l : List (Option Lease)). offer v now client name xs r ∷ l) (offers-same client name (add (offer v now client name xs r) xs) rs)

  module _ (client : ℕ) (name : Name) (hs xs : List Lease) (rs : List Request) where
    given-same : again t client hs rs ≡ again v client hs rs
    given-same = again-same t v default client rs hs

    ask-offers-same : ask_offers t now client name hs xs rs ≡ ask_offers v now client name hs xs rs
    ask-offers-same =
        ap (λ (gs : List (Option Lease)). offers t now client name (held_again now (cat_maybes gs) xs) (rest_of gs rs)) given-same
        ∙ offers-same client name (ask_held v now client hs xs rs) (rest_of (again v client hs rs) rs)

    ask-gives-same : ask_gives t now client name hs xs rs ≡ ask_gives v now client name hs xs rs
    ask-gives-same = ap₂ (in_turn now) given-same ask-offers-same

    ask-leases-same : ask_leases t now client name hs xs rs ≡ ask_leases v now client name hs xs rs
    ask-leases-same = ap₂ (λ (os gs : List (Option Lease)). add_all os (held_again now (cat_maybes gs) xs)) ask-offers-same given-same

module _ (now : ℕ) (s u : State) (a : Alike now s u) where
  -- Two calls with the same rows.
  same_rows : (rows rows' : List Row) (place : ℕ → ℕ) (reply : List ℕ) (accepted accepted' : Result State) → rows ≡ rows' → Numbered rows → SameState accepted accepted'
      → SameState (by_rows rows place s reply accepted) (by_rows rows' place u reply accepted')
  same_rows rows rows' place reply accepted accepted' e k b =
      subst (λ (l : List Row). SameState (by_rows rows place s reply accepted) (by_rows l place u reply accepted')) e (go (first_of rows) refl)
    where
      go : (o : Option ℕ) → first_of rows ≡ o → SameState (or_else o (λ n. outcome (record { number = n; place = place n; bytes = 0; count = 0 }) s reply) accepted) (or_else o (λ n. outcome (record { number = n; place = place n; bytes = 0; count = 0 }) u reply) accepted')
      go none f = b
      go (some n) f = record { answer = refl; reply = refl; left = λ z. absurd (not-zero n (first-number (λ m. eqb m 0 ≡ false) rows k n f) z) }

  store_same : (xs ys : List Lease) → xs ≡ ys → store s.table now xs ≡ store u.table now ys
  unfolding store
  store_same xs ys e = λ i. record { pools = a.pools i; leases = padded (e i); term = a.term i; default_length = a.default i; last = now }

  left-same : (xs ys : List Lease) → xs ≡ ys → left s now xs ≡ left u now ys
  unfolding left followed
  left-same xs ys e = ap₂ (λ (v : LeaseTable) (rs : List FigureRow). state v (map (row_for rs) v.leases)) (store_same xs ys e) a.rows

  -- The ground of a call, and what lies on it.
  own-pools : (c : Call) → pools_of (narrowed s.table c) ≡ pools_of (narrowed u.table c)
  own-pools c = narrowed-pools u.table s.table c a.pools

  own_default : (c : Call) → (narrowed s.table c).default_length ≡ (narrowed u.table c).default_length
  own_default c = narrowed-default s.table c ∙ a.default ∙ sym (narrowed-default u.table c)

  leases-on : (c : Call) → usable_leases s.table c (present now s.table.leases) ≡ usable_leases u.table c (present now u.table.leases)
  leases-on c = usable_same s.table u.table c (present now s.table.leases) a.pools ∙ ap (usable_leases u.table c) a.leases

  entries-on : (c : Call) → usable_entries s.table c ≡ usable_entries u.table c
  entries-on c = entries-same s.table u.table c a.pools

  renewed-same : (c : Call) → renewed s now c ≡ renewed u now c
  unfolding renewed taken
  renewed-same c =
      ap (λ (es : List Entry). left-with es (store s.table now (renew_named now s.table.term c.client es (present now s.table.leases))) (kept_rows now s.table.leases s.rows)) (entries-on c)
      ∙ ap₂ (left-with (usable_entries u.table c))
      (store_same _ _ (ap₂ (λ (n : ℕ) (xs : List Lease). renew_named now n c.client (usable_entries u.table c) xs) a.term a.leases)) a.rows
    where
      left-with : List Entry → LeaseTable → List FigureRow → State
      left-with es v rs = state v (map (λ x. cond (eqb x.client c.client) (filed_by es (row_for rs x)) (row_for rs x)) v.leases)

  table-rows-same : table_rows s ≡ table_rows u
  table-rows-same = ap (λ (b : Bool). (5, not b) ∷ []) (a.sound₁ ∙ sym a.sound₂)

  state-rows-same : state_rows s ≡ state_rows u
  state-rows-same = ap₂ (λ (b m : Bool). (5, not b) ∷ (15, not m) ∷ []) (a.sound₁ ∙ sym a.sound₂) (a.matched₁ ∙ sym a.matched₂)

  time-same : ltb now s.table.last ≡ ltb now u.table.last
  time-same = le-ltb now s.table.last a.accepts₁.0 ∙ sym (le-ltb now u.table.last a.accepts₂.0)

  -- The rows as functions of what they take from the state.
  abbrev rows_with : List Row → Call → List Row → Bool → List Row → List Row
  rows_with first c of_state early own = first ++ ((of_state ++ (client_rows c ++ ((3, early) ∷ (4, ltb latest now) ∷ option_rows c))) ++ own)

  module _ (c : Call) where
    abbrev first : ℕ → List Row
    first least = (1, ltb (length c.reply) least) ∷ []

    abbrev rs : List Request
    rs = requests_in c.option

    gives_same : gives_in s.table now c ≡ gives_in u.table now c
    gives_same =
        ask-gives-same now (narrowed s.table c) (narrowed u.table c) (own-pools c) (own_default c) c.client (ask_name c) (usable_leases s.table c (present now s.table.leases)) (present now s.table.leases) rs
        ∙ ap₂ (λ (hs xs : List Lease). ask_gives (narrowed u.table c) now c.client (ask_name c) hs xs rs) (leases-on c) a.leases

    leases-same : leases_in s.table now c ≡ leases_in u.table now c
    leases-same =
        ask-leases-same now (narrowed s.table c) (narrowed u.table c) (own-pools c) (own_default c) c.client (ask_name c) (usable_leases s.table c (present now s.table.leases)) (present now s.table.leases) rs
        ∙ ap₂ (λ (hs xs : List Lease). ask_leases (narrowed u.table c) now c.client (ask_name c) hs xs rs) (leases-on c) a.leases

    ask-rows-same : ask_rows s now c ≡ ask_rows u now c
    unfolding ask_rows
    ask-rows-same =
        ap₂ (λ (x : List Row) (e : Bool). rows_with (first (least_for c.selection)) c x e (own (pools_of (narrowed s.table c)) (gives_in s.table now c) (present now s.table.leases))) state-rows-same time-same
        ∙ ap (λ (ps : List Prefix). rows_with (first (least_for c.selection)) c (state_rows u) (ltb now u.table.last) (own ps (gives_in s.table now c) (present now s.table.leases))) (own-pools c)
        ∙ ap₂ (λ (gs : List (Option Lease)) (xs : List Lease). rows_with (first (least_for c.selection)) c (state_rows u) (ltb now u.table.last) (own (pools_of (narrowed u.table c)) gs xs)) gives_same a.leases
      where
        own : List Prefix → List (Option Lease) → List Lease → List Row
        own ps gs xs = (8, not (for_ask rs)) ∷ (name_rows c ++ ((19, nothing? ps) ∷ (9, nothing? (cat_maybes gs) && full xs) ∷ (10, nothing? (cat_maybes gs)) ∷ []))

    ask-same : SameState (ask s now c) (ask u now c)
    unfolding ask
    ask-same =
        same_rows (ask_rows s now c) (ask_rows u now c) (refusal_place c.option) c.reply _ _ ask-rows-same (numbered-ask s now c)
        (accept-same c.reply
        (left-same _ _ leases-same)
        (ap (λ (l : List (Option Lease)). option_bytes (map information_for (cat_maybes l)) ++ returned c.selection) gives_same)
        (ap (λ (l : List (Option Lease)). length (cat_maybes l)) gives_same))

    found-same : found c.client (present now s.table.leases) (usable_entries s.table c) ≡ found c.client (present now u.table.leases) (usable_entries u.table c)
    found-same = ap₂ (found c.client) a.leases (entries-on c)

    take-rows-same : take_rows s now c ≡ take_rows u now c
    unfolding take_rows
    take-rows-same =
        ap₂ (λ (x : List Row) (e : Bool). rows_with (first (least_for c.selection)) c x e (own (pools_of (narrowed s.table c)) (found c.client (present now s.table.leases) (usable_entries s.table c)))) state-rows-same time-same
        ∙ ap₂ (λ (ps : List Prefix) (gs : List Lease). rows_with (first (least_for c.selection)) c (state_rows u) (ltb now u.table.last) (own ps gs)) (own-pools c) found-same
      where
        own : List Prefix → List Lease → List Row
        own ps gs = (8, not (for_take (suboptions (read_option c.option)))) ∷ (19, nothing? ps) ∷ (11, nothing? gs) ∷ []

    take_same : SameState (take s now c) (take u now c)
    unfolding take
    take_same =
        same_rows (take_rows s now c) (take_rows u now c) (refusal_place c.option) c.reply _ _ take-rows-same (numbered-take s now c)
        (accept-same c.reply
        (renewed-same c)
        (ap (λ (gs : List Lease). option_bytes (information false false (map entry_of gs) ∷ []) ++ returned c.selection) found-same)
        (ap length found-same))

    list-rows-same : list_rows s now c ≡ list_rows u now c
    unfolding list_rows
    list-rows-same =
        ap₂ (λ (x : List Row) (e : Bool). rows_with (first least_reply) c x e (own (present now s.table.leases))) table-rows-same time-same
        ∙ ap (λ (xs : List Lease). rows_with (first least_reply) c (table_rows u) (ltb now u.table.last) (own xs)) a.leases
      where
        own : List Lease → List Row
        own xs = (8, not (for_list (requests_in c.option))) ∷ (11, nothing? (listed c.client (position none (suboptions (read_option c.option))) xs)) ∷ []

    -- A list leaves each table as it was; its answer and its reply are the same.
    list_same : ((list s now c).answer ≡ (list u now c).answer) × ((list s now c).reply ≡ (list u now c).reply)
    unfolding list
    list_same =
        subst (λ (l : List Row). ((list s now c).answer ≡ (by_rows l (refusal_place c.option) u c.reply (page u (listed_in u.table now c.client c.option))).answer)
        × ((list s now c).reply ≡ (by_rows l (refusal_place c.option) u c.reply (page u (listed_in u.table now c.client c.option))).reply))
        list-rows-same (go (first_of (list_rows s now c)))
      where
        page : State → List Lease → Result State
        page v gs = accept v (option_bytes (information true (ltb most_entries (length gs)) (map entry_of (up_to most_entries gs)) ∷ [])) (length (up_to most_entries gs)) c.reply

        gone : listed_in s.table now c.client c.option ≡ listed_in u.table now c.client c.option
        gone = ap (listed c.client (position none (suboptions (read_option c.option)))) a.leases

        goes : Option ℕ → State → List Lease → Result State
        goes o v gs = or_else o (λ n. outcome (record { number = n; place = refusal_place c.option n; bytes = 0; count = 0 }) v c.reply) (page v gs)

        go : (o : Option ℕ)
            → ((goes o s (listed_in s.table now c.client c.option)).answer ≡ (goes o u (listed_in u.table now c.client c.option)).answer)
            × ((goes o s (listed_in s.table now c.client c.option)).reply ≡ (goes o u (listed_in u.table now c.client c.option)).reply)
        go none = (ap (λ (gs : List Lease). (page s gs).answer) gone, ap (λ (gs : List Lease). (page s gs).reply) gone)
        go (some n) = (refl, refl)

    release-rows-same : release_rows s now c ≡ release_rows u now c
    unfolding release_rows
    release-rows-same =
        ap₂ (λ (x : List Row) (e : Bool). rows_with [] c x e (own (present now s.table.leases))) state-rows-same time-same
        ∙ ap (λ (xs : List Lease). rows_with [] c (state_rows u) (ltb now u.table.last) (own xs)) a.leases
      where
        own : List Lease → List Row
        own xs = (8, not (for_take (suboptions (read_option c.option)))) ∷ (11, nothing? (filter (named_by? c.client (entries_in c.option)) xs)) ∷ []

    release-same : SameState (release s now c) (release u now c)
    unfolding release
    release-same =
        same_rows (release_rows s now c) (release_rows u now c) (refusal_place c.option) c.reply _ _ release-rows-same (numbered-release s now c)
        (accept-same c.reply {b = []} {c = []} (left-same _ _ (ap (filter (λ x. not (named_by? c.client (entries_in c.option) x))) a.leases)) refl
        (ap (λ (xs : List Lease). length (filter (named_by? c.client (entries_in c.option)) xs)) a.leases))

  mark-rows-same : (network len : ℕ) → mark_rows s now network len ≡ mark_rows u now network len
  unfolding mark_rows
  mark-rows-same network len =
      ap₂ (λ (x : List Row) (e : Bool). rows x e (present now s.table.leases)) state-rows-same time-same ∙ ap (rows (state_rows u) (ltb now u.table.last)) a.leases
    where
      rows : List Row → Bool → List Lease → List Row
      rows x e xs = x ++ ((3, e) ∷ (4, ltb latest now) ∷ (11, not (any? (at? network len) xs)) ∷ [])

  mark-same : (network len : ℕ) (d : Bool) → SameState (mark s now network len d) (mark u now network len d)
  unfolding mark
  mark-same network len d =
      same_rows (mark_rows s now network len) (mark_rows u now network len) (λ n. 0) [] _ _ (mark-rows-same network len) (numbered-mark s now network len)
      (accept-same [] {b = []} {c = []} {m = 0} {n = 0} (left-same _ _ (ap (map (λ x. cond (at? network len x) (with_d d x) x)) a.leases)) refl refl)

-- ENDED LEASES ARE FORGOTTEN, by every call.
pub ended-forgotten : EndedForgotten ledger
ended-forgotten now s u a = record { asks = ask-same now s u a; takes = take_same now s u a; lists = list_same now s u a; releases = release-same now s u a; marks = mark-same now s u a }

-- FREED SLOTS ARE ZERO: in a sound table, and so after every call, the leases stand first and every other slot is empty; an accepted ask, take, return or
-- mark has none that ended at or before now.

pub slots-zero : (t : LeaseTable) → sound t ≡ true → t.leases ≡ padded (leases_of t)
slots-zero t s = sound-whole t s

stored-cleared : (t : LeaseTable) (now : ℕ) (xs : List Lease) (rows : List FigureRow) → sound (store t now xs) ≡ true → matches? (store t now xs).leases rows ≡ true
    → Cleared now (state (store t now xs) rows)
stored-cleared t now xs rows s m =
    (store-last t now xs, sound-whole (store t now xs) s ∙ ap (λ (last : ℕ). padded (present last (store t now xs).leases)) (store-last t now xs), m)

-- Of a call that leaves a sound table and a sheet that matches it, if it is accepted.
abbrev LeavesCleared : ℕ → Result State → Type 0
LeavesCleared now r = sound r.state.table ≡ true → matches? r.state.table.leases r.state.rows ≡ true → r.answer.number ≡ 0 → Cleared now r.state

cleared_by : (now : ℕ) (rows : List Row) (place : ℕ → ℕ) (s : State) (reply : List ℕ) (accepted : Result State) → Numbered rows → LeavesCleared now accepted
    → LeavesCleared now (by_rows rows place s reply accepted)
cleared_by now rows place s reply accepted k left = by_rows_lem (LeavesCleared now) rows _ _ k (λ n m _ _ z. absurd (not-zero n m z)) (λ _. left)

module _ (s : State) (now : ℕ) where
  ask-clears : (c : Call) → (ask s now c).answer.number ≡ 0 → Cleared now (ask s now c).state
  unfolding ask left
  ask-clears c z =
      cleared_by now (ask_rows s now c) (refusal_place c.option) s c.reply _ (numbered-ask s now c) (λ q m _. stored-cleared s.table now _ _ q m)
      (ask-sound s now c z).1 (ask-matched s now c z).1 z

  take-clears : (c : Call) → (take s now c).answer.number ≡ 0 → Cleared now (take s now c).state
  unfolding take renewed
  take-clears c z =
      cleared_by now (take_rows s now c) (refusal_place c.option) s c.reply _ (numbered-take s now c) (λ q m _. stored-cleared s.table now _ _ q m)
      (take-sound s now c z).1 (take-matched s now c z).1 z

  release-clears : (c : Call) → (release s now c).answer.number ≡ 0 → Cleared now (release s now c).state
  unfolding release left
  release-clears c z =
      cleared_by now (release_rows s now c) (refusal_place c.option) s c.reply _ (numbered-release s now c) (λ q m _. stored-cleared s.table now _ _ q m)
      (release-sound s now c z).1 (release-matched s now c z).1 z

  mark-clears : (network len : ℕ) (d : Bool) → (mark s now network len d).answer.number ≡ 0 → Cleared now (mark s now network len d).state
  unfolding mark left
  mark-clears network len d z =
      cleared_by now (mark_rows s now network len) (λ n. 0) s [] _ (numbered-mark s now network len) (λ q m _. stored-cleared s.table now _ _ q m)
      (mark-sound s now network len d z).1 (mark-matched s now network len d z).1 z

  pub clears : Clears ledger s now
  clears = record { asks = ask-clears; takes = take-clears; releases = release-clears; marks = mark-clears }
