-- One well-formed ask call, whole; and a call that is not well-formed.
-- Assumes nothing.
use Prim.Native.Nat.{ℕ, ◌-◌, ◌≤◌}
use mathlib.Core.Path.{◌≡◌, refl, sym, ap, ap₂, subst, ◌∙◌}
use mathlib.Core.Bool.{Bool, true, false, not, cond, ◌||◌}
use mathlib.Core.List.{List, [], ◌∷◌, ◌++◌, map, nil≢cons}
use mathlib.Core.Option.{Option, none, some}
use native.Mathlib.Omega.{arith}
use lib.ListN.{length, drop, length-map}
use lib.Dec.{leb, ltb, eqb}
use borrow.Author.Tests.{ltb-false, le-ltb, eqb-false, not-false}
use Rattle.lists.specs.Lists.{All, cat_maybes}
use Rattle.lists.proofs.ListLaws.{all_map}
use Rattle.prefix.specs.declared.Prefix.{Prefix}
use Rattle.prefix.specs.Prefixes.{longest}
use Rattle.free_space.specs.Serving.{Pools}
use Rattle.option.specs.Values.{Entry}
use Rattle.option.specs.Reading.{read_option}
use Rattle.option.specs.Writing.{option_bytes}
use Rattle.table.specs.declared.Lease.{Lease}
use Rattle.table.specs.declared.LeaseTable.{LeaseTable}
use Rattle.table.specs.Table.{lease_slots, latest, prefix_of, pools_of, present, sound, store}
use Rattle.table.proofs.TableLaws.{Good, Fine, sound-fine, sound-fewer, store-sound, present-stored}
use Rattle.option.specs.Contents.{Request, refuses?}
use Rattle.option_reply.specs.Reply.{entry_of}
use Rattle.figures.specs.Figures.{matches?}
use Rattle.ledger.specs.Ledger.{State, left, Call, least_for, bad_selection?, nothing?, narrowed, usable_leases, returned, gives_in, leases_in, full, Result, Row, first_of, before, refuse, refusal_place, for_ask, name_rows, ask_rows, ask_name, offers, add_all, held_by?, again, rest_of, hold_again, held_again, ask_held, ask_offers, ask_gives, ask_leases, information_for, ask}
use Rattle.ledger.specs.Demand3.{none?, well_formed, Accepts, asks_of, reply_entries, pair_off, confirmed, granted, in_use, Fate, is_granted, wants_slot, wants_space, fate, HoldsNothing}
use Rattle.ledger.proofs.RowLaws.{first-none, none-to, none-not, answer_ask, ask-served, ask-refused}
use Rattle.ledger.proofs.LeftLaws.{left-matches}
use Rattle.ledger.proofs.ReadLaws.{requests-short}
use Rattle.ledger.proofs.GroundLaws.{Ground, area, narrowed-pools, narrowed-default, pairs-same, usable-all, usable-members}
use Rattle.ledger.proofs.OfferLaws.{Inv, offers-inv, offers-good}
use Rattle.ledger.proofs.AgainLaws.{again-all, hold-good, held_none, held-fine, held-length, rest_all, rest-fills, turn-all, turn-none, nothing-gives, nothing-leases}
use Rattle.ledger.proofs.ReplyLaws.{reads_none, reads-back}
use Rattle.ledger.proofs.AskLaws.{entry?, pairs, Kept, kept, confirm, confirm-none, add_all-none}

-- The rows of a call before 9.
abbrev pub rows_for : ℕ → State → Call → List Row
rows_for now t c = before 9 (ask_rows t now c)

pub record WellFormed (now : ℕ) (t : State) (c : Call) : Type 0 where
  pub buffer : least_for c.selection ≤ length c.reply
  pub sound : sound t.table ≡ true
  pub matched : matches? t.table.leases t.rows ≡ true
  pub named : c.client ≡ 0 → ⊥
  pub accepted : Accepts t.table now
  pub asks : for_ask (asks_of c) ≡ true
  pub area : nothing? (pools_of (narrowed t.table c)) ≡ false

pub well : (now : ℕ) (t : State) (c : Call) → well_formed now t c ≡ true → WellFormed now t c
unfolding well_formed ask_rows
well now t c e =
    let r = first-none (rows_for now t c) (none-to (first_of (rows_for now t c)) e) in
    record {
      buffer = ltb-false (length c.reply) (least_for c.selection) r.0;
      sound = not-false (sound t.table) r.1.0;
      matched = not-false (matches? t.table.leases t.rows) r.1.1.0;
      named = eqb-false c.client 0 r.1.1.1.0;
      accepted = (ltb-false now t.table.last r.1.1.1.1.0, ltb-false latest now r.1.1.1.1.1.0);
      asks = not-false (for_ask (asks_of c)) r.1.1.1.1.1.1.1.1.1.0;
      area = r.1.1.1.1.1.1.1.1.1.1.1.0;
    }

run-well : (now : ℕ) (t : State) (c : Call) → well_formed now t c ≡ true
    → ask t now c ≡ answer_ask t now (returned c.selection) c.reply (present now t.table.leases) (leases_in t.table now c) (cat_maybes (gives_in t.table now c))
unfolding well_formed
run-well now t c e = ask-served t now c (none-to (first_of (rows_for now t c)) e)

-- A call that is not well-formed is refused, and changes nothing.
pub run-refused : (now : ℕ) (t : State) (c : Call) → well_formed now t c ≡ false → (n : ℕ) × (first_of (rows_for now t c) ≡ some n) × (ask t now c ≡ refuse n (refusal_place c.option n) t c.reply)
unfolding well_formed
run-refused now t c e = let n = none-not (first_of (rows_for now t c)) e in (n.0, n.1, ask-refused t now c n.0 n.1)

pub run-not : (now : ℕ) (t : State) (c : Call) → well_formed now t c ≡ false → ((ask t now c).state ≡ t) × ((ask t now c).reply ≡ c.reply)
run-not now t c e = let f = (run-refused now t c e).2 in (ap (λ (r : Result State). r.state) f, ap (λ (r : Result State). r.reply) f)

-- On two sound tables with the same pools that accept the time, with sheets that match alike, a call is well-formed alike.
pub well-same : (now : ℕ) (t u : State) (c : Call) → sound t.table ≡ true → sound u.table ≡ true → Accepts t.table now → Accepts u.table now
    → matches? u.table.leases u.rows ≡ matches? t.table.leases t.rows → u.table.pools ≡ t.table.pools → well_formed now u c ≡ well_formed now t c
unfolding well_formed ask_rows
well-same now t u c st su at au m p =
    ap₂ (λ (a b : Bool). formed a b (pools_of (narrowed u.table c)) (ltb now u.table.last)) (su ∙ sym st) m
    ∙ ap₂ (formed (sound t.table) (matches? t.table.leases t.rows)) (narrowed-pools t.table u.table c p) (le-ltb now u.table.last au.0 ∙ sym (le-ltb now t.table.last at.0))
  where
    formed : Bool → Bool → List Prefix → Bool → Bool
    formed sound? matched? pools early =
        none? (first_of (
        (1, ltb (length c.reply) (least_for c.selection))
        ∷ (5, not sound?)
        ∷ (15, not matched?)
        ∷ (2, eqb c.client 0)
        ∷ (3, early)
        ∷ (4, ltb latest now)
        ∷ (6, refuses? 6 (read_option c.option) || bad_selection? c.selection)
        ∷ (7, refuses? 7 (read_option c.option))
        ∷ (16, refuses? 16 (read_option c.option))
        ∷ (8, not (for_ask (asks_of c)))
        ∷ (name_rows c ++ ((19, nothing? pools) ∷ []))))

-- ONE CALL

-- The number of a call: 0 if something is granted, otherwise the refusal of its first ask.
abbrev pub number_for : List Lease → List Lease → ℕ
number_for xs [] = cond (full xs) 9 10
number_for xs (g ∷ gs) = 0

-- The state after a call that is to leave the leases ys: what it was if nothing is granted.
abbrev pub state_for : State → ℕ → List Lease → List Lease → State
state_for t now ys [] = t
state_for t now ys (g ∷ gs) = left t now ys

-- What is so of the outcome of a call on the leases xs whose requests get `gs`, and which leaves the leases ys.
pub record Served (t : State) (now client : ℕ) (rs : List Request) (xs : List Lease) (gs : List (Option Lease)) (ys : List Lease) (r : Result State) : Type 0 where
  pub given : map (confirmed now client r.state.table) (pair_off t.table rs (reply_entries r)) ≡ map entry? gs
  pub told : reply_entries r ≡ map entry_of (cat_maybes gs)
  pub number : r.answer.number ≡ number_for xs (cat_maybes gs)
  pub count : r.answer.count ≡ length (cat_maybes gs)
  pub left-state : r.state ≡ state_for t now ys (cat_maybes gs)
  pub good : All (Good (pools_of t.table) now) ys
  pub left : present now r.state.table.leases ≡ ys
  pub sound : sound r.state.table ≡ true
  pub matched : matches? r.state.table.leases r.state.rows ≡ true
  pub since : r.state.table.last ≤ now
  pub pools : r.state.table.pools ≡ t.table.pools
  pub default : r.state.table.default_length ≡ t.table.default_length

module _ (now : ℕ) (t : State) (c : Call) (w : WellFormed now t c) where
  -- The table with the ground that it may use.
  abbrev own : LeaseTable
  own = narrowed t.table c

  on_it : Ground (pools_of t.table) (narrowed t.table c)
  on_it = area t.table c w.sound

  good : Pools (pools_of (narrowed t.table c))
  good = on_it.good

  xs : List Lease
  xs = present now t.table.leases

  -- Those of them that may be given again.
  us : List Lease
  us = usable_leases t.table c xs

  -- What its requests get again, the leases with that held anew, and what the rest is offered.
  abbrev hs : List (Option Lease)
  hs = again own c.client us (asks_of c)

  abbrev held : List Lease
  held = ask_held own now c.client us xs (asks_of c)

  abbrev os : List (Option Lease)
  os = ask_offers own now c.client (ask_name c) us xs (asks_of c)

  gives : List (Option Lease)
  gives = ask_gives own now c.client (ask_name c) us xs (asks_of c)

  ys : List Lease
  ys = ask_leases own now c.client (ask_name c) us xs (asks_of c)

  -- Where nothing is granted nothing is given again, so the leases are as they were.
  stay : cat_maybes gives ≡ [] → ys ≡ xs
  unfolding gives ys
  stay e =
      let z = turn-none now hs os (rest-fills own now c.client (ask_name c) us held (asks_of c)) e in
      add_all-none os held z.1 ∙ ap (λ (given : List Lease). held_again now given xs) z.0 ∙ held_none now xs

  fine : Fine (pools_of t.table) now 0 xs
  unfolding xs
  fine = sound-fine t.table w.sound now

  rest-short : All (λ r. r.length ≤ longest) (rest_of hs (asks_of c))
  rest-short = rest_all (λ r. r.length ≤ longest) hs (asks_of c) (requests-short c.option)

  -- The leases that it is to leave are good, ascend, and fit the table; what it grants is good.
  leaves : Inv own now c.client (ask_name c) good (pools_of t.table) ys
  unfolding xs ys
  leaves =
      offers-inv own now c.client (ask_name c) good (pools_of t.table) on_it w.named (rest_of hs (asks_of c)) held rest-short
      (record { fine = held-fine now (cat_maybes hs) (pools_of t.table) xs fine; fit = omega (arith, held-length now (cat_maybes hs) xs, sound-fewer t.table w.sound now) })

  grants-good : All (Good (pools_of t.table) now) (cat_maybes gives)
  unfolding gives us
  grants-good =
      let again-good : (x : Lease) → (held_by? c.client x ≡ true) × Good (pools_of t.table) now x → Good (pools_of t.table) now (hold_again now x) =
      λ x k. hold-good (pools_of t.table) now x k.1 in
      turn-all now (Good (pools_of t.table) now) hs os
      (all_map again-good (cat_maybes hs) (again-all own c.client (Good (pools_of t.table) now) (asks_of c) us (usable-all t.table c (Good (pools_of t.table) now) xs fine.0)))
      (offers-good own now c.client (ask_name c) good (pools_of t.table) on_it w.named (rest_of hs (asks_of c)) held rest-short)

  paired : pair_off t.table (asks_of c) (map entry_of (cat_maybes gives)) ≡ map entry? gives
  unfolding gives
  paired =
      pairs-same t.table own (sym (narrowed-default t.table c)) (asks_of c) (map entry_of (cat_maybes gives))
      ∙ pairs own good now c.client (ask_name c) (asks_of c) us held

  all-kept : All (Kept now c.client ys) gives
  unfolding gives ys us
  all-kept = kept own good now c.client (ask_name c) (asks_of c) us xs (usable-members t.table c xs)

  served : (gs : List Lease) → cat_maybes gives ≡ gs → Served t now c.client (asks_of c) xs gives ys (answer_ask t now (returned c.selection) c.reply xs ys gs)
  unfolding store left xs
  served [] e = record {
    given =
        ap (λ (es : List Entry). map (confirmed now c.client t.table) (pair_off t.table (asks_of c) es)) (reads_none (cond (full xs) 9 10) 0 t c.reply ∙ ap (map entry_of) (sym e))
        ∙ ap (map (confirmed now c.client t.table)) paired
        ∙ confirm-none now c.client t.table gives e;
    told = reads_none (cond (full xs) 9 10) 0 t c.reply ∙ ap (map entry_of) (sym e);
    number = ap (number_for xs) (sym e);
    count = ap length (sym e);
    left-state = ap (state_for t now ys) (sym e);
    good = leaves.fine.0;
    left = sym (stay e);
    sound = w.sound;
    matched = w.matched;
    since = w.accepted.0;
    pools = refl;
    default = refl;
  }
  served (g ∷ gs) e =
      let a : All (Good (pools_of t.table) now) (g ∷ gs) = subst (All (Good (pools_of t.table) now)) e grants-good in
      let u : LeaseTable = store t.table now ys in
      let rest : List ℕ = drop (length (option_bytes (map information_for (g ∷ gs)) ++ returned c.selection)) c.reply in
      record {
        given =
            ap (λ (es : List Entry). map (confirmed now c.client u) (pair_off t.table (asks_of c) es)) (reads-back (pools_of t.table) now g gs (returned c.selection) rest a ∙ ap (map entry_of) (sym e))
            ∙ ap (map (confirmed now c.client u)) paired
            ∙ confirm now c.client (lease_slots - length ys) u ys refl gives all-kept;
        told = reads-back (pools_of t.table) now g gs (returned c.selection) rest a ∙ ap (map entry_of) (sym e);
        number = ap (number_for xs) (sym e);
        count = ap length (sym e);
        left-state = ap (state_for t now ys) (sym e);
        good = leaves.fine.0;
        left = present-stored (pools_of t.table) now ys leaves.fine.0;
        sound = store-sound t.table now ys w.sound w.accepted.1 leaves.fit leaves.fine;
        matched = left-matches t now w.sound w.matched ys;
        since = omega arith;
        pools = refl;
        default = refl;
      }

-- What a well-formed call on a state gives, and the leases that it leaves.
abbrev pub gives_on : ℕ → State → Call → List (Option Lease)
gives_on now t c = gives_in t.table now c

abbrev pub leases_on : ℕ → State → Call → List Lease
leases_on now t c = leases_in t.table now c

pub called : (now : ℕ) (t : State) (c : Call) → well_formed now t c ≡ true → Served t now c.client (asks_of c) (present now t.table.leases) (gives_on now t c) (leases_on now t c) (ask t now c)
unfolding xs us gives ys
called now t c e =
    subst (Served t now c.client (asks_of c) (present now t.table.leases) (gives_on now t c) (leases_on now t c)) (sym (run-well now t c e))
    (served now t c (well now t c e) (cat_maybes (gives_on now t c)) refl)

pub granted-is : (now : ℕ) (t : State) (c : Call) → well_formed now t c ≡ true → granted (λ s. s) ask now t c ≡ map entry? (gives_on now t c)
unfolding granted
granted-is now t c e = (called now t c e).given

-- A client that holds nothing gets what all its requests are offered.
module _ (now : ℕ) (t : State) (c : Call) (e : well_formed now t c ≡ true) (n : HoldsNothing now t.table c.client) where
  pub called-first : let xs = present now t.table.leases in let os = offers (narrowed t.table c) now c.client (ask_name c) xs (asks_of c) in
      Served t now c.client (asks_of c) xs os (add_all os xs) (ask t now c)
  called-first =
      let xs : List Lease = present now t.table.leases in
      let ns : LeaseTable = narrowed t.table c in
      let us : List Lease = usable_leases t.table c xs in
      let a : All (λ x. held_by? c.client x ≡ false) us = usable-all t.table c (λ x. held_by? c.client x ≡ false) xs n in
      let os : List (Option Lease) = offers ns now c.client (ask_name c) xs (asks_of c) in
      subst (λ (gs : List (Option Lease)). Served t now c.client (asks_of c) xs gs (add_all os xs) (ask t now c)) (nothing-gives ns c.client (ask_name c) now us xs (asks_of c) a)
      (subst (λ (ys : List Lease). Served t now c.client (asks_of c) xs (gives_on now t c) ys (ask t now c)) (nothing-leases ns c.client (ask_name c) now us xs (asks_of c) a) (called now t c e))

  pub granted-first : granted (λ s. s) ask now t c ≡ map entry? (offers (narrowed t.table c) now c.client (ask_name c) (present now t.table.leases) (asks_of c))
  unfolding granted
  granted-first = called-first.given

-- THE REPLY TELLS WHAT IS GRANTED AND NOTHING ELSE, in order: entries pair off, and none is left over.
cat_maybes-told : (os : List (Option Lease)) → map entry_of (cat_maybes os) ≡ cat_maybes (map entry? os)
cat_maybes-told [] = refl
cat_maybes-told (none ∷ os) = cat_maybes-told os
cat_maybes-told (some x ∷ os) = ap (λ (l : List Entry). entry_of x ∷ l) (cat_maybes-told os)

pub reply-is-granted : (now : ℕ) (t : State) (c : Call) → well_formed now t c ≡ true → reply_entries (ask t now c) ≡ cat_maybes (granted (λ s. s) ask now t c)
reply-is-granted now t c e =
    (called now t c e).told ∙ cat_maybes-told (gives_on now t c) ∙ ap cat_maybes (sym (granted-is now t c e))

-- "If none is granted, the answer is the refusal of the first": 9 if it wants a slot, 10 if it wants space.
abbrev pub number_of : Fate → ℕ
number_of is_granted = 0
number_of wants_slot = 9
number_of wants_space = 10

pub refused-number : (now : ℕ) (t : State) (c : Call) → well_formed now t c ≡ true → cat_maybes (granted (λ s. s) ask now t c) ≡ []
    → ((ask t now c).answer.number ≡ number_of (fate (in_use now t.table) none)) × ((ask t now c).answer.count ≡ 0)
refused-number now t c e n =
    let gs : List (Option Lease) = gives_on now t c in
    let z : cat_maybes gs ≡ [] = nil-map (cat_maybes gs) (cat_maybes-told gs ∙ ap cat_maybes (sym (granted-is now t c e)) ∙ n) in (
      (called now t c e).number ∙ ap (number_for (present now t.table.leases)) z ∙ ap (λ (k : ℕ). cond (leb lease_slots k) 9 10) (sym (length-map (present now t.table.leases) prefix_of))
          ∙ same (leb lease_slots (length (in_use now t.table))),
      (called now t c e).count ∙ ap length z,
    )
  where
    nil-map : (ys : List Lease) → map entry_of ys ≡ [] → ys ≡ []
    nil-map [] q = refl
    nil-map (y ∷ ys) q = absurd (nil≢cons (sym q))

    same : (b : Bool) → ◌≡◌ {A = ℕ} (cond b 9 10) (number_of (cond b wants_slot wants_space))
    same true = refl
    same false = refl

-- The number is 0 where something is granted, and the count is that of the entries.
pub accepted-number : (now : ℕ) (t : State) (c : Call) → well_formed now t c ≡ true → (g : Entry) (gs : List Entry) → cat_maybes (granted (λ s. s) ask now t c) ≡ g ∷ gs
    → ((ask t now c).answer.number ≡ 0) × ((ask t now c).answer.count ≡ length (reply_entries (ask t now c)))
accepted-number now t c e g gs n =
    let os : List (Option Lease) = gives_on now t c in
    let q : map entry_of (cat_maybes os) ≡ g ∷ gs = cat_maybes-told os ∙ ap cat_maybes (sym (granted-is now t c e)) ∙ n in
    ((called now t c e).number ∙ some_number (cat_maybes os) q, (called now t c e).count ∙ sym (length-map (cat_maybes os) entry_of) ∙ ap length (sym (called now t c e).told))
  where
    some_number : (ys : List Lease) → map entry_of ys ≡ g ∷ gs → number_for (present now t.table.leases) ys ≡ 0
    some_number [] q = absurd (nil≢cons q)
    some_number (y ∷ ys) q = refl
