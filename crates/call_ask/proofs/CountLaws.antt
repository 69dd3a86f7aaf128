-- Where an ask struck no expired lease and left as many leases as there were, each keeps its place: the counts stay.
-- Assumes nothing.
use Prim.Native.Nat.{ℕ, ◌+◌, ◌-◌, ◌<◌}
use native.Mathlib.Omega.{arith}
use mathlib.Core.Path.{◌≡◌, refl, sym, ap, ◌∙◌}
use mathlib.Core.Bool.{Bool, true, false, not, cond, ◌&&◌}
use mathlib.Core.List.{List, [], ◌∷◌, ◌++◌, map}
use mathlib.Core.Option.{Option, none, some}
use lib.Dec.{ltb, eqb}
use lib.ListN.{length, length-map}
use lib.Seq.{length-take-le}
use borrow.Author.Tests.{lt-ltb, ltb-true, eqb-true, not-false}
use Rattle.lists.proofs.Tests.{and-to}
use Rattle.lists.specs.Lists.{All, any?, cat_maybes}
use Rattle.lists.proofs.SortingLaws.{insert_by-longer}
use Rattle.lists.proofs.FilterLaws.{filter-pass, filter-yes}
use Rattle.table.specs.declared.Lease.{Lease}
use Rattle.table.specs.declared.Pool.{Pool}
use Rattle.table.specs.declared.LeaseTable.{LeaseTable}
use Rattle.table.specs.Table.{lease_slots, network_of, prefix_of, present, store, insert, sound}
use Rattle.table.proofs.TableLaws.{sound-used, present-padded}
use Rattle.image.specs.Image.{used_pools, used_leases, image_of}
use Rattle.image.proofs.ImageLaws.{length-image}
use Rattle.image_check.specs.declared.ImageSummary.{ImageSummary}
use Rattle.counts.specs.Counts.{counts_of}
use Rattle.option.specs.Contents.{Request, requests_in}
use Rattle.ledger.specs.declared.Answer.{Answer}
use Rattle.ledger.specs.Ledger.{State, left, Call, Result, outcome, or_else, refuse, accept, refusal_place, returned, narrowed, usable_leases, ask_name, offers, add_all, rest_of, again, hold_again, held_again, ask_held, ask_offers, gives_in, leases_in, information_for, ask_rows, ask}
use Rattle.ledger.proofs.GroundLaws.{area}
use Rattle.option.specs.Writing.{option_bytes}
use Rattle.ledger.proofs.RowLaws.{accepted-none, numbered-ask}
use Rattle.ledger.proofs.OfferLaws.{offers-all, add_all-all}
use Rattle.ledger.proofs.SoundKept.{ask-sound}
use Rattle.call_spec.specs.ImageCalls.{Lent, table_in, state_in, stored_in, ask_image}
use Rattle.call_spec.proofs.StoreLaws.{settled-accepted}
use Rattle.call_spec.proofs.OnImages.{follows-all}
use Rattle.call_spec.proofs.PoolsKept.{ask-pools, same-table, left-sound, left-pools}
use Rattle.call_rows.specs.Admission.{Admitted}
use Rattle.call_rows.proofs.SettleLaws.{unmoved}

-- WHAT IS ADDED

added : (os : List (Option Lease)) (xs : List Lease) → length (add_all os xs) ≡ length xs + length (cat_maybes os)
unfolding add_all
added [] xs = omega arith
added (none ∷ os) xs = added os xs
added (some x ∷ os) xs = omega (arith, added os (insert x xs), insert_by-longer network_of x xs)

nothing-added : (os : List (Option Lease)) (xs : List Lease) → length (cat_maybes os) ≡ 0 → add_all os xs ≡ xs
unfolding add_all
nothing-added [] xs e = refl
nothing-added (none ∷ os) xs e = nothing-added os xs e
nothing-added (some x ∷ os) xs e = absurd (omega arith)

-- WHAT IS OFFERED OR HELD AGAIN is present.

abbrev Late : ℕ → Lease → Type 0
Late now x = ltb now x.expires ≡ true

all-late : (now : ℕ) (xs : List Lease) → All (Late now) xs → present now xs ≡ xs
unfolding present
all-late now [] a = refl
all-late now (x ∷ xs) a = filter-yes (λ y. ltb now y.expires) x xs a.0 ∙ ap (λ (l : List Lease). x ∷ l) (all-late now xs a.1)

any-request : (rs : List Request) → All (λ r. Unit {0}) rs
any-request [] = tt
any-request (r ∷ rs) = (tt, any-request rs)

offers-late : (t : LeaseTable) (c : Call) (now : ℕ) → sound t ≡ true → (xs : List Lease) (rs : List Request) → All (Late now) (cat_maybes (offers (narrowed t c) now c.client (ask_name c) xs rs))
offers-late t c now so xs rs =
    offers-all (narrowed t c) now c.client (ask_name c) (area t c so).good (λ r. Unit {0}) (Late now) (λ us r x q f. lt-ltb now x.expires (omega (arith, f.until))) rs xs (any-request rs)

-- What becomes of each lease that is present.
abbrev held_one : ℕ → List Lease → Lease → Lease
held_one now given x = cond (any? (λ y. eqb y.network x.network) given) (hold_again now x) x

held_place : (now : ℕ) (b : Bool) (x : Lease) → prefix_of (cond b (hold_again now x) x) ≡ prefix_of x
held_place now true x = refl
held_place now false x = refl

held-late : (now : ℕ) (b : Bool) (x : Lease) → now < x.expires → now < (cond b (hold_again now x) x).expires
held-late now true x l = omega arith
held-late now false x l = l

held_all : (now : ℕ) (given xs : List Lease) → All (Late now) xs → All (Late now) (held_again now given xs)
held_all now given [] a = tt
held_all now given (x ∷ xs) a =
    (lt-ltb now (held_one now given x).expires (held-late now (any? (λ y. eqb y.network x.network) given) x (ltb-true now x.expires a.0)), held_all now given xs a.1)

-- THE CALL

module _ (s : State) (now : ℕ) (c : Call) (z : (ask s now c).answer.number ≡ 0) where
  ask-leaves : (ask s now c).state.table ≡ store s.table now (leases_in s.table now c)
  unfolding ask left
  ask-leaves =
      let granted : List Lease = cat_maybes (gives_in s.table now c) in
      let accepted : Result State = accept (left s now (leases_in s.table now c)) (option_bytes (map information_for granted) ++ returned c.selection) (length granted) c.reply in
      ap (λ (o : Option ℕ). (or_else o (λ number. refuse number (refusal_place c.option number) s c.reply) accepted).state.table)
      (accepted-none (ask_rows s now c) (refusal_place c.option) s c.reply accepted (numbered-ask s now c) z)

module _ (h : Lent) (now : ℕ) (c : Call) (summary : ImageSummary) (o : Admitted true h now c.client summary)
    (a : Answer) (g : Lent) (reply : List ℕ) (is : outcome a g reply ≡ ask_image h now c) (z : a.number ≡ 0) where
  abbrev t : LeaseTable
  t = table_in h

  abbrev xs : List Lease
  xs = present now t.leases

  abbrev rs : List Request
  rs = requests_in c.option

  -- The table with the ground of the call, and the leases on it.
  abbrev u : LeaseTable
  u = narrowed t c

  abbrev hs : List Lease
  hs = usable_leases t c xs

  abbrev given : List Lease
  given = cat_maybes (again u c.client hs rs)

  abbrev held : List Lease
  held = ask_held u now c.client hs xs rs

  abbrev os : List (Option Lease)
  os = ask_offers u now c.client (ask_name c) hs xs rs

  abbrev zs : List Lease
  zs = leases_in t now c

  zero : (ask (state_in h) now c).answer.number ≡ 0
  zero = sym (ap (λ (w : Answer). w.number) (ap (λ (w : Result Lent). w.answer) is ∙ (follows-all.asks h now c).answer)) ∙ z

  table_is : table_in g ≡ store t now zs
  table_is = same-table h (ask (state_in h) now c) (ask_image h now c) (follows-all.asks h now c) a g reply is z ∙ ask-leaves (state_in h) now c zero

  size-before : length (image_of t) ≡ h.bytes
  size-before = ap length o.image ∙ length-take-le h.bytes h.image o.within

  size-after : length (image_of (table_in g)) ≡ g.bytes
  size-after =
      let there : g ≡ stored_in (ask (state_in h) now c).state h.bytes h = ap (λ (w : Result Lent). w.state) (is ∙ settled-accepted (ask (state_in h) now c) h zero) in
      ap (λ (u : LeaseTable). length (image_of u)) (same-table h (ask (state_in h) now c) (ask_image h now c) (follows-all.asks h now c) a g reply is z) ∙ ap (λ (w : Lent). w.bytes) (sym there)

  here-late : All (Late now) xs
  unfolding present
  here-late = filter-pass (λ x. ltb now x.expires) t.leases

  all_here : present now zs ≡ zs
  all_here = all-late now zs (add_all-all (Late now) os held (offers-late t c now o.sound held (rest_of (again u c.client hs rs) rs)) (held_all now given xs here-late))

  -- How many leases are left.
  used-are : used_leases (table_in g) ≡ zs
  unfolding store
  used-are =
      sound-used (table_in g) (left-sound h (ask (state_in h) now c) (ask_image h now c) (follows-all.asks h now c) a g reply is z (ask-sound (state_in h) now c))
      ∙ ap (λ (u : LeaseTable). present u.last u.leases) table_is ∙ present-padded now (lease_slots - length zs) zs ∙ all_here

  same-pools : length (used_pools (table_in g)) ≡ length (used_pools t)
  same-pools = ap (λ (ps : List Pool). length (used_pools (record { pools = ps; leases = []; term = 0; default_length = 0; last = 0 }))) (left-pools h (ask (state_in h) now c) (ask_image h now c) (follows-all.asks h now c) a g reply is z (ask-pools (state_in h) now c))

  ask-unmoved : summary.expired ≡ 0 → g.bytes ≡ h.bytes → counts_of (table_in g) ≡ counts_of t
  ask-unmoved none-gone same =
      let all-used : xs ≡ used_leases t = o.present-used ∙ o.none-expired none-gone in
      let as_many : length zs ≡ length xs =
      omega (arith, length-image t, length-image (table_in g), size-before, size-after, same, same-pools, ap length used-are, ap length all-used) in
      let none-new : length (cat_maybes os) ≡ 0 = omega (arith, as_many, added os held, length-map xs (held_one now given)) in
      ap counts_of (table_is ∙ ap (store t now) (nothing-added os held none-new))
      ∙ unmoved now (held_one now given) (λ x. held_place now (any? (λ y. eqb y.network x.network) given) x) (λ x. held-late now (any? (λ y. eqb y.network x.network) given) x) true h c.client summary o none-gone

  -- By what the code looks at.
  pub ask-kept : (moved : Bool) → moved ≡ not (eqb summary.expired 0 && eqb h.bytes g.bytes) → moved ≡ false → counts_of (table_in g) ≡ counts_of t
  ask-kept moved is e =
      let both = and-to (eqb summary.expired 0) (eqb h.bytes g.bytes) (not-false (eqb summary.expired 0 && eqb h.bytes g.bytes) (sym is ∙ e)) in
      ask-unmoved (eqb-true summary.expired 0 both.0) (sym (eqb-true h.bytes g.bytes both.1))
