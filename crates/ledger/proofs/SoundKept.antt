-- EVERY CALL LEAVES A SOUND TABLE SOUND, and refuses an unsound one with 5 (or 1) untouched; after a refusal table and buffer are what they were; list
-- changes no table.
-- Assumes nothing.
use Prim.Native.Nat.{ℕ, ◌≤◌}
use mathlib.Core.Path.{◌≡◌, refl, sym, subst}
use mathlib.Core.Logic.{⊎_elim}
use mathlib.Core.Bool.{Bool, true, false, not, cond}
use mathlib.Core.List.{List, [], map}
use native.Mathlib.Omega.{arith}
use borrow.Author.Tests.{ltb-false, not-false}
use Rattle.lists.specs.Lists.{Pairwise}
use Rattle.lists.proofs.Tests.{bool_cases}
use Rattle.prefix.specs.declared.Prefix.{Prefix}
use Rattle.prefix.specs.Prefixes.{Apart}
use Rattle.table.specs.declared.Lease.{Lease}
use Rattle.table.specs.declared.LeaseTable.{LeaseTable}
use Rattle.table.specs.Table.{latest, prefix_of, pools_of, present, sound, store}
use Rattle.table.proofs.TableLaws.{Good, sound-term, sound-fine, fine-apart, map-sound, filter-sound}
use Rattle.option.specs.Contents.{entries_in}
use Rattle.ledger.specs.Ledger.{State, left, Call, Result, Row, by_rows, refusal_place, ask_rows, ask, named_by?, usable_entries, renew, renewed, take_rows, take, list_rows, list, release_rows, release, at?, with_d, mark_rows, mark, ledger}
use Rattle.ledger.specs.Demand3.{well_formed}
use Rattle.ledger.specs.Refusals.{UnchangedIfRefused, RefusalsLeave}
use Rattle.ledger.proofs.RowLaws.{first-none, served-or-not, accepted-none, numbered-ask, numbered-take, numbered-list, numbered-release, numbered-mark}
use Rattle.ledger.proofs.CallLaws.{run-not, called}

-- CHANGES THAT KEEP A LEASE GOOD AND IN ITS PLACE

pub record Mild (pools : List Prefix) (now : ℕ) (f : Lease → Lease) : Type 0 where
  pub place : (x : Lease) → prefix_of (f x) ≡ prefix_of x
  pub good : (x : Lease) → Good pools now x → Good pools now (f x)

pub cond-mild : (pools : List Prefix) (now : ℕ) (p : Lease → Bool) (f : Lease → Lease) → Mild pools now f → Mild pools now (λ x. cond (p x) (f x) x)
cond-mild pools now p f m = record {
  place = λ x. pick x (p x) (λ (y : Lease). prefix_of y ≡ prefix_of x) (m.place x) refl;
  good = λ x g. pick x (p x) (Good pools now) (m.good x g) g;
}
  where
    pick : (x : Lease) (b : Bool) (P : Lease → Type 0) → P (f x) → P x → P (cond b (f x) x)
    pick x true P a c = a
    pick x false P a c = c

module _ (t : LeaseTable) (now : ℕ) (s : sound t ≡ true) where
  pub renew-mild : Mild (pools_of t) now (renew now t.term)
  renew-mild = record {
    place = λ x. refl;
    good = λ x g. record { short = g.short; long = g.long; aligned = g.aligned; client = g.client; later = omega (arith, (sound-term t s).0); pooled = g.pooled };
  }

  pub with_d-mild : (d : Bool) → Mild (pools_of t) now (with_d d)
  with_d-mild d = record {
    place = λ x. refl;
    good = λ x g. record { short = g.short; long = g.long; aligned = g.aligned; client = g.client; later = g.later; pooled = g.pooled };
  }

  map-keeps : now ≤ latest → (p : Lease → Bool) (f : Lease → Lease) → Mild (pools_of t) now f → sound (store t now (map (λ x. cond (p x) (f x) x) (present now t.leases))) ≡ true
  map-keeps l p f m = let k = cond-mild (pools_of t) now p f m in map-sound t now (λ x. cond (p x) (f x) x) k.place k.good s l

-- EVERY CALL KEEPS A SOUND TABLE SOUND

pub ask-keeps : (s : State) (now : ℕ) (c : Call) → sound s.table ≡ true → sound (ask s now c).state.table ≡ true
ask-keeps s now c so =
    ⊎_elim (λ (e : well_formed now s c ≡ true). (called now s c e).sound) (λ (e : well_formed now s c ≡ false). subst (λ (u : State). sound u.table ≡ true) (sym (run-not now s c e).0) so)
    (bool_cases (well_formed now s c))

pub take-keeps : (s : State) (now : ℕ) (c : Call) → sound s.table ≡ true → sound (take s now c).state.table ≡ true
unfolding take take_rows renewed
take-keeps s now c so =
    served-or-not (λ (r : Result State). sound r.state.table ≡ true) (take_rows s now c) _ _ (λ n. so)
    (λ e.
    let r = first-none (take_rows s now c) e in
    map-keeps s.table now so (ltb-false latest now r.1.1.1.1.1.0) (named_by? c.client (usable_entries s.table c)) (renew now s.table.term) (renew-mild s.table now so))

-- "List changes nothing": all is what it was, sound or not.
pub list-keeps : (s : State) (now : ℕ) (c : Call) → (list s now c).state ≡ s
unfolding list
list-keeps s now c = served-or-not (λ (r : Result State). r.state ≡ s) (list_rows s now c) _ _ (λ n. refl) (λ e. refl)

pub release-keeps : (s : State) (now : ℕ) (c : Call) → sound s.table ≡ true → sound (release s now c).state.table ≡ true
unfolding release release_rows left
release-keeps s now c so =
    served-or-not (λ (r : Result State). sound r.state.table ≡ true) (release_rows s now c) _ _ (λ n. so)
    (λ e.
    let r = first-none (release_rows s now c) e in
    filter-sound s.table now (λ x. not (named_by? c.client (entries_in c.option) x)) so (ltb-false latest now r.1.1.1.1.0))

pub mark-keeps : (s : State) (now network len : ℕ) (d : Bool) → sound s.table ≡ true → sound (mark s now network len d).state.table ≡ true
unfolding mark mark_rows left
mark-keeps s now network len d so =
    served-or-not (λ (r : Result State). sound r.state.table ≡ true) (mark_rows s now network len) _ _ (λ n. so)
    (λ e. let r = first-none (mark_rows s now network len) e in map-keeps s.table now so (ltb-false latest now r.1.1.1.0) (at? network len) (with_d d) (with_d-mild s.table now so d))

-- AFTER A REFUSAL: "all counts 0, and the old bytes everywhere"

pub refused-by : {S : Type 0} (rows : List Row) (place : ℕ → ℕ) (s : S) (reply : List ℕ) (accepted : Result S) → accepted.answer.number ≡ 0
    → UnchangedIfRefused s reply (by_rows rows place s reply accepted)
refused-by {S} rows place s reply accepted z =
    served-or-not (UnchangedIfRefused s reply) rows _ _
    (λ n k. record { stays = refl; reply-stays = refl; bytes = refl; count = refl }) (λ e k. absurd (k z))

module _ (s : State) (now : ℕ) (c : Call) where
  pub ask-refused-unchanged : UnchangedIfRefused s c.reply (ask s now c)
  unfolding ask
  ask-refused-unchanged = refused-by (ask_rows s now c) (refusal_place c.option) s c.reply _ refl

  pub take-refused-unchanged : UnchangedIfRefused s c.reply (take s now c)
  unfolding take
  take-refused-unchanged = refused-by (take_rows s now c) (refusal_place c.option) s c.reply _ refl

  pub list-refused-unchanged : UnchangedIfRefused s c.reply (list s now c)
  unfolding list
  list-refused-unchanged = refused-by (list_rows s now c) (refusal_place c.option) s c.reply _ refl

  pub release-refused-unchanged : UnchangedIfRefused s c.reply (release s now c)
  unfolding release
  release-refused-unchanged = refused-by (release_rows s now c) (refusal_place c.option) s c.reply _ refl

pub mark-refused-unchanged : (s : State) (now network len : ℕ) (d : Bool) → UnchangedIfRefused s [] (mark s now network len d)
unfolding mark
mark-refused-unchanged s now network len d = refused-by (mark_rows s now network len) (λ n. 0) s [] _ refl

pub refusals-leave : RefusalsLeave ledger
refusals-leave = record { asks = ask-refused-unchanged; takes = take-refused-unchanged; lists = list-refused-unchanged; releases = release-refused-unchanged; marks = mark-refused-unchanged }

-- AN ACCEPTED CALL HAD A SOUND TABLE: row 5 did not apply.

module _ (s : State) (now : ℕ) (c : Call) where
  ask-accepted-sound : (ask s now c).answer.number ≡ 0 → sound s.table ≡ true
  unfolding ask ask_rows
  ask-accepted-sound z = not-false (sound s.table) (first-none (ask_rows s now c) (accepted-none (ask_rows s now c) (refusal_place c.option) s c.reply _ (numbered-ask s now c) z)).1.0

  take-accepted-sound : (take s now c).answer.number ≡ 0 → sound s.table ≡ true
  unfolding take take_rows
  take-accepted-sound z = not-false (sound s.table) (first-none (take_rows s now c) (accepted-none (take_rows s now c) (refusal_place c.option) s c.reply _ (numbered-take s now c) z)).1.0

  release-accepted-sound : (release s now c).answer.number ≡ 0 → sound s.table ≡ true
  unfolding release release_rows
  release-accepted-sound z =
      not-false (sound s.table) (first-none (release_rows s now c) (accepted-none (release_rows s now c) (refusal_place c.option) s c.reply _ (numbered-release s now c) z)).0

  list-accepted-sound : (list s now c).answer.number ≡ 0 → sound s.table ≡ true
  unfolding list list_rows
  list-accepted-sound z = not-false (sound s.table) (first-none (list_rows s now c) (accepted-none (list_rows s now c) (refusal_place c.option) s c.reply _ (numbered-list s now c) z)).1.0

mark-accepted-sound : (s : State) (now network len : ℕ) (d : Bool) → (mark s now network len d).answer.number ≡ 0 → sound s.table ≡ true
unfolding mark mark_rows
mark-accepted-sound s now network len d z =
    not-false (sound s.table) (first-none (mark_rows s now network len) (accepted-none (mark_rows s now network len) (λ n. 0) s [] _ (numbered-mark s now network len) z)).0

-- And it leaves a sound one.
abbrev pub SoundIfAccepted : State → Result State → Type 0
SoundIfAccepted s r = r.answer.number ≡ 0 → (sound s.table ≡ true) × (sound r.state.table ≡ true)

module _ (s : State) (now : ℕ) (c : Call) where
  pub ask-sound : SoundIfAccepted s (ask s now c)
  ask-sound z = let so = ask-accepted-sound s now c z in (so, ask-keeps s now c so)

  pub take-sound : SoundIfAccepted s (take s now c)
  take-sound z = let so = take-accepted-sound s now c z in (so, take-keeps s now c so)

  pub list-sound : SoundIfAccepted s (list s now c)
  list-sound z = let so = list-accepted-sound s now c z in (so, subst (λ (u : State). sound u.table ≡ true) (sym (list-keeps s now c)) so)

  pub release-sound : SoundIfAccepted s (release s now c)
  release-sound z = let so = release-accepted-sound s now c z in (so, release-keeps s now c so)

pub mark-sound : (s : State) (now network len : ℕ) (d : Bool) → SoundIfAccepted s (mark s now network len d)
mark-sound s now network len d z = let so = mark-accepted-sound s now network len d z in (so, mark-keeps s now network len d so)

-- NO TWO LEASES OF A SOUND TABLE SHARE AN ADDRESS, at any time.
pub no-overlap : (t : LeaseTable) (now : ℕ) → sound t ≡ true → Pairwise Apart (map prefix_of (present now t.leases))
no-overlap t now s = fine-apart (pools_of t) now 0 (present now t.leases) (sound-fine t s now)
