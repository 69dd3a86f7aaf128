-- The calls on what is lent follow the ledger's, from every start, sound or not; and an accepted open or load leaves what holds the table that it makes.
-- Assumes nothing.
use Prim.Native.Nat.{ℕ, ◌≤◌}
use mathlib.Core.Path.{◌≡◌, refl, sym, ap, subst, ◌∙◌}
use mathlib.Core.Logic.{⊎_elim}
use mathlib.Core.Bool.{Bool, true, false, not, ◌||◌, true≢false}
use mathlib.Core.List.{List, [], ◌∷◌, ◌++◌}
use mathlib.Core.Option.{Option, none, some}
use lib.ListN.{length}
use lib.Dec.{ltb, eqb}
use borrow.Author.Tests.{eqb-true, eqb-false, ltb-false, not-false}
use Rattle.lists.specs.Lists.{All}
use Rattle.lists.proofs.Tests.{bool_cases}
use Rattle.table.specs.declared.LeaseTable.{LeaseTable}
use Rattle.table.specs.Table.{sound}
use Rattle.table_open.specs.Open.{given, open_ok, fresh}
use Rattle.table_open.proofs.OpenLaws.{open-sound}
use Rattle.image.specs.Image.{full_image, loaded_table}
use Rattle.image.specs.Reading.{form_of, load_saved}
use Rattle.image.proofs.ImageLaws.{image-loaded-in}
use Rattle.figures.proofs.RowsMatch.{filled-matches}
use Rattle.image_figures.specs.Sheets.{figures_size}
use Rattle.ledger.specs.Sizes.{Bytes}
use Rattle.ledger.specs.Ledger.{State, filled, Call, Result, Row, first_of, or_else, refuse, accept, open_rows, open_table, ask, take, list, release, mark, ledger}
use Rattle.ledger.specs.Demand3.{none?, Demand3}
use Rattle.ledger.specs.AskingTwice.{AsksTwice}
use Rattle.ledger.specs.Histories.{NeverShared}
use Rattle.ledger.specs.Conservation.{Conserved, FromLoad}
use Rattle.ledger.specs.ListDepends.{DependsOnly}
use Rattle.ledger.proofs.RowLaws.{first-none, accepted-none}
use Rattle.ledger.proofs.SoundKept.{SoundIfAccepted, ask-sound, take-sound, list-keeps, release-sound, mark-sound, ask-refused-unchanged, take-refused-unchanged, release-refused-unchanged, mark-refused-unchanged}
use Rattle.ledger.proofs.MatchedKept.{MatchedIfAccepted, ask-matched, take-matched, release-matched, mark-matched}
use Rattle.ledger.proofs.ConservationHolds.{conservation-open}
use Rattle.ledger.proofs.Following.{Follows, FollowsAll, demand3-followed, asks-twice-followed, never-shared-followed, conserved-followed, conservation-followed, list-depends-followed}
use Rattle.call_spec.specs.ImageCalls.{Lent, table_in, state_in, stored_in, settled, ask_image, list_image, image_calls, open_image, load_into, room_rows}
use Rattle.call_spec.proofs.StoreLaws.{settled-refused, settled-accepted}
use Rattle.call_spec.proofs.TableLaws.{held-room}
use Rattle.call_spec.proofs.Images.{found-again}

-- A CALL FOLLOWS, if the ledger's leaves a sound table and rows that match it where it is accepted, and all as it was where it is not.
follow : (h : Lent) (r : Result State) → SoundIfAccepted (state_in h) r → MatchedIfAccepted (state_in h) r → ((r.answer.number ≡ 0 → ⊥) → r.state ≡ state_in h)
    → Follows state_in h r (settled r h)
follow h r good matched same =
    ⊎_elim
    (λ (e : eqb r.answer.number 0 ≡ true).
    let z = eqb-true r.answer.number 0 e in
    subst (Follows state_in h r) (sym (settled-accepted r h z))
    (record {
      answer = refl;
      reply = refl;
      holds = found-again r.state (good z).1 h.bytes h (held-room h (good z).0) (matched z).1;
      refused = λ k. absurd (k z);
    }))
    (λ (e : eqb r.answer.number 0 ≡ false).
    let k = eqb-false r.answer.number 0 e in
    subst (Follows state_in h r) (sym (settled-refused r h k)) (record { answer = refl; reply = refl; holds = sym (same k); refused = λ _. refl }))
    (bool_cases (eqb r.answer.number 0))

-- A list leaves all as it was, as the ledger's does.
follow-list : (h : Lent) (now : ℕ) (c : Call) → Follows state_in h (list (state_in h) now c) (list_image h now c)
follow-list h now c = record { answer = refl; reply = refl; holds = sym (list-keeps (state_in h) now c); refused = λ _. refl }

pub follows-all : FollowsAll image_calls
follows-all = record {
  asks = λ h now c. follow h (ask (state_in h) now c) (ask-sound (state_in h) now c) (ask-matched (state_in h) now c) (λ k. (ask-refused-unchanged (state_in h) now c k).stays);
  takes = λ h now c. follow h (take (state_in h) now c) (take-sound (state_in h) now c) (take-matched (state_in h) now c) (λ k. (take-refused-unchanged (state_in h) now c k).stays);
  lists = follow-list;
  releases =
      λ h now c. follow h (release (state_in h) now c) (release-sound (state_in h) now c) (release-matched (state_in h) now c) (λ k. (release-refused-unchanged (state_in h) now c k).stays);
  marks =
      λ h now network len d. follow h (mark (state_in h) now network len d) (mark-sound (state_in h) now network len d) (mark-matched (state_in h) now network len d)
      (λ k. (mark-refused-unchanged (state_in h) now network len d k).stays);
}

-- WHERE HISTORIES BEGIN: an accepted open or load leaves what holds the table that it makes, and a sheet that is filled.

or-none : (a b : Bool) → (a || b) ≡ false → (a ≡ false) × (b ≡ false)
or-none true b e = absurd (true≢false e)
or-none false b e = (refl, e)

-- The rows of both end with those for room: where none applies the buffer holds a full book.
has_room : (h : Lent) → All (λ (r : Row). r.1 ≡ false) (room_rows h) → full_image ≤ length h.image
has_room h a = ltb-false (length h.image) full_image (or-none (ltb (length h.image) full_image) (not (eqb (length h.figures) figures_size)) a.0).0

module _ (h : Lent) (networks lengths : List ℕ) (term default_length start : ℕ) (z : (open_image h networks lengths term default_length start).answer.number ≡ 0) where
  abbrev made : LeaseTable
  made = fresh (given networks lengths) term default_length start

  rows : List Row
  rows = open_rows networks lengths term default_length start ++ room_rows h

  none-applies : first_of rows ≡ none
  unfolding open_image rows
  none-applies = accepted-none rows (λ n. 0) h [] _ (refl, (refl, tt)) z

  open-ok : open_ok networks lengths term default_length start ≡ true
  unfolding rows
  open-ok = not-false (open_ok networks lengths term default_length start) (first-none rows none-applies).0

  room : full_image ≤ length h.image
  unfolding rows
  room = has_room h (first-none rows none-applies).1

  left : (open_image h networks lengths term default_length start).state ≡ stored_in (filled made) full_image h
  unfolding open_image rows
  left = ap (λ (o : Option ℕ). (or_else o (λ number. refuse number 0 h []) (accept (stored_in (filled made) full_image h) [] 0 [])).state) none-applies

  made-sound : sound made ≡ true
  made-sound = open-sound networks lengths term default_length start open-ok

  -- What is left holds the ledger's table and rows.
  pub opened-holds : state_in (open_image h networks lengths term default_length start).state ≡ filled made
  opened-holds = ap state_in left ∙ found-again (filled made) made-sound full_image h room (filled-matches made.leases)

  pub opened-sound : sound (table_in (open_image h networks lengths term default_length start).state) ≡ true
  opened-sound = ap (λ (s : State). sound s.table) opened-holds ∙ made-sound

  -- And it is what the ledger's open makes.
  pub opened-as : ((open_table networks lengths term default_length start).answer.number ≡ 0)
      × (state_in (open_image h networks lengths term default_length start).state ≡ (open_table networks lengths term default_length start).state)
  unfolding open_table
  opened-as = rw open-ok (refl, opened-holds)

pub is_some : (o : Option LeaseTable) → none? o ≡ false → o ≡ some (loaded_table o)
is_some none e = absurd (true≢false e)
is_some (some t) e = refl

module _ (h : Lent) (saved : List ℕ) (b : Bytes saved) (z : (load_into h saved).answer.number ≡ 0) where
  abbrev read : LeaseTable
  read = loaded_table (load_saved saved)

  load-rows : List Row
  load-rows = (5, none? (load_saved saved)) ∷ room_rows h

  none-of-load : first_of load-rows ≡ none
  unfolding load_into load-rows
  none-of-load = accepted-none load-rows (λ n. 0) h [] _ (refl, (refl, tt)) z

  read-sound : sound read ≡ true
  unfolding load-rows
  read-sound = (image-loaded-in (form_of saved) saved read b (is_some (load_saved saved) (first-none load-rows none-of-load).0)).0

  pub loaded-holds : state_in (load_into h saved).state ≡ filled read
  unfolding load_into load-rows
  loaded-holds =
      ap (λ (o : Option ℕ). state_in (or_else o (λ number. refuse number 0 h []) (accept (stored_in (filled read) full_image h) [] 0 [])).state) none-of-load
      ∙ found-again (filled read) read-sound full_image h (has_room h (first-none load-rows none-of-load).1) (filled-matches read.leases)

  pub loaded-sound : sound (table_in (load_into h saved).state) ≡ true
  loaded-sound = ap (λ (s : State). sound s.table) loaded-holds ∙ read-sound
