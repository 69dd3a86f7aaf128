-- THE THEOREMS ON WHAT THE CODE IS LENT. The calls on the open book follow the ledger's, from every start, sound or not; so demand 3, what a client that asks
-- twice gets, conservation, that no address is shared and what a list depends on hold of histories of calls in which the buffer, the length, the figures sheet
-- and the counts go from call to call.
-- Assumes nothing.
use Prim.Native.Nat.{ℕ}
use mathlib.Core.Path.{◌≡◌, refl, sym, ap, subst, ◌∙◌}
use mathlib.Core.Logic.{⊎_elim}
use mathlib.Core.Bool.{Bool, true, false}
use mathlib.Core.List.{List}
use lib.Dec.{eqb}
use borrow.Author.Tests.{eqb-true, eqb-false}
use Rattle.lists.proofs.Tests.{bool_cases}
use Rattle.table.specs.declared.LeaseTable.{LeaseTable}
use Rattle.table.specs.Table.{sound}
use Rattle.table_open.specs.Open.{given, fresh}
use Rattle.image.specs.Image.{loaded_table}
use Rattle.image.specs.Reading.{load_saved}
use Rattle.ledger.specs.Sizes.{Bytes}
use Rattle.ledger.specs.declared.Answer.{Answer}
use Rattle.ledger.specs.Ledger.{State, filled, Call, Result, ledger, open_table}
use Rattle.ledger.specs.Demand3.{Demand3}
use Rattle.ledger.specs.AskingTwice.{AsksTwice}
use Rattle.ledger.specs.Histories.{NeverShared}
use Rattle.ledger.specs.Conservation.{Conserved, FromLoad}
use Rattle.ledger.specs.ListDepends.{DependsOnly}
use Rattle.ledger.proofs.ConservationHolds.{conservation-open}
use Rattle.ledger.proofs.Following.{Follows, FollowsAll, demand3-followed, asks-twice-followed, never-shared-followed, conserved-followed, conservation-followed, list-depends-followed}
use Rattle.call_spec.specs.ImageCalls.{Lent, table_in, state_in, ask_image, take_image, list_image, release_image, mark_image, open_image, load_into}
use Rattle.call_spec.specs.Books.{Book, lent_in, state_in_book, counted, kept, ask_book, list_book, book_calls, open_book, load_book}
use Rattle.call_spec.specs.OnBooks.{Begins, opened, loaded, FromOpen}
use Rattle.call_spec.proofs.BookLaws.{counted-again, kept-refused, kept-accepted}
use Rattle.call_spec.proofs.OnImages.{follows-all, opened-holds, opened-sound, opened-as, loaded-holds, loaded-sound}

-- A CALL ON THE BOOK FOLLOWS, if the one on what is lent does.
follow-book : (b : Book) (r : Result State) (q : Result Lent) → Follows state_in (lent_in b) r q → Follows state_in_book b r (kept q b)
follow-book b r q f =
    let same : q.answer.number ≡ r.answer.number = ap (λ (a : Answer). a.number) f.answer in
    ⊎_elim
    (λ (e : eqb q.answer.number 0 ≡ true).
    let z = eqb-true q.answer.number 0 e in
    subst (Follows state_in_book b r) (sym (kept-accepted b q z))
    (record { answer = f.answer; reply = f.reply; holds = ap state_in (counted-again q.state) ∙ f.holds; refused = λ k. absurd (k (sym same ∙ z)) }))
    (λ (e : eqb q.answer.number 0 ≡ false).
    let k = eqb-false q.answer.number 0 e in
    subst (Follows state_in_book b r) (sym (kept-refused b q k))
    (record { answer = f.answer; reply = f.reply; holds = ap state_in (sym (f.refused (λ z. k (same ∙ z)))) ∙ f.holds; refused = λ _. refl }))
    (bool_cases (eqb q.answer.number 0))

-- A list leaves all as it was.
follow-list : (b : Book) (now : ℕ) (c : Call) → Follows state_in_book b (ledger.lists (state_in_book b) now c) (list_book b now c)
follow-list b now c =
    let f = follows-all.lists (lent_in b) now c in
    record { answer = f.answer; reply = f.reply; holds = f.holds; refused = λ _. refl }

pub books-follow : FollowsAll book_calls
books-follow = record {
  asks = λ b now c. follow-book b (ledger.asks (state_in_book b) now c) (ask_image (lent_in b) now c) (follows-all.asks (lent_in b) now c);
  takes = λ b now c. follow-book b (ledger.takes (state_in_book b) now c) (take_image (lent_in b) now c) (follows-all.takes (lent_in b) now c);
  lists = follow-list;
  releases = λ b now c. follow-book b (ledger.releases (state_in_book b) now c) (release_image (lent_in b) now c) (follows-all.releases (lent_in b) now c);
  marks = λ b now network len d. follow-book b (ledger.marks (state_in_book b) now network len d) (mark_image (lent_in b) now network len d) (follows-all.marks (lent_in b) now network len d);
}

-- DEMAND 3 OF THE CODE'S ASK: `askBook` is what `flockdrift_ask` is proved to be.
pub demand3-on-books : Demand3 state_in_book ask_book
demand3-on-books = demand3-followed state_in_book ask_book books-follow.asks

-- A CLIENT THAT ASKS TWICE gets its leases again.
pub asks-twice-on-books : AsksTwice state_in_book ask_book
asks-twice-on-books = asks-twice-followed state_in_book ask_book books-follow.asks

-- CONSERVATION over histories of calls on what is lent, and WHAT A LIST DEPENDS ON.
pub conservation-on-books : FromLoad book_calls
conservation-on-books = conservation-followed book_calls books-follow

pub list-depends-on-books : DependsOnly book_calls
list-depends-on-books = list-depends-followed book_calls books-follow

-- WHERE HISTORIES BEGIN: an accepted open or load leaves what holds the table that it makes, with its counts.

made_holds : (b : Book) (q : Result Lent) → q.answer.number ≡ 0 → state_in_book (kept q b).state ≡ state_in q.state
made_holds b q z = ap (λ (r : Result Book). state_in_book r.state) (kept-accepted b q z) ∙ ap state_in (counted-again q.state)

module _ (b : Book) (networks lengths : List ℕ) (term default_length start : ℕ) (z : (open_book b networks lengths term default_length start).answer.number ≡ 0) where
  abbrev made : Lent
  made = (open_image b.lent networks lengths term default_length start).state

  held : state_in_book (open_book b networks lengths term default_length start).state ≡ state_in made
  unfolding kept
  held = made_holds b (open_image b.lent networks lengths term default_length start) z

  pub opened-book-holds : state_in_book (open_book b networks lengths term default_length start).state ≡ filled (fresh (given networks lengths) term default_length start)
  unfolding kept
  opened-book-holds = held ∙ opened-holds b.lent networks lengths term default_length start z

  opened-book-sound : sound (state_in_book (open_book b networks lengths term default_length start).state).table ≡ true
  unfolding kept
  opened-book-sound = ap (λ (s : State). sound s.table) held ∙ opened-sound b.lent networks lengths term default_length start z

  opened-book-as : ((open_table networks lengths term default_length start).answer.number ≡ 0)
      × (state_in_book (open_book b networks lengths term default_length start).state ≡ (open_table networks lengths term default_length start).state)
  unfolding kept
  opened-book-as = let o = opened-as b.lent networks lengths term default_length start z in (o.0, held ∙ o.1)

module _ (b : Book) (saved : List ℕ) (bytes : Bytes saved) (z : (load_book b saved).answer.number ≡ 0) where
  held-loaded : state_in_book (load_book b saved).state ≡ state_in (load_into b.lent saved).state
  unfolding kept
  held-loaded = made_holds b (load_into b.lent saved) z

  pub loaded-book-holds : state_in_book (load_book b saved).state ≡ filled (loaded_table (load_saved saved))
  unfolding kept
  loaded-book-holds = held-loaded ∙ loaded-holds b.lent saved bytes z

  loaded-book-sound : sound (state_in_book (load_book b saved).state).table ≡ true
  unfolding kept
  loaded-book-sound = ap (λ (s : State). sound s.table) held-loaded ∙ loaded-sound b.lent saved bytes z

pub begins-sound : (b : Book) → Begins b → sound (state_in_book b).table ≡ true
begins-sound b (opened g networks lengths term default_length start z) = opened-book-sound g networks lengths term default_length start z
begins-sound b (loaded g saved bytes z) = loaded-book-sound g saved bytes z

-- NO TWO LEASES SHARE AN ADDRESS, in all that a history of calls on what is lent can reach.
pub never-shared-on-books : NeverShared book_calls Begins
never-shared-on-books = never-shared-followed book_calls books-follow Begins begins-sound

pub conservation-open-on-books : FromOpen
conservation-open-on-books b networks lengths term default_length start es z =
    let o = opened-book-as b networks lengths term default_length start z in
    conserved-followed book_calls books-follow 0 (open_book b networks lengths term default_length start).state es
    (subst (λ (s : State). Conserved ledger 0 s es) (sym o.1) (conservation-open networks lengths term default_length start es o.0))
