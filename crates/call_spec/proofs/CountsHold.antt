-- The counts of the open book are kept, from every call and over every history; and what differs is unsound.
-- Assumes nothing.
use Prim.Native.Nat.{ℕ}
use mathlib.Core.Path.{◌≡◌, refl, sym, ap, subst, ◌∙◌}
use mathlib.Core.Logic.{⊎_elim}
use mathlib.Core.Bool.{true, false}
use mathlib.Core.List.{List}
use Rattle.lists.proofs.Tests.{bool_cases}
use Rattle.table.specs.Table.{sound}
use Rattle.counts.specs.Counts.{counts_of}
use Rattle.ledger.specs.declared.Answer.{Answer}
use Rattle.ledger.specs.Ledger.{State, Result, ledger}
use Rattle.ledger.specs.Histories.{Event, asked, taken, was_listed, returned, marked, saved, next, Reachable, begun, called}
use Rattle.ledger.proofs.HistoriesHold.{next-sound}
use Rattle.ledger.proofs.SoundKept.{list-sound}
use Rattle.ledger.proofs.Following.{next-same}
use Rattle.call_spec.specs.ImageCalls.{Lent, table_in, ask_image, take_image, release_image, mark_image}
use Rattle.call_spec.specs.Books.{Book, counted?, lent_in, state_in_book, counted, kept, book_calls}
use Rattle.call_spec.specs.OnBooks.{Begins}
use Rattle.call_spec.specs.CountsKept.{Right, DifferingUnsound, RightIfAccepted, CountsKept, AlwaysRight}
use Rattle.call_spec.proofs.BookLaws.{counted-to, counted_of, differing-unsound, sound-counted, sound-lent, counted-again, kept-accepted}
use Rattle.call_spec.proofs.OnBooks.{books-follow, begins-sound}

pub differing-is-unsound : DifferingUnsound
differing-is-unsound b k =
    ⊎_elim
    (λ (e : counted? b ≡ true). absurd (k (counted-to b e)))
    (λ (e : counted? b ≡ false). differing-unsound b e)
    (bool_cases (counted? b))

-- A sound book has the counts of its table.
pub sound-right : (b : Book) → sound (state_in_book b).table ≡ true → Right b
sound-right b s = counted-to b (sound-counted b s) ∙ ap (λ (h : Lent). counts_of (table_in h)) (sym (sound-lent b s))

counted-right : (h : Lent) → Right (counted h)
counted-right h = ap (λ (g : Lent). counts_of (table_in g)) (sym (counted-again h))

kept-right : (b : Book) (r : Result Lent) → RightIfAccepted (kept r b)
unfolding kept
kept-right b r z = subst (λ (q : Result Book). Right q.state) (sym (kept-accepted b r z)) (counted-right r.state)

pub counts-kept : CountsKept
unfolding kept
counts-kept = record {
  asks = λ b now c. kept-right b (ask_image (lent_in b) now c);
  takes = λ b now c. kept-right b (take_image (lent_in b) now c);
  lists = λ b now c z. sound-right b (list-sound (state_in_book b) now c z).0;
  releases = λ b now c. kept-right b (release_image (lent_in b) now c);
  marks = λ b now network len d. kept-right b (mark_image (lent_in b) now network len d);
}

-- A book that a history reaches is sound.
reachable-sound : (b : Book) → Reachable book_calls Begins b → sound (state_in_book b).table ≡ true
reachable-sound b (begun u k) = begins-sound u k
reachable-sound b (called u e r) = subst (λ (v : State). sound v.table ≡ true) (sym (next-same book_calls books-follow u e)) (next-sound (state_in_book u) e (reachable-sound u r))

pub always-right : AlwaysRight
always-right b r = sound-right b (reachable-sound b r)
