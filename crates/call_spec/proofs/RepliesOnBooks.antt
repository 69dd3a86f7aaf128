-- WHAT EACH CALL ON IMAGES ANSWERS, by the law that whatever follows the ledger keeps its theorems: what take and list write reads back, option 118 is returned
-- and obeyed, a refusal leaves every byte, a struck lease leaves nothing behind, usage figures and names are kept, and resuming a list skips and repeats nothing.
-- Assumes nothing.
use Prim.Native.Nat.{ℕ}
use mathlib.Core.Path.{◌≡◌, refl, sym, ap, subst, ◌∙◌}
use mathlib.Core.Bool.{Bool, true, false, cond}
use mathlib.Core.List.{List, [], ◌∷◌, ◌++◌}
use mathlib.Core.Option.{Option, none, some}
use lib.ListN.{length}
use lib.ListN.{take as up_to}
use Rattle.table.specs.declared.LeaseTable.{LeaseTable}
use Rattle.table.specs.Table.{sound}
use Rattle.table_open.specs.Open.{given, fresh}
use Rattle.image.specs.declared.Form.{Form}
use Rattle.image.specs.Image.{image_as, image_of, loaded_table}
use Rattle.image.specs.Reading.{load_saved}
use Rattle.image_figures.specs.Sheets.{sheet_of, sheet_rows}
use Rattle.ledger.specs.Ledger.{Call, Result, outcome, refuse, accept, first_of, or_else, open_rows}
use Rattle.ledger.specs.Demand3.{none?}
use Rattle.ledger.specs.Sizes.{Bytes}
use Rattle.ledger.specs.ReadBack.{TakesReadBack, SelectionReturned, ListsReadBack}
use Rattle.ledger.specs.OnGround.{OnGround}
use Rattle.ledger.specs.Refusals.{Unchanged, UnchangedIfRefused, RefusalsLeave}
use Rattle.ledger.specs.NothingBehind.{EndedForgotten, Clears}
use Rattle.ledger.specs.FiguresKept.{Matched, FiguresKept, AlwaysMatched, AllUntold}
use Rattle.ledger.specs.NamesKept.{NamesKept}
use Rattle.ledger.specs.Resuming.{Resumes}
use Rattle.ledger.proofs.SoundKept.{refused-by}
use Rattle.ledger.proofs.ListDependsHolds.{list-without-rows}
use Rattle.ledger.proofs.FiguresHold.{filled-untold}
use Rattle.ledger.proofs.FollowingReplies.{takes-read-back-followed, selection-returned-followed, on-ground-followed, lists-read-back-followed, refusals-leave-followed, ended-forgotten-followed, clears-followed, figures-kept-followed, names-kept-followed, always-matched-followed, resumes-followed}
use Rattle.call_spec.specs.ImageCalls.{Lent, lent, table_in, state_in, list_image, open_image, load_into, room_rows, save_rows, save_from}
use Rattle.call_spec.specs.Books.{Book, book_of, counted?, lent_in, kept, book_calls}
use Rattle.call_spec.specs.OnBooks.{Begins, opened, loaded, StartsUntold, RefusalsLeaveBook, WithoutSheet}
use Rattle.call_spec.proofs.TableLaws.{held-image, held-length, held-sheet}
use Rattle.call_spec.proofs.BookLaws.{kept-refused}
use Rattle.call_spec.proofs.OnBooks.{books-follow, opened-book-holds, loaded-book-holds}

-- WHAT TAKE AND LIST WRITE reads back.
pub take-reads-back-on-books : TakesReadBack book_calls
take-reads-back-on-books = takes-read-back-followed book_calls books-follow

-- Option 118 follows it, unaltered.
pub selection-returned-on-books : SelectionReturned book_calls
selection-returned-on-books = selection-returned-followed book_calls books-follow

-- And every entry before it lies on the ground that it names.
pub on-ground-on-books : OnGround book_calls
on-ground-on-books = on-ground-followed book_calls books-follow

pub list-reads-back-on-books : ListsReadBack book_calls
list-reads-back-on-books = lists-read-back-followed book_calls books-follow

-- A REFUSAL LEAVES EVERY BYTE of image, length, sheet and reply buffer.
pub refusals-leave-on-books : RefusalsLeave book_calls
refusals-leave-on-books = refusals-leave-followed book_calls books-follow

-- Of the book, where the call on what is lent leaves that as it was.
book-unchanged : (b : Book) (r : Result Lent) → UnchangedIfRefused b.lent [] r → UnchangedIfRefused b [] (kept r b)
unfolding kept
book-unchanged b r u k =
    let same = kept-refused b r k in
    let w = u k in
    record { stays = ap (λ (q : Result Book). q.state) same; reply-stays = w.reply-stays; bytes = w.bytes; count = w.count }

pub refusals-leave-book : RefusalsLeaveBook
unfolding open_image load_into save_from
refusals-leave-book = record {
  opens =
      λ b networks lengths term default_length start. book-unchanged b (open_image b.lent networks lengths term default_length start)
      (refused-by (open_rows networks lengths term default_length start ++ room_rows b.lent) (λ n. 0) b.lent [] _ refl);
  loads = λ b saved. book-unchanged b (load_into b.lent saved) (refused-by ((5, none? (load_saved saved)) ∷ room_rows b.lent) (λ n. 0) b.lent [] _ refl);
  saves =
      λ b form older buffer k. let h : Lent = lent_in b in
      let w = refused-by (save_rows (table_in h) form older buffer) (λ n. 0) h buffer (accept h (image_as form (table_in h)) 0 buffer) refl k in
      record { stays = refl; reply-stays = w.reply-stays; bytes = w.bytes; count = w.count };
}

-- LIST AND SAVE HAVE NO SHEET.
abbrev served_on : Lent → List ℕ → List ℕ → Option ℕ → Result Lent
served_on h written buffer o = or_else o (λ number. refuse number 0 h buffer) (accept h written 0 buffer)

-- The same answer and reply.
abbrev Alike : Result Lent → Result Lent → Type 0
Alike r q = (r.answer ≡ q.answer) × (r.reply ≡ q.reply)

served-alike : (h g : Lent) (written buffer : List ℕ) (o : Option ℕ) → Alike (served_on h written buffer o) (served_on g written buffer o)
served-alike h g written buffer none = (refl, refl)
served-alike h g written buffer (some n) = (refl, refl)

module _ (image : List ℕ) (bytes : ℕ) (figures : List ℕ) where
  lists-alike : (now : ℕ) (c : Call) → Alike (list_image (lent image bytes figures) now c) (list_image (lent image bytes []) now c)
  unfolding table_in
  lists-alike now c = list-without-rows (table_in (lent image bytes [])) (sheet_rows figures) (sheet_rows []) now c

  saves-alike : (form : Form) (older : Bool) (buffer : List ℕ) → Alike (save_from (lent image bytes figures) form older buffer) (save_from (lent image bytes []) form older buffer)
  unfolding table_in save_from
  saves-alike form older buffer =
      let t : LeaseTable = table_in (lent image bytes []) in
      served-alike (lent image bytes figures) (lent image bytes []) (image_as form t) buffer (first_of (save_rows t form older buffer))

-- Whether or not the counts are right, which no sheet decides.
module _ (image : List ℕ) (bytes : ℕ) (figures : List ℕ) (counts : List (List ℕ)) (f : Lent → Result Lent) (alike : (n : ℕ) → Alike (f (lent image n figures)) (f (lent image n []))) where
  judged-alike : Alike (f (lent_in (book_of image bytes figures counts))) (f (lent_in (book_of image bytes [] counts)))
  unfolding lent_in counted? table_in
  judged-alike = go (counted? (book_of image bytes [] counts))
    where
      go : (right : Bool) → Alike (f (cond right (lent image bytes figures) (lent image 0 figures))) (f (cond right (lent image bytes []) (lent image 0 [])))
      go true = alike bytes
      go false = alike 0

  without : outcome (f (lent_in (book_of image bytes figures counts))).answer (book_of image bytes figures counts) (f (lent_in (book_of image bytes figures counts))).reply
      ≡ outcome (f (lent_in (book_of image bytes [] counts))).answer (book_of image bytes figures counts) (f (lent_in (book_of image bytes [] counts))).reply
  without = let same = judged-alike in (λ i. record { answer = same.0 i; state = book_of image bytes figures counts; reply = same.1 i })

pub without-sheet : WithoutSheet
without-sheet = record {
  lists = λ image bytes figures counts now c. without image bytes figures counts (λ h. list_image h now c) (λ n. lists-alike image n figures now c);
  saves = λ image bytes figures counts form older buffer.
      without image bytes figures counts (λ h. save_from h form older buffer) (λ n. saves-alike image n figures form older buffer);
}

-- A STRUCK LEASE LEAVES NOTHING BEHIND: two images that differ only in ended leases get the same answers and replies, and accepted calls leave the same table.
pub ended-forgotten-on-books : EndedForgotten book_calls
ended-forgotten-on-books = ended-forgotten-followed book_calls books-follow

-- Then they leave the same image: bytes that hold the same sound table are the same, as far as the image goes. (Past it are zeros: `nothing-behind` in Images.)
pub same-image : (h g : Lent) → Bytes h.image → Bytes g.image → sound (table_in h) ≡ true → sound (table_in g) ≡ true → table_in h ≡ table_in g
    → (h.bytes ≡ g.bytes) × (up_to h.bytes h.image ≡ up_to g.bytes g.image)
same-image h g b c s u e =
    let same : image_of (table_in h) ≡ image_of (table_in g) = ap image_of e in
    (sym (held-length h s b) ∙ ap length same ∙ held-length g u c, sym (held-image h s b) ∙ same ∙ held-image g u c)

-- And the same sheet.
pub same-sheet : (h g : Lent) → Bytes h.figures → Bytes g.figures → sound (table_in h) ≡ true → sound (table_in g) ≡ true → Matched (state_in h) → Matched (state_in g)
    → (state_in h).rows ≡ (state_in g).rows → h.figures ≡ g.figures
same-sheet h g b c s u m n e = held-sheet h s m b ∙ ap sheet_of e ∙ sym (held-sheet g u n c)

-- No accepted call leaves a lease that ended at or before now, and every slot that it frees is zero.
pub clears-on-books : (b : Book) (now : ℕ) → Clears book_calls b now
clears-on-books = clears-followed book_calls books-follow

-- USAGE FIGURES ARE KEPT: after every accepted call that has the sheet its rows match the leases, and a lease's figures are what a take told last.
pub figures-kept-on-books : FiguresKept book_calls
figures-kept-on-books = figures-kept-followed book_calls books-follow

-- NAMES: the leases that an ask newly makes get the name of its message, and every other keeps its own.
pub names-kept-on-books : NamesKept book_calls
names-kept-on-books = names-kept-followed book_calls books-follow

pub starts-untold : StartsUntold
starts-untold b (opened g networks lengths term default_length start z) = subst AllUntold (sym (opened-book-holds g networks lengths term default_length start z)) (filled-untold (fresh (given networks lengths) term default_length start))
starts-untold b (loaded g saved bytes z) = subst AllUntold (sym (loaded-book-holds g saved bytes z)) (filled-untold (loaded_table (load_saved saved)))

-- From an open or a load on, no call is refused with 15.
pub always-matched-on-books : AlwaysMatched book_calls Begins
always-matched-on-books = always-matched-followed book_calls books-follow Begins (λ h b. (starts-untold h b).0)

-- RESUMING A LIST, whatever was returned in between.
pub resumed-on-books : Resumes book_calls
resumed-on-books = resumes-followed book_calls books-follow
