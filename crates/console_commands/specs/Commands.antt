-- WHAT EACH COMMAND OF A SCRIPT DOES: the call that it is, with the line's own arguments; the book that the call leaves; and the line of its answer.
-- The book is the open book: the image in its buffer, with its length, and the figures sheet and the counts beside it.
use Rattle.std.specs.Prelude.{ℕ, ◌+◌, ◌≡◌, Bool, not, cond, ◌⊎◌, List, [], ◌++◌, length, take, eqb}
use Rattle.std.proofs.Math.Option.{Option, none}
use Rattle.ledger.specs.declared.Answer.{Answer}
use Rattle.ledger.specs.Ledger.{Result, first_of, or_else, table_rows}
use Rattle.ledger.specs.Ledger.{call as message, call_with as message_with}
use Rattle.image_figures.specs.Sheets.{sheet_rows}
use Rattle.call_spec.specs.ImageCalls.{table_in}
use Rattle.call_spec.specs.Books.{Book, book_of, state_in_book, ask_book, take_book, list_book, release_book, mark_book, open_book, load_book, save_book, whole_book}
use Rattle.image.specs.Image.{full_image, form_numbered, used_pools}
use Rattle.call_sheet.specs.SheetImage.{sheet_image}
use Rattle.console_script.specs.declared.OptionCall.{OptionCall}
use Rattle.console_script.specs.declared.OptionCall.TheVariants.{Ask, Take, List as ListCall, Return}
use Rattle.console_script.specs.Commands.{CommandValue, call, mark, «open», load, save, sheet, read, write, figures, set_figures, counts, set_counts, whole, buffer, selection, nothing, bad}
use Rattle.console_script.specs.CountOctets.{counts_in}
use Rattle.console_lines.specs.Lines.{ok_line, error_line, refused_line, done_line, counted_line, replied_line, written_line}
use Rattle.console_lines.specs.FigureLines.{figures_text}
use Rattle.console_lines.specs.CountLines.{counts_text}
use Rattle.console_write.specs.Writes.{written_as}
use Rattle.option.specs.Writing.{Writing}

-- What a command is given beside its line: the book, the reply buffer's length, whether option 118 is enabled, the number of its line, and what is left of the
-- output.
pub record Given : Type 0 where
  pub book : Book
  pub reply_length : ℕ
  pub selected : Bool
  pub line : ℕ
  pub room : List ℕ

-- The option 118 that came with a message, where it is enabled.
abbrev pub enabled : Bool → Option (List ℕ) → Option (List ℕ)
enabled selected carried = cond selected carried none

-- "STATION NOW OPTION [HEX]: the call, with the reply buffer"; return has none. "`list` and `return` never have it."
abbrev pub call_on : OptionCall → Book → Bool → ℕ → ℕ → List ℕ → Option (List ℕ) → List ℕ → Result Book
call_on Ask b selected client time option carried reply = ask_book b time (message_with client option (enabled selected carried) reply)
call_on Take b selected client time option carried reply = take_book b time (message_with client option (enabled selected carried) reply)
call_on ListCall b selected client time option carried reply = list_book b time (message client option reply)
call_on Return b selected client time option carried reply = release_book b time (message client option [])

abbrev pub call_line : OptionCall → Result Book → List ℕ
call_line Ask q = replied_line q.answer q.reply
call_line Take q = replied_line q.answer q.reply
call_line ListCall q = replied_line q.answer q.reply
call_line Return q = counted_line q.answer

abbrev pub saved_line : Result Book → List ℕ
saved_line q = written_line q.answer q.reply

-- A call with a buffer of n bytes: the book that it leaves, and the line of its answer.
pub record With (n : ℕ) (q : List ℕ → Result Book) (line : Result Book → List ℕ) (book : Book) (text : List ℕ) : Type 0 where
  pub buffer : List ℕ
  pub size : length buffer ≡ n
  pub leaves : book ≡ (q buffer).state
  pub says : text ≡ line (q buffer)

-- A call that has no buffer.
pub record Done (q : Result Book) (book : Book) (text : List ℕ) : Type 0 where
  pub leaves : book ≡ q.state
  pub says : text ≡ done_line q.answer

-- "the sheet of the book, as the sheet program prints it", or its refusal.
abbrev pub sheet_text : Answer × List ℕ → List ℕ
sheet_text p = cond (eqb p.0.number 0) (take p.0.bytes p.1) (refused_line p.0.number p.0.place)

-- What is shown of a sound book; of another its refusal, "and nothing else": "wrong counts make a book unsound".
abbrev pub of_sound : Book → List ℕ → List ℕ
of_sound b text = or_else (first_of (table_rows (state_in_book b))) (λ number. refused_line number 0) text

-- The line of one option's writing into a buffer of n bytes.
pub record Written (n : ℕ) (text : List ℕ) : Type 0 where
  pub option : Writing
  pub buffer : List ℕ
  pub size : length buffer ≡ n
  pub says : text ≡ written_line (written_as option buffer).0 (written_as option buffer).1

-- What a command does. Of `read` nothing is said but that it leaves the book and all earlier output; of `write`, not which option its words make.
abbrev pub Does : CommandValue → Given → Book → List ℕ → Type 0
Does (call x client time option carried) g book text = With g.reply_length (call_on x g.book g.selected client time option carried) (call_line x) book text
Does (mark time network len d) g book text = Done (mark_book g.book time network len (not (eqb d 0))) book text
Does («open» term len start networks lengths) g book text = Done (open_book g.book networks lengths term len start) book text
Does (load image) g book text = Done (load_book g.book image) book text
Does (save form older) g book text = With full_image (save_book g.book (form_numbered form) older) saved_line book text
Does sheet g book text = (book ≡ g.book) × (text ≡ of_sound g.book (sheet_text (sheet_image (take g.book.lent.bytes g.book.lent.image) g.room)))
Does (read octets) g book text = book ≡ g.book
Does (write words) g book text = (book ≡ g.book) × ((text ≡ error_line g.line) ⊎ Written g.reply_length text)
Does figures g book text = (book ≡ g.book) × (text ≡ figures_text (sheet_rows g.book.lent.figures))
Does (set_figures octets) g book text = (book ≡ book_of g.book.lent.image g.book.lent.bytes octets g.book.counts) × (text ≡ ok_line)
Does counts g book text = (book ≡ g.book) × (text ≡ of_sound g.book (counts_text (used_pools (table_in g.book.lent)) g.book.counts))
Does (set_counts octets) g book text = (book ≡ record { lent = g.book.lent; counts = counts_in octets }) × (text ≡ ok_line)
Does (whole len) g book text = (book ≡ g.book) × (text ≡ counted_line (whole_book g.book len))
Does (buffer n) g book text = (book ≡ g.book) × (text ≡ ok_line)
Does (selection on) g book text = (book ≡ g.book) × (text ≡ ok_line)
Does nothing g book text = (book ≡ g.book) × (text ≡ [])
Does bad g book text = (book ≡ g.book) × (text ≡ error_line g.line)

-- A text stands behind the output that was there, which stays; past it nothing is part of the output.
pub record Appended (old : List ℕ) (at : ℕ) (text new : List ℕ) (next : ℕ) : Type 0 where
  pub output : take next new ≡ take at old ++ text
  pub place : next ≡ at + length text

-- A command has run: it did what it does, and its text is the output's end.
pub record Ran (v : CommandValue) (g : Given) (book : Book) (old : List ℕ) (at : ℕ) (new : List ℕ) (next : ℕ) : Type 0 where
  pub text : List ℕ
  pub does : Does v g book text
  pub wrote : Appended old at text new next

-- What a read and a write leave of the output.
pub record Read (old : List ℕ) (at : ℕ) (new : List ℕ) (next : ℕ) : Type 0 where
  pub text : List ℕ
  pub wrote : Appended old at text new next

pub record WroteOption (line n : ℕ) (old : List ℕ) (at : ℕ) (new : List ℕ) (next : ℕ) : Type 0 where
  pub text : List ℕ
  pub says : (text ≡ error_line line) ⊎ Written n text
  pub wrote : Appended old at text new next

abbrev pub given : Book → ℕ → Bool → ℕ → List ℕ → Given
given book n selected line room = record { book = book; reply_length = n; selected = selected; line = line; room = room }
