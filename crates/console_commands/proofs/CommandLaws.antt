-- What a command does, from what its call ensures and what was written of its answer.
-- Assumes nothing.
use Prim.Native.Nat.{ℕ, ◌+◌, ◌-◌, ◌≤◌, ◌<◌}
use native.Mathlib.Omega.{arith}
use mathlib.Core.Path.{◌≡◌, refl, sym, ap, ap₂, subst, ◌∙◌}
use mathlib.Core.Bool.{Bool, true, false, cond, ◌&&◌}
use mathlib.Core.Option.{Option}
use mathlib.Core.Logic.{inl, inr}
use mathlib.Core.List.{List, [], ◌++◌, append-nil}
use lib.ListN.{length, take, drop, replicate, length-append, length-take, length-drop, length-replicate}
use lib.Seq.{take_at, length-take-le, take-append-le, take-append-add, take_all}
use borrow.Author.Tests.{eq-eqb, ne_eqb}
use Rattle.lists.proofs.PutLaws.{put-fits}
use Rattle.lists.proofs.DropLaws.{drop-end}
use Rattle.text.specs.Wrote.{Wrote}
use Rattle.ledger.specs.declared.{Accepted.Accepted, Answer.Answer, Refusal.Refusal}
use Rattle.ledger.specs.Answers.{answer_of}
use Rattle.ledger.specs.Ledger.{Call, Result, outcome, call_with as message_with}
use Rattle.table.specs.Table.{sound}
use Rattle.image.specs.Image.{full_image, form_numbered}
use Rattle.call_spec.specs.ImageCalls.{table_in, carried_if}
use Rattle.call_spec.specs.Books.{Book, book_of, lent_in, open_book, save_book}
use Rattle.call_spec.specs.OnBooks.{GivenAlike}
use Rattle.call_sheet.specs.SheetImage.{sheet_image}
use Rattle.console_words.specs.Prefixes.{Columns, prefixes_in}
use Rattle.console_script.specs.declared.OptionCall.{OptionCall}
use Rattle.console_script.specs.Commands.{CommandValue, call, «open», save, sheet, longest_reply, with_prefixes}
use Rattle.console_lines.proofs.TextLaws.{first-bytes}
use Rattle.console_lines.specs.Sizes.{octets_most}
use Rattle.console_session.specs.States.{AnswerFits}
use Rattle.console_lines.specs.Lines.{error_line, refused_line, done_line, written_line}
use Rattle.std.specs.Prelude.{Some, None}
use Rattle.std.specs.Prelude as code
use Rattle.console_write.specs.Writes.{Writes, WroteOne}
use Rattle.console_commands.specs.Commands.{Given, enabled, call_on, call_line, saved_line, With, Done, Appended, Ran, WroteOption, sheet_text, of_sound}
use Rattle.console_commands.proofs.QueryLaws.{shown-text}

-- OUTPUT

pub appended : (old : List ℕ) (at : ℕ) (text new : List ℕ) (next : ℕ) → next ≤ length old → Wrote old at text new next → Appended old at text new next
appended old at text new next inside w =
    let fits : at + length text ≤ length old = omega (arith, w.place) in
    let size : length (take at old ++ text) ≡ next = omega (arith, length-append (take at old) text, length-take-le at old (omega arith), w.place) in
    record { output = ap (take next) (w.bytes ∙ put-fits text old at fits) ∙ take_at (take at old ++ text) (drop (at + length text) old) next size; place = w.place }

-- What was written into a part of the output that was lent from a place on.
pub part-appended : (old : List ℕ) (at n : ℕ) (part post : List ℕ) → at ≤ length old → n ≤ length part → Appended old at (take n part) (take at old ++ (part ++ post)) (at + n)
part-appended old at n part post le few =
    let size : length (take at old) ≡ at = length-take-le at old le in
    record {
      output =
          ap (λ (k : ℕ). take (k + n) (take at old ++ (part ++ post))) (sym size)
          ∙ take-append-add (take at old) (part ++ post) n
          ∙ ap (λ (l : List ℕ). take at old ++ l) (take-append-le n part post few);
      place = omega (arith, length-take-le n part few);
    }

pub front-appended : (old : List ℕ) (at : ℕ) (part post text new : List ℕ) (next : ℕ) → at ≤ length old → next ≤ length (take at old ++ (part ++ post)) → Wrote (take at old ++ (part ++ post)) at text new next → Appended old at text new next
front-appended old at part post text new next le inside w =
    let a = appended (take at old ++ (part ++ post)) at text new next inside w in
    record { output = a.output ∙ ap (λ (l : List ℕ). l ++ text) (take_at (take at old) (part ++ post) at (length-take-le at old le)); place = a.place }

-- CALLS

-- What a call that has no figures sheet gives, with the sheet beside it.
pub beside : (image : List ℕ) (bytes : ℕ) (figures : List ℕ) (counts : List (List ℕ)) (f : Book → Result Book) → GivenAlike image bytes figures counts f → (a : Answer) (after : List ℕ)
    → outcome a (book_of image bytes [] counts) after ≡ f (book_of image bytes [] counts) → outcome a (book_of image bytes figures counts) after ≡ f (book_of image bytes figures counts)
beside image bytes figures counts f alike a after same = ap (λ (q : Result Book). outcome q.answer (book_of image bytes figures counts) q.reply) same ∙ sym alike

pub done-does : (a : Answer) (h : Book) (q : Result Book) → outcome a h [] ≡ q → Done q h (done_line a)
done-does a h q same = record { leaves = ap (λ (r : Result Book). r.state) same; says = ap (λ (r : Result Book). done_line r.answer) same }

-- The option 118 of a line is that of its call where it is enabled.
both-tests : (selected has : Bool) (bytes : List ℕ) → carried_if (selected && has) bytes ≡ enabled selected (carried_if has bytes)
both-tests true has bytes = refl
both-tests false has bytes = refl

pub with-selection : (f : Call → Result Book) (client : ℕ) (option bytes reply : List ℕ) (b selected has : Bool) → b ≡ (selected && has)
    → f (message_with client option (carried_if b bytes) reply) ≡ f (message_with client option (enabled selected (carried_if has bytes)) reply)
with-selection f client option bytes reply b selected has e = ap (λ (o : Option (List ℕ)). f (message_with client option o reply)) (ap (λ (x : Bool). carried_if x bytes) e ∙ both-tests selected has bytes)

module _ (g : Given) (a : Answer) (h : Book) (old : List ℕ) (at : ℕ) (new : List ℕ) (next : ℕ) (inside : next ≤ length old) where
  pub call-ran : (x y : OptionCall) (client time : ℕ) (option : List ℕ) (carried : Option (List ℕ)) (reply after : List ℕ) → x ≡ y → length reply ≡ g.reply_length
      → outcome a h after ≡ call_on y g.book g.selected client time option carried reply
      → Wrote old at (call_line y (outcome a h after)) new next → Ran (call x client time option carried) g h old at new next
  call-ran x y client time option carried reply after e size same w =
      record {
        text = call_line y (outcome a h after);
        does = subst (λ (z : OptionCall). With g.reply_length (call_on z g.book g.selected client time option carried) (call_line z) h (call_line y (outcome a h after))) (sym e)
            (record { buffer = reply; size = size; leaves = ap (λ (q : Result Book). q.state) same; says = ap (call_line y) same });
        wrote = appended old at _ new next inside w;
      }

  pub save-ran : (form : ℕ) (older : Bool) (buffer after : List ℕ) → length buffer ≡ full_image → outcome a h after ≡ save_book g.book (form_numbered form) older buffer → Wrote old at (saved_line (outcome a h after)) new next → Ran (save form older) g h old at new next
  save-ran form older buffer after size same w =
      record {
        text = saved_line (outcome a h after);
        does = record { buffer = buffer; size = size; leaves = ap (λ (q : Result Book). q.state) same; says = ap saved_line same };
        wrote = appended old at _ new next inside w;
      }

  pub open-ran : (o : Option Columns) (n : ℕ) (networks lengths networks₁ lengths₁ : List ℕ) (term len start : ℕ) → prefixes_in (Some n) networks lengths ≡ o
      → networks₁ ≡ take n networks → lengths₁ ≡ take n lengths
      → outcome a h [] ≡ open_book g.book networks₁ lengths₁ term len start → Wrote old at (done_line a) new next → Ran (with_prefixes o («open» term len start)) g h old at new next
  open-ran o n networks lengths networks₁ lengths₁ term len start is first second same w =
      subst (λ (x : Option Columns). Ran (with_prefixes x («open» term len start)) g h old at new next)
      is
      (record {
        text = done_line a;
        does = done-does a h (open_book g.book (take n networks) (take n lengths) term len start) (same ∙ ap₂ (λ (x y : List ℕ). open_book g.book x y term len start) first second);
        wrote = appended old at _ new next inside w;
      })

pub open-bad : (g : Given) (old : List ℕ) (at : ℕ) (new : List ℕ) (next : ℕ) (o : Option Columns) (networks lengths : List ℕ) (f : List ℕ → List ℕ → CommandValue)
    → next ≤ length old → prefixes_in None networks lengths ≡ o → Wrote old at (error_line g.line) new next → Ran (with_prefixes o f) g g.book old at new next
open-bad g old at new next o networks lengths f inside is w =
    subst (λ (x : Option Columns). Ran (with_prefixes x f) g g.book old at new next)
    is
    (record { text = error_line g.line; does = (refl, refl); wrote = appended old at _ new next inside w })

-- WRITE

pub write-bad : (line n : ℕ) (old : List ℕ) (at : ℕ) (new : List ℕ) (next : ℕ) → next ≤ length old → Wrote old at (error_line line) new next → WroteOption line n old at new next
write-bad line n old at new next inside w = record { text = error_line line; says = inl refl; wrote = appended old at _ new next inside w }

pub write-of : (line n : ℕ) (o : code.Option (code.Result Accepted Refusal)) (r : code.Result Accepted Refusal) (buffer after old : List ℕ) (at : ℕ) (new : List ℕ) (next : ℕ) → next ≤ length old → length buffer ≡ n → o ≡ Some r → Writes o buffer after
    → Wrote old at (written_line (answer_of r) after) new next → WroteOption line n old at new next
write-of line n o r buffer after old at new next inside size e h w =
    let one : WroteOne (answer_of r) buffer after = subst (λ (x : code.Option (code.Result Accepted Refusal)). Writes x buffer after) e h in
    record {
      text = written_line (answer_of r) after;
      says = inr (record { option = one.option; buffer = buffer; size = size; says = ap (λ (p : Answer × List ℕ). written_line p.0 p.1) one.same });
      wrote = appended old at _ new next inside w;
    }

-- SHEET

-- What is lent from a place to the end is all that is left.
pub rest_of : (l : List ℕ) (at : ℕ) → take (length l - at) (drop at l) ≡ drop at l
rest_of l at = take_all (length l - at) (drop at l) (omega (arith, length-drop at l))

-- The front of a column, as it is lent.
pub column : (n : ℕ) (l : List ℕ) → take (n - 0) l ≡ take n l
column n l = let z : n - 0 ≡ n = omega arith in ap (λ (k : ℕ). take k l) z

pub sheet-refused : (p : Answer × List ℕ) → (p.0.number ≡ 0 → ⊥) → refused_line p.0.number p.0.place ≡ sheet_text p
sheet-refused p k = sym (ap (λ (b : Bool). cond b (take p.0.bytes p.1) (refused_line p.0.number p.0.place)) (ne_eqb p.0.number 0 k))

pub sheet-shown : (p : Answer × List ℕ) → p.0.number ≡ 0 → take p.0.bytes p.1 ≡ sheet_text p
sheet-shown p e = sym (ap (λ (b : Bool). cond b (take p.0.bytes p.1) (refused_line p.0.number p.0.place)) (eq-eqb p.0.number 0 e))

-- The book is sound.
module _ (g : Given) (s : sound (table_in (lent_in g.book)) ≡ true) (a : Answer) (part : List ℕ) (x y : List ℕ) (first : x ≡ take g.book.lent.bytes g.book.lent.image) (second : y ≡ g.room) (same : ◌≡◌ {A = Answer × List ℕ} (a, part) (sheet_image x y))
    (old : List ℕ) (at : ℕ) (le : at ≤ length old) (post : List ℕ) where
  here : sheet_text (a, part) ≡ of_sound g.book (sheet_text (sheet_image (take g.book.lent.bytes g.book.lent.image) g.room))
  here = ap sheet_text (same ∙ ap₂ (λ (l m : List ℕ). sheet_image l m) first second) ∙ shown-text g.book _ s

  pub sheet-refuses : (new : List ℕ) (next : ℕ) → (a.number ≡ 0 → ⊥) → next ≤ length (take at old ++ (part ++ post)) → Wrote (take at old ++ (part ++ post)) at (refused_line a.number a.place) new next → Ran sheet g g.book old at new next
  sheet-refuses new next k inside w =
      record { text = refused_line a.number a.place; does = (refl, sheet-refused (a, part) k ∙ here); wrote = front-appended old at part post _ new next le inside w }

  pub sheet-shows : (n : ℕ) → a.number ≡ 0 → n ≤ length part → (length part < a.bytes → n ≡ length part) → (a.bytes ≤ length part → n ≡ a.bytes) → Ran sheet g g.book old at (take at old ++ (part ++ post)) (at + n)
  sheet-shows n e few over under =
      record { text = take n part; does = (refl, sym (column n part) ∙ first-bytes a.bytes n part over under ∙ sheet-shown (a, part) e ∙ here); wrote = part-appended old at n part post le few }

-- THE REPLY BUFFER: the front of the space for it, and what a call left of that.

pub reply-size : (n : ℕ) → n ≤ longest_reply → length (take (n - 0) (replicate {A = ℕ} longest_reply 0)) ≡ n
reply-size n le = length-take-le (n - 0) (replicate {A = ℕ} longest_reply 0) (omega (arith, length-replicate {A = ℕ} longest_reply 0)) ∙ omega arith

pub reply-left : (n : ℕ) (after post : List ℕ) → length after ≡ n → take (n - 0) (after ++ post) ≡ after
reply-left n after post size = take_at after post (n - 0) (omega arith)

pub part-fits : (n : ℕ) (after post : List ℕ) → length after ≡ n → n ≤ length (after ++ post)
part-fits n after post size = omega (arith, length-append after post)

-- Its answer fits into the output.
module _ (at n : ℕ) (l out : List ℕ) (fits : AnswerFits at out) (le : n ≤ longest_reply) where
  few : length (take (n - 0) l) ≤ n
  few = omega (arith, length-take (n - 0) l)

  pub reply-fits : at + octets_most (length (take (n - 0) l)) ≤ length out
  reply-fits = omega (arith, few)

  pub reply-inside : (r : ℕ) → r ≤ at + octets_most (length (take (n - 0) l)) → r ≤ length out
  reply-inside r h = omega (arith, few)

-- FIGURES

-- All of a sheet copied over another is that sheet.
pub copied-whole : (octets old new : List ℕ) → length octets ≡ length old → new ≡ octets ++ drop (length octets) old → new ≡ octets
copied-whole octets old new size e = e ∙ ap (λ (m : List ℕ). octets ++ m) (drop-end old (length octets) (omega arith)) ∙ append-nil octets
