-- Laws of options as calls: the code's answers in numbers.
-- Assumes nothing.
use Prim.Native.Nat.{ℕ, ◌≤◌, ◌<◌}
use mathlib.Core.Path.{◌≡◌, refl, sym, ap, subst, ◌∙◌}
use mathlib.Core.Bool.{Bool, true, false, cond}
use mathlib.Core.List.{List}
use native.Mathlib.Omega.{arith}
use lib.ListN.{length}
use lib.Dec.{leb}
use borrow.Author.Tests.{leb-true}
use Rattle.std.specs.Prelude.{Result, Err, IfOk}
use Rattle.lists.proofs.PutLaws.{put_front}
use Rattle.option.specs.Values.{SuboptionValue, refused, accepted}
use Rattle.option.specs.Reading.{read_option}
use Rattle.option.specs.Writing.{refused_with, written, four_bytes}
use Rattle.option.specs.Selection.{read_selection, selection_bytes, write_selection}
use Rattle.std.specs.Prelude.{Option}
use Rattle.option.specs.Answers.{selected_by}
use Rattle.option_reply.specs.declared.WriteFault.{WriteFault}
use Rattle.option_reply.specs.Answers.{into}
use Rattle.ledger.specs.declared.{Accepted.Accepted, Answer.Answer, Refusal.Refusal}
use Rattle.ledger.specs.Ledger.{acceptance}
use Rattle.ledger.specs.Answers.{refusal_number, bad_place, answer_of}
use Rattle.call_spec.specs.Written.{as_answer}
use Rattle.call_option.specs.declared.SelectionAnswer.{SelectionAnswer}
use Rattle.call_option.specs.Options.{selection_answer, selection_in, writing_answer, selection_into, option_check, reading_answer}

-- OPTION 118

pub selected : (option : List ℕ) (r x : Option ℕ) (a : SelectionAnswer) → selected_by r ≡ read_selection option → r ≡ x → a ≡ selection_answer (selected_by x) → a ≡ selection_in option
unfolding selection_in
selected option r x a e f g = g ∙ ap (λ (y : Option ℕ). selection_answer (selected_by y)) (sym f) ∙ ap selection_answer e

-- What is written fits: it goes to the front of the buffer.
into-answer : (b : Bool) (xs buffer : List ℕ) → (b ≡ true → length xs ≤ length buffer)
    → (answer_of (as_answer (into (cond b (written xs) (refused_with 14)) buffer).0), (into (cond b (written xs) (refused_with 14)) buffer).1)
    ≡ writing_answer (cond b (written xs) (refused_with 14)) buffer
unfolding into
into-answer true xs buffer fits = ap (λ (l : List ℕ). (acceptance (length xs) 0, l)) (put_front xs buffer (fits refl))
into-answer false xs buffer fits = refl

pub written-selection : (address : ℕ) (old new : List ℕ) (w : Result ℕ WriteFault) → ◌≡◌ {A = Result ℕ WriteFault × List ℕ} (w, new) (into (write_selection (length old) address) old)
    → (a : Result Accepted Refusal) → a ≡ as_answer w → ◌≡◌ {A = Answer × List ℕ} (answer_of a, new) (selection_into address old)
unfolding selection_into write_selection
written-selection address old new w e a g =
    ap (λ (x : Result Accepted Refusal). (answer_of x, new)) g
    ∙ ap (λ (p : Result ℕ WriteFault × List ℕ). (answer_of (as_answer p.0), p.1)) e
    ∙ into-answer (leb (length (selection_bytes address)) (length old)) (selection_bytes address) old (leb-true (length (selection_bytes address)) (length old))

few_bytes : (b : Bool) (xs buffer : List ℕ) → length xs ≤ 6 → IfOk (into (cond b (written xs) (refused_with 14)) buffer).0 (λ n. n < 4294967296)
unfolding into
few_bytes true xs buffer few = omega arith
few_bytes false xs buffer few = tt

pub selection-few : (address : ℕ) (old new : List ℕ) (w : Result ℕ WriteFault) → ◌≡◌ {A = Result ℕ WriteFault × List ℕ} (w, new) (into (write_selection (length old) address) old) → IfOk w (λ n. n < 4294967296)
unfolding write_selection selection_bytes four_bytes
selection-few address old new w h =
    subst (λ (r : Result ℕ WriteFault). IfOk r (λ n. n < 4294967296)) (sym (ap (λ (p : Result ℕ WriteFault × List ℕ). p.0) h))
    (few_bytes (leb (length (selection_bytes address)) (length old)) (selection_bytes address) old (omega arith))

-- OPTION 220

pub unread : (option : List ℕ) (e : Refusal) → read_option option ≡ refused (refusal_number e) (bad_place e) → answer_of (Err e) ≡ option_check option
unfolding option_check
unread option e is = sym (ap reading_answer is)

pub read : (option : List ℕ) (subs : List SuboptionValue) → read_option option ≡ accepted subs → acceptance 0 0 ≡ option_check option
unfolding option_check
read option subs is = sym (ap reading_answer is)
