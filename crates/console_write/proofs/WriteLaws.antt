-- What is written, and that it is short.
-- Assumes nothing.
use Prim.Native.Nat.{ℕ, ◌+◌, ◌≤◌, ◌<◌}
use native.Mathlib.Omega.{arith}
use mathlib.Core.Path.{◌≡◌, refl, sym, ap, subst}
use mathlib.Core.Bool.{Bool, true, false, cond, ◌&&◌}
use mathlib.Core.List.{List}
use lib.ListN.{length}
use lib.Dec.{leb}
use borrow.Author.Tests.{leb-true}
use Rattle.std.specs.Prelude.{Result, Ok, Err, IfOk}
use Rattle.lists.specs.Lists.{all?}
use Rattle.lists.proofs.Tests.{and-to}
use Rattle.option.specs.Values.{SuboptionValue}
use Rattle.option.specs.Writing.{Writing, written, refused_with, option_bytes, suboptions_bytes}
use Rattle.option.specs.Writer.{writable?, write_option}
use Rattle.option.specs.Selection.{selection_bytes, write_selection}
use Rattle.option_reply.specs.declared.WriteFault.{WriteFault}
use Rattle.option_reply.specs.declared.WriteFault.TheVariants.{OutsideRules, TooLong}
use Rattle.option_reply.specs.Answers.{into}
use Rattle.ledger.specs.declared.{Accepted.Accepted, Answer.Answer, Refusal.Refusal}
use Rattle.ledger.specs.Answers.{answer_of}
use Rattle.call_spec.specs.Written.{as_answer}
use Rattle.console_write.specs.Writes.{written_as}

-- By cases of what was written, so that each field of the answer computes.
pub answered : (w : Result ℕ WriteFault) (o : Writing) (old new : List ℕ) (r : Result Accepted Refusal) → r ≡ as_answer w → ◌≡◌ {A = Result ℕ WriteFault × List ℕ} (w, new) (into o old) → ◌≡◌ {A = Answer × List ℕ} (answer_of r, new) (written_as o old)
answered (Ok n) o old new r e h = rw (sym h) (ap (λ (x : Result Accepted Refusal). (answer_of x, new)) e)
answered (Err OutsideRules) o old new r e h = rw (sym h) (ap (λ (x : Result Accepted Refusal). (answer_of x, new)) e)
answered (Err TooLong) o old new r e h = rw (sym h) (ap (λ (x : Result Accepted Refusal). (answer_of x, new)) e)

-- Written bytes are no more than the buffer holds, so their number fits 32 bits.
abbrev Fits32 : Result ℕ WriteFault → Type 0
Fits32 w = IfOk w (λ k. k < 4294967296)

by : (b : Bool) (bytes old : List ℕ) (n : ℕ) → n < 4294967296 → (b ≡ true → length bytes ≤ n) → Fits32 (into (cond b (written bytes) (refused_with 14)) old).0
unfolding into
by true bytes old n m h = omega (arith, h refl)
by false bytes old n m h = tt

option-fits : (b : Bool) (capacity : ℕ) (subs : List SuboptionValue) (old : List ℕ) → capacity < 4294967296
    → Fits32 (into (cond b (cond (leb (length (option_bytes subs)) capacity && leb (1 + length (suboptions_bytes subs)) 255) (written (option_bytes subs)) (refused_with 14)) (refused_with 13)) old).0
unfolding into
option-fits true capacity subs old m =
    by (leb (length (option_bytes subs)) capacity && leb (1 + length (suboptions_bytes subs)) 255) (option_bytes subs) old capacity m
    (λ e. leb-true (length (option_bytes subs)) capacity (and-to (leb (length (option_bytes subs)) capacity) (leb (1 + length (suboptions_bytes subs)) 255) e).0)
option-fits false capacity subs old m = tt

same-fits : (w : Result ℕ WriteFault) (p : Result ℕ WriteFault × List ℕ) (new : List ℕ) → ◌≡◌ {A = Result ℕ WriteFault × List ℕ} (w, new) p → Fits32 p.0 → Fits32 w
same-fits w p new h = subst Fits32 (sym (ap (λ (q : Result ℕ WriteFault × List ℕ). q.0) h))

pub option-short : (capacity : ℕ) (subs : List SuboptionValue) (old new : List ℕ) (w : Result ℕ WriteFault) → capacity < 4294967296 → ◌≡◌ {A = Result ℕ WriteFault × List ℕ} (w, new) (into (write_option capacity subs) old) → Fits32 w
unfolding write_option
option-short capacity subs old new w m h = same-fits w _ new h (option-fits (leb 1 (length subs) && all? writable? subs) capacity subs old m)

pub selection-short : (capacity address : ℕ) (old new : List ℕ) (w : Result ℕ WriteFault) → capacity < 4294967296 → ◌≡◌ {A = Result ℕ WriteFault × List ℕ} (w, new) (into (write_selection capacity address) old) → Fits32 w
unfolding write_selection
selection-short capacity address old new w m h =
    same-fits w _ new h (by (leb (length (selection_bytes address)) capacity) (selection_bytes address) old capacity m (λ g. leb-true (length (selection_bytes address)) capacity g))
