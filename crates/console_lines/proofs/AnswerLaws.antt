-- The line of an answer, by whether it is a refusal.
-- Assumes nothing.
use Prim.Native.Nat.{ℕ}
use mathlib.Core.Path.{◌≡◌, sym, ap, ◌∙◌}
use mathlib.Core.Bool.{Bool, true, false, cond}
use mathlib.Core.List.{List, [], ◌∷◌, ◌++◌, append-nil, append_assoc}
use borrow.Author.Tests.{eq-eqb, ne_eqb}
use Rattle.text.specs.Ascii.{ascii}
use Rattle.console_lines.specs.Lines.{decimal, refused_line, answered, octet_text, bytes_line, reply_line}
use Rattle.console_lines.proofs.TextLaws.{filled}
use Rattle.ledger.specs.declared.Answer.{Answer}
use Rattle.ledger.specs.Ledger.{placed?}

module _ (number place : ℕ) where
  abbrev by : Bool → List ℕ
  by b = cond b (ascii "refused " ++ (decimal number ++ (ascii " place=" ++ (decimal place ++ ascii "\n")))) (ascii "refused " ++ decimal number ++ ascii "\n")

  pub refused-place : placed? number ≡ true → ascii "refused " ++ (decimal number ++ (ascii " place=" ++ (decimal place ++ ascii "\n"))) ≡ refused_line number place
  unfolding refused_line
  refused-place e = sym (ap by e)

  pub refused-number : placed? number ≡ false → ascii "refused " ++ decimal number ++ ascii "\n" ≡ refused_line number place
  unfolding refused_line
  refused-number e = sym (ap by e)

module _ (a : Answer) (line : List ℕ) where
  pub answer-refused : (a.number ≡ 0 → ⊥) → refused_line a.number a.place ≡ answered a line
  answer-refused k = sym (ap (λ (b : Bool). cond b line (refused_line a.number a.place)) (ne_eqb a.number 0 k))

  pub answer-accepted : a.number ≡ 0 → line ≡ answered a line
  answer-accepted e = sym (ap (λ (b : Bool). cond b line (refused_line a.number a.place)) (eq-eqb a.number 0 e))

-- The head of a line, and what follows it.
pub bytes-line : (bytes : ℕ) (octets : List ℕ) → filled (ascii "ok bytes=%") (bytes ∷ []) ++ (ascii " " ++ (octet_text octets ++ ascii "\n")) ≡ bytes_line bytes octets
bytes-line bytes octets = ap (λ (l : List ℕ). ascii "ok bytes=" ++ (l ++ (ascii " " ++ (octet_text octets ++ ascii "\n")))) (append-nil (decimal bytes))

pub reply-line : (bytes count : ℕ) (octets : List ℕ) → filled (ascii "ok bytes=% count=%") (bytes ∷ count ∷ []) ++ (ascii " " ++ (octet_text octets ++ ascii "\n")) ≡ reply_line bytes count octets
reply-line bytes count octets =
    ap (λ (l : List ℕ). ascii "ok bytes=" ++ l)
    (append_assoc (decimal bytes) (ascii " count=" ++ (decimal count ++ [])) (ascii " " ++ (octet_text octets ++ ascii "\n"))
    ∙ ap (λ (l : List ℕ). decimal bytes ++ (ascii " count=" ++ (l ++ (ascii " " ++ (octet_text octets ++ ascii "\n"))))) (append-nil (decimal count)))
