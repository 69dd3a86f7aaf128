-- Laws of what a call leaves: by its rows, and of an image stored in the place of an older one.
-- Assumes nothing.
use Prim.Native.Nat.{ℕ, ◌+◌, ◌-◌, ◌≤◌}
use mathlib.Core.Path.{◌≡◌, sym, ap, ap₂, ◌∙◌}
use mathlib.Core.Bool.{true}
use mathlib.Core.List.{List, ◌++◌}
use mathlib.Core.Option.{Option, none, some}
use native.Mathlib.Omega.{arith}
use borrow.Author.Tests.{eq-eqb, ne_eqb}
use lib.ListN.{length, drop, replicate, length-append, length-replicate, length-drop}
use Rattle.lists.specs.Put.{put}
use Rattle.lists.proofs.PutLaws.{put-append, put_front}
use Rattle.table.specs.declared.LeaseTable.{LeaseTable}
use Rattle.table.specs.Table.{sound}
use Rattle.image.specs.Image.{full_image, image_of}
use Rattle.image.proofs.ImageLaws.{longest-image}
use Rattle.ledger.specs.Ledger.{State, Result, outcome, refusal, Row, first_of, or_else, by_rows, refuse}
use Rattle.call_spec.specs.ImageCalls.{Lent, state_in, over, stored, stored_in, settled}

-- AN IMAGE, AND ZEROS AFTER IT

module _ (t : LeaseTable) (s : sound t ≡ true) (l : List ℕ) (room : full_image ≤ length l) where
  fits : length (image_of t) ≤ length l
  fits = omega (arith, longest-image t s)

  pub stores : (old n : ℕ) → old ≤ length l → n ≡ length (image_of t) → (l₁ l₂ : List ℕ) → l₁ ≡ put l 0 (image_of t) → l₂ ≡ put l₁ n (replicate (old - n) 0)
      → l₂ ≡ stored t old l
  unfolding stored
  stores old n within counted l₁ l₂ e₁ e₂ =
      let xs : List ℕ = image_of t in
      let zs : List ℕ = replicate (old - length xs) 0 in
      let z : length xs ≡ 0 + length xs = omega arith in
      let zeros : length zs ≡ old - length xs = length-replicate (old - length xs) 0 in
      let size : length (xs ++ zs) ≤ length l = omega (arith, length-append xs zs, fits) in
      e₂
      ∙ ap₂ (λ (m : List ℕ) (k : ℕ). put m k (replicate (old - k) 0)) e₁ counted
      ∙ ap (λ (k : ℕ). put (put l 0 xs) k zs) z
      ∙ put-append xs l 0 zs
      ∙ put_front (xs ++ zs) l size

-- The buffer stays as long as it is.
pub stored-room : (t : LeaseTable) (old : ℕ) (l : List ℕ) (n : ℕ) → n ≤ length l → n ≤ length (stored t old l)
unfolding stored
stored-room t old l n h =
    let xs : List ℕ = over (image_of t) old in
    omega (arith, length-append xs (drop (length xs) l), length-drop (length xs) l)

-- WHAT A CALL LEAVES

module _ (r : Result State) (h : Lent) where
  pub settled-refused : (r.answer.number ≡ 0 → ⊥) → settled r h ≡ outcome r.answer h r.reply
  unfolding settled
  settled-refused k = rw (ne_eqb r.answer.number 0 k)

  pub settled-accepted : r.answer.number ≡ 0 → settled r h ≡ outcome r.answer (stored_in r.state h.bytes h) r.reply
  unfolding settled
  settled-accepted e = rw (eq-eqb r.answer.number 0 e)

-- A call that goes by its rows, on what is lent.
module _ (h : Lent) (rows : List Row) (place : ℕ → ℕ) (reply : List ℕ) (accepted : Result State) where
  pub row-refuses : (n : ℕ) → (n ≡ 0 → ⊥) → first_of rows ≡ some n → outcome (refusal n (place n)) h reply ≡ settled (by_rows rows place (state_in h) reply accepted) h
  row-refuses n k e =
      sym (settled-refused (refuse n (place n) (state_in h) reply) h k)
      ∙ ap (λ (o : Option ℕ). settled (or_else o (λ number. refuse number (place number) (state_in h) reply) accepted) h) (sym e)

  pub no_row : first_of rows ≡ none → settled accepted h ≡ settled (by_rows rows place (state_in h) reply accepted) h
  no_row e = ap (λ (o : Option ℕ). settled (or_else o (λ number. refuse number (place number) (state_in h) reply) accepted) h) (sym e)

  -- The same of a list, which leaves what is lent as it was.
  abbrev pub listed : Result Lent
  listed = let r = by_rows rows place (state_in h) reply accepted in outcome r.answer h r.reply

  pub list-row-refuses : (n : ℕ) → (n ≡ 0 → ⊥) → first_of rows ≡ some n → outcome (refusal n (place n)) h reply ≡ listed
  list-row-refuses n k e =
      ap (λ (o : Option ℕ). let r = or_else o (λ number. refuse number (place number) (state_in h) reply) accepted in outcome r.answer h r.reply) (sym e)

  pub list-no-row : first_of rows ≡ none → outcome accepted.answer h accepted.reply ≡ listed
  list-no-row e =
      ap (λ (o : Option ℕ). let r = or_else o (λ number. refuse number (place number) (state_in h) reply) accepted in outcome r.answer h r.reply) (sym e)
