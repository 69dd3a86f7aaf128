-- Laws of option 118 in the reply.
-- Assumes nothing.
use Prim.Native.Nat.{ℕ, ◌+◌, ◌≤◌}
use native.Mathlib.Omega.{arith}
use mathlib.Core.Path.{◌≡◌, refl, sym, ap, ap₂, ◌∙◌}
use mathlib.Core.Bool.{Bool, true, false}
use mathlib.Core.List.{List, ◌++◌, append-nil}
use mathlib.Core.Option.{Option, none, some}
use lib.ListN.{length, drop, length-append, length-drop}
use lib.Seq.{take-append_seam, drop-append-add, drop-drop}
use lib.Dec.{eqb}
use borrow.Author.Tests.{ne_eqb}
use Rattle.lists.specs.Put.{put}
use Rattle.lists.proofs.Tests.{cond-false}
use Rattle.lists.proofs.PutLaws.{put-fits}
use Rattle.ledger.specs.Ledger.{Result, outcome, acceptance, accept, refuse, returned}
use Rattle.call_spec.specs.ImageCalls.{carried_if}
use Rattle.call_ground.specs.Ground.{returning}

-- A refusal stays, and so does a call that carries none.

pub returning-refused : {S : Type 0} (o : Option (List ℕ)) (r : Result S) → (r.answer.number ≡ 0 → ⊥) → returning o r ≡ r
returning-refused none r h = refl
returning-refused (some s) r h =
    cond-false (eqb r.answer.number 0)
    (outcome (acceptance (r.answer.bytes + length s) r.answer.count) r.state (put r.reply r.answer.bytes s)) r (ne_eqb r.answer.number 0 h)

pub returning-refuse : {S : Type 0} (o : Option (List ℕ)) (number place : ℕ) (s : S) (reply : List ℕ) → (number ≡ 0 → ⊥) → returning o (refuse number place s reply) ≡ refuse number place s reply
returning-refuse o number place s reply h = returning-refused o (refuse number place s reply) h

pub returning-free : {S : Type 0} (selected : Bool) (s : List ℕ) (r : Result S) → selected ≡ false → returning (carried_if selected s) r ≡ r
returning-free selected s r e = ap (λ (b : Bool). returning (carried_if b s) r) e

-- An accepted call has it after its reply.

pub returning-put : {S : Type 0} (selected : Bool) (s : List ℕ) (bytes count : ℕ) (st : S) (reply : List ℕ) → selected ≡ true
    → returning (carried_if selected s) (outcome (acceptance bytes count) st reply) ≡ outcome (acceptance (bytes + length s) count) st (put reply bytes s)
returning-put selected s bytes count st reply e = ap (λ (b : Bool). returning (carried_if b s) (outcome (acceptance bytes count) st reply)) e

pub returning-accept : {S : Type 0} (o : Option (List ℕ)) (s : S) (w : List ℕ) (count : ℕ) (reply : List ℕ) → length w + length (returned o) ≤ length reply
    → returning o (accept s w count reply) ≡ accept s (w ++ returned o) count reply
returning-accept none s w count reply h = ap (λ (l : List ℕ). accept s l count reply) (sym (append-nil w))
returning-accept (some v) s w count reply h =
    ap₂ (λ (n : ℕ) (l : List ℕ). outcome (acceptance n count) s l) (sym (length-append w v)) bytes
  where
    bytes : put (w ++ drop (length w) reply) (length w) v ≡ (w ++ v) ++ drop (length (w ++ v)) reply
    bytes =
        let whole : length (w ++ drop (length w) reply) ≡ length reply = length-append w (drop (length w) reply) ∙ omega (arith, length-drop (length w) reply) in
        put-fits v (w ++ drop (length w) reply) (length w) (omega (arith, whole))
        ∙ ap₂ (λ (l m : List ℕ). l ++ v ++ m) (take-append_seam w (drop (length w) reply))
        (drop-append-add w (drop (length w) reply) (length v) ∙ drop-drop (length v) (length w) reply ∙ ap (λ (n : ℕ). drop n reply) (sym (length-append w v)))
