-- REFUSALS: "A refusal returns its number (7 also its place), all counts 0, and the old bytes everywhere."
use Rattle.std.specs.Prelude.{ℕ, ◌≡◌, Bool, List, []}
use Rattle.ledger.specs.Ledger.{Call, Result, Calls}

pub record Unchanged {S : Type 0} (s : S) (reply : List ℕ) (r : Result S) : Type 0 where
  pub stays : r.state ≡ s
  pub reply-stays : r.reply ≡ reply
  pub bytes : r.answer.bytes ≡ 0
  pub count : r.answer.count ≡ 0

abbrev pub UnchangedIfRefused : {S : Type 0} → S → List ℕ → Result S → Type 0
UnchangedIfRefused s reply r = (r.answer.number ≡ 0 → ⊥) → Unchanged s reply r

-- OF ANY CALLS on what holds a state. A mark has no reply buffer.
pub record RefusalsLeave {S : Type 0} (calls : Calls S) : Type 0 where
  pub asks : (s : S) (now : ℕ) (c : Call) → UnchangedIfRefused s c.reply (calls.asks s now c)
  pub takes : (s : S) (now : ℕ) (c : Call) → UnchangedIfRefused s c.reply (calls.takes s now c)
  pub lists : (s : S) (now : ℕ) (c : Call) → UnchangedIfRefused s c.reply (calls.lists s now c)
  pub releases : (s : S) (now : ℕ) (c : Call) → UnchangedIfRefused s c.reply (calls.releases s now c)
  pub marks : (s : S) (now network len : ℕ) (d : Bool) → UnchangedIfRefused s [] (calls.marks s now network len d)
