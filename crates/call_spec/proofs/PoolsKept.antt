-- No call changes the pools of a table; and an accepted one leaves what holds a sound table with the same pools.
-- Assumes nothing.
use Prim.Native.Nat.{ℕ}
use mathlib.Core.Path.{◌≡◌, refl, sym, ap, ◌∙◌}
use mathlib.Core.Bool.{Bool, true}
use mathlib.Core.List.{List}
use Rattle.table.specs.declared.LeaseTable.{LeaseTable}
use Rattle.table.specs.Table.{sound, store}
use Rattle.ledger.specs.declared.Answer.{Answer}
use Rattle.ledger.specs.Ledger.{State, Call, Result, outcome, left, renewed, ask_rows, ask, take_rows, take, release_rows, release, mark_rows, mark}
use Rattle.ledger.proofs.RowLaws.{served-or-not}
use Rattle.ledger.proofs.SoundKept.{SoundIfAccepted}
use Rattle.ledger.proofs.Following.{Follows}
use Rattle.call_spec.specs.ImageCalls.{Lent, table_in, state_in}

abbrev pub SamePools : State → Result State → Type 0
SamePools s r = r.state.table.pools ≡ s.table.pools

module _ (s : State) (now : ℕ) where
  pub ask-pools : (c : Call) → SamePools s (ask s now c)
  unfolding ask left store
  ask-pools c = served-or-not (SamePools s) (ask_rows s now c) _ _ (λ n. refl) (λ e. refl)

  pub take-pools : (c : Call) → SamePools s (take s now c)
  unfolding take renewed store
  take-pools c = served-or-not (SamePools s) (take_rows s now c) _ _ (λ n. refl) (λ e. refl)

  pub release-pools : (c : Call) → SamePools s (release s now c)
  unfolding release left store
  release-pools c = served-or-not (SamePools s) (release_rows s now c) _ _ (λ n. refl) (λ e. refl)

  pub mark-pools : (network len : ℕ) (d : Bool) → SamePools s (mark s now network len d)
  unfolding mark left store
  mark-pools network len d = served-or-not (SamePools s) (mark_rows s now network len) _ _ (λ n. refl) (λ e. refl)

-- What an accepted call leaves, of the call on what is lent.
module _ (h : Lent) (r : Result State) (q : Result Lent) (follows : Follows state_in h r q) (a : Answer) (g : Lent) (reply : List ℕ) (is : outcome a g reply ≡ q) (z : a.number ≡ 0) where
  pub same-table : table_in g ≡ r.state.table
  same-table = ap (λ (w : Result Lent). table_in w.state) is ∙ ap (λ (s : State). s.table) follows.holds

  pub left-sound : SoundIfAccepted (state_in h) r → sound (table_in g) ≡ true
  left-sound s = ap sound same-table ∙ (s (sym (ap (λ (w : Answer). w.number) (ap (λ (w : Result Lent). w.answer) is ∙ follows.answer)) ∙ z)).1

  pub left-pools : SamePools (state_in h) r → (table_in g).pools ≡ (table_in h).pools
  left-pools e = ap (λ (t : LeaseTable). t.pools) same-table ∙ e
