-- AN ACCEPTED CALL THAT HAS THE FIGURES SHEET had one that matched (row 15 did not apply), and leaves rows that match; so do open, and every history.
-- Assumes nothing.
use Prim.Native.Nat.{ℕ}
use mathlib.Core.Path.{◌≡◌, sym, subst}
use mathlib.Core.Bool.{Bool, false}
use mathlib.Core.List.{List, []}
use borrow.Author.Tests.{eqb-false, not-false}
use Rattle.lists.specs.Lists.{All}
use Rattle.table.specs.Table.{sound}
use Rattle.table_open.specs.Open.{given, fresh}
use Rattle.figures.specs.Figures.{matches?}
use Rattle.figures.proofs.RowsMatch.{filled-matches}
use Rattle.ledger.specs.Ledger.{State, Call, Result, Row, by_rows, refusal_place, ask_rows, ask, take_rows, take, release_rows, release, mark_rows, mark, ledger}
use Rattle.ledger.specs.Histories.{Event, asked, taken, was_listed, returned, marked, saved, next, begun, called, Begins, opened, loaded}
use Rattle.ledger.specs.FiguresKept.{Matched, AlwaysMatched}
use Rattle.ledger.proofs.RowLaws.{Numbered, first-none, by_rows_lem, numbered-ask, numbered-take, numbered-release, numbered-mark}
use Rattle.ledger.proofs.LeftLaws.{left-matches, renewed-matches}
use Rattle.ledger.proofs.SoundKept.{list-keeps}
use Rattle.ledger.proofs.HistoriesHold.{opened-is}

-- EVERY CALL

abbrev pub MatchedIfAccepted : State → Result State → Type 0
MatchedIfAccepted s r = r.answer.number ≡ 0 → Matched s × Matched r.state

-- A sheet that matches stays one that does, accepted or refused.
abbrev KeepsMatched : State → Result State → Type 0
KeepsMatched s r = (Matched s → Matched r.state) × MatchedIfAccepted s r

matched-by : (rows : List Row) (place : ℕ → ℕ) (s : State) (reply : List ℕ) (accepted : Result State) → Numbered rows
    → (All (λ (r : Row). r.1 ≡ false) rows → Matched s × Matched accepted.state) → KeepsMatched s (by_rows rows place s reply accepted)
matched-by rows place s reply accepted k m =
    by_rows_lem (KeepsMatched s) rows _ _ k (λ n e. ((λ same. same), (λ z. absurd (eqb-false n 0 e z)))) (λ e. let both = m (first-none rows e) in ((λ _. both.1), (λ _. both)))

module _ (s : State) (now : ℕ) (c : Call) where
  ask-keeps-matched : KeepsMatched s (ask s now c)
  unfolding ask ask_rows
  ask-keeps-matched =
      matched-by (ask_rows s now c) (refusal_place c.option) s c.reply _ (numbered-ask s now c)
      (λ r. let m = not-false (matches? s.table.leases s.rows) r.1.1.0 in (m, left-matches s now (not-false (sound s.table) r.1.0) m _))

  take-keeps-matched : KeepsMatched s (take s now c)
  unfolding take take_rows
  take-keeps-matched =
      matched-by (take_rows s now c) (refusal_place c.option) s c.reply _ (numbered-take s now c)
      (λ r.
      let m = not-false (matches? s.table.leases s.rows) r.1.1.0 in
      (m, renewed-matches s now (not-false (sound s.table) r.1.0) m c (eqb-false c.client 0 r.1.1.1.0)))

  release-keeps-matched : KeepsMatched s (release s now c)
  unfolding release release_rows
  release-keeps-matched =
      matched-by (release_rows s now c) (refusal_place c.option) s c.reply _ (numbered-release s now c)
      (λ r. let m = not-false (matches? s.table.leases s.rows) r.1.0 in (m, left-matches s now (not-false (sound s.table) r.0) m _))

  pub ask-matched : MatchedIfAccepted s (ask s now c)
  ask-matched = ask-keeps-matched.1

  pub take-matched : MatchedIfAccepted s (take s now c)
  take-matched = take-keeps-matched.1

  pub release-matched : MatchedIfAccepted s (release s now c)
  release-matched = release-keeps-matched.1

module _ (s : State) (now network len : ℕ) (d : Bool) where
  mark-keeps-matched : KeepsMatched s (mark s now network len d)
  unfolding mark mark_rows
  mark-keeps-matched =
      matched-by (mark_rows s now network len) (λ n. 0) s [] _ (numbered-mark s now network len)
      (λ r. let m = not-false (matches? s.table.leases s.rows) r.1.0 in (m, left-matches s now (not-false (sound s.table) r.0) m _))

  pub mark-matched : MatchedIfAccepted s (mark s now network len d)
  mark-matched = mark-keeps-matched.1

-- HISTORIES

pub next-matched : (s : State) (e : Event) → Matched s → Matched (next ledger s e)
next-matched s (asked now c) m = (ask-keeps-matched s now c).0 m
next-matched s (taken now c) m = (take-keeps-matched s now c).0 m
next-matched s (was_listed now c) m = subst Matched (sym (list-keeps s now c)) m
next-matched s (returned now c) m = (release-keeps-matched s now c).0 m
next-matched s (marked now network len d) m = (mark-keeps-matched s now network len d).0 m
next-matched s saved m = m

begins-matched : (s : State) → Begins s → Matched s
begins-matched s (opened networks lengths term default_length start e) =
    subst Matched (sym (opened-is networks lengths term default_length start e).1) (filled-matches (fresh (given networks lengths) term default_length start).leases)
begins-matched s (loaded t so) = filled-matches t.leases

pub always-matched : AlwaysMatched ledger Begins
always-matched s (begun u b) = begins-matched u b
always-matched s (called u e r) = next-matched u e (always-matched u r)
