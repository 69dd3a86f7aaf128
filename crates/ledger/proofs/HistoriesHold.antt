-- Every table that a history can reach is sound, and no two of its leases share an address.
-- Assumes nothing.
use Prim.Native.Nat.{ℕ}
use mathlib.Core.Path.{◌≡◌, refl, sym, subst}
use mathlib.Core.Bool.{Bool, true, false, not, cond}
use mathlib.Core.List.{List, [], map}
use mathlib.Core.Option.{none, some}
use native.Mathlib.Omega.{arith}
use Rattle.lists.specs.Lists.{Pairwise}
use Rattle.prefix.specs.Prefixes.{Apart}
use Rattle.table.specs.Table.{blank, prefix_of, sound}
use Rattle.table_open.specs.Open.{given, open_ok, fresh}
use Rattle.table_open.proofs.OpenLaws.{open-sound}
use Rattle.ledger.specs.Ledger.{State, state, filled, or_else, refuse, accept, open_table, ledger}
use Rattle.ledger.specs.Histories.{Event, asked, taken, was_listed, returned, marked, saved, next, Reachable, begun, called, Begins, opened, loaded, NeverShared, leases_of}
use Rattle.ledger.proofs.SoundKept.{ask-keeps, take-keeps, list-keeps, release-keeps, mark-keeps, no-overlap}

-- OPEN

pub opened-is : (networks lengths : List ℕ) (term default_length start : ℕ) → (open_table networks lengths term default_length start).answer.number ≡ 0
    → (open_ok networks lengths term default_length start ≡ true) × ((open_table networks lengths term default_length start).state ≡ filled (fresh (given networks lengths) term default_length start))
unfolding open_table
opened-is networks lengths term default_length start = go (open_ok networks lengths term default_length start)
  where
    go : (b : Bool)
        → (or_else (cond (not b) (some 12) none) (λ number. refuse number 0 (state blank []) []) (accept (filled (fresh (given networks lengths) term default_length start)) [] 0 [])).answer.number ≡ 0
        → (b ≡ true)
        × ((or_else (cond (not b) (some 12) none) (λ number. refuse number 0 (state blank []) []) (accept (filled (fresh (given networks lengths) term default_length start)) [] 0 [])).state
        ≡ filled (fresh (given networks lengths) term default_length start))
    go true e = (refl, refl)
    go false e = absurd (omega (arith, e))

-- HISTORIES

pub next-sound : (s : State) (e : Event) → sound s.table ≡ true → sound (next ledger s e).table ≡ true
next-sound s (asked now c) so = ask-keeps s now c so
next-sound s (taken now c) so = take-keeps s now c so
next-sound s (was_listed now c) so = subst (λ (u : State). sound u.table ≡ true) (sym (list-keeps s now c)) so
next-sound s (returned now c) so = release-keeps s now c so
next-sound s (marked now network len d) so = mark-keeps s now network len d so
next-sound s saved so = so

pub begins-sound : (s : State) → Begins s → sound s.table ≡ true
begins-sound s (opened networks lengths term default_length start e) =
    let o = opened-is networks lengths term default_length start e in
    subst (λ (u : State). sound u.table ≡ true) (sym o.1) (open-sound networks lengths term default_length start o.0)
begins-sound s (loaded t so) = so

pub reachable-sound : (s : State) → Reachable ledger Begins s → sound s.table ≡ true
reachable-sound s (begun u b) = begins-sound u b
reachable-sound s (called u e r) = next-sound u e (reachable-sound u r)

-- NO TWO LEASES SHARE AN ADDRESS, in every table that a history can reach and at any time; all of its leases are present at its last time.
pub never-shared : NeverShared ledger Begins
never-shared s now r = no-overlap s.table now (reachable-sound s r)

pub never-shared-at-all : (s : State) → Reachable ledger Begins s → Pairwise Apart (map prefix_of (leases_of s.table))
never-shared-at-all s r = never-shared s s.table.last r
