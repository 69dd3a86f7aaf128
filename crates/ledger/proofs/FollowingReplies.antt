-- WHATEVER FOLLOWS THE LEDGER KEEPS ITS THEOREMS (`Following`), of what each call answers: what take and list write reads back, a refusal leaves all as it
-- was, a struck lease leaves nothing behind, usage figures and names are kept, and resuming a list skips and repeats nothing.
-- Assumes nothing.
use Prim.Native.Nat.{ℕ}
use mathlib.Core.Path.{◌≡◌, sym, ap, subst, ◌∙◌}
use mathlib.Core.List.{List}
use lib.ListN.{drop}
use Rattle.lists.specs.Lists.{filter}
use Rattle.option.specs.Values.{most_entries}
use Rattle.table.specs.Table.{present}
use Rattle.ledger.specs.declared.Answer.{Answer}
use Rattle.ledger.specs.Ledger.{State, ask_name, call, Result, outcome, Calls, found, usable_entries, returned, listed_in, ledger}
use Rattle.ledger.specs.Histories.{afterwards, begun, called}
use Rattle.ledger.specs.ReadBack.{read_in, follows as follows_in, confirmation, page, TakesReadBack, SelectionReturned, ListsReadBack}
use Rattle.ledger.specs.Refusals.{UnchangedIfRefused, RefusalsLeave}
use Rattle.ledger.specs.NothingBehind.{Same, Cleared, EndedForgotten, Clears}
use Rattle.ledger.specs.FiguresKept.{Matched, Updated, Unchanged, FiguresAfter, FiguresKept, AlwaysMatched}
use Rattle.ledger.specs.NamesKept.{NamesStay, NamesMade, NamesKept}
use Rattle.ledger.specs.OnGround.{Within, OnGround}
use Rattle.ledger.specs.Resuming.{Resumes}
use Rattle.ledger.proofs.ReadBack.{take-reads-back, list-reads-back, selection-returned}
use Rattle.ledger.proofs.OnGroundHolds.{on-ground}
use Rattle.ledger.proofs.SoundKept.{refusals-leave}
use Rattle.ledger.proofs.NothingBehind.{ended-forgotten, clears}
use Rattle.ledger.proofs.MatchedKept.{next-matched}
use Rattle.ledger.proofs.FiguresHold.{figures-kept}
use Rattle.ledger.proofs.NamesKept.{names-kept}
use Rattle.ledger.proofs.Resuming.{resumed-after-returns}
use Rattle.ledger.proofs.Following.{Follows, FollowsAll, next-same, afterwards-same}

-- ONE CALL

module _ {S : Type 0} (state_of : S → State) (s : S) (r : Result State) (q : Result S) (f : Follows state_of s r q) where
  -- What it gives, with the state that it leaves, is what the ledger gives.
  seen_same : outcome q.answer (state_of q.state) q.reply ≡ r
  seen_same = λ i. record { answer = f.answer i; state = f.holds i; reply = f.reply i }

  accepted-too : q.answer.number ≡ 0 → r.answer.number ≡ 0
  accepted-too z = sym (ap (λ (a : Answer). a.number) f.answer) ∙ z

  unchanged-followed : (reply : List ℕ) → UnchangedIfRefused (state_of s) reply r → UnchangedIfRefused s reply q
  unchanged-followed reply k z =
      let no : r.answer.number ≡ 0 → ⊥ = λ e. z (ap (λ (a : Answer). a.number) f.answer ∙ e) in
      let same = k no in
      record {
        stays = f.refused no;
        reply-stays = f.reply ∙ same.reply-stays;
        bytes = ap (λ (a : Answer). a.bytes) f.answer ∙ same.bytes;
        count = ap (λ (a : Answer). a.count) f.answer ∙ same.count;
      }

  -- What is so of what it leaves if it is accepted.
  left-followed : (P : State → Type 0) → (r.answer.number ≡ 0 → P r.state) → q.answer.number ≡ 0 → P (state_of q.state)
  left-followed P k z = subst P (sym f.holds) (k (accepted-too z))

  same-followed : (s' : S) (r' : Result State) (q' : Result S) → Follows state_of s' r' q' → Same (λ u. u) r r' → Same state_of q q'
  same-followed s' r' q' g a = record {
    answer = f.answer ∙ a.answer ∙ sym g.answer;
    reply = f.reply ∙ a.reply ∙ sym g.reply;
    left = λ z. f.holds ∙ a.left (accepted-too z) ∙ sym g.holds;
  }

module _ {S : Type 0} (calls : Calls S) (follows : FollowsAll calls) where
  abbrev state_of : S → State
  state_of s = calls.state_of s

  -- WHAT TAKE AND LIST WRITE

  pub takes-read-back-followed : TakesReadBack calls
  takes-read-back-followed s now c =
      subst (λ (r : Result State). r.answer.number ≡ 0 → read_in r ≡ confirmation (found c.client (present now (state_of s).table.leases) (usable_entries (state_of s).table c)))
      (sym (seen_same state_of s _ _ (follows.takes s now c))) (take-reads-back (state_of s) now c)

  pub selection-returned-followed : SelectionReturned calls
  selection-returned-followed = record {
    asks = λ s now c. subst (λ (r : Result State). r.answer.number ≡ 0 → follows_in r ≡ returned c.selection) (sym (seen_same state_of s _ _ (follows.asks s now c))) (selection-returned.asks (state_of s) now c);
    takes = λ s now c. subst (λ (r : Result State). r.answer.number ≡ 0 → follows_in r ≡ returned c.selection) (sym (seen_same state_of s _ _ (follows.takes s now c))) (selection-returned.takes (state_of s) now c);
  }

  pub on-ground-followed : OnGround calls
  on-ground-followed = record {
    contains = λ s c. on-ground.contains (state_of s) c;
    asks = λ s now c. subst (Within (state_of s).table c) (sym (seen_same state_of s _ _ (follows.asks s now c))) (on-ground.asks (state_of s) now c);
    takes = λ s now c. subst (Within (state_of s).table c) (sym (seen_same state_of s _ _ (follows.takes s now c))) (on-ground.takes (state_of s) now c);
  }

  pub lists-read-back-followed : ListsReadBack calls
  lists-read-back-followed s now c =
      subst (λ (r : Result State). r.answer.number ≡ 0 → read_in r ≡ page (listed_in (state_of s).table now c.client c.option))
      (sym (seen_same state_of s _ _ (follows.lists s now c))) (list-reads-back (state_of s) now c)

  -- A REFUSAL LEAVES ALL AS IT WAS

  pub refusals-leave-followed : RefusalsLeave calls
  refusals-leave-followed = record {
    asks = λ s now c. unchanged-followed state_of s _ _ (follows.asks s now c) c.reply (refusals-leave.asks (state_of s) now c);
    takes = λ s now c. unchanged-followed state_of s _ _ (follows.takes s now c) c.reply (refusals-leave.takes (state_of s) now c);
    lists = λ s now c. unchanged-followed state_of s _ _ (follows.lists s now c) c.reply (refusals-leave.lists (state_of s) now c);
    releases = λ s now c. unchanged-followed state_of s _ _ (follows.releases s now c) c.reply (refusals-leave.releases (state_of s) now c);
    marks = λ s now network len d. unchanged-followed state_of s _ _ (follows.marks s now network len d) _ (refusals-leave.marks (state_of s) now network len d);
  }

  -- A STRUCK LEASE LEAVES NOTHING BEHIND

  pub ended-forgotten-followed : EndedForgotten calls
  ended-forgotten-followed now s u a =
      let k = ended-forgotten now (state_of s) (state_of u) a in
      record {
        asks = λ c. same-followed state_of s _ _ (follows.asks s now c) u _ _ (follows.asks u now c) (k.asks c);
        takes = λ c. same-followed state_of s _ _ (follows.takes s now c) u _ _ (follows.takes u now c) (k.takes c);
        lists =
            λ c. let f = follows.lists s now c in let g = follows.lists u now c in let e = k.lists c in
            (f.answer ∙ e.0 ∙ sym g.answer, f.reply ∙ e.1 ∙ sym g.reply);
        releases = λ c. same-followed state_of s _ _ (follows.releases s now c) u _ _ (follows.releases u now c) (k.releases c);
        marks = λ network len d. same-followed state_of s _ _ (follows.marks s now network len d) u _ _ (follows.marks u now network len d) (k.marks network len d);
      }

  pub clears-followed : (s : S) (now : ℕ) → Clears calls s now
  clears-followed s now =
      let k = clears (state_of s) now in
      record {
        asks = λ c. left-followed state_of s _ _ (follows.asks s now c) (Cleared now) (k.asks c);
        takes = λ c. left-followed state_of s _ _ (follows.takes s now c) (Cleared now) (k.takes c);
        releases = λ c. left-followed state_of s _ _ (follows.releases s now c) (Cleared now) (k.releases c);
        marks = λ network len d. left-followed state_of s _ _ (follows.marks s now network len d) (Cleared now) (k.marks network len d);
      }

  -- USAGE FIGURES

  pub figures-kept-followed : FiguresKept calls
  figures-kept-followed = record {
    asks = λ s now c. left-followed state_of s _ _ (follows.asks s now c) (FiguresAfter Unchanged now (state_of s)) (figures-kept.asks (state_of s) now c);
    takes = λ s now c. left-followed state_of s _ _ (follows.takes s now c) (FiguresAfter (Updated c.client (usable_entries (state_of s).table c)) now (state_of s)) (figures-kept.takes (state_of s) now c);
    releases = λ s now c. left-followed state_of s _ _ (follows.releases s now c) (FiguresAfter Unchanged now (state_of s)) (figures-kept.releases (state_of s) now c);
    marks = λ s now network len d. left-followed state_of s _ _ (follows.marks s now network len d) (FiguresAfter Unchanged now (state_of s)) (figures-kept.marks (state_of s) now network len d);
  }

  -- NAMES

  pub names-kept-followed : NamesKept calls
  names-kept-followed = record {
    asks = λ s now c. left-followed state_of s _ _ (follows.asks s now c) (NamesMade (ask_name c) now (state_of s)) (names-kept.asks (state_of s) now c);
    takes = λ s now c. left-followed state_of s _ _ (follows.takes s now c) (NamesStay now (state_of s)) (names-kept.takes (state_of s) now c);
    releases = λ s now c. left-followed state_of s _ _ (follows.releases s now c) (NamesStay now (state_of s)) (names-kept.releases (state_of s) now c);
    marks = λ s now network len d. left-followed state_of s _ _ (follows.marks s now network len d) (NamesStay now (state_of s)) (names-kept.marks (state_of s) now network len d);
  }

  -- If the histories begin with sheets that match.
  pub always-matched-followed : (Begins : S → Type 0) → ((s : S) → Begins s → Matched (state_of s)) → AlwaysMatched calls Begins
  always-matched-followed Begins begins s (begun u b) = begins u b
  always-matched-followed Begins begins s (called u e r) = subst Matched (sym (next-same calls follows u e)) (next-matched (state_of u) e (always-matched-followed Begins begins u r))

  -- RESUMING A LIST

  pub resumes-followed : Resumes calls
  resumes-followed s now later client option resuming es so l a e =
      let r = resumed-after-returns (state_of s) now later client option resuming es so l a e in
      let u : S = afterwards calls s es in
      let same : state_of u ≡ afterwards ledger (state_of s) es = afterwards-same calls follows es s in
      let rest : listed_in (state_of u).table later client resuming ≡ filter r.keep (drop most_entries (listed_in (state_of s).table now client option)) =
      ap (λ (v : State). listed_in v.table later client resuming) same ∙ r.rest in
      record {
        keep = r.keep;
        there = ap (λ (v : State). present later v.table.leases) same ∙ r.there;
        rest = rest;
        told = λ reply z. lists-read-back-followed u later (call client resuming reply) z ∙ ap page rest;
      }
