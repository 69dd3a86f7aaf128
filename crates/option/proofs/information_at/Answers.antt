-- `information_at` meets its contract: the framing, over all entries, then the fields.
use Prim.Native.Nat.{ℕ, ◌+◌}
use mathlib.Core.Path.{sym, ap, ◌∙◌}
use lib.ListN.{get_or}
use borrow.Author.Tests.{lt-ltb, le-ltb}
use Rattle.option.specs.Values.{information}
use Rattle.option.specs.Rules.{fields?}
use Rattle.option.specs.Reading.{bit1, bit2, read_entries, read_information, when_good}
use Rattle.option.specs.declared.Fault.TheVariants.{Framing}
use Rattle.option.specs.declared.Entries.{Entries}
use Rattle.option.proofs.StepLaws.{body-bad, body-good}
use Rattle.std.specs.declared.result.Result.TheVariants.{Ok, Err}
use Rattle.option.specs.Answers.{entries_from}
use Rattle.option.specs.declared.Suboption.TheVariants.{Information}
use Rattle.std.proofs.lemmas.Result.{err_from_is_err_and}
use Rattle.option.proofs.EntryScan.{scan-good, scan-bad}
use Rattle.option.proofs.information_at.Goals as goal

pub returns-then-end-at : goal.returns-then-end-at
unfolding read_information when_good
returns-then-end-at c =
    let all = body-bad Framing _ (simp (le-ltb _ _ c.if-end-at.true)) in
    record { value = all.0; stores = all.1 }

pub returns-in_err-count : goal.returns-in_err-count
unfolding read_information when_good fields?
returns-in_err-count c =
    let a = c.args in
    let bad = scan-bad _ a.at _ _ (sym c.scan_entries.ensures.value ∙ c.in_err-count.was) in
    let all = body-bad _ _ (rw (lt-ltb _ _ c.if-end-at.false) bad) in
    let e = err_from_is_err_and c.from_residual.result c.from_residual.ensures.1 in
    record { value = e.1 ∙ ap Err e.2 ∙ all.0; stores = all.1 }

pub returns : goal.returns
unfolding read_information when_good fields?
returns c =
    let a = c.args in
    let flags : ℕ = get_or a.s.now (a.at + 2) 0 in
    let found = scan-good _ _ (sym c.scan_entries.ensures.value ∙ c.in_ok-count.was) in
    let all = body-good _ _ (information (bit2 flags) (bit1 flags) (read_entries a.s.now a.end (a.at + 3)).0) a.end
    (simp (lt-ltb _ _ c.if-end-at.false, found.0, found.1))
    (ap (λ (x : Entries). Ok (Information (record { c = bit2 flags; s = bit1 flags; at = a.at; entries = entries_from (a.at + 3) a.end; count = x.count; last = x.last }))) (sym found.2))
    c.scan_entries.ensures.in_columns in
    record { value = all.0; stores = all.1 }
