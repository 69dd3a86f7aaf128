-- `read_entries` meets its contract, row by row.
use Prim.Native.Nat.{ℕ}
use mathlib.Core.Path.{◌≡◌, sym, subst}
use borrow.Author.Rules.{rules}
use Rattle.std.specs.Prelude.{Result, Err}
use Rattle.ledger.specs.declared.Refusal.{Refusal}
use Rattle.call_entries.specs.EntryRows.{ReadsEntries}
use Rattle.call_entries.proofs.RowLaws.{entries-unread, entries-asked, entries-missing, entries-there}
use Rattle.call_entries.proofs.read_entries.Goals as goal

pub returns-in_err-pieces : goal.returns-in_err-pieces
returns-in_err-pieces c =
    let e = c.in_err-pieces.field-0.0 in
    let is : c.from_residual.result ≡ Err e = search rules in
    subst (λ (r : Result ℕ Refusal). ReadsEntries c.args.option.now r c.read_option.new.networks c.read_option.new.lengths) (sym is)
    (entries-unread c.args.option.now c.read_option.new.networks c.read_option.new.lengths e c.in_err-pieces.ensures)

pub returns-then-pieces-ne0 : goal.returns-then-pieces-ne0
returns-then-pieces-ne0 c = entries-asked c.args.option.now c.in_ok-pieces.pieces _ c.in_ok-pieces.ensures c.read_option.new.networks c.read_option.new.lengths c.if-pieces-ne0.true

pub returns-then-pieces-eq0 : goal.returns-then-pieces-eq0
returns-then-pieces-eq0 c = entries-missing c.args.option.now c.in_ok-pieces.pieces _ c.in_ok-pieces.ensures c.if-pieces-ne0.false c.read_option.new.networks c.read_option.new.lengths c.if-pieces-eq0.true

pub returns : goal.returns
returns c = entries-there c.args.option.now c.in_ok-pieces.pieces _ c.in_ok-pieces.ensures c.if-pieces-ne0.false c.if-pieces-eq0.false
