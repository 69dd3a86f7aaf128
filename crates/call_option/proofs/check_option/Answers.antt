-- `check_option` meets its contract.
use mathlib.Core.Path.{◌≡◌, ap, ◌∙◌}
use borrow.Author.Rules.{rules}
use Rattle.std.specs.Prelude.{Err}
use Rattle.ledger.specs.Answers.{answer_of}
use Rattle.call_option.proofs.OptionLaws.{unread, read}
use Rattle.call_option.proofs.check_option.Goals as goal

pub returns-in_err-read_option : goal.returns-in_err-read_option
returns-in_err-read_option c =
    let e = c.in_err-read_option.field-0.0 in
    let is : c.from_residual.result ≡ Err e = search rules in
    ap answer_of is ∙ unread c.args.option.now e c.in_err-read_option.ensures

pub returns : goal.returns
returns c = read c.args.option.now _ c.in_ok-read_option.ensures.accepted
