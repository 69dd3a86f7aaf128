-- `buffer_line` meets its contract.
use mathlib.Core.Path.{◌∙◌, sym}
use borrow.Author.Tests.{lt-ltb, le-ltb}
use Rattle.lists.proofs.Tests.{cond-true, cond-false}
use Rattle.console_script.specs.Commands.{bad, buffer, longest_reply}
use Rattle.console_script.proofs.LineLaws.{buffer-is}
use Rattle.console_script.proofs.buffer_line.Goals as goal

pub returns-in_err-length-clause-result_value : goal.returns-in_err-length-clause-result_value
returns-in_err-length-clause-result_value c = rw c.from_residual.ensures (buffer-is _ _ c.in_err-length.ensures)

pub returns-then-length-gt-LONGEST_REPLY-clause-result_value : goal.returns-then-length-gt-LONGEST_REPLY-clause-result_value
returns-then-length-gt-LONGEST_REPLY-clause-result_value c = sym (cond-true _ bad (buffer c.in_ok-length.length) (lt-ltb longest_reply c.in_ok-length.length c.if-length-gt-LONGEST_REPLY.true)) ∙ buffer-is _ _ c.in_ok-length.ensures

pub returns-clause-result_value : goal.returns-clause-result_value
returns-clause-result_value c = sym (cond-false _ bad (buffer c.in_ok-length.length) (le-ltb longest_reply c.in_ok-length.length c.if-length-gt-LONGEST_REPLY.false)) ∙ buffer-is _ _ c.in_ok-length.ensures
