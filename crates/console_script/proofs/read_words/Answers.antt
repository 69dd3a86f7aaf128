-- `read_words` meets its contract: what the words of IMAGE and OPTION spell, the others by the line of each.
use mathlib.Core.Path.{sym, ap, ◌∙◌}
use lib.ListN.{drop}
use Rattle.console_script.specs.declared.Name.{Name}
use Rattle.console_script.specs.Parsing.{parse_words}
use Rattle.console_script.proofs.LineLaws.{load_of, read_of}
use Rattle.console_script.proofs.read_words.Goals as goal

pub returns-in_err-last_octets-in-Load-clause-result_after : goal.returns-in_err-last_octets-in-Load-clause-result_after
returns-in_err-last_octets-in-Load-clause-result_after c = rw c.from_residual.ensures (load_of _ _ c.in_err-last_octets-in-Load.ensures.end_after ∙ ap (λ (n : Name). parse_words n (drop c.args.from c.args.s.now)) (sym c.in-Load.is))

pub returns-in_err-last_octets-in-Read-clause-result_after : goal.returns-in_err-last_octets-in-Read-clause-result_after
returns-in_err-last_octets-in-Read-clause-result_after c = rw c.from_residual-in_err-last_octets-in-Read.ensures (read_of _ _ c.in_err-last_octets-in-Read.ensures.end_after ∙ ap (λ (n : Name). parse_words n (drop c.args.from c.args.s.now)) (sym c.in-Read.is))

pub returns-in_ok-last_octets-in-Load-clause-result_after : goal.returns-in_ok-last_octets-in-Load-clause-result_after
returns-in_ok-last_octets-in-Load-clause-result_after c = load_of _ _ c.in_ok-last_octets-in-Load.ensures.end_after ∙ ap (λ (n : Name). parse_words n (drop c.args.from c.args.s.now)) (sym c.in-Load.is)

pub returns-in_ok-last_octets-in-Read-clause-result_after : goal.returns-in_ok-last_octets-in-Read-clause-result_after
returns-in_ok-last_octets-in-Read-clause-result_after c = read_of _ _ c.in_ok-last_octets-in-Read.ensures.end_after ∙ ap (λ (n : Name). parse_words n (drop c.args.from c.args.s.now)) (sym c.in-Read.is)
