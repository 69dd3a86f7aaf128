-- `check_option` meets its contract: row 6, then the suboptions.
use native.Mathlib.Omega.{arith}
use mathlib.Core.Path.{sym, ap, ◌∙◌}
use Rattle.std.proofs.lemmas.Result.{err_from_is_err_and}
use Rattle.std.specs.declared.result.Result.TheVariants.{Err}
use Rattle.option.specs.Reading.{read_option}
use Rattle.option.proofs.SuboptionLaws.{option-long, checked-whole, checked-bad}
use Rattle.option.proofs.check_option.Goals as goal

pub returns-then-not-is_option : goal.returns-then-not-is_option
unfolding read_option
returns-then-not-is_option c = simp (sym c.is_option.ensures.0 ∙ c.if-not-is_option.true)

pub check_suboptions-requires : goal.check_suboptions-requires
check_suboptions-requires c = omega (arith, option-long _ (sym c.is_option.ensures.0 ∙ c.if-not-is_option.false))

pub returns-in_err-check_suboptions : goal.returns-in_err-check_suboptions
unfolding read_option
returns-in_err-check_suboptions c =
    let yes = sym c.is_option.ensures.0 ∙ c.if-not-is_option.false in
    let e = err_from_is_err_and c.from_residual.result c.from_residual.ensures.1 in
    e.1 ∙ ap Err e.2 ∙ rw yes (sym (checked-bad _ _ _ (sym c.check_suboptions.ensures ∙ c.in_err-check_suboptions.was)))

pub returns : goal.returns
unfolding read_option
returns c =
    let yes = sym c.is_option.ensures.0 ∙ c.if-not-is_option.false in
    rw yes (sym (checked-whole _ _ _ (sym c.check_suboptions.ensures ∙ c.in_ok-check_suboptions.was)))
