-- `read_command` meets its contract.
use mathlib.Core.Path.{sym, ap, ◌∙◌}
use Prim.Native.Nat.{ℕ}
use mathlib.Core.List.{List}
use lib.ListN.{get_or}
use Rattle.console_words.specs.Words.{empty?}
use Rattle.console_words.proofs.WordLaws.{nothing-between, some-between, first-between}
use Rattle.console_script.specs.Parsing.{name_of}
use Rattle.console_script.proofs.LineLaws.{line-long, line-empty, line-comment, line-no-name, line_of}
use Rattle.console_script.proofs.read_command.Goals as goal

pub returns-then-s-gt-LONGEST-clause-result_after : goal.returns-then-s-gt-LONGEST-clause-result_after
returns-then-s-gt-LONGEST-clause-result_after c = line-long c.args.s.now c.if-s-gt-LONGEST.true

pub returns-then-w-clause-result_after : goal.returns-then-w-clause-result_after
returns-then-w-clause-result_after c = let w = c.next_word-w.ensures in let s = c.args.s.now in line-empty s c.if-s-gt-LONGEST.false (ap empty? (sym w.word) ∙ nothing-between s _ _ c.if-w.true)

pub returns-then-s-w-eq35-clause-result_after : goal.returns-then-s-w-eq35-clause-result_after
returns-then-s-w-eq35-clause-result_after c =
    let w = c.next_word-w.ensures in
    let s = c.args.s.now in
    line-comment s c.if-s-gt-LONGEST.false (ap empty? (sym w.word) ∙ some-between s _ _ w.ordered w.inside c.if-w.false) (ap (λ (l : List ℕ). get_or l 0 0) (sym w.word) ∙ first-between s _ _ w.ordered c.if-w.false ∙ c.if-s-w-eq35.true)

pub returns-in_err-name-clause-result_after : goal.returns-in_err-name-clause-result_after
returns-in_err-name-clause-result_after c =
    let w = c.next_word-w.ensures in
    let s = c.args.s.now in
    rw c.from_residual.ensures
    (line-no-name s c.if-s-gt-LONGEST.false (ap empty? (sym w.word) ∙ some-between s _ _ w.ordered w.inside c.if-w.false) (λ e. c.if-s-w-eq35.false (sym (first-between s _ _ w.ordered c.if-w.false) ∙ ap (λ (l : List ℕ). get_or l 0 0) w.word ∙ e)) (c.in_err-name.ensures ∙ ap name_of w.word))

pub returns-clause-result_after : goal.returns-clause-result_after
returns-clause-result_after c =
    let w = c.next_word-w.ensures in
    let s = c.args.s.now in
    line_of s c.if-s-gt-LONGEST.false (ap empty? (sym w.word) ∙ some-between s _ _ w.ordered w.inside c.if-w.false) _ _ _ (λ e. c.if-s-w-eq35.false (sym (first-between s _ _ w.ordered c.if-w.false) ∙ ap (λ (l : List ℕ). get_or l 0 0) w.word ∙ e)) (c.in_ok-name.ensures ∙ ap name_of w.word) w.rest c.read_words.ensures.result_after
