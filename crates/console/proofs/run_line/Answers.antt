-- `run_line` runs the command that its line says, with what its state sets and the line number of its state.
use Prim.Native.Nat.{ℕ, ◌≤◌}
use mathlib.Core.Path.{sym, subst, ◌∙◌}
use native.Mathlib.Omega.{arith}
use lib.ListN.{length}
use Rattle.std.specs.Prelude.{IfSome}
use Rattle.call_spec.specs.Books.{book_of}
use Rattle.console_script.specs.Commands.{Within}
use Rattle.console.proofs.LineLaws.{ran_line, set-from}
use Rattle.console.proofs.run_line.Goals as goal

pub run_read-end-requires : goal.run_read-end-requires
run_read-end-requires g c =
    let read = c.read_command-command in
    let begun = c.echo-begun in record {
      answer_fits = (
        omega (arith, begun.ensures.answer_fits.0, begun.auto.out),
        omega (arith, begun.ensures.answer_fits.1.0, c.requires, c.next_line.ensures.0),
        subst (λ (k : ℕ). IfSome read.result (Within k)) (sym read.auto.s) read.ensures.within,
      );
      figures_len = c.requires.reply_length_bound.1;
    }

pub shape_of-line : goal.shape_of-line
shape_of-line g c = c.run_read-end.auto.line ∙ c.read_command-command.auto.s

pub returns : goal.returns
returns g c =
    let a = c.args in
    let read = c.read_command-command in
    let next = c.next_line in
    let begun = c.echo-begun in
    let ran = c.run_read-end in
    let put = c.with_output.ensures in
    let is_set = c.set.ensures in
    let inside : begun.result.at ≤ length a.out.now = omega (arith, begun.ensures.answer_fits.0) in
    let law = ran_line a.s next.result begun.result c.set.result a.line.now a.kept.now read.new.s read.result ran.result
    (book_of a.image.now a.image_bytes.now a.figures.now a.counts.now) _ a.out.now begun.new.out _ c.requires.kept_value.0 read.ensures.result_after next.ensures begun.ensures.answer_fits.1 inside
    begun.ensures.echoed ran.ensures.ran (is_set.0 ∙ put.0, is_set.1 ∙ put.1.2, is_set.2 ∙ put.1.3, set-from read.result begun.result c.with_output.result c.set.result put.1.0 put.1.1 is_set.3)
    (length a.line.now) read.ensures.within c.requires.reply_length_bound.0 in record { at_in_bounds = (omega (arith, ran.ensures.upper_bound, is_set.0, put.0, begun.auto.out), law.0); ran_line = law.1 }
