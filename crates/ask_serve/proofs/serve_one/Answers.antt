-- `serve_one` meets its contract.
use native.Mathlib.Omega.{arith}
use Rattle.prefix.specs.Prefixes.{prefix}
use Rattle.gap_list.proofs.ColumnLaws.{lies-below}
use Rattle.ask_serve.specs.InnerServing.{Columns, columns}
use Rattle.ask_serve.proofs.GrantLaws.{served-again, served-full, served-none, served-granted}
use Rattle.ask_serve.proofs.serve_one.Goals as goal
use Rattle.ask_serve.proofs.serve_one.Goals.{Start}

-- The columns where it begins.
abbrev columns_of : Start → Columns
columns_of s = columns s.args.gaps.now s.args.networks.now s.args.lengths.now

pub returns-then-place-ne-NONE : goal.returns-then-place-ne-NONE
returns-then-place-ne-NONE c = served-again c.args.place c.args.length c.args.j (columns_of (goal.at.returns-then-place-ne-NONE c).Start) c.args.at (omega arith) (omega arith) c.if-place-ne-NONE.true

pub returns-then-left-eq0 : goal.returns-then-left-eq0
returns-then-left-eq0 c = served-full c.args.place c.args.length c.args.j (columns_of (goal.at.returns-then-left-eq0 c).Start) c.args.at (omega arith) (omega arith) c.if-left-eq0.true

pub returns-in_default : goal.returns-in_default
returns-in_default c =
    served-none c.args.place c.args.length c.args.j (columns_of (goal.at.returns-in_default c).Start) c.args.at (omega (arith, c.requires.2)) (omega (arith, c.requires.3)) c.fit.result c.fit.ensures c.in_default.is

pub carve-more-requires : goal.carve-more-requires
carve-more-requires c =
    let a = c.args in
    let lies = c.in-Some.ensures.place in
    (lies-below (prefix c.in-Some.fit.network a.length) c.in-Some.fit.index a.gaps.now a.at.gaps lies, omega (arith, c.requires.0, c.if-left-eq0.false), lies)

pub returns : goal.returns
returns c =
    served-granted c.args.place c.args.length c.args.j (columns_of (goal.at.returns c).Start) c.args.at (omega (arith, c.requires.2)) (omega (arith, c.requires.3)) c.in-Some.fit c.in-Some.ensures
    c.if-place-ne-NONE.false (omega (arith, c.if-left-eq0.false)) _ _ c.carve-more.ensures
