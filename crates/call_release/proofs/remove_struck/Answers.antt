-- `remove_struck` meets its contract.
use native.Mathlib.Omega.{arith}
use Rattle.call_rows.proofs.StruckLaws.{struck-in}
use Rattle.image_records.specs.Records.{ExpiredIn}
use Rattle.call_release.proofs.remove_struck.Goals as goal

pub returns-then-expired-eq0 : goal.returns-then-expired-eq0
returns-then-expired-eq0 c xs r counted between =
    let a = c.args in
    let only = between c.if-expired-eq0.true in
    record {
      finished = c.remove_expired_between.ensures xs r counted only;
      rows = λ rs e. struck-in a.n c.strike.result a.time xs rs _ counted (c.strike.ensures.value rs xs e r counted only);
    }

pub returns : goal.returns
returns c xs r counted between =
    let a = c.args in
    let anywhere : ExpiredIn a.time 0 a.n xs = λ k h gone. (omega arith, omega (arith, counted)) in
    record {
      finished = c.remove_expired_between-2.ensures xs r counted anywhere;
      rows = λ rs e. struck-in a.n c.strike-2.result a.time xs rs _ counted (c.strike-2.ensures.value rs xs e r counted anywhere);
    }
