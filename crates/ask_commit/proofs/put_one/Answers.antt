-- `put_one` meets its contract.
use Prim.Native.Nat.{ℕ, ◌+◌, ◌*◌}
use mathlib.Core.Path.{ap, ◌∙◌}
use native.Mathlib.Omega.{arith}
use lib.ListN.{drop}
use Rattle.lists.specs.Put.{put}
use Rattle.image.specs.Image.{lease_size}
use Rattle.image.specs.Reading.{lease_in}
use Rattle.option.specs.Writing.{suboption_bytes}
use Rattle.table.specs.declared.Lease.{Lease}
use Rattle.ledger.specs.Ledger.{information_for}
use Rattle.ask_commit.proofs.ReplyPuts.{shown-again, shown-new, shown-nothing}
use Rattle.ask_commit.proofs.put_one.Goals as goal

pub overflow_add-from : goal.overflow_add-from
overflow_add-from c = omega (arith, c.requires.1 c.if-place-ne-NONE.true)

pub lease_at-y-requires : goal.lease_at-y-requires
lease_at-y-requires c = omega (arith, c.requires.1 c.if-place-ne-NONE.true)

pub returns-then-place-ne-NONE : goal.returns-then-place-ne-NONE
returns-then-place-ne-NONE c =
    let a = c.args in record {
      bounds = (omega arith, omega arith);
      equation = λ before xs shown.
          shown-again a.place _ a.x before a.reply.now a.at xs shown c.if-place-ne-NONE.true c.put_offer.new.reply
          (c.put_offer.ensures ∙ ap (λ (y : Lease). put a.reply.now a.at (suboption_bytes (information_for y))) (c.lease_at-y.ensures ∙ ap (λ (p : ℕ). lease_in (drop (a.from + lease_size * p) a.image.now)) c.from.ensures));
    }

pub returns-then-x-ne0 : goal.returns-then-x-ne0
returns-then-x-ne0 c = let a = c.args in record { bounds = (omega arith, omega arith); equation = λ before xs shown. shown-new a.place _ a.x before a.reply.now a.at xs shown c.if-place-ne-NONE.false c.if-x-ne0.true c.put_offer-then-x-ne0.new.reply c.put_offer-then-x-ne0.ensures }

pub returns : goal.returns
returns c = let a = c.args in record { bounds = (omega arith, omega arith); equation = λ before xs shown. shown-nothing a.place _ a.x before a.reply.now a.at xs shown c.if-place-ne-NONE.false c.if-x-ne0.false }
