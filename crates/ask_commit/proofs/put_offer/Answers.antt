-- `put_offer` meets its contract.
use mathlib.Core.Path.{◌∙◌}
use native.Mathlib.Omega.{arith}
use lib.ListN.{length-set}
use Rattle.ask_commit.proofs.ReplyPuts.{offer-put}
use Rattle.ask_commit.proofs.put_offer.Goals as goal

pub bounds-reply-at-2 : goal.bounds-reply-at-2
bounds-reply-at-2 c = simp length-set (omega arith)

pub bounds-reply-at-3 : goal.bounds-reply-at-3
bounds-reply-at-3 c = simp length-set (omega arith)

pub put_lease-requires : goal.put_lease-requires
put_lease-requires c = simp length-set (omega arith)

pub shape_of-reply : goal.shape_of-reply
shape_of-reply c = c.put_lease.auto.reply ∙ simp length-set

pub returns : goal.returns
returns c =
    let a = c.args in
    c.put_lease.ensures ∙ offer-put a.reply.now a.at a.x
