-- `put_offers` meets its contract: so far the informations of what the first j requests get are put.
use Prim.Native.Nat.{ℕ, ◌+◌, ◌-◌, ◌*◌, ◌<◌}
use mathlib.Core.Path.{refl, ap₂, subst, ◌∙◌}
use mathlib.Core.List.{List, [], ◌∷◌, ◌++◌, map}
use mathlib.Core.Option.{Option}
use native.Mathlib.Omega.{arith}
use lib.ListN.{length, take, drop, get_or}
use lib.Seq.{take_all}
use Rattle.lists.specs.Lists.{cat_maybes}
use Rattle.lists.proofs.IndexLaws.{all-at}
use Rattle.names.specs.declared.Name.{Name}
use Rattle.table.specs.declared.Lease.{Lease}
use Rattle.image.specs.Image.{lease_size}
use Rattle.image.specs.Reading.{lease_in}
use Rattle.ledger.specs.Ledger.{information_for}
use Rattle.ask_again.specs.Places.{InBuffer, given_in}
use Rattle.ask_serve.specs.Granting.{offers_in}
use Rattle.ask_commit.specs.InnerReply.{Shown, given_or, each_of, Replied}
use Rattle.ask_commit.proofs.ReplyPuts.{shown-none, shown-next, shown-all, shown-same}
use Rattle.ask_commit.proofs.put_offers.Goals as goal
use Rattle.ask_commit.proofs.put_offers.Goals.{At-loop-j}

abbrev name_of : At-loop-j → Name
name_of c = c.no_name.result

pub loop-j-init : goal.loop-j-init
loop-j-init c = (omega arith, omega arith, refl, λ us stand within. shown-none _)

pub put_one-at-requires : goal.put_one-at-requires
put_one-at-requires c =
    let l = c.loop-j in
    let a = c.args in
    (omega (arith, c.requires.1, c.requires.2, l.invariant.1, l.invariant.2), all-at (InBuffer a.from (length a.image.now)) a.places.now c.requires.5 l.j 0 (omega (arith, c.requires.2)))

pub loop-j-preserved : goal.loop-j-preserved
loop-j-preserved c =
    let l = c.loop-j in
    let a = c.args in
    let low : l.j < length a.flags.now = omega (arith, c.requires.2) in
    let r = c.put_one-at.ensures in (
      omega (arith, r.bounds.0, l.invariant.0),
      omega (arith, r.bounds.1, l.invariant.1),
      c.put_one-at.auto.reply ∙ l.invariant.2,
      λ us stand within.
          let p = get_or a.places.now l.j 0 in
          let gs : List (Option Lease) = each_of (given_in us (take l.j a.places.now)) (offers_in 0 0 (name_of (goal.at.loop-j-preserved c).At-loop-j) a.networks.now a.lengths.now (take l.j a.flags.now)) in
          shown-next 0 0 (name_of (goal.at.loop-j-preserved c).At-loop-j) us a.places.now a.networks.now a.lengths.now a.flags.now l.j c.requires.2 low c.requires.3 c.requires.4 a.image.now a.from stand within a.reply.now _ _
          (subst (λ (x : Lease). Shown a.reply.now c.put_one-at.new.reply c.put_one-at.result (cat_maybes gs ++ cat_maybes (given_or p (lease_in (drop (a.from + lease_size * p) a.image.now)) x ∷ [])))
          c.granted_at-x.ensures (r.equation a.reply.now (cat_maybes gs) (l.invariant.3 us stand within))),
    )

pub overflow_sub-at : goal.overflow_sub-at
overflow_sub-at c = omega (arith, c.loop-j.invariant.0)

pub shape_of-reply : goal.shape_of-reply
shape_of-reply c = c.put_option_head.auto.buf ∙ c.loop-j.invariant.2

pub returns : goal.returns
returns c =
    let l = c.loop-j in
    let a = c.args in record {
      upper_bound = omega (arith, c.requires.2, l.invariant.1);
      equation = λ client expires name us stand within.
          let gives : List ℕ → List ℕ → List (Option Lease) = λ ps fs. each_of (given_in us ps) (offers_in 0 0 (name_of (goal.at.returns c).At-loop-j) a.networks.now a.lengths.now fs) in
          let so_far = shown-all a.reply.now l.reply l.at (cat_maybes (gives (take l.j a.places.now) (take l.j a.flags.now))) (l.invariant.3 us stand within) c.put_option_head.new.buf c.put_option_head.ensures in
          subst (Replied a.reply.now c.put_option_head.new.buf l.at)
          (ap₂ (λ (ps fs : List ℕ). map information_for (cat_maybes (gives ps fs))) (take_all l.j a.places.now (omega (arith, c.requires.2))) (take_all l.j a.flags.now (omega (arith, c.requires.2)))
          ∙ shown-same 0 0 client expires (name_of (goal.at.returns c).At-loop-j) name (given_in us a.places.now) a.networks.now a.lengths.now a.flags.now)
          so_far;
    }
