-- `ask_serve::serve` meets its contract. The loop's invariant: the columns hold the gaps after the first j requests and what is granted to these, and each
-- grant so far took a slot and made at most one gap more.
use Prim.Native.Nat.{ℕ, ◌≤◌, ◌<◌}
use mathlib.Core.Path.{refl, sym, subst, ◌∙◌}
use native.Mathlib.Omega.{arith}
use lib.ListN.{length, get_or}
use Rattle.ask_serve.specs.InnerServing.{columns, Served}
use Rattle.ask_serve.proofs.ServeLaws.{asked-long, serve-start, serve-turn, serve-end}
use Rattle.ask_serve.proofs.serve.Goals as goal

pub loop-j-init : goal.loop-j-init
loop-j-init c =
    let a = c.args in (
      omega arith,
      omega arith,
      refl,
      refl,
      refl,
      omega arith,
      refl,
      λ t call time client name xs us rs ready. serve-start t call time client name xs us a.places.now rs _ _ _ ready c.requires.0 a.networks.now a.lengths.now,
    )

pub loop-j-preserved : goal.loop-j-preserved
loop-j-preserved c =
    let l = c.loop-j in
    let a = c.args in
    let lt : l.j < length a.ask_lengths.now = omega arith in
    let asked = a.ask_lengths.now in
    let old = columns l.gaps l.networks l.lengths in
    let new = columns c.serve_one-at.new.gaps c.serve_one-at.new.networks c.serve_one-at.new.lengths in
    let served = c.serve_one-at.ensures in (
      omega (arith, served.few, l.invariant.0),
      omega (arith, served.room, l.invariant.1),
      c.serve_one-at.auto.gaps ∙ l.invariant.2,
      c.serve_one-at.auto.networks ∙ l.invariant.3,
      c.serve_one-at.auto.lengths ∙ l.invariant.4,
      omega (arith, served.slots, l.invariant.5),
      served.counted (subst (λ (x : ℕ). 1 ≤ x) (sym c.ask_length-length.ensures) (asked-long a.start.default_length (get_or asked l.j 0) c.requires.2)) l.invariant.6,
      λ t call time client name xs us rs ready.
          serve-turn t call time client name xs us a.places.now rs a.gaps.now a.start asked ready c.requires.0 l.j old new l.at c.serve_one-at.result lt (l.invariant.7 t call time client name xs us rs ready)
          (subst (λ (x : ℕ). Served (get_or a.places.now l.j 0) x l.j old l.at new c.serve_one-at.result) c.ask_length-length.ensures served),
    )

pub returns-clause-granted : goal.returns-clause-granted
returns-clause-granted c =
    let l = c.loop-j in
    let a = c.args in
    λ t call time client name xs us rs ready.
    serve-end t call time client name xs us a.places.now rs a.gaps.now a.start a.ask_lengths.now ready c.requires.0 l.j
    (columns l.gaps l.networks l.lengths) l.at (omega arith) (l.invariant.7 t call time client name xs us rs ready)
