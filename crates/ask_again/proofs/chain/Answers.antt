-- `chain` meets its contract: the requests from the j-th on are chained.
use Prim.Native.Nat.{ℕ, ◌+◌, ◌-◌, ◌<◌}
use mathlib.Core.Path.{◌≡◌, sym, ap, subst, ◌∙◌}
use native.Mathlib.Omega.{arith}
use lib.Dec.{eqb}
use lib.ListN.{length, set, get_or, length-set}
use Rattle.ask_again.specs.InnerChains.{keys, key_of, key_in, Heads, Linked}
use Rattle.ask_again.proofs.ChainLaws.{heads-none, linked-none, heads-one, linked-one}
use Rattle.ask_again.proofs.chain.Goals as goal

pub loop-j-init : goal.loop-j-init
loop-j-init c =
    let n = length c.args.ask_lengths.now in
    let key = key_in c.args.ask_lengths.now c.args.ask_h.now c.args.default_length in
    (c.requires.1, subst (Heads key n n) (sym c.requires.0) (heads-none key n (omega (arith, c.requires.2))), linked-none key n c.args.next.now)

pub loop-j-preserved : goal.loop-j-preserved
loop-j-preserved c =
    let l = c.loop-j in
    let a = c.args in
    let n = length a.ask_lengths.now in
    let key = key_in a.ask_lengths.now a.ask_h.now a.default_length in
    let j = l.j - 1 in
    let on : j + 1 ≡ l.j = omega arith in
    let is : c.key_of-key.result ≡ key j = c.key_of-key.ensures.0 ∙ ap (λ (m : ℕ). key_of m (eqb (get_or a.ask_h.now j 0) 1)) c.ask_length.ensures in
    let small : key j < keys = omega (arith, is, c.key_of-key.ensures.1) in
    let heads : Heads key n (j + 1) l.first = subst (λ (m : ℕ). Heads key n m l.first) (sym on) l.invariant.1 in
    let linked : Linked key n (j + 1) l.next = subst (λ (m : ℕ). Linked key n m l.next) (sym on) l.invariant.2 in (
      length-set l.next j (get_or l.first c.key_of-key.result 0) ∙ l.invariant.0,
      subst (λ (m : ℕ). Heads key n j (set l.first m j)) (sym is) (heads-one key n j (omega arith) l.first heads small),
      subst (λ (m : ℕ). Linked key n j (set l.next j (get_or l.first m 0))) (sym is) (linked-one key n j (omega arith) l.first heads small l.next (omega (arith, l.invariant.0, c.requires.2)) linked),
    )

pub returns : goal.returns
returns c =
    let l = c.loop-j in
    let a = c.args in
    let n = length a.ask_lengths.now in
    let key = key_in a.ask_lengths.now a.ask_h.now a.default_length in
    let done : l.j ≡ 0 = omega arith in record { heads = subst (λ (m : ℕ). Heads key n m l.first) done l.invariant.1; linked = subst (λ (m : ℕ). Linked key n m l.next) done l.invariant.2 }
