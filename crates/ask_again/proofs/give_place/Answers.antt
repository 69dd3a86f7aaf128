-- `give_place` meets its contract.
use Prim.Native.Nat.{ℕ}
use mathlib.Core.Path.{refl, ap}
use native.Mathlib.Omega.{arith}
use lib.ListN.{set, get_or}
use Rattle.ask_again.proofs.give_place.Goals as goal

pub returns-then-requests-j : goal.returns-then-requests-j
returns-then-requests-j c = record { one = λ h. absurd (omega arith); none = λ h. (refl, refl, refl) }

pub returns : goal.returns
returns c =
    let a = c.args in
    let it = c.from-j.ensures in
    record { one = λ h. (ap (λ (j : ℕ). set a.places.now j a.place) it, ap (λ (j : ℕ). set a.first.now a.key (get_or a.next.now j 0)) it, refl); none = λ h. absurd (omega arith) }
