-- `names::name_in` meets its contract: the bytes stand in front of zeros.
use Prim.Native.Nat.{ℕ, ◌+◌, ◌-◌}
use mathlib.Core.Path.{◌≡◌, ap, ◌∙◌}
use native.Mathlib.Omega.{arith}
use lib.ListN.{take, drop}
use Rattle.names.specs.Names.{name_of}
use Rattle.names.proofs.WordLaws.{copied-name}
use Rattle.names.proofs.name_in.Goals as goal

pub returns : goal.returns
returns c =
    let a = c.args in
    let size : a.at + a.n - a.at ≡ a.n = omega arith in
    c.name_at.ensures ∙ copied-name (take (a.at + a.n - a.at) (drop a.at a.s.now)) c.copy.new.to c.copy.ensures.value
    ∙ ap (λ (m : ℕ). name_of (take m (drop a.at a.s.now))) size
