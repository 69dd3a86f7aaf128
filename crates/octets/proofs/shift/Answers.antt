-- `octets::shift` meets its contract.
use Prim.Native.Nat.{ℕ, ◌+◌, ◌-◌}
use native.Mathlib.Omega.{arith}
use mathlib.Core.Path.{◌≡◌, sym, ap, ◌∙◌}
use mathlib.Core.List.{◌++◌}
use lib.ListN.{length, take, drop, length-drop}
use lib.Seq.{paste, length-take-le}
use Rattle.std.proofs.Common.{rules}
use Rattle.std.proofs.lemmas.Slice.{overwrites}
use Rattle.lists.specs.Put.{put}
use Rattle.lists.proofs.PutLaws.{put-fits, put_mid-put}
use Rattle.octets.proofs.shift.Goals as goal

pub returns-then-n : goal.returns-then-n
returns-then-n g c =
    let a = c.args in
    let s = a.s.now in
    let octets = take a.n (drop a.at s) in
    let same : a.at + a.n - a.at ≡ a.n = omega arith in
    let size : length octets ≡ a.n = length-take-le a.n (drop a.at s) (omega (arith, length-drop a.at s)) in
    c.copy_within.ensures.after
    ∙ ap (paste s a.to (drop a.at s)) same
    ∙ ap (λ (k : ℕ). take a.to s ++ octets ++ drop (a.to + k) s) (sym size)
    ∙ sym (put-fits octets s a.to (omega arith))

pub returns : goal.returns
returns g c =
    let a = c.args in
    put_mid-put c.copy_from_slice-2.new.self a.s.now a.to (a.to + a.n - a.to) (omega (arith, c.copy_from_slice-2.ensures.len)) (omega arith)
    ∙ ap (put a.s.now a.to) (search (rules, overwrites))
