-- `image_records::clear` meets its contract.
use Prim.Native.Nat.{ℕ, ◌-◌}
use mathlib.Core.Path.{◌≡◌, sym, ap, ◌∙◌}
use native.Mathlib.Omega.{arith}
use lib.ListN.{length, replicate, take, drop, length-drop}
use lib.Seq.{length-take-le}
use Rattle.lists.specs.Put.{put}
use Rattle.lists.proofs.PutLaws.{put-nothing, put_mid-put}
use Rattle.image_records.proofs.clear.Goals as goal

pub returns-then-from-to : goal.returns-then-from-to
returns-then-from-to c =
    let a = c.args in
    let l = a.image.now in
    let n = a.to - a.from in
    let size : length (take n (drop a.from l)) ≡ n = length-take-le n (drop a.from l) (omega (arith, length-drop a.from l)) in
    put_mid-put c.fill.new.self l a.from n (sym (c.fill.ensures.len ∙ size)) (omega arith)
    ∙ ap (put l a.from) (c.fill.ensures.after (λ y h. h) ∙ ap (λ (k : ℕ). replicate k 0) size)

pub returns-else-from-to : goal.returns-else-from-to
returns-else-from-to c =
    let a = c.args in
    let none : a.to - a.from ≡ 0 = omega arith in
    sym (ap (λ (k : ℕ). put a.image.now a.from (replicate k 0)) none ∙ put-nothing a.image.now a.from)
