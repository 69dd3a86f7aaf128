-- `image::pool_at` meets its contract.
use Prim.Native.Nat.{◌+◌}
use mathlib.Core.Path.{◌≡◌, ◌∙◌}
use lib.ListN.{drop, get_or}
use Rattle.image.specs.Fields.{number32}
use Rattle.image.proofs.FieldLaws.{byte-from, number-from}
use Rattle.image.proofs.pool_at.Goals as goal

pub returns : goal.returns
returns c =
    let a = c.args in
    let s = a.image.now in
    let network : c.read32.result ≡ number32 (drop a.at s) 4 = c.read32.ensures ∙ number-from s a.at 4 in
    let length : get_or s (a.at + 8) 0 ≡ get_or (drop a.at s) 8 0 = byte-from s a.at 8 in
    cc
