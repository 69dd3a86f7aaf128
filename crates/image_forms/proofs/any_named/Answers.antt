-- `image_forms::any_named` meets its contract: each record tells of its lease.
use Prim.Native.Nat.{◌+◌, ◌-◌, ◌*◌}
use mathlib.Core.Path.{◌≡◌, ap, ◌∙◌}
use mathlib.Core.List.{map}
use native.Mathlib.Omega.{arith}
use Rattle.std.proofs.Common.{rules}
use Rattle.std.proofs.lemmas.Iterator.{YieldsList-from_slice}
use Rattle.std.proofs.lemmas.Iterator.Search.{any_from_yields_List}
use Rattle.std.specs.List.{list_any}
use Rattle.image.specs.Image.{lease_size, lease_record}
use Rattle.image_records.proofs.PlaceLaws.{chunks-are}
use Rattle.image_forms.proofs.NamedLaws.{record_named, records-named}
use Rattle.image_forms.proofs.any_named.Goals as goal

pub returns : goal.returns
returns c = λ xs r e.
    let a = c.args in
    let records = c.as_chunks.result.0.now in
    let same : records ≡ map lease_record xs = c.as_chunks.ensures.front ∙ chunks-are a.image.now a.from a.n (a.from + lease_size * a.n - a.from) xs r e (omega arith) in
    any_from_yields_List record_named _ _ c.any.result c.any.ensures.ran (YieldsList-from_slice records c.iter.ensures.rest) (λ b v q k. search rules)
    ∙ ap (list_any record_named) same
    ∙ records-named xs
