-- `image_records::place_after` meets its contract: the records of ascending leases are parted by their networks.
use Prim.Native.Nat.{ℕ, ◌+◌, ◌-◌, ◌*◌}
use mathlib.Core.Path.{◌≡◌, sym, ap, subst, ◌∙◌}
use mathlib.Core.Bool.{true, false}
use mathlib.Core.List.{List, map}
use native.Mathlib.Omega.{arith}
use lib.ListN.{length}
use Rattle.std.proofs.lemmas.List.{length-map}
use Rattle.std.proofs.Common.{rules}
use Rattle.std.proofs.lemmas.List.Sorted.{IsPartitionPoint-from_clause}
use Rattle.std.specs.List.Sorted.{IsPartitionedBy, IsPartitionPoint}
use Rattle.image.specs.Image.{lease_size, lease_record}
use Rattle.image_records.proofs.PlaceLaws.{chunks-are, record_up_to, records-parted, point-counts}
use Rattle.image_records.proofs.place_after.Goals as goal

pub returns-clause-value : goal.returns-clause-value
returns-clause-value c = λ xs r e ascend.
    let a = c.args in
    let found = c.partition_point in
    let p = record_up_to a.network in
    let same : c.as_chunks.result.0.now ≡ map lease_record xs = c.as_chunks.ensures.front ∙ chunks-are a.image.now a.from a.n (a.from + lease_size * a.n - a.from) xs r e (omega arith) in
    let parted : IsPartitionedBy p c.as_chunks.result.0.now = subst (IsPartitionedBy p) (sym same) (records-parted a.network xs ascend) in
    let point = IsPartitionPoint-from_clause p c.as_chunks.result.0.now found.result found.ensures.partitioned parted (λ b v q k. search rules) in
    point-counts a.network xs found.result (omega (arith, found.ensures.bound, ap length same, length-map xs lease_record))
    (subst (λ (rs : List (List ℕ)). IsPartitionPoint (λ s. p s ≡ true) (λ s. p s ≡ false) rs found.result) same point)
