-- Laws of the pools that stand as records in a buffer: the image of a table has them after its head.
-- Assumes nothing.
use Prim.Native.Nat.{ℕ, ◌+◌, ◌*◌, ◌<◌}
use native.Mathlib.Omega.{arith}
use mathlib.Core.Path.{◌≡◌, sym, ap, ◌∙◌}
use mathlib.Core.List.{List, ◌++◌, append_assoc}
use lib.ListN.{length, take, drop, get_or, take-append-drop}
use lib.Seq.{drop_at}
use Rattle.lists.specs.Lists.{concat_map}
use Rattle.lists.proofs.DropLaws.{drop_at as list_at}
use Rattle.lists.proofs.ConcatMapLaws.{concat_map-drop}
use Rattle.table.specs.declared.Pool.{Pool}
use Rattle.table.specs.declared.LeaseTable.{LeaseTable}
use Rattle.table.specs.Table.{no_pool}
use Rattle.image.specs.Fields.{number32}
use Rattle.image.specs.Image.{le16, le32, head_size, pool_size, head_record, pool_record, lease_record, used_pools, used_leases, head_of, image_as, image_of}
use Rattle.image.specs.Reading.{pool_in}
use Rattle.image.proofs.FieldLaws.{spell32}
use Rattle.image.proofs.ImageLaws.{length-head, length-pool}

pool-read : (p : Pool) (q : List ℕ) → pool_in (pool_record p ++ q) ≡ p
unfolding pool_record le16 le32 number32
pool-read p q = λ i. record { network = spell32 p.network i; length = p.length }

pool-in-place : (ps : List Pool) (q : List ℕ) (k : ℕ) → k < length ps → pool_in (drop (pool_size * k) (concat_map pool_record ps ++ q)) ≡ get_or ps k no_pool
pool-in-place ps q k h =
    let p : Pool = get_or ps k no_pool in
    let later : List ℕ = concat_map pool_record (drop (k + 1) ps) in
    ap pool_in
    (concat_map-drop pool_record pool_size length-pool ps k q (omega arith)
    ∙ ap (λ (rest : List Pool). concat_map pool_record rest ++ q) (list_at ps k no_pool h)
    ∙ append_assoc (pool_record p) later q)
    ∙ pool-read p (later ++ q)

-- A buffer that the image of a table is the front of.
pub image-pools : (t : LeaseTable) (l : List ℕ) (bytes : ℕ) → image_of t ≡ take bytes l → (k : ℕ) → k < length (used_pools t)
    → pool_in (drop (pool_size * k) (drop head_size l)) ≡ get_or (used_pools t) k no_pool
unfolding image_as
image-pools t l bytes image k h =
    let head : List ℕ = head_record (head_of t) in
    let pools : List ℕ = concat_map pool_record (used_pools t) in
    let leases : List ℕ = concat_map lease_record (used_leases t) in
    let rest : List ℕ = drop bytes l in
    let here : l ≡ head ++ (pools ++ (leases ++ rest)) =
    sym (take-append-drop bytes l)
    ∙ ap (λ (s : List ℕ). s ++ rest) (sym image)
    ∙ append_assoc head (pools ++ leases) rest
    ∙ ap (λ (s : List ℕ). head ++ s) (append_assoc pools leases rest) in
    ap (λ (s : List ℕ). pool_in (drop (pool_size * k) s)) (ap (drop head_size) here ∙ drop_at head (pools ++ (leases ++ rest)) head_size (length-head (head_of t)))
    ∙ pool-in-place (used_pools t) (leases ++ rest) k h
