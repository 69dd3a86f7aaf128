-- `call_open::open` meets its contract: what is written is the image of the fresh table.
use Prim.Native.Nat.{ℕ, ◌+◌, ◌*◌, ◌≤◌}
use mathlib.Core.Path.{◌≡◌, refl, sym, ap, ap₂, ◌∙◌}
use mathlib.Core.Bool.{Bool, true, false, cond}
use mathlib.Core.List.{List, []}
use native.Mathlib.Omega.{arith}
use lib.ListN.{length, take, length-take}
use lib.Seq.{length-take-le}
use lib.Dec.{ltb}
use Rattle.lists.specs.Lists.{concat_map}
use Rattle.lists.specs.Put.{put}
use Rattle.table.specs.declared.Pool.{Pool}
use Rattle.table.specs.declared.LeaseTable.{LeaseTable}
use Rattle.table.specs.Table.{pool_slots}
use Rattle.table_open.specs.Keys.{pools_in}
use Rattle.table_open.specs.Open.{given, sort_pools, open_ok, with_pools, fresh}
use Rattle.image.specs.Image.{head_size, pool_size, head_record, pool_record, head_of}
use Rattle.ledger.specs.declared.Answer.{Answer}
use Rattle.ledger.specs.Ledger.{outcome}
use Rattle.image_counts.specs.Standing.{Stands}
use Rattle.call_spec.specs.ImageCalls.{Lent, lent}
use Rattle.call_spec.specs.Books.{Book, book_of}
use Rattle.call_open.specs.declared.Terms.{Terms}
use Rattle.call_open.proofs.OpenImageLaws.{pools-few, no-records, open-outside, open-small, open-other, open-stands, open-accepted, open-refuses, open-accepts}
use Rattle.call_open.proofs.open.Goals as goal

-- The default length as a byte.
abbrev short : Terms → ℕ
short t = cond (ltb 255 t.default_length) 0 t.default_length

-- The answer of `admits` is what row 12 tests.
decides : (ns ls : List ℕ) (t : Terms) (len : ℕ) (b v : Bool) → b ≡ open_ok ns ls t.term len t.start → len ≡ short t → b ≡ v → open_ok ns ls t.term (short t) t.start ≡ v
decides ns ls t len b v e l is = sym (e ∙ ap (λ (n : ℕ). open_ok ns ls t.term n t.start) l) ∙ is

-- What is written of the table, from the head on.
head-is : (image out : List ℕ) (ps qs : List Pool) (t : Terms) (len : ℕ) (made : LeaseTable) → made ≡ with_pools ps t.term len t.start → len ≡ short t → ps ≡ sort_pools qs
    → out ≡ put image 0 (head_record (head_of made)) → out ≡ put image 0 (head_record (record { term = t.term; default_length = short t; last = t.start }))
head-is image out ps qs t len made m l p e =
    e ∙ ap (λ (u : LeaseTable). put image 0 (head_record (head_of u))) (m ∙ ap₂ (λ (rs : List Pool) (n : ℕ). with_pools rs t.term n t.start) p l)

pools-are : (out image : List ℕ) (ps qs : List Pool) → ps ≡ qs → image ≡ put out head_size (concat_map pool_record ps) → image ≡ put out head_size (concat_map pool_record qs)
pools-are out image ps qs p e = e ∙ ap (λ (rs : List Pool). put out head_size (concat_map pool_record rs)) p

pub returns-then-not-admits : goal.returns-then-not-admits
returns-then-not-admits c =
    let a = c.args in
    let b : Book = book_of a.image.now a.image_bytes.now a.figures.now a.counts.now in
    open-refuses b a.networks.now a.lengths.now a.terms.term a.terms.default_length a.terms.start 12 (λ z. omega (arith, z))
    (open-outside b.lent a.networks.now a.lengths.now a.terms.term a.terms.default_length a.terms.start (decides a.networks.now a.lengths.now a.terms _ _ false c.admits.ensures.value c.length_of-length.ensures c.if-not-admits.true))

pub returns-then-image-lt-FULL_IMAGE : goal.returns-then-image-lt-FULL_IMAGE
returns-then-image-lt-FULL_IMAGE c =
    let a = c.args in
    let b : Book = book_of a.image.now a.image_bytes.now a.figures.now a.counts.now in
    open-refuses b a.networks.now a.lengths.now a.terms.term a.terms.default_length a.terms.start 14 (λ z. omega (arith, z))
    (open-small b.lent a.networks.now a.lengths.now a.terms.term a.terms.default_length a.terms.start (decides a.networks.now a.lengths.now a.terms _ _ true c.admits.ensures.value c.length_of-length.ensures c.if-not-admits.false) c.if-image-lt-FULL_IMAGE.true)

pub returns-then-figures-ne-FIGURES : goal.returns-then-figures-ne-FIGURES
returns-then-figures-ne-FIGURES c =
    let a = c.args in
    let b : Book = book_of a.image.now a.image_bytes.now a.figures.now a.counts.now in
    open-refuses b a.networks.now a.lengths.now a.terms.term a.terms.default_length a.terms.start 14 (λ z. omega (arith, z))
    (open-other b.lent a.networks.now a.lengths.now a.terms.term a.terms.default_length a.terms.start (decides a.networks.now a.lengths.now a.terms _ _ true c.admits.ensures.value c.length_of-length.ensures c.if-not-admits.false) (omega arith) c.if-figures-ne-FIGURES.true)

-- No more numbers are taken than were asked for.
within-taken : (n : ℕ) (keys : List ℕ) → length (take n keys) ≤ n
within-taken n keys = omega (arith, length-take n keys)

pub slice_bounds-keys-end : goal.slice_bounds-keys-end
slice_bounds-keys-end c =
    let a = c.args in
    let few : length a.networks.now ≤ pool_slots = pools-few a.networks.now a.lengths.now a.terms.term _ a.terms.start (decides a.networks.now a.lengths.now a.terms _ _ true c.admits.ensures.value c.length_of-length.ensures c.if-not-admits.false) in
    omega (arith, few, c.admits.auto.keys)

pub slice_bounds-pools-end : goal.slice_bounds-pools-end
slice_bounds-pools-end c =
    let a = c.args in
    let few : length a.networks.now ≤ pool_slots = pools-few a.networks.now a.lengths.now a.terms.term _ a.terms.start (decides a.networks.now a.lengths.now a.terms _ _ true c.admits.ensures.value c.length_of-length.ensures c.if-not-admits.false) in
    omega (arith, length-take-le (length a.networks.now) c.admits.new.keys (omega (arith, few, c.admits.auto.keys)))

pub open-t-requires : goal.open-t-requires
open-t-requires c =
    let a = c.args in
    let few : length a.networks.now ≤ pool_slots = pools-few a.networks.now a.lengths.now a.terms.term _ a.terms.start (decides a.networks.now a.lengths.now a.terms _ _ true c.admits.ensures.value c.length_of-length.ensures c.if-not-admits.false) in
    omega (arith, few, within-taken (length a.networks.now) c.admits.new.keys)

pub put_pools-requires : goal.put_pools-requires
put_pools-requires c =
    let a = c.args in
    let few : length a.networks.now ≤ pool_slots = pools-few a.networks.now a.lengths.now a.terms.term _ a.terms.start (decides a.networks.now a.lengths.now a.terms _ _ true c.admits.ensures.value c.length_of-length.ensures c.if-not-admits.false) in
    let most = within-taken (length a.networks.now) c.admits.new.keys in
    (omega (arith, few, most, c.put_head.auto.out), omega (arith, few, most))

pub overflow_mul-n : goal.overflow_mul-n
overflow_mul-n c =
    let a = c.args in
    let few : length a.networks.now ≤ pool_slots = pools-few a.networks.now a.lengths.now a.terms.term _ a.terms.start (decides a.networks.now a.lengths.now a.terms _ _ true c.admits.ensures.value c.length_of-length.ensures c.if-not-admits.false) in
    omega (arith, few)

pub overflow_add-n : goal.overflow_add-n
overflow_add-n c =
    let a = c.args in
    let few : length a.networks.now ≤ pool_slots = pools-few a.networks.now a.lengths.now a.terms.term _ a.terms.start (decides a.networks.now a.lengths.now a.terms _ _ true c.admits.ensures.value c.length_of-length.ensures c.if-not-admits.false) in
    omega (arith, few)

pub overflow_mul-n-2 : goal.overflow_mul-n-2
overflow_mul-n-2 c =
    let a = c.args in
    let few : length a.networks.now ≤ pool_slots = pools-few a.networks.now a.lengths.now a.terms.term _ a.terms.start (decides a.networks.now a.lengths.now a.terms _ _ true c.admits.ensures.value c.length_of-length.ensures c.if-not-admits.false) in
    omega (arith, few)

pub overflow_add-n-2 : goal.overflow_add-n-2
overflow_add-n-2 c =
    let a = c.args in
    let few : length a.networks.now ≤ pool_slots = pools-few a.networks.now a.lengths.now a.terms.term _ a.terms.start (decides a.networks.now a.lengths.now a.terms _ _ true c.admits.ensures.value c.length_of-length.ensures c.if-not-admits.false) in
    omega (arith, few)

pub fill-requires : goal.fill-requires
fill-requires c =
    let a = c.args in
    let few : length a.networks.now ≤ pool_slots = pools-few a.networks.now a.lengths.now a.terms.term _ a.terms.start (decides a.networks.now a.lengths.now a.terms _ _ true c.admits.ensures.value c.length_of-length.ensures c.if-not-admits.false) in (
      omega arith,
      c.if-figures-ne-FIGURES.false,
      omega (arith, few, c.clear.auto.image, c.put_pools.auto.image, c.put_head.auto.out),
    )

pub recount-requires : goal.recount-requires
recount-requires c =
    let a = c.args in
    let b : Book = book_of a.image.now a.image_bytes.now a.figures.now a.counts.now in
    let ok : open_ok a.networks.now a.lengths.now a.terms.term (short a.terms) a.terms.start ≡ true = decides a.networks.now a.lengths.now a.terms _ _ true c.admits.ensures.value c.length_of-length.ensures c.if-not-admits.false in
    let sorted : pools_in (length a.networks.now) c.admits.new.keys ≡ sort_pools (given a.networks.now a.lengths.now) = c.admits.ensures.keys_after c.if-not-admits.false in
    let head = head-is a.image.now c.put_head.new.out _ (given a.networks.now a.lengths.now) a.terms _ c.open-t.result c.open-t.ensures c.length_of-length.ensures sorted c.put_head.ensures in
    let pools = pools-are c.put_head.new.out c.put_pools.new.image _ _ sorted c.put_pools.ensures in
    record {
      table = _;
      stands = open-stands b.lent a.networks.now a.lengths.now a.terms.term a.terms.default_length a.terms.start ok (omega arith) c.put_head.new.out c.put_pools.new.image c.clear.new.image head pools c.clear.ensures;
    }

pub overflow_mul-image_bytes : goal.overflow_mul-image_bytes
overflow_mul-image_bytes c =
    let a = c.args in
    let few : length a.networks.now ≤ pool_slots = pools-few a.networks.now a.lengths.now a.terms.term _ a.terms.start (decides a.networks.now a.lengths.now a.terms _ _ true c.admits.ensures.value c.length_of-length.ensures c.if-not-admits.false) in
    omega (arith, few)

pub overflow_add-image_bytes : goal.overflow_add-image_bytes
overflow_add-image_bytes c =
    let a = c.args in
    let few : length a.networks.now ≤ pool_slots = pools-few a.networks.now a.lengths.now a.terms.term _ a.terms.start (decides a.networks.now a.lengths.now a.terms _ _ true c.admits.ensures.value c.length_of-length.ensures c.if-not-admits.false) in
    omega (arith, few)

pub returns : goal.returns
returns c =
    let a = c.args in
    let b : Book = book_of a.image.now a.image_bytes.now a.figures.now a.counts.now in
    let ok : open_ok a.networks.now a.lengths.now a.terms.term (short a.terms) a.terms.start ≡ true = decides a.networks.now a.lengths.now a.terms _ _ true c.admits.ensures.value c.length_of-length.ensures c.if-not-admits.false in
    let sorted : pools_in (length a.networks.now) c.admits.new.keys ≡ sort_pools (given a.networks.now a.lengths.now) = c.admits.ensures.keys_after c.if-not-admits.false in
    let head = head-is a.image.now c.put_head.new.out _ (given a.networks.now a.lengths.now) a.terms _ c.open-t.result c.open-t.ensures c.length_of-length.ensures sorted c.put_head.ensures in
    let pools = pools-are c.put_head.new.out c.put_pools.new.image _ _ sorted c.put_pools.ensures in
    let stands = open-stands b.lent a.networks.now a.lengths.now a.terms.term a.terms.default_length a.terms.start ok (omega arith) c.put_head.new.out c.put_pools.new.image c.clear.new.image head pools c.clear.ensures in
    let from = head_size + pool_size * length a.networks.now in
    let g : Lent = lent c.clear.new.image from c.fill.new.sheet in
    let counts = c.recount.new.counts in
    open-accepts b a.networks.now a.lengths.now a.terms.term a.terms.default_length a.terms.start g
    (open-accepted b.lent a.networks.now a.lengths.now a.terms.term a.terms.default_length a.terms.start ok (omega arith) c.put_head.new.out c.put_pools.new.image c.clear.new.image head pools c.clear.ensures c.if-figures-ne-FIGURES.false
    c.fill.new.sheet (c.fill.ensures [] (no-records c.clear.new.image from) refl))
    counts (c.recount.ensures _ stands)
