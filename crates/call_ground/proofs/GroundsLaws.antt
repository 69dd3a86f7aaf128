-- Laws of the ground of a call: what `Grounds` takes, and what it gives to the calls.
-- Assumes nothing.
use Prim.Native.Nat.{ℕ, zero, suc, ◌+◌, ◌*◌, ◌≤◌, ◌<◌}
use native.Mathlib.Omega.{arith}
use mathlib.Core.Path.{◌≡◌, refl, sym, ap, ap₂, subst, ◌∙◌}
use mathlib.Core.Bool.{Bool, true, false, cond, ◌&&◌}
use mathlib.Core.List.{List, [], ◌∷◌, ◌++◌, map, append-nil}
use mathlib.Core.Option.{Option, none, some}
use lib.ListN.{length, get_or, take, drop, length-append, length-drop}
use lib.Seq.{drop-drop, take_all, length-take-le}
use lib.Dec.{ltb}
use Rattle.lists.specs.Lists.{All, Any, any?, filter}
use Rattle.lists.proofs.DropLaws.{all-at}
use Rattle.lists.proofs.ListLaws.{all_map, all-map₂, all_append, all_left, all_right, all-every}
use Rattle.lists.proofs.FilterLaws.{filter-append, filter-whole, filter_none, filter-pass, filter_same, none_of}
use Rattle.lists.proofs.MapLaws.{filter-filter}
use Rattle.lists.proofs.PutLaws.{put-nothing}
use Rattle.prefix.specs.declared.Prefix.{Prefix}
use Rattle.prefix.specs.Prefixes.{end, Inside, inside?}
use Rattle.option.specs.Reading.{four}
use Rattle.table.specs.declared.{Lease.Lease, LeaseTable.LeaseTable}
use Rattle.table.specs.Table.{addresses, pool_slots, lease_slots, no_pool, pool_prefix, prefix_of, prefixes_of, pools_of, present, sound}
use Rattle.table.proofs.TableLaws.{GoodPool, Good, sound-pools, sound-fine, sound-used}
use Rattle.image.specs.Image.{head_size, pool_size, lease_size, used_pools, used_leases}
use Rattle.image.specs.Reading.{pool_in}
use Rattle.image_check.specs.declared.ImageSummary.{ImageSummary}
use Rattle.image_records.specs.Records.{Records, Ascending}
use Rattle.image_records.proofs.RecordLaws.{records-drop, first-stay}
use Rattle.image_records.proofs.PoolRecords.{image-pools}
use Rattle.ledger.specs.Ledger.{Call, nothing?, narrowed_to, narrowed, on_ground, usable_leases}
use Rattle.ledger.proofs.GroundLaws.{narrowed_none, ground-whole}
use Rattle.call_spec.specs.ImageCalls.{Lent, table_in, carried_if}
use Rattle.call_rows.specs.Admission.{Admitted, selection_read}
use Rattle.call_ground.specs.declared.{LeaseRange.LeaseRange, Ground.Ground}
use Rattle.std.specs.Prelude.{Option as Found, Some, None, Ok, Err, is_some, IfSome}
use Rattle.option.specs.Selection.{selection?}
use Rattle.ledger.specs.declared.Refusal.TheVariants.{NotTheOption}
use Rattle.call_ground.specs.Ground.{Index, PoolOf, LeasesIn, starts_in?, on_it?, leases_in, OfAdmitted, Grounds, GroundOf}
use Rattle.call_ground.proofs.PoolLaws.{pool_at}
use Rattle.call_ground.proofs.RangeLaws.{ascending-drop}
use Rattle.call_ground.proofs.LeaseLaws.{starts-inside}
use Rattle.call_ground.proofs.RowLaws.{ground-is, groundless, ground-one, grounded, ground-member, always-grounded}

-- THE LEASES BEFORE THE GROUND, ON IT, AND AFTER IT

pub split : {A : Type 0} (first count : ℕ) (xs : List A) → xs ≡ take first xs ++ (take count (drop first xs) ++ drop (first + count) xs)
split first count xs =
    sym (together first xs)
    ∙ ap (λ (l : List _). take first xs ++ l) (sym (together count (drop first xs)) ∙ ap (λ (l : List _). take count (drop first xs) ++ l) (drop-drop count first xs))
  where
    together : {A : Type 0} (n : ℕ) (l : List A) → take n l ++ drop n l ≡ l
    together zero l = refl
    together (suc n) [] = refl
    together (suc n) (x ∷ l) = ap (λ (k : List _). x ∷ k) (together n l)

-- Where a part of a list has all that passes a test, that part passes and the others fail.
module _ {A : Type 0} (f : A → Bool) (first count : ℕ) (xs : List A) (e : take count (drop first xs) ≡ filter f xs) where
  abbrev the_before : List A
  the_before = take first xs

  abbrev the_on : List A
  the_on = take count (drop first xs)

  abbrev the_after : List A
  the_after = drop (first + count) xs

  part-passes : All (λ x. f x ≡ true) the_on
  part-passes = subst (All (λ x. f x ≡ true)) (sym e) (filter-pass f xs)

  counted : length (filter f the_before) + (length the_on + length (filter f the_after)) ≡ length the_on
  counted =
      let parts : filter f xs ≡ filter f the_before ++ (filter f the_on ++ filter f the_after) =
      ap (filter f) (split first count xs)
      ∙ filter-append f the_before (the_on ++ the_after)
      ∙ ap (λ (l : List A). filter f the_before ++ l) (filter-append f the_on the_after) in
      let sizes : length the_on ≡ length (filter f the_before) + length (filter f the_on ++ filter f the_after) =
      ap length (e ∙ parts) ∙ length-append (filter f the_before) (filter f the_on ++ filter f the_after) in
      let whole : length (filter f the_on) ≡ length the_on = ap length (filter-whole f the_on part-passes) in
      omega (arith, sizes, whole, length-append (filter f the_on) (filter f the_after))

  others-fail : All (λ x. f x ≡ false) (the_before ++ the_after)
  others-fail =
      all_append (λ x. f x ≡ false) the_before the_after (none_of f the_before (omega (arith, counted))) (none_of f the_after (omega (arith, counted)))

-- WHAT IS KNOWN OF AN IMAGE THAT IS ADMITTED

-- Its leases stand in it.
pub admitted-room : (image : List ℕ) (summary : ImageSummary) → OfAdmitted image summary → head_size + pool_size * summary.pools + lease_size * summary.leases ≤ length image
admitted-room image summary o = subst (λ (l : List ℕ). head_size + pool_size * summary.pools + lease_size * summary.leases ≤ length l) o.same (omega (arith, o.admitted.size, o.admitted.within))

pub admitted-small : (image : List ℕ) (summary : ImageSummary) → OfAdmitted image summary → (summary.pools ≤ pool_slots) × (summary.leases ≤ lease_slots)
admitted-small image summary o = (o.admitted.few-pools, o.admitted.few-leases)

abbrev pub theirs : LeaseTable → ℕ → Prefix
theirs t r = pool_prefix (get_or (used_pools t) r no_pool)

module _ (h : Lent) (time client : ℕ) (summary : ImageSummary) (a : Admitted true h time client summary) (image : List ℕ) (same : h.image ≡ image) (r : ℕ) (k : r < summary.pools) where
  -- A pool, read from it.
  pub pool-there : pool_prefix (pool_at image r) ≡ theirs (table_in h) r
  pool-there =
      ap (λ (l : List ℕ). pool_prefix (pool_at l r)) (sym same)
      ∙ ap (λ (l : List ℕ). pool_prefix (pool_in l)) (sym (drop-drop (pool_size * r) head_size h.image))
      ∙ ap pool_prefix (image-pools (table_in h) h.image h.bytes a.image r (omega (arith, a.pools)))

  pool-ends : end (pool_prefix (pool_at image r)) ≤ addresses
  pool-ends =
      subst (λ (p : Prefix). end p ≤ addresses) (sym pool-there) (all-at GoodPool (used_pools (table_in h)) (sound-pools (table_in h) a.sound).good r no_pool (omega (arith, a.pools))).within

pub admitted-ends : (image : List ℕ) (summary : ImageSummary) → OfAdmitted image summary → (r : ℕ) → r < summary.pools → end (pool_prefix (pool_at image r)) ≤ addresses
admitted-ends image summary o r k = pool-ends o.lent o.time o.client summary o.admitted image o.same r k

-- WHAT THE READER OF OPTION 118 ANSWERED: the call carries none, or one with this address.

pub read-none : (o : Option (List ℕ)) → Ok None ≡ selection_read o → o ≡ none
read-none none e = refl
read-none (some s) e = go (selection? s) e
  where
    go : (b : Bool) → Ok None ≡ cond b (Ok (Some (four s 2))) (Err NotTheOption) → some s ≡ none
    go true e = cc
    go false e = cc

pub read-some : (o : Option (List ℕ)) (a : ℕ) → Ok (Some a) ≡ selection_read o → (s : List ℕ) × (o ≡ some s) × (a ≡ four s 2)
read-some none a e = cc
read-some (some s) a e = (s, refl, go (selection? s) e)
  where
    go : (b : Bool) → Ok (Some a) ≡ cond b (Ok (Some (four s 2))) (Err NotTheOption) → a ≡ four s 2
    go true e = cc
    go false e = cc

-- What `ground_of` says of every option that a call may carry, it says of what was read.
pub ground-read : (image : List ℕ) (summary : ImageSummary) (address : Found ℕ) (r : Found Ground)
    → ((h : Lent) (time : ℕ) (c : Call) (s : List ℕ) → h.image ≡ image → Admitted true h time c.client summary → c.selection ≡ carried_if (is_some address) s
    → IfSome address (λ n. n ≡ four s 2) → GroundOf h c summary r)
    → (h : Lent) (time : ℕ) (c : Call) → h.image ≡ image → Admitted true h time c.client summary → Ok address ≡ selection_read c.selection → GroundOf h c summary r
ground-read image summary address r says h time c same admitted read =
    let k = carried address c.selection read in
    says h time c k.0 same admitted k.1 k.2
  where
    carried : (a : Found ℕ) (o : Option (List ℕ)) → Ok a ≡ selection_read o → (s : List ℕ) × (o ≡ carried_if (is_some a) s) × IfSome a (λ n. n ≡ four s 2)
    carried None o e = ([], read-none o e, tt)
    carried (Some a) o e = read-some o a e

-- THE GROUND OF A CALL

-- Every lease of a sound table lies in a pool, also one that has ended.
used-pooled : (t : LeaseTable) → sound t ≡ true → All (λ x. Any (Inside (prefix_of x)) (pools_of t)) (used_leases t)
used-pooled t e =
    all_map (λ (x : Lease) (k : Good (pools_of t) t.last x). k.pooled) (used_leases t)
    (subst (All (Good (pools_of t) t.last)) (sym (sound-used t e)) (sound-fine t e t.last).0)

on-it : (o p : Option (List ℕ)) (t : LeaseTable) (b : Bool) (xs : List Lease) → o ≡ p → All (λ x. on_it? p t x ≡ b) xs → All (λ x. on_it? o t x ≡ b) xs
on-it o p t b xs e a = subst (λ (q : Option (List ℕ)). All (λ (x : Lease). on_it? q t x ≡ b) xs) (sym e) a

narrowed-to : (t : LeaseTable) (c : Call) (s : List ℕ) → c.selection ≡ some s → pools_of (narrowed_to (some s) t) ≡ pools_of (narrowed t c)
unfolding narrowed
narrowed-to t c s e = ap (λ (o : Option (List ℕ)). pools_of (narrowed_to o t)) (sym e)

module _ (h : Lent) (time : ℕ) (c : Call) (summary : ImageSummary) (a : Admitted true h time c.client summary) where
  abbrev the_table : LeaseTable
  the_table = table_in h

  -- Without option 118 all of it.
  pub grounds-all : c.selection ≡ none → Grounds h c summary (record { pool = 0; pools = summary.pools; first = 0; leases = summary.leases })
  unfolding prefixes_of
  grounds-all free =
      let same : pools_of (narrowed the_table c) ≡ pools_of the_table = ap pools_of (narrowed_none the_table c free) in
      let all : take summary.pools (used_pools the_table) ≡ used_pools the_table = take_all summary.pools (used_pools the_table) (omega (arith, a.pools)) in
      let none_after : drop (0 + summary.leases) (used_leases the_table) ≡ [] = drop_all (0 + summary.leases) (used_leases the_table) (omega (arith, a.leases)) in
      record {
        few-pools = omega arith;
        few-leases = omega arith;
        row = always-grounded the_table a.sound c free;
        pools-are = same ∙ ap (map pool_prefix) (sym all);
        inside = on-it c.selection none the_table true (take summary.leases (used_leases the_table)) free (all-every (λ x. refl) (take summary.leases (used_leases the_table)));
        outside = subst (All (λ x. on_it? c.selection the_table x ≡ false)) (sym none_after) tt;
      }
    where
      drop_all : {A : Type 0} (n : ℕ) (l : List A) → length l ≤ n → drop n l ≡ []
      drop_all zero [] k = refl
      drop_all zero (x ∷ l) k = absurd (omega arith)
      drop_all (suc n) [] k = refl
      drop_all (suc n) (x ∷ l) k = drop_all n l (omega arith)

  -- With it the pool that contains its address.
  module _ (s : List ℕ) (carries : c.selection ≡ some s) (address : ℕ) (four_is : address ≡ four s 2) (image : List ℕ) (same : h.image ≡ image) where
    there : (r : Index) → PoolOf image summary.pools address r → PoolOf h.image summary.pools address r
    there r found = subst (λ (l : List ℕ). PoolOf l summary.pools address r) (sym same) found

    pub grounds-none : PoolOf image summary.pools address None → nothing? (pools_of (narrowed the_table c)) ≡ true
    grounds-none found = groundless the_table a.sound h.image h.bytes a.image summary.pools address None a.pools (there None found) c s carries four_is refl

    pub grounds-one : (k : ℕ) → PoolOf image summary.pools address (Some k) → (range : LeaseRange) → range.first + range.count ≤ summary.leases
        → ((xs : List Lease) → Records image (head_size + pool_size * summary.pools) xs → summary.leases ≡ length xs → Ascending xs → LeasesIn (pool_prefix (pool_at image k)) xs range)
        → Grounds h c summary (record { pool = k; pools = 1; first = range.first; leases = range.count })
    grounds-one k found range few finds =
        let p = there (Some k) found in
        let lt : k < summary.pools = found.within in
        let t : LeaseTable = the_table in
        let is : LeasesIn (theirs t k) (used_leases t) range =
        subst (λ (q : Prefix). LeasesIn q (used_leases t) range) (pool-there h time c.client summary a image same k lt)
        (finds (used_leases t) (subst (λ (l : List ℕ). Records l (head_size + pool_size * summary.pools) (used_leases t)) same a.records) a.leases a.ascending) in
        let xs : List Lease = used_leases t in
        let q : Prefix = theirs t k in
        let one : pools_of (narrowed t c) ≡ q ∷ [] = ground-one t a.sound h.image h.bytes a.image summary.pools address (Some k) a.pools p c s carries four_is k refl lt in
        let here : pools_of (narrowed_to (some s) t) ≡ q ∷ [] = narrowed-to t c s carries ∙ one in
        let member = ground-member t a.sound h.image h.bytes a.image summary.pools address (Some k) a.pools p c s carries four_is k refl lt in
        let tests : All (λ x. on_it? (some s) t x ≡ starts_in? q x) xs =
        all_map
        (λ (x : Lease) (z : Any (Inside (prefix_of x)) (pools_of t)).
        ap (any? (inside? (prefix_of x))) here ∙ sym (starts-inside (pools_of t) (ground-whole t a.sound).good.disjoint q member x z)) xs (used-pooled t a.sound) in
        let parts = subst (All (λ x. on_it? (some s) t x ≡ starts_in? q x)) (split range.first range.count xs) tests in
        let before : List Lease = take range.first xs in
        let on : List Lease = take range.count (drop range.first xs) in
        let after : List Lease = drop (range.first + range.count) xs in
        let same : Lease → Type 0 = λ x. on_it? (some s) t x ≡ starts_in? q x in
        let rest = all_right same before (on ++ after) parts in
        let fail = others-fail (starts_in? q) range.first range.count xs is in
        record {
          few-pools = omega arith;
          few-leases = few;
          row = grounded t a.sound h.image h.bytes a.image summary.pools address (Some k) a.pools p c s carries four_is k refl lt;
          pools-are = ground-is t a.sound h.image h.bytes a.image summary.pools address (Some k) a.pools p c s carries four_is;
          inside =
              on-it c.selection (some s) t true on carries
              (all-map₂ (λ x (u : same x) (v : starts_in? q x ≡ true). u ∙ v) on (all_left same on after rest) (part-passes (starts_in? q) range.first range.count xs is));
          outside =
              on-it c.selection (some s) t false (before ++ after) carries
              (all-map₂ (λ x (u : same x) (v : starts_in? q x ≡ false). u ∙ v) (before ++ after) (all_append same before after (all_left same before (on ++ after) parts) (all_right same on after rest)) fail);
        }

-- WHAT THE GROUND GIVES TO A CALL

-- The leases of the table: those before the ground, on it, and after it.
pub grounds-split : (g : Ground) (xs : List Lease) → xs ≡ take g.first xs ++ (leases_in g xs ++ drop (g.first + g.leases) xs)
grounds-split g xs = split g.first g.leases xs

ascending-take : (n : ℕ) (xs : List Lease) → Ascending xs → Ascending (take n xs)
unfolding Ascending
ascending-take zero xs a = tt
ascending-take (suc n) [] a = tt
ascending-take (suc n) (x ∷ xs) a = (all_take (λ y. x.network < y.network) n xs a.0, ascending-take n xs a.1)
  where
    all_take : (P : Lease → Type 0) (n : ℕ) (xs : List Lease) → All P xs → All P (take n xs)
    all_take P zero xs b = tt
    all_take P (suc n) [] b = tt
    all_take P (suc n) (x ∷ xs) b = (b.0, all_take P n xs b.1)

module _ (h : Lent) (c : Call) (summary : ImageSummary) (g : Ground) (k : Grounds h c summary g) where
  abbrev it : Lease → Bool
  it x = on_it? c.selection (table_in h) x

  grounds-filtered : filter it (used_leases (table_in h)) ≡ leases_in g (used_leases (table_in h))
  grounds-filtered =
      let xs : List Lease = used_leases (table_in h) in
      let before : List Lease = take g.first xs in
      let on : List Lease = leases_in g xs in
      let after : List Lease = drop (g.first + g.leases) xs in
      let no-before : filter it before ≡ [] = filter_none it before (all_left (λ x. it x ≡ false) before after k.outside) in
      let no-after : filter it after ≡ [] = filter_none it after (all_right (λ x. it x ≡ false) before after k.outside) in
      ap (filter it) (grounds-split g xs)
      ∙ filter-append it before (on ++ after)
      ∙ ap₂ (λ (l m : List Lease). l ++ m) no-before (filter-append it on after ∙ ap₂ (λ (l m : List Lease). l ++ m) (filter-whole it on k.inside) no-after)
      ∙ append-nil on

  -- The leases that the call may use are those of them that are present.
  pub grounds-usable : (now : ℕ) → usable_leases (table_in h) c (present now (used_leases (table_in h))) ≡ present now (leases_in g (used_leases (table_in h)))
  unfolding usable_leases present
  grounds-usable now =
      let xs : List Lease = used_leases (table_in h) in
      let later : Lease → Bool = λ x. ltb now x.expires in
      on-filter c.selection (table_in h) (filter later xs)
      ∙ filter-filter later it xs
      ∙ filter_same (λ x. later x && it x) (λ x. it x && later x) (λ x. swap (later x) (it x)) xs
      ∙ sym (filter-filter it later xs)
      ∙ ap (filter later) grounds-filtered
    where
      on-filter : (o : Option (List ℕ)) (t : LeaseTable) (ys : List Lease) → on_ground o t prefix_of ys ≡ filter (on_it? o t) ys
      on-filter none t ys = sym (filter-whole (λ x. true) ys (all-every (λ x. refl) ys))
      on-filter (some s) t ys = refl

      swap : (a b : Bool) → (a && b) ≡ (b && a)
      swap true true = refl
      swap true false = refl
      swap false true = refl
      swap false false = refl

  -- So also where the call is admitted, of all that its table has.
  pub grounds-present : (now client : ℕ) → Admitted true h now client summary → usable_leases (table_in h) c (present now (table_in h).leases) ≡ present now (leases_in g (used_leases (table_in h)))
  grounds-present now client a = ap (usable_leases (table_in h) c) a.present-used ∙ grounds-usable now

  -- They stand in the image after those before them, and ascend.
  module _ (now client : ℕ) (a : Admitted true h now client summary) where
    pub grounds-count : length (leases_in g (used_leases (table_in h))) ≡ g.leases
    grounds-count =
        let xs : List Lease = used_leases (table_in h) in
        length-take-le g.leases (drop g.first xs) (omega (arith, length-drop g.first xs, a.leases, k.few-leases))

    pub grounds-records : Records h.image (head_size + pool_size * summary.pools + lease_size * g.first) (leases_in g (used_leases (table_in h)))
    grounds-records =
        let xs : List Lease = used_leases (table_in h) in
        let from : ℕ = head_size + pool_size * summary.pools in
        let after = records-drop h.image from xs a.records g.first (omega (arith, a.leases, k.few-leases)) in
        subst (λ (l : List ℕ). Records l (from + lease_size * g.first) (leases_in g xs)) (put-nothing h.image (from + lease_size * g.first + lease_size * g.leases))
        (first-stay h.image (from + lease_size * g.first) (drop g.first xs) after g.leases (omega (arith, length-drop g.first xs, a.leases, k.few-leases))
        (omega (arith, a.size, a.within, a.leases, k.few-leases)) (from + lease_size * g.first + lease_size * g.leases) [] (omega arith))

    pub grounds-ascending : Ascending (leases_in g (used_leases (table_in h)))
    grounds-ascending = ascending-take g.leases (drop g.first (used_leases (table_in h))) (ascending-drop g.first (used_leases (table_in h)) a.ascending)
