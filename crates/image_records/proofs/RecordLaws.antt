-- Laws of leases that stand as records in a buffer: reading one, editing one, and writing all of them anew.
-- Assumes nothing.
use Prim.Native.Nat.{ℕ, zero, suc, ◌+◌, ◌-◌, ◌*◌, ◌≤◌, ◌<◌}
use native.Mathlib.Omega.{arith}
use mathlib.Core.Path.{◌≡◌, refl, sym, ap, ap₂, subst, ◌∙◌}
use mathlib.Core.Logic.{⊎_elim}
use mathlib.Core.Bool.{Bool, true, false, cond}
use mathlib.Core.List.{List, [], ◌∷◌, ◌++◌, append_assoc}
use mathlib.Core.Option.{none, some}
use lib.ListN.{length, set, get_or, take, drop, length-append, length-drop, length-set, replicate, take-append-drop}
use lib.Seq.{drop-drop, drop_at, take-add, take_at, take_all, length-take-le}
use Rattle.lists.specs.Lists.{and, concat_map}
use Rattle.lists.specs.Put.{put}
use Rattle.lists.proofs.Tests.{bool_cases}
use Rattle.lists.proofs.DropLaws.{drop_at as list_at}
use Rattle.lists.proofs.ConcatMapLaws.{concat_map-append}
use Rattle.lists.proofs.PutLaws.{put-append, length-put}
use Rattle.names.specs.Names.{octets, spells, name_octets, name_in}
use Rattle.table.specs.declared.Lease.{Lease}
use Rattle.table.specs.Table.{no_lease, empty?}
use Rattle.table.proofs.TableLaws.{empty-to}
use Rattle.image.specs.Fields.{number32}
use Rattle.image.specs.Image.{le16, le32, lease_size, lease_record_in, lease_record}
use Rattle.image.specs.Reading.{lease_in, lease_tests, lease_at_in}
use Rattle.image.proofs.ImageLaws.{lease-reads, length-lease, length-concat_map}
use Rattle.image_records.specs.Records.{Records}
use Rattle.image_records.proofs.PutForms.{take_put, drop-put, drop-put-at, put-behind, put_front, put-inside, put_same, put-upon}

-- A RECORD READS BACK

some_is : {A : Type 0} (b : Bool) (x y : A) → cond b (some x) none ≡ some y → x ≡ y
some_is true x y e = cc
some_is false x y e = let z : ◌≡◌ {A = ℕ} 0 1 = cc in absurd (omega arith)

none_read : (q : List ℕ) → lease_in (lease_record no_lease ++ q) ≡ no_lease
unfolding lease_record_in le16 le32 number32 name_octets octets name_in spells
none_read q = refl

pub lease-read : (x : Lease) (q : List ℕ) → lease_in (lease_record x ++ q) ≡ x
unfolding lease_at_in
lease-read x q =
    ⊎_elim
    (λ (e : empty? x ≡ true). let n = empty-to x e in ap (λ (y : Lease). lease_in (lease_record y ++ q)) n ∙ none_read q ∙ sym n)
    (λ (e : empty? x ≡ false). some_is (and (lease_tests (lease_record x ++ q))) (lease_in (lease_record x ++ q)) x (lease-reads x q e))
    (bool_cases (empty? x))

pub length-leases : (xs : List Lease) → length (concat_map lease_record xs) ≡ lease_size * length xs
length-leases xs = length-concat_map lease_record lease_size length-lease xs

-- LEASES IN PLACE

concat_map-drop : (xs : List Lease) (i : ℕ) (q : List ℕ) → i ≤ length xs → drop (lease_size * i) (concat_map lease_record xs ++ q) ≡ concat_map lease_record (drop i xs) ++ q
concat_map-drop xs zero q h = refl
concat_map-drop [] (suc i) q h = absurd (omega arith)
concat_map-drop (x ∷ xs) (suc i) q h =
    let rest : List ℕ = concat_map lease_record xs ++ q in
    let e : lease_size * suc i ≡ lease_size + lease_size * i = omega arith in
    ap (drop (lease_size * suc i)) (append_assoc (lease_record x) (concat_map lease_record xs) q)
    ∙ ap (λ (k : ℕ). drop k (lease_record x ++ rest)) e
    ∙ sym (drop-drop (lease_size * i) lease_size (lease_record x ++ rest))
    ∙ ap (drop (lease_size * i)) (drop_at (lease_record x) rest lease_size (length-lease x))
    ∙ concat_map-drop xs i q (omega arith)

module _ (l : List ℕ) (from : ℕ) (xs : List Lease) (r : Records l from xs) where
  -- Where there is a lease, the buffer has room for all of them.
  pub records-room : 0 < length xs → from + lease_size * length xs ≤ length l
  unfolding Records
  records-room h =
      let size = ap length r ∙ length-append (concat_map lease_record xs) (drop (from + lease_size * length xs) l) in
      omega (arith, size, length-leases xs, length-drop from l, length-drop (from + lease_size * length xs) l)

  -- The leases from the i-th on stand from there on.
  pub records-drop : (i : ℕ) → i ≤ length xs → Records l (from + lease_size * i) (drop i xs)
  unfolding Records
  records-drop i h =
      let e : from + lease_size * length xs ≡ from + lease_size * i + lease_size * length (drop i xs) = omega (arith, length-drop i xs) in
      sym (drop-drop (lease_size * i) from l)
      ∙ ap (drop (lease_size * i)) r
      ∙ concat_map-drop xs i (drop (from + lease_size * length xs) l) h
      ∙ ap (λ (k : ℕ). concat_map lease_record (drop i xs) ++ drop k l) e

pub records-first : (l : List ℕ) (from : ℕ) (x : Lease) (xs : List Lease) → Records l from (x ∷ xs) → drop from l ≡ lease_record x ++ drop (from + lease_size) l
unfolding Records
records-first l from x xs r =
    let rest : List ℕ = drop (from + lease_size * length (x ∷ xs)) l in
    let here : drop from l ≡ lease_record x ++ (concat_map lease_record xs ++ rest) = r ∙ append_assoc (lease_record x) (concat_map lease_record xs) rest in
    let next : concat_map lease_record xs ++ rest ≡ drop (from + lease_size) l =
    sym (drop_at (lease_record x) (concat_map lease_record xs ++ rest) lease_size (length-lease x)) ∙ ap (drop lease_size) (sym here) ∙ drop-drop lease_size from l in
    here ∙ ap (λ (s : List ℕ). lease_record x ++ s) next

module _ (l : List ℕ) (from : ℕ) (xs : List Lease) (r : Records l from xs) (i : ℕ) (h : i < length xs) where
  -- The record of the i-th lease.
  pub record-at : drop (from + lease_size * i) l ≡ lease_record (get_or xs i no_lease) ++ drop (from + lease_size * i + lease_size) l
  record-at =
      records-first l (from + lease_size * i) (get_or xs i no_lease) (drop (i + 1) xs)
      (subst (Records l (from + lease_size * i)) (list_at xs i no_lease h) (records-drop l from xs r i (omega arith)))

  pub lease-in-place : lease_in (drop (from + lease_size * i) l) ≡ get_or xs i no_lease
  lease-in-place = ap lease_in record-at ∙ lease-read (get_or xs i no_lease) (drop (from + lease_size * i + lease_size) l)

  pub record-within : from + lease_size * i + lease_size ≤ length l
  record-within = omega (arith, records-room l from xs r (omega arith))

-- THE FIRST OF THEM

module _ (l : List ℕ) (from : ℕ) (xs : List Lease) (r : Records l from xs) (m : ℕ) (h : m ≤ length xs) where
  size-first : length (concat_map lease_record (take m xs)) ≡ lease_size * m
  size-first = omega (arith, length-leases (take m xs), length-take-le m xs h)

  records-split : drop from l ≡ concat_map lease_record (take m xs) ++ (concat_map lease_record (drop m xs) ++ drop (from + lease_size * length xs) l)
  unfolding Records
  records-split =
      let q : List ℕ = drop (from + lease_size * length xs) l in
      r ∙ ap (λ (ys : List Lease). concat_map lease_record ys ++ q) (sym (take-append-drop m xs))
      ∙ ap (λ (b : List ℕ). b ++ q) (concat_map-append lease_record (take m xs) (drop m xs))
      ∙ append_assoc (concat_map lease_record (take m xs)) (concat_map lease_record (drop m xs)) q

  pub first-are : take (from + lease_size * m) l ≡ take from l ++ concat_map lease_record (take m xs)
  first-are =
      let low : List ℕ = concat_map lease_record (take m xs) in
      take-add from (lease_size * m) l
      ∙ ap (λ (s : List ℕ). take from l ++ take (lease_size * m) s) records-split
      ∙ ap (λ (s : List ℕ). take from l ++ s) (take_at low (concat_map lease_record (drop m xs) ++ drop (from + lease_size * length xs) l) (lease_size * m) size-first)

  -- What is put behind the first m is put behind these.
  pub put-after-first : (bs : List ℕ) → put l (from + lease_size * m) bs ≡ put l from (concat_map lease_record (take m xs) ++ bs)
  put-after-first bs =
      let low : List ℕ = concat_map lease_record (take m xs) in
      let place : from + lease_size * m ≡ from + length low = omega (arith, size-first) in
      ap₂ (λ (b : List ℕ) (k : ℕ). put b k bs) (sym (put_same low l from (concat_map lease_record (drop m xs) ++ drop (from + lease_size * length xs) l) records-split)) place
      ∙ put-append low l from bs

  -- And leaves them where they stand.
  pub first-stay : from ≤ length l → (at : ℕ) (bs : List ℕ) → from + lease_size * m ≤ at → Records (put l at bs) from (take m xs)
  unfolding Records
  first-stay within at bs behind =
      let low : List ℕ = concat_map lease_record (take m xs) in
      let l₁ : List ℕ = put l at bs in
      let end : ℕ = from + lease_size * m in
      let front : take end l₁ ≡ take from l ++ low = take_put bs l at end behind ∙ first-are in
      let place : end ≡ from + lease_size * length (take m xs) = omega (arith, length-take-le m xs h) in
      ap (drop from) (sym (take-append-drop end l₁) ∙ ap (λ (s : List ℕ). s ++ drop end l₁) front ∙ append_assoc (take from l) low (drop end l₁))
      ∙ drop_at (take from l) (low ++ drop end l₁) from (length-take-le from l within)
      ∙ ap (λ (k : ℕ). low ++ drop k l₁) place

-- WRITTEN ANEW

-- All of them put from `from` on stand there.
pub put-records : (l : List ℕ) (from : ℕ) (ys : List Lease) → from + lease_size * length ys ≤ length l → Records (put l from (concat_map lease_record ys)) from ys
unfolding Records
put-records l from ys h =
    let zs : List ℕ = concat_map lease_record ys in
    let size = length-leases ys in
    drop-put-at zs l from (omega (arith, size))
    ∙ ap (λ (k : ℕ). zs ++ drop (from + k) l) size
    ∙ ap (λ (q : List ℕ). zs ++ q) (sym (drop-put zs l from (from + lease_size * length ys) (omega (arith, size))))

-- Those that stand there already change nothing.
pub put-leases-same : (l : List ℕ) (from : ℕ) (xs : List Lease) → Records l from xs → put l from (concat_map lease_record xs) ≡ l
unfolding Records
put-leases-same l from xs r = put_same (concat_map lease_record xs) l from (drop (from + lease_size * length xs) l) r

-- ONE OF THEM EDITED

edit-gathered : (xs : List Lease) (i : ℕ) (y : Lease) (q : List ℕ) → i < length xs
    → put (concat_map lease_record xs ++ q) (lease_size * i) (lease_record y) ≡ concat_map lease_record (set xs i y) ++ q
edit-gathered [] i y q h = absurd (omega arith)
edit-gathered (x ∷ xs) zero y q h =
    ap (λ (l : List ℕ). put l 0 (lease_record y)) (append_assoc (lease_record x) (concat_map lease_record xs) q)
    ∙ put_front (lease_record y) (lease_record x) (concat_map lease_record xs ++ q) (length-lease x ∙ sym (length-lease y))
    ∙ sym (append_assoc (lease_record y) (concat_map lease_record xs) q)
edit-gathered (x ∷ xs) (suc i) y q h =
    let rest : List ℕ = concat_map lease_record xs ++ q in
    let e : lease_size * suc i ≡ length (lease_record x) + lease_size * i = omega (arith, length-lease x) in
    ap₂ (λ (l : List ℕ) (k : ℕ). put l k (lease_record y)) (append_assoc (lease_record x) (concat_map lease_record xs) q) e
    ∙ put-behind (lease_record y) (lease_record x) rest (lease_size * i)
    ∙ ap (λ (l : List ℕ). lease_record x ++ l) (edit-gathered xs i y q (omega arith))
    ∙ sym (append_assoc (lease_record x) (concat_map lease_record (set xs i y)) q)

module _ (l : List ℕ) (from : ℕ) (xs : List Lease) (r : Records l from xs) (i : ℕ) (h : i < length xs) (y : Lease) where
  pub edit-is : put l (from + lease_size * i) (lease_record y) ≡ put l from (concat_map lease_record (set xs i y))
  unfolding Records
  edit-is =
      let p : List ℕ = take from l in
      let q : List ℕ = drop (from + lease_size * length xs) l in
      let front : length p ≡ from = length-take-le from l (omega (arith, records-room l from xs r (omega arith))) in
      let here : l ≡ p ++ (concat_map lease_record xs ++ q) = sym (take-append-drop from l) ∙ ap (λ (s : List ℕ). p ++ s) r in
      let size : length (concat_map lease_record xs) ≡ length (concat_map lease_record (set xs i y)) = omega (arith, length-leases xs, length-leases (set xs i y), length-set xs i y) in
      ap₂ (λ (s : List ℕ) (k : ℕ). put s (k + lease_size * i) (lease_record y)) here (sym front)
      ∙ put-behind (lease_record y) p (concat_map lease_record xs ++ q) (lease_size * i)
      ∙ ap (λ (s : List ℕ). p ++ s) (edit-gathered xs i y q h)
      ∙ sym (put-inside from (concat_map lease_record (set xs i y)) p (concat_map lease_record xs) q front size)
      ∙ ap (λ (s : List ℕ). put s from (concat_map lease_record (set xs i y))) (sym here)

  pub edit-holds : Records (put l (from + lease_size * i) (lease_record y)) from (set xs i y)
  edit-holds =
      subst (λ (s : List ℕ). Records s from (set xs i y)) (sym edit-is)
      (put-records l from (set xs i y) (omega (arith, records-room l from xs r (omega arith), length-set xs i y)))

-- ZEROS BEHIND THEM

drop-zeros : (k m : ℕ) → drop {A = ℕ} k (replicate m 0) ≡ replicate (m - k) 0
drop-zeros zero m = let e : m ≡ m - 0 = omega arith in ap (λ (j : ℕ). replicate {A = ℕ} j 0) e
drop-zeros (suc k) zero = let e : 0 ≡ 0 - suc k = omega arith in ap (λ (j : ℕ). replicate {A = ℕ} j 0) e
drop-zeros (suc k) (suc m) = let e : m - k ≡ suc m - suc k = omega arith in drop-zeros k m ∙ ap (λ (j : ℕ). replicate {A = ℕ} j 0) e

-- More leases written over the first of n records, of which the others are zeros.
pub written_over : (l l₁ l₂ : List ℕ) (from n : ℕ) (ys zs : List Lease) → length ys ≤ length zs
    → l₁ ≡ put l from (concat_map lease_record ys ++ replicate (lease_size * (n - length ys)) 0) → l₂ ≡ put l₁ from (concat_map lease_record zs)
    → l₂ ≡ put l from (concat_map lease_record zs ++ replicate (lease_size * (n - length zs)) 0)
written_over l l₁ l₂ from n ys zs fewer e₁ e₂ =
    let old : List ℕ = concat_map lease_record ys in
    let new : List ℕ = concat_map lease_record zs in
    let zeros : List ℕ = replicate (lease_size * (n - length ys)) 0 in
    let more : length new ≡ length old + lease_size * (length zs - length ys) = omega (arith, length-leases ys, length-leases zs) in
    let left : lease_size * (n - length ys) - lease_size * (length zs - length ys) ≡ lease_size * (n - length zs) = omega arith in
    let behind : drop (length new) (old ++ zeros) ≡ replicate (lease_size * (n - length zs)) 0 =
    ap (λ (k : ℕ). drop k (old ++ zeros)) more
    ∙ sym (drop-drop (lease_size * (length zs - length ys)) (length old) (old ++ zeros))
    ∙ ap (drop (lease_size * (length zs - length ys))) (drop_at old zeros (length old) refl)
    ∙ drop-zeros (lease_size * (length zs - length ys)) (lease_size * (n - length ys))
    ∙ ap (λ (k : ℕ). replicate k 0) left in
    e₂
    ∙ ap (λ (m : List ℕ). put m from new) e₁
    ∙ put-upon (old ++ zeros) new l from
    ∙ ap (λ (s : List ℕ). put l from (new ++ s)) behind

-- Leases put there, with what is put behind them, stand there.
pub put-records-and : (l : List ℕ) (from : ℕ) (ys : List Lease) (s : List ℕ) → from + lease_size * length ys ≤ length l → Records (put l from (concat_map lease_record ys ++ s)) from ys
unfolding Records
put-records-and l from ys s h =
    let zs : List ℕ = concat_map lease_record ys in
    let l₁ : List ℕ = put l from zs in
    let behind : from + length zs ≡ from + lease_size * length ys = omega (arith, length-leases ys) in
    let whole : put l from (zs ++ s) ≡ put l₁ (from + lease_size * length ys) s = sym (put-append zs l from s) ∙ ap (λ (k : ℕ). put l₁ k s) behind in
    let stand = first-stay l₁ from ys (put-records l from ys h) (length ys) (omega arith) (omega (arith, length-put zs l from)) (from + lease_size * length ys) s (omega arith) in
    subst (λ (m : List ℕ). Records m from ys) (sym whole) (subst (Records (put l₁ (from + lease_size * length ys) s) from) (take_all (length ys) ys (omega arith)) stand)
