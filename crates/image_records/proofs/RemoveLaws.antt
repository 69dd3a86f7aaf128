-- Laws of removing expired leases in place: those of the first i that are present stand first, the later ones follow them, and zeros follow these.
-- Assumes nothing.
use Prim.Native.Nat.{ℕ, suc, ◌+◌, ◌-◌, ◌*◌, ◌≤◌, ◌<◌}
use native.Mathlib.Omega.{arith}
use native.Mathlib.Numerals.{add-one}
use mathlib.Core.Path.{◌≡◌, refl, sym, ap, ap₂, subst, ◌∙◌}
use mathlib.Core.Logic.{⊎_elim}
use mathlib.Core.Bool.{true, false}
use mathlib.Core.List.{List, [], ◌∷◌, ◌++◌, append_assoc, append-nil}
use lib.ListN.{length, set, get_or, take, drop, replicate, length-append, length-set, length-drop, length-replicate, take-append-drop}
use lib.Dec.{leb, ltb, eqb}
use lib.Seq.{take-suc, take_at, drop-drop, get_or-take, get_or-drop, get_or-set_other, length-take-le}
use mir.Val.{bool_byte}
use borrow.Author.Tests.{leb-true, leb-false, ltb-true, ltb-false, eqb-true, eqb-false}
use Rattle.lists.specs.Lists.{All, concat_map}
use Rattle.lists.specs.Put.{put}
use Rattle.lists.proofs.Tests.{bool_cases}
use Rattle.lists.proofs.IndexLaws.{all-at}
use Rattle.lists.proofs.FilterLaws.{filter-append, filter-pass}
use Rattle.lists.proofs.ConcatMapLaws.{concat_map-append, concat_map-one}
use Rattle.lists.proofs.PutLaws.{put-more, put-fits}
use Rattle.table.specs.declared.Lease.{Lease}
use Rattle.table.specs.Table.{no_lease, present}
use Rattle.table.proofs.TableLaws.{present?, present-yes, present-no}
use Rattle.image.specs.Image.{lease_size, lease_record}
use Rattle.image.specs.Reading.{lease_in}
use Rattle.image.proofs.ImageLaws.{length-lease}
use Rattle.image_records.specs.Records.{Records, ExpiredIn}
use Rattle.image_records.specs.Inner.{Closed}
use Rattle.image_records.proofs.PutForms.{take_put, take-put-at, drop-put}
use Rattle.image_records.proofs.RecordLaws.{length-leases, records-drop, record-at, lease-read, first-are}

-- WHERE THEY STAND

-- Leases of which none has expired are all present.
pub present-whole : (time : ℕ) (xs : List Lease) → ((k : ℕ) → k < length xs → time < (get_or xs k no_lease).expires) → present time xs ≡ xs
unfolding present
present-whole time [] h = refl
present-whole time (x ∷ xs) h =
    present-yes time x xs (h 0 (omega arith)) ∙ ap (λ (l : List Lease). x ∷ l) (present-whole time xs (λ k lt. h (suc k) (omega arith)))

pub whole-stays : (time : ℕ) (xs : List Lease) → present time xs ≡ xs → (k : ℕ) → k < length xs → time < (get_or xs k no_lease).expires
unfolding present
whole-stays time xs all k h =
    ltb-true time (get_or xs k no_lease).expires
    (all-at (λ x. present? time x ≡ true) xs (subst (All (λ x. present? time x ≡ true)) all (filter-pass (present? time) xs)) k no_lease h)

module _ (time first last : ℕ) (xs : List Lease) (p : ExpiredIn time first last xs) where
  -- One more can expire, if it stands between too.
  pub expired-more : (first₁ last₁ i : ℕ) → first₁ ≤ first → last ≤ last₁ → first₁ ≤ i → i < last₁ → (y : Lease) → ExpiredIn time first₁ last₁ (set xs i y)
  expired-more first₁ last₁ i a b c d y k h gone =
      ⊎_elim
      (λ (e : eqb k i ≡ true). let same = eqb-true k i e in (omega arith, omega arith))
      (λ (e : eqb k i ≡ false).
      let other = ap (λ (x : Lease). x.expires) (get_or-set_other xs i k y no_lease (eqb-false k i e)) in
      let before = p k (omega (arith, length-set xs i y)) (omega (arith, other)) in
      (omega arith, omega arith))
      (bool_cases (eqb k i))

  pub outside-stays : (k : ℕ) → k < length xs → (first ≤ k → k < last → ⊥) → time < (get_or xs k no_lease).expires
  outside-stays k h out =
      ⊎_elim
      (λ (e : leb (get_or xs k no_lease).expires time ≡ true). let i = p k h (leb-true (get_or xs k no_lease).expires time e) in absurd (out i.0 i.1))
      (λ (e : leb (get_or xs k no_lease).expires time ≡ false). leb-false (get_or xs k no_lease).expires time e)
      (bool_cases (leb (get_or xs k no_lease).expires time))

  -- Before them and after them all are present.
  pub before-stay : first ≤ length xs → present time (take first xs) ≡ take first xs
  before-stay h =
      let size = length-take-le first xs h in
      present-whole time (take first xs) (λ k lt. omega (arith, ap (λ (x : Lease). x.expires) (get_or-take first xs k no_lease (omega arith)), outside-stays k (omega arith) (λ a b. omega arith)))

  pub after-stay : present time (drop last xs) ≡ drop last xs
  after-stay =
      let size = length-drop last xs in
      present-whole time (drop last xs) (λ k lt. omega (arith, ap (λ (x : Lease). x.expires) (get_or-drop last xs k no_lease), outside-stays (last + k) (omega arith) (λ a b. omega arith)))

-- ONE BY ONE

present-one : (time : ℕ) (xs : List Lease) (i : ℕ) → i < length xs
    → present time (take (i + 1) xs) ≡ present time (take i xs) ++ present time (get_or xs i no_lease ∷ [])
unfolding present
present-one time xs i h =
    ap (λ (k : ℕ). present time (take k xs)) (add-one i)
    ∙ ap (present time) (take-suc xs i no_lease h)
    ∙ filter-append (present? time) (take i xs) (get_or xs i no_lease ∷ [])

module _ (time : ℕ) (xs : List Lease) (i : ℕ) (h : i < length xs) where
  present-more : time < (get_or xs i no_lease).expires → present time (take (i + 1) xs) ≡ present time (take i xs) ++ (get_or xs i no_lease ∷ [])
  unfolding present
  present-more e = present-one time xs i h ∙ ap (λ (ys : List Lease). present time (take i xs) ++ ys) (present-yes time (get_or xs i no_lease) [] e)

  present-skip : (get_or xs i no_lease).expires ≤ time → present time (take (i + 1) xs) ≡ present time (take i xs)
  unfolding present
  present-skip e =
      present-one time xs i h
      ∙ ap (λ (ys : List Lease). present time (take i xs) ++ ys) (present-no time (get_or xs i no_lease) [] e)
      ∙ append-nil (present time (take i xs))

-- A lease that is present counts as one.
pub one-if : (time end s : ℕ) → s ≡ bool_byte (ltb time end) → (s ≤ 1) × (time < end → s ≡ 1) × (end ≤ time → s ≡ 0)
one-if time end s e =
    ⊎_elim
    (λ (b : ltb time end ≡ true).
    let here = ltb-true time end b in
    let one : s ≡ 1 = e ∙ ap bool_byte b in (omega arith, (λ h. one), (λ h. absurd (omega arith))))
    (λ (b : ltb time end ≡ false).
    let gone = ltb-false time end b in
    let none : s ≡ 0 = e ∙ ap bool_byte b in (omega arith, (λ h. absurd (omega arith)), (λ h. none)))
    (bool_cases (ltb time end))

module _ (l : List ℕ) (from first time : ℕ) where
  pub closed-first : Closed l from first time l first first
  unfolding Closed
  closed-first xs r h all = (
    omega (arith, ap length all, length-take-le first xs h),
    first-are l from xs r first h ∙ ap (λ (ys : List Lease). take from l ++ concat_map lease_record ys) (sym all),
  )

  -- The next record is moved; it counts if it is present.
  module _ (image : List ℕ) (kept i : ℕ) (c : Closed l from first time image kept i) (le : kept ≤ i) (behind : drop (from + lease_size * i) image ≡ drop (from + lease_size * i) l)
      (size : length image ≡ length l) (room : from + lease_size * i + lease_size ≤ length l) (bytes : List ℕ) (copied : bytes ≡ take lease_size (drop (from + lease_size * i) image))
      (image₁ : List ℕ) (e₁ : image₁ ≡ put image (from + lease_size * kept) bytes) where
    pub closed-behind : drop (from + lease_size * (i + 1)) image₁ ≡ drop (from + lease_size * (i + 1)) l
    closed-behind =
        let small : length bytes ≡ lease_size = ap length copied ∙ length-take-le lease_size (drop (from + lease_size * i) image) (omega (arith, length-drop (from + lease_size * i) image)) in
        let past : from + lease_size * i + lease_size ≡ from + lease_size * (i + 1) = omega arith in
        let later : (m : List ℕ) → drop (from + lease_size * (i + 1)) m ≡ drop lease_size (drop (from + lease_size * i) m) = λ m. sym (drop-drop lease_size (from + lease_size * i) m ∙ ap (λ (k : ℕ). drop k m) past) in
        ap (drop (from + lease_size * (i + 1))) e₁
        ∙ drop-put bytes image (from + lease_size * kept) (from + lease_size * (i + 1)) (omega arith)
        ∙ later image ∙ ap (drop lease_size) behind ∙ sym (later l)

    module _ (xs : List Lease) (r : Records l from xs) (h : i < length xs) where
      here : drop (from + lease_size * i) image ≡ lease_record (get_or xs i no_lease) ++ drop (from + lease_size * i + lease_size) l
      here = behind ∙ record-at l from xs r i h

      moved : image₁ ≡ put image (from + lease_size * kept) (lease_record (get_or xs i no_lease))
      moved =
          let y : Lease = get_or xs i no_lease in
          e₁
          ∙ ap (put image (from + lease_size * kept))
          (copied ∙ ap (take lease_size) here ∙ take_at (lease_record y) (drop (from + lease_size * i + lease_size) l) lease_size (length-lease y))

    pub closed-more : (end : ℕ) → end ≡ (lease_in (drop (from + lease_size * i) image)).expires → (s : ℕ) → (time < end → s ≡ 1) → (end ≤ time → s ≡ 0)
        → Closed l from first time image₁ (kept + s) (i + 1)
    unfolding Closed
    closed-more end read s yes-one no_one xs r h all =
        let lt : i < length xs = omega arith in
        let now = c xs r (omega arith) all in
        let y : Lease = get_or xs i no_lease in
        let ys : List Lease = present time (take i xs) in
        let to : ℕ = from + lease_size * kept in
        let whole = moved xs r lt in
        let ends : end ≡ y.expires =
        read ∙ ap (λ (z : Lease). z.expires) (ap lease_in (here xs r lt) ∙ lease-read y (drop (from + lease_size * i + lease_size) l)) in
        ⊎_elim
        (λ (e : ltb time end ≡ true).
        let stays = ltb-true time end e in
        let one : s ≡ 1 = yes-one stays in
        let more = present-more time xs i lt (omega (arith, ends)) in
        let place : from + lease_size * (kept + s) ≡ to + length (lease_record y) = omega (arith, one, length-lease y) in (
          omega (arith, one, now.0, ap length more, length-append ys (y ∷ [])),
          ap₂ take place whole
              ∙ take-put-at (lease_record y) image to (omega (arith, length-lease y))
              ∙ ap (λ (b : List ℕ). b ++ lease_record y) now.1
              ∙ append_assoc (take from l) (concat_map lease_record ys) (lease_record y)
              ∙ ap (λ (b : List ℕ). take from l ++ b)
              (ap (λ (b : List ℕ). concat_map lease_record ys ++ b) (sym (concat_map-one lease_record y)) ∙ sym (concat_map-append lease_record ys (y ∷ [])) ∙ ap (concat_map lease_record) (sym more)),
        ))
        (λ (e : ltb time end ≡ false).
        let gone = ltb-false time end e in
        let none : s ≡ 0 = no_one gone in
        let same = present-skip time xs i lt (omega (arith, ends)) in
        let place : from + lease_size * (kept + s) ≡ to = omega (arith, none) in (
          omega (arith, none, now.0, ap length same),
          ap₂ take place whole
              ∙ take_put (lease_record y) image to to (omega arith)
              ∙ now.1
              ∙ ap (λ (zs : List Lease). take from l ++ concat_map lease_record zs) (sym same),
        ))
        (bool_cases (ltb time end))

-- ALL OF THEM

-- The later ones follow, and zeros follow these.
module _ (l : List ℕ) (from n first last time : ℕ) (a : first ≤ last) (b : last ≤ n) (room : from + lease_size * n ≤ length l) (image : List ℕ) (kept : ℕ) (le : kept ≤ last)
    (behind : drop (from + lease_size * last) image ≡ drop (from + lease_size * last) l) (c : Closed l from first time image kept last) (size : length image ≡ length l) (image₁ image₂ : List ℕ)
    (e₁ : image₁ ≡ put image (from + lease_size * kept) (take (lease_size * (n - last)) (drop (from + lease_size * last) image)))
    (e₂ : image₂ ≡ put image₁ (from + lease_size * (kept + (n - last))) (replicate (from + lease_size * n - (from + lease_size * (kept + (n - last)))) 0)) where
  pub removed : (xs : List Lease) → Records l from xs → n ≡ length xs → ExpiredIn time first last xs
      → (kept + (n - last) ≡ length (present time xs)) × (image₂ ≡ put l from (concat_map lease_record (present time xs) ++ replicate (lease_size * (n - (kept + (n - last)))) 0))
  unfolding Closed Records present
  removed xs r counted p =
      let now = c xs r (omega arith) (before-stay time first last xs p (omega arith)) in
      let ys : List Lease = present time (take last xs) in
      let zs : List Lease = drop last xs in
      let all : present time xs ≡ ys ++ zs =
      ap (present time) (sym (take-append-drop last xs)) ∙ filter-append (present? time) (take last xs) (drop last xs) ∙ ap (λ (q : List Lease). ys ++ q) (after-stay time first last xs p) in
      let at : ℕ = from + lease_size * kept in
      let rest : ℕ = lease_size * (n - (kept + (n - last))) in
      let rest-is : from + lease_size * n - (from + lease_size * (kept + (n - last))) ≡ rest = omega arith in
      let low : List ℕ = concat_map lease_record ys in
      let high : List ℕ = concat_map lease_record zs in
      let zeros : List ℕ = replicate rest 0 in
      let high-size : length high ≡ lease_size * (n - last) = omega (arith, length-leases zs, length-drop last xs) in
      let zeros-size : length zeros ≡ rest = length-replicate rest 0 in
      let moved : take (lease_size * (n - last)) (drop (from + lease_size * last) image) ≡ high =
      ap (take (lease_size * (n - last))) (behind ∙ records-drop l from xs r last (omega arith)) ∙ take_at high (drop (from + lease_size * last + lease_size * length zs) l) (lease_size * (n - last)) high-size in
      let whole : image₂ ≡ put image at (high ++ zeros) =
      put-more image image₁ image₂ at high (from + lease_size * (kept + (n - last))) zeros (e₁ ∙ ap (put image at) moved) (omega (arith, high-size)) (e₂ ∙ ap (λ (k : ℕ). put image₁ (from + lease_size * (kept + (n - last))) (replicate k 0)) rest-is) in
      let sum : length (high ++ zeros) ≡ lease_size * (n - kept) = length-append high zeros ∙ omega (arith, high-size, zeros-size) in
      let end : at + length (high ++ zeros) ≡ from + lease_size * n = omega (arith, sum) in
      let low-size : length low ≡ lease_size * kept = omega (arith, length-leases ys, now.0) in
      let end₁ : from + length (low ++ (high ++ zeros)) ≡ from + lease_size * n = omega (arith, length-append low (high ++ zeros), low-size, sum) in
      let more : from + lease_size * last + lease_size * (n - last) ≡ from + lease_size * n = omega arith in
      let later : (m : List ℕ) → drop (from + lease_size * n) m ≡ drop (lease_size * (n - last)) (drop (from + lease_size * last) m) = λ m. sym (drop-drop (lease_size * (n - last)) (from + lease_size * last) m ∙ ap (λ (k : ℕ). drop k m) more) in
      let tail : drop (from + lease_size * n) image ≡ drop (from + lease_size * n) l = later image ∙ ap (drop (lease_size * (n - last))) behind ∙ sym (later l) in
      let put-image : image₂ ≡ take from l ++ low ++ (high ++ zeros) ++ drop (from + lease_size * n) l =
      whole ∙ put-fits (high ++ zeros) image at (omega (arith, end)) ∙ ap₂ (λ (f : List ℕ) (k : ℕ). f ++ (high ++ zeros) ++ drop k image) now.1 end
      ∙ ap (λ (q : List ℕ). take from l ++ low ++ (high ++ zeros) ++ q) tail in
      let put-l : put l from (low ++ (high ++ zeros)) ≡ take from l ++ (low ++ (high ++ zeros)) ++ drop (from + lease_size * n) l =
      put-fits (low ++ (high ++ zeros)) l from (omega (arith, end₁)) ∙ ap (λ (k : ℕ). take from l ++ (low ++ (high ++ zeros)) ++ drop k l) end₁ in
      let same : low ++ (high ++ zeros) ≡ concat_map lease_record (present time xs) ++ zeros =
      sym (append_assoc low high zeros) ∙ ap (λ (q : List ℕ). q ++ zeros) (sym (concat_map-append lease_record ys zs) ∙ ap (concat_map lease_record) (sym all)) in (
        omega (arith, now.0, ap length all, length-append ys zs, length-drop last xs),
        put-image
            ∙ ap (λ (q : List ℕ). q ++ drop (from + lease_size * n) l) (append_assoc (take from l) low (high ++ zeros))
            ∙ sym put-l
            ∙ ap (put l from) same,
      )
