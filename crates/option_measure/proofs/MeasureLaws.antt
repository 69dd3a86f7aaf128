-- Measuring a list, element by element; and what makes an item's value writable or not.
-- Assumes nothing.
use Prim.Native.Nat.{ℕ, suc, ◌+◌, ◌*◌, ◌≤◌, ◌<◌}
use native.Mathlib.Omega.{arith}
use native.Mathlib.Numerals.{add-one}
use mathlib.Core.Path.{◌≡◌, refl, sym, ap, ◌∙◌}
use mathlib.Core.Bool.{Bool, true, false, cond, and-false}
use mathlib.Core.List.{List, ◌∷◌, map}
use lib.ListN.{length, get_or, take, drop, length-append, length-take, length-map, drop_of_length-le, get_or-map}
use lib.Seq.{drop-cons}
use lib.Dec.{leb}
use borrow.Author.Tests.{leb-true, leb-false, le-leb, lt-leb, eq-eqb, ne_eqb}
use Rattle.std.specs.Prelude.{Option, Some, None}
use Rattle.lists.specs.Lists.{all?, concat_map}
use Rattle.prefix.specs.Prefixes.{checked}
use Rattle.option.specs.Values.{Entry, SuboptionValue, information}
use Rattle.option.specs.Rules.{block?, final, entry_fields?, fields?}
use Rattle.option.specs.Writing.{entry_bytes, entries_bytes, suboption_bytes, suboptions_bytes}
use Rattle.option.specs.Writer.{entry_writable?, writable?}
use Rattle.option_entry.specs.declared.EntryFields.{EntryFields}
use Rattle.option.proofs.WritingLaws.{information-length}
use Rattle.option_measure.specs.Lists.{entry_of, part, information_in, name_in, listed, value_of}
use Rattle.option_measure.specs.Measuring.{measure_each, measure_of, measure_one, measure_list}
use Rattle.option_measure.specs.declared.InformationItem.{InformationItem}
use Rattle.option_measure.specs.declared.NameItem.{NameItem}
use Rattle.option_measure.specs.declared.Item.{Item}
use Rattle.option_measure.proofs.PartLaws.{length_part, length-map-part}
use Rattle.option_measure.proofs.EntryLengths.{figures-count, entry_next}

-- So many bytes more.
abbrev pub plus : ℕ → Option ℕ → Option ℕ
plus n (Some m) = Some (n + m)
plus n None = None

pub plus-zero : (m : Option ℕ) → plus 0 m ≡ m
plus-zero (Some m) = let e : 0 + m ≡ m = omega arith in ap Some e
plus-zero None = refl

plus-plus : (n k : ℕ) (m : Option ℕ) → plus n (plus k m) ≡ plus (n + k) m
plus-plus n k (Some m) = let e : n + (k + m) ≡ n + k + m = omega arith in ap Some e
plus-plus n k None = refl

-- What a length that is answered only where b holds tells.
pub some-picked : (b : Bool) (n : ℕ) (m : ℕ) → cond b (Some n) None ≡ Some m → (b ≡ true) × (n ≡ m)
some-picked true n m h = (refl, cc)
some-picked false n m h = let z : ◌≡◌ {A = ℕ} 0 1 = cc in absurd (omega arith)

pub none-left : (b : Bool) (n : ℕ) → cond b (Some n) None ≡ None → b ≡ false
none-left true n h = let z : ◌≡◌ {A = ℕ} 0 1 = cc in absurd (omega arith)
none-left false n h = refl

module _ {A : Type 0} (good : A → Bool) (bytes : A → List ℕ) where
  first_good : (x : A) (xs : List A) (b : Bool) → all? good xs ≡ b → good x ≡ true → measure_of good bytes (x ∷ xs) ≡ plus (length (bytes x)) (cond b (Some (length (concat_map bytes xs))) None)
  unfolding measure_of
  first_good x xs true e h = simp (h, e) (ap Some (length-append (bytes x) (concat_map bytes xs)))
  first_good x xs false e h = simp (h, e)

  measure-first : (x : A) (xs : List A) → good x ≡ true → measure_of good bytes (x ∷ xs) ≡ plus (length (bytes x)) (measure_of good bytes xs)
  unfolding measure_of
  measure-first x xs h = first_good x xs (all? good xs) refl h

  measure-bad : (x : A) (xs : List A) → good x ≡ false → measure_of good bytes (x ∷ xs) ≡ None
  unfolding measure_of
  measure-bad x xs h = simp h

  -- From the element at i on, by what that element is.
  module _ (l : List A) (i n : ℕ) (d : A) (h : i < length l) where
    rest : drop i l ≡ get_or l i d ∷ drop (i + 1) l
    rest = drop-cons l i d h ∙ ap (λ (k : ℕ). get_or l i d ∷ drop k l) (sym (add-one i))

    pub measure-more : (x : A) (k : ℕ) → get_or l i d ≡ x → good x ≡ true → length (bytes x) ≡ k
        → plus n (measure_of good bytes (drop i l)) ≡ plus (n + k) (measure_of good bytes (drop (i + 1) l))
    measure-more x k e g s =
        ap (λ (r : List A). plus n (measure_of good bytes r)) (rest ∙ ap (λ (y : A). y ∷ drop (i + 1) l) e)
        ∙ ap (plus n) (measure-first x (drop (i + 1) l) g)
        ∙ plus-plus n (length (bytes x)) (measure_of good bytes (drop (i + 1) l))
        ∙ ap (λ (m : ℕ). plus (n + m) (measure_of good bytes (drop (i + 1) l))) s

    pub measure-stop : (x : A) → get_or l i d ≡ x → good x ≡ false → plus n (measure_of good bytes (drop i l)) ≡ None
    measure-stop x e g =
        ap (λ (r : List A). plus n (measure_of good bytes r)) (rest ∙ ap (λ (y : A). y ∷ drop (i + 1) l) e)
        ∙ ap (plus n) (measure-bad x (drop (i + 1) l) g)

  pub measure-end : (l : List A) (i n : ℕ) → length l ≤ i → plus n (measure_of good bytes (drop i l)) ≡ Some n
  unfolding measure_of
  measure-end l i n h =
      let e : n + 0 ≡ n = omega arith in
      ap (λ (r : List A). plus n (measure_of good bytes r)) (drop_of_length-le l h) ∙ ap Some e

  pub measured-some : (l : List A) (n : ℕ) → measure_of good bytes l ≡ Some n → (all? good l ≡ true) × (length (concat_map bytes l) ≡ n)
  unfolding measure_of
  measured-some l n h = some-picked (all? good l) (length (concat_map bytes l)) n h

  pub measured-none-of : (l : List A) → measure_of good bytes l ≡ None → all? good l ≡ false
  unfolding measure_of
  measured-none-of l h = none-left (all? good l) (length (concat_map bytes l)) h

-- When an entry can be written.
module _ (e : EntryFields) where
  pub entry-writable : e.figures.count ≤ 3 → block? (checked e.network e.length) ≡ true → entry_writable? (entry_of e) ≡ true
  unfolding entry_writable? entry_fields? entry_of
  entry-writable few block = simp (figures-count e.figures, le-leb _ _ few, block)

  pub entry-many : 3 < e.figures.count → entry_writable? (entry_of e) ≡ false
  unfolding entry_writable? entry_fields? entry_of
  entry-many many = simp (figures-count e.figures, lt-leb _ _ many)

  pub entry-no-block : block? (checked e.network e.length) ≡ false → entry_writable? (entry_of e) ≡ false
  unfolding entry_writable? entry_fields? entry_of
  entry-no-block block = simp (block, and-false)

  pub measured-entry : e.figures.count ≤ 3 → block? (checked e.network e.length) ≡ true → Some (7 + 2 * e.figures.count) ≡ measure_each entry_writable? entry_bytes (entry_of e)
  measured-entry few block = simp (entry-writable few block) (ap Some (omega (arith, entry_next 0 e)))

-- An information.
module _ (entries : List EntryFields) (f : InformationItem) where
  pub information-unplaced : 64 < f.first + f.count → None ≡ measure_one (information_in entries f)
  unfolding information_in measure_one writable?
  information-unplaced h = simp (lt-leb _ _ h)

  module _ (placed : f.first + f.count ≤ 64) where
    pub information-empty : f.count ≡ 0 → None ≡ measure_one (information_in entries f)
    unfolding information_in measure_one writable?
    information-empty h = let p : f.first + 0 ≤ 64 = omega arith in simp (h, le-leb _ _ p)

    abbrev es : List Entry
    es = map entry_of (part f.first f.count entries)

    pub information-measured : (n : ℕ) → length entries ≡ 64 → 1 ≤ f.count → measure_of entry_writable? entry_bytes es ≡ Some n → Some (3 + n) ≡ measure_one (information_in entries f)
    unfolding information_in measure_one writable? entries_bytes
    information-measured n full some h =
        let t = measured-some entry_writable? entry_bytes es n h in
        let c : length es ≡ f.count = length-map-part entry_of entries f.first f.count (omega arith) in
        let one : 1 ≤ length es = omega arith in
        let size : 3 + n ≡ length (suboption_bytes (information f.c f.s es)) = sym (information-length f.c f.s es ∙ ap (λ (k : ℕ). 3 + k) t.1) in
        ap Some size ∙ simp (le-leb _ _ placed, le-leb _ _ one, t.0)

    pub information-outside : measure_of entry_writable? entry_bytes es ≡ None → None ≡ measure_one (information_in entries f)
    unfolding information_in measure_one writable?
    information-outside h = simp (le-leb _ _ placed, measured-none-of entry_writable? entry_bytes es h, and-false)

-- A name.
module _ (octets : List ℕ) (n : NameItem) where
  pub name-unplaced : 256 < n.first + n.count → None ≡ measure_one (name_in octets n)
  unfolding name_in measure_one writable?
  name-unplaced h = simp (lt-leb _ _ h)

  module _ (full : length octets ≡ 256) (placed : n.first + n.count ≤ 256) where
    pub name-empty : n.count ≡ 0 → None ≡ measure_one (name_in octets n)
    unfolding name_in measure_one writable?
    name-empty h = let p : n.first + 0 ≤ 256 = omega arith in simp (h, le-leb _ _ p)

    count : length (part n.first n.count octets) ≡ n.count
    count = length_part octets n.first n.count (omega arith)

    pub name-zero : final (part n.first n.count octets) ≡ 0 → None ≡ measure_one (name_in octets n)
    unfolding name_in measure_one writable? fields?
    name-zero h = simp (le-leb _ _ placed, eq-eqb _ _ h, and-false)

    pub name-measured : 1 ≤ n.count → (final (part n.first n.count octets) ≡ 0 → ⊥) → Some (2 + n.count) ≡ measure_one (name_in octets n)
    unfolding name_in measure_one writable? fields? suboption_bytes
    name-measured some h =
        let one : 1 ≤ length (part n.first n.count octets) = omega (arith, count) in
        let size : 2 + n.count ≡ suc (suc (length (part n.first n.count octets))) = omega (arith, count) in
        ap Some size ∙ simp (le-leb _ _ placed, le-leb _ _ one, ne_eqb _ _ h)

pub measured-one : (x : SuboptionValue) (k : ℕ) → measure_one x ≡ Some k → (writable? x ≡ true) × (length (suboption_bytes x) ≡ k)
unfolding measure_one
measured-one x k h = some-picked (writable? x) (length (suboption_bytes x)) k h

pub measured-none : (x : SuboptionValue) → measure_one x ≡ None → writable? x ≡ false
unfolding measure_one
measured-none x h = none-left (writable? x) (length (suboption_bytes x)) h

-- A list that has suboptions is measured as they are.
pub measure-list : (subs : List SuboptionValue) → 1 ≤ length subs → measure_list subs ≡ measure_of writable? suboption_bytes subs
unfolding measure_list measure_of suboptions_bytes
measure-list subs h = simp (le-leb _ _ h)

-- A turn of a loop that measures the images of a list, element by element: by what is measured of the element at i.
module _ {A B : Type 0} (good : B → Bool) (bytes : B → List ℕ) (f : A → B) (xs : List A) (i n : ℕ) (d : A) (h : i < length xs) where
  there : get_or (map f xs) i (f d) ≡ f (get_or xs i d)
  there = get_or-map f xs i d

  within : i < length (map f xs)
  within = omega (arith, length-map xs f)

  pub turn-more : (k : ℕ) → measure_each good bytes (f (get_or xs i d)) ≡ Some k
      → plus n (measure_of good bytes (drop i (map f xs))) ≡ plus (n + k) (measure_of good bytes (drop (i + 1) (map f xs)))
  turn-more k m =
      let t = some-picked (good (f (get_or xs i d))) (length (bytes (f (get_or xs i d)))) k m in
      measure-more good bytes (map f xs) i n (f d) within (f (get_or xs i d)) k there t.0 t.1

  pub turn-none : measure_each good bytes (f (get_or xs i d)) ≡ None → plus n (measure_of good bytes (drop i (map f xs))) ≡ None
  turn-none m =
      measure-stop good bytes (map f xs) i n (f d) within (f (get_or xs i d)) there
      (none-left (good (f (get_or xs i d))) (length (bytes (f (get_or xs i d)))) m)

-- The items that are listed, by their count.
module _ (items : List Item) (count : ℕ) (entries : List EntryFields) (octets : List ℕ) where
  pub listed-none : 96 < count → None ≡ measure_list (listed items count entries octets)
  unfolding listed measure_list
  listed-none h = simp (lt-leb _ _ h)

  pub listed-empty : count ≡ 0 → None ≡ measure_list (listed items count entries octets)
  unfolding listed measure_list
  listed-empty h = simp h

  pub listed-all : count ≤ 96 → listed items count entries octets ≡ map (value_of entries octets) (take count items)
  unfolding listed
  listed-all h = simp (le-leb _ _ h)

  pub listed-measured : 1 ≤ count → count ≤ 96 → count ≤ length items
      → measure_list (listed items count entries octets) ≡ measure_of writable? suboption_bytes (map (value_of entries octets) (take count items))
  listed-measured some most fits =
      let one : 1 ≤ length (map (value_of entries octets) (take count items)) = simp (length-map, length-take) (omega arith) in
      ap measure_list (listed-all most) ∙ measure-list (map (value_of entries octets) (take count items)) one

-- A list that can be written counts no more items than the array has.
pub listed-few : (items : List Item) (count : ℕ) (entries : List EntryFields) (octets : List ℕ) (n : ℕ) → measure_list (listed items count entries octets) ≡ Some n → count ≤ 96
listed-few items count entries octets n m = go (leb count 96) refl
  where
    go : (b : Bool) → leb count 96 ≡ b → count ≤ 96
    go true e = leb-true count 96 e
    go false e =
        let none : None ≡ Some n = listed-none items count entries octets (leb-false count 96 e) ∙ m in
        let z : ◌≡◌ {A = ℕ} 0 1 = cc in
        absurd (omega arith)
