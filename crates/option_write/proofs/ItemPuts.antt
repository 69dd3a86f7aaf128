-- Items, put piece by piece, and the option around them.
-- Assumes nothing.
use Prim.Native.Nat.{ℕ, suc, ◌+◌, ◌-◌, ◌≤◌, ◌<◌}
use native.Mathlib.Omega.{arith}
use mathlib.Core.Path.{◌≡◌, refl, sym, ap, ap₂, subst, ◌∙◌}
use mathlib.Core.Bool.{Bool, true, false, ◌&&◌, and-false}
use mathlib.Core.List.{List, [], ◌∷◌, ◌++◌, map}
use lib.ListN.{length, get_or, length-map, get_or-map}
use lib.Dec.{leb}
use borrow.Author.Tests.{leb-true, le-leb, lt-leb}
use Rattle.std.specs.Prelude.{Result, Ok, Err, Some, None}
use Rattle.lists.specs.Lists.{all?}
use Rattle.lists.specs.Put.{put}
use Rattle.lists.proofs.Tests.{and-to}
use Rattle.lists.proofs.PutLaws.{put-more, put-before}
use Rattle.lists.proofs.ConcatMapLaws.{length-concat_map-at}
use Rattle.option.specs.Values.{Entry, SuboptionValue, information, name, unknown}
use Rattle.option.specs.Writing.{entries_bytes, information_head, suboption_bytes, suboptions_bytes, option_head, option_bytes}
use Rattle.option.specs.Writer.{entry_writable?, writable?, write_option}
use Rattle.option_entry.specs.declared.EntryFields.{EntryFields}
use Rattle.option.proofs.WritingLaws.{information-length, option-length}
use Rattle.option_measure.specs.Lists.{entry_slots, octet_slots, entry_of, part, information_in, name_in, value_of}
use Rattle.option_reply.specs.Answers.{into}
use Rattle.option_measure.specs.Measuring.{measure_list}
use Rattle.option_write.specs.Inner.{suboptions_at, most_bytes, Fitting, FittingList, PutAt}
use Rattle.option_measure.specs.declared.InformationItem.{InformationItem}
use Rattle.option_measure.specs.declared.NameItem.{NameItem}
use Rattle.option_measure.specs.declared.Item.{Item}
use Rattle.option_reply.specs.declared.WriteFault.{WriteFault}
use Rattle.option_reply.specs.declared.WriteFault.TheVariants.{OutsideRules, TooLong}
use Rattle.lists.proofs.IndexLaws.{all?-at}
use Rattle.option_measure.proofs.PartLaws.{length_part}
use Rattle.option_measure.proofs.MeasureLaws.{some-picked, none-left}

-- An information that can be written points into the array, and its entries can be written.
module _ (entries : List EntryFields) (f : InformationItem) where
  abbrev es : List Entry
  es = map entry_of (part f.first f.count entries)

  pub record InformationFitting : Type 0 where
    pub placed : f.first + f.count ≤ entry_slots
    pub value : information_in entries f ≡ information f.c f.s es
    pub good : all? entry_writable? es ≡ true
    pub short : 3 + length (entries_bytes es) ≤ most_bytes

  in_place : (b : Bool) → leb (f.first + f.count) entry_slots ≡ b → Fitting (information_in entries f) → InformationFitting
  unfolding information_in writable?
  in_place true e r =
      let v : information_in entries f ≡ information f.c f.s es = simp e in
      let good : writable? (information f.c f.s es) ≡ true = sym (ap writable? v) ∙ r.good in
      let size : length (suboption_bytes (information_in entries f)) ≡ 3 + length (entries_bytes es) = ap (λ (x : SuboptionValue). length (suboption_bytes x)) v ∙ information-length f.c f.s es in
      record {
        placed = leb-true (f.first + f.count) entry_slots e;
        value = v;
        good = (and-to (leb 1 (length es)) (all? entry_writable? es) good).1;
        short = omega (arith, r.short);
      }
  in_place false e r =
      let v : information_in entries f ≡ unknown = simp e in
      let z : false ≡ true = sym (ap writable? v) ∙ r.good in
      let y : ◌≡◌ {A = ℕ} 0 1 = cc in absurd (omega arith)

  pub information-fitting : Fitting (information_in entries f) → InformationFitting
  information-fitting r = in_place (leb (f.first + f.count) entry_slots) refl r

  pub information-put : (l l₁ l₂ : List ℕ) (at end len : ℕ) → InformationFitting → l₁ ≡ put l (at + 3) (entries_bytes es) → end ≡ at + 3 + length (entries_bytes es)
      → len ≡ end - at - 2 → l₂ ≡ put l₁ at (information_head len f.c f.s) → PutAt l l₂ at end (suboption_bytes (information_in entries f))
  unfolding suboption_bytes information_head
  information-put l l₁ l₂ at end len r e₁ ee el e₂ =
      let w = entries_bytes es in
      let n : len ≡ 1 + length w = omega arith in
      record {
        stored =
            e₂
            ∙ ap₂ (λ (k : List ℕ) (m : ℕ). put k at (information_head m f.c f.s)) e₁ n
            ∙ put-before (information_head (1 + length w) f.c f.s) l at w
            ∙ ap (λ (x : SuboptionValue). put l at (suboption_bytes x)) (sym r.value);
        place = omega (arith, ap (λ (x : SuboptionValue). length (suboption_bytes x)) r.value, information-length f.c f.s es);
      }

-- A name, likewise.
module _ (octets : List ℕ) (n : NameItem) where
  abbrev os : List ℕ
  os = part n.first n.count octets

  pub record NameFitting : Type 0 where
    pub placed : n.first + n.count ≤ octet_slots
    pub value : name_in octets n ≡ name os
    pub short : 2 + length os ≤ most_bytes

  named : (b : Bool) → leb (n.first + n.count) octet_slots ≡ b → Fitting (name_in octets n) → NameFitting
  unfolding name_in writable? suboption_bytes
  named true e r =
      let v : name_in octets n ≡ name os = simp e in
      let size : length (suboption_bytes (name_in octets n)) ≡ suc (suc (length os)) = ap (λ (x : SuboptionValue). length (suboption_bytes x)) v in
      record { placed = leb-true (n.first + n.count) octet_slots e; value = v; short = omega (arith, r.short) }
  named false e r =
      let v : name_in octets n ≡ unknown = simp e in
      let z : false ≡ true = sym (ap writable? v) ∙ r.good in
      let y : ◌≡◌ {A = ℕ} 0 1 = cc in absurd (omega arith)

  pub name-fitting : Fitting (name_in octets n) → NameFitting
  name-fitting r = named (leb (n.first + n.count) octet_slots) refl r

  pub name-put : (l l₁ l₂ : List ℕ) (at : ℕ) → length octets ≡ octet_slots → NameFitting → l₁ ≡ put l at (3 ∷ n.count ∷ []) → l₂ ≡ put l₁ (at + 2) os
      → PutAt l l₂ at (at + 2 + n.count) (suboption_bytes (name_in octets n))
  unfolding suboption_bytes
  name-put l l₁ l₂ at full r e₁ e₂ =
      let c : length os ≡ n.count = length_part octets n.first n.count (omega (arith, r.placed)) in
      let size : length (suboption_bytes (name_in octets n)) ≡ suc (suc (length os)) = ap (λ (x : SuboptionValue). length (suboption_bytes x)) r.value in
      record {
        stored =
            put-more l l₁ l₂ at (3 ∷ n.count ∷ []) (at + 2) os e₁ refl e₂
            ∙ ap (λ (k : ℕ). put l at (3 ∷ k ∷ os)) (sym c)
            ∙ ap (λ (x : SuboptionValue). put l at (suboption_bytes x)) (sym r.value);
        place = omega arith;
      }

-- An item of a list that can be written.
pub item-fitting : (items : List Item) (entries : List EntryFields) (octets : List ℕ) → FittingList (map (value_of entries octets) items)
    → (i : ℕ) (d : Item) → i < length items → Fitting (value_of entries octets (get_or items i d))
unfolding suboptions_bytes
item-fitting items entries octets r i d h =
    let v = value_of entries octets in
    let there : get_or (map v items) i (v d) ≡ v (get_or items i d) = get_or-map v items i d in
    let within : i < length (map v items) = omega (arith, length-map items v) in
    let one = length-concat_map-at suboption_bytes (map v items) i (v d) within in
    record {
      good = sym (ap writable? there) ∙ all?-at writable? (map v items) r.good i (v d) within;
      short = omega (arith, r.short, ap (λ (x : SuboptionValue). length (suboption_bytes x)) there);
    }

-- It takes at most as many bytes as all of them.
pub item-short : (l l₂ : List ℕ) (p p₂ : ℕ) (items : List Item) (entries : List EntryFields) (octets : List ℕ) (i : ℕ) (d : Item) → FittingList (map (value_of entries octets) items)
    → i < length items → PutAt l l₂ p p₂ (suboption_bytes (value_of entries octets (get_or items i d))) → p₂ ≤ p + most_bytes
item-short l l₂ p p₂ items entries octets i d r h a = let f = item-fitting items entries octets r i d h in omega (arith, f.short, a.place)

-- The answer, from what was measured.
module _ (subs : List SuboptionValue) (buffer : List ℕ) where
  pub answer-outside : measure_list subs ≡ None → ◌≡◌ {A = Result ℕ WriteFault × List ℕ} (Err OutsideRules, buffer) (into (write_option (length buffer) subs) buffer)
  unfolding measure_list write_option into
  answer-outside m = simp (none-left (leb 1 (length subs) && all? writable? subs) (length (suboptions_bytes subs)) m)

  module _ (n : ℕ) (m : measure_list subs ≡ Some n) where
    told : ((leb 1 (length subs) && all? writable? subs) ≡ true) × (length (suboptions_bytes subs) ≡ n)
    unfolding measure_list
    told = some-picked (leb 1 (length subs) && all? writable? subs) (length (suboptions_bytes subs)) n m

    pub answer-long : most_bytes < n → ◌≡◌ {A = Result ℕ WriteFault × List ℕ} (Err TooLong, buffer) (into (write_option (length buffer) subs) buffer)
    unfolding write_option into
    answer-long h =
        let t = told in
        let long : most_bytes + 1 < 1 + length (suboptions_bytes subs) = omega (arith, t.1) in
        simp (t.0, lt-leb _ _ long, and-false)

    pub answer-full : length buffer < n + suboptions_at → ◌≡◌ {A = Result ℕ WriteFault × List ℕ} (Err TooLong, buffer) (into (write_option (length buffer) subs) buffer)
    unfolding write_option into
    answer-full h =
        let t = told in
        let full : length buffer < length (option_bytes subs) = omega (arith, t.1, option-length subs) in
        simp (t.0, lt-leb _ _ full)

    pub list-fitting : n ≤ most_bytes → FittingList subs
    list-fitting h = let t = told in record { good = (and-to (leb 1 (length subs)) (all? writable? subs) t.0).1; short = omega (arith, t.1) }

    pub answer-written : (l₁ l₂ : List ℕ) (xs : List SuboptionValue) → subs ≡ xs → n ≤ most_bytes → n + suboptions_at ≤ length buffer → l₁ ≡ put buffer 0 (option_head (n + 1)) → l₂ ≡ put l₁ suboptions_at (suboptions_bytes xs)
        → ◌≡◌ {A = Result ℕ WriteFault × List ℕ} (Ok (n + suboptions_at), l₂) (into (write_option (length buffer) subs) buffer)
    unfolding write_option into option_bytes option_head
    answer-written l₁ l₂ xs same small room e₁ e₂ =
        let t = told in
        let size = option-length subs in
        let fits : length (option_bytes subs) ≤ length buffer = omega (arith, t.1) in
        let len : 1 + length (suboptions_bytes subs) ≤ most_bytes + 1 = omega (arith, t.1) in
        let head : n + 1 ≡ 1 + length (suboptions_bytes subs) = omega (arith, t.1) in
        let count : n + suboptions_at ≡ length (option_bytes subs) = omega (arith, t.1) in
        let stored : l₂ ≡ put buffer 0 (option_bytes subs) =
        put-more buffer l₁ l₂ 0 (option_head (n + 1)) suboptions_at (suboptions_bytes xs) e₁ refl e₂
        ∙ ap (λ (l : List SuboptionValue). put buffer 0 (option_head (n + 1) ++ suboptions_bytes l)) (sym same)
        ∙ ap (λ (k : ℕ). put buffer 0 (option_head k ++ suboptions_bytes subs)) head in
        ap₂ (λ (k : ℕ) (l : List ℕ). (Ok k, l)) count stored ∙ simp (t.0, le-leb _ _ fits, le-leb _ _ len)

pub put_as : (l l₂ : List ℕ) (at next : ℕ) (x y : SuboptionValue) → x ≡ y → PutAt l l₂ at next (suboption_bytes y) → PutAt l l₂ at next (suboption_bytes x)
put_as l l₂ at next x y e p = subst (λ (z : SuboptionValue). PutAt l l₂ at next (suboption_bytes z)) (sym e) p
