-- Laws of reading the entries of a good option one after another.
-- Assumes nothing.
use Prim.Native.Nat.{ℕ, ◌+◌, ◌≤◌, ◌<◌}
use native.Mathlib.Omega.{arith}
use mathlib.Core.Path.{◌≡◌, refl, sym, ap, subst, ◌∙◌}
use mathlib.Core.Bool.{Bool, true, false, cond, ◌&&◌}
use mathlib.Core.List.{List, [], ◌∷◌, ◌++◌}
use lib.ListN.{length, get_or}
use lib.Dec.{eqb, leb, ltb}
use borrow.Author.Tests.{ne_eqb, ltb-true, le-leb}
use Rattle.lists.specs.Walk.{Turn, more, stop}
use Rattle.lists.proofs.Tests.{and-to, cond-true}
use Rattle.option_entry.specs.declared.EntryCursor.{EntryCursor}
use Rattle.option_entry.specs.declared.EntryFields.{EntryFields}
use Rattle.std.specs.Prelude.{Some, Ok}
use Rattle.option_entry.specs.Steps.{figures_of, fields_of, entries_from, entry_step_of}
use Rattle.option.specs.Values.{Entry, SuboptionValue, request, information, name, unknown}
use Rattle.option.specs.Reading.{bit1, bit2, End, whole, bad_at, sub_end, when_good, read_entry, read_entries, read_request, read_information, read_name, read_body, read_suboption, read_suboptions}
use Rattle.option.specs.Contents.{entries}
use Rattle.option.specs.Answers.{entries_of}
use Rattle.option.proofs.EntryLaws.{entry-moves, entry-end, entries-more, entries-stop}
use Rattle.option.proofs.SuboptionLaws.{good-read, suboption-read, suboption-ends, suboption-moves, suboption-whole, suboptions-more, suboptions-stop}
use Rattle.call_entries.specs.EntryFigures.{first_entries, LeftAt}

-- A SUBOPTION'S ENTRIES

entries-cons : (x : SuboptionValue) (subs : List SuboptionValue) → entries (x ∷ subs) ≡ entries_of x ++ entries subs
entries-cons (request h i l) subs = refl
entries-cons (information c s es) subs = refl
entries-cons (name o) subs = refl
entries-cons unknown subs = refl

-- Only an information has any.
other-body : (one three f₁ f₃ h i : Bool) (p : ℕ) (o : List ℕ) (t : Turn SuboptionValue End) (at end : ℕ) (x : SuboptionValue) (next : ℕ)
    → cond one (when_good f₁ (request h i p) at end) (cond false t (cond three (when_good f₃ (name o) at end) (more unknown end))) ≡ more x next → entries_of x ≡ []
other-body true three f₁ f₃ h i p o t at end x next e = ap entries_of (sym (good-read f₁ (request h i p) at end x next e).2)
other-body false true f₁ f₃ h i p o t at end x next e = ap entries_of (sym (good-read f₃ (name o) at end x next e).2)
other-body false false f₁ f₃ h i p o t at end x next e = let z : unknown ≡ x = cc in ap entries_of (sym z)

-- THE SUBOPTION AT A PLACE, where all from there on are good.
module _ (s : List ℕ) (at : ℕ) (later : List SuboptionValue) (some : at < length s) (good : read_suboptions s at ≡ (later, whole)) where
  pub record First : Type 0 where
    pub value : SuboptionValue
    pub rest : List SuboptionValue
    pub is : read_suboption s at ≡ more value (sub_end s at)
    pub after : read_suboptions s (sub_end s at) ≡ (rest, whole)
    pub later-is : later ≡ value ∷ rest

  pub first_of : First
  first_of = go (read_suboption s at) refl
    where
      go : (t : Turn SuboptionValue End) → read_suboption s at ≡ t → First
      go (more x next) e =
          let end : sub_end s at ≡ next = suboption-ends s at x next e in
          let all : ◌≡◌ {A = List SuboptionValue × End} (x ∷ (read_suboptions s next).0, (read_suboptions s next).1) (later, whole) = sym (suboptions-more s at (omega arith) x next e) ∙ good in
          record {
            value = x;
            rest = (read_suboptions s next).0;
            is = e ∙ ap (more x) (sym end);
            after =
                ap (read_suboptions s) end
                ∙ ap (λ (b : End). ((read_suboptions s next).0, b)) (ap (λ (q : List SuboptionValue × End). q.1) all);
            later-is = sym (ap (λ (q : List SuboptionValue × End). q.0) all);
          }
      go (stop whole) e = absurd (omega (arith, suboption-whole s at e))
      go (stop (bad_at f p)) e =
          let two : ◌≡◌ {A = List SuboptionValue × End} ([], bad_at f p) (later, whole) = sym (suboptions-stop s at (omega arith) (bad_at f p) e) ∙ good in
          let ends : bad_at f p ≡ whole = ap (λ (q : List SuboptionValue × End). q.1) two in
          let z : ◌≡◌ {A = ℕ} 0 1 = cc in absurd (omega arith)

  pub first_head : at + 2 ≤ length s
  first_head = let f = first_of in (suboption-read s at f.value (sub_end s at) f.is).head

  pub first-within : sub_end s at ≤ length s
  first-within = let f = first_of in (suboption-moves s at f.value (sub_end s at) f.is).1

  -- Another one is stepped over,
  pub first-other : (get_or s at 0 ≡ 2 → ⊥) → entries later ≡ entries first_of.rest
  unfolding read_body read_request read_information read_name
  first-other k =
      let f = first_of in
      let body : read_body (get_or s at 0) s at (sub_end s at) ≡ more f.value (sub_end s at) = (suboption-read s at f.value (sub_end s at) f.is).body in
      let none_of : entries_of f.value ≡ [] =
      other-body (eqb (get_or s at 0) 1) (eqb (get_or s at 0) 3) _ _ _ _ _ _ (read_information s at (sub_end s at)) at (sub_end s at) f.value (sub_end s at)
      (subst (λ (b : Bool). cond (eqb (get_or s at 0) 1) (read_request s at (sub_end s at)) (cond b (read_information s at (sub_end s at)) (cond (eqb (get_or s at 0) 3) (read_name s at (sub_end s at)) (more unknown (sub_end s at)))) ≡ more f.value (sub_end s at))
      (ne_eqb (get_or s at 0) 2 k) body) in
      ap entries f.later-is ∙ entries-cons f.value f.rest ∙ ap (λ (es : List Entry). es ++ entries f.rest) none_of

  -- and an information has entries.
  pub first-here : get_or s at 0 ≡ 2 → LeftAt s (entries_from (at + 3) (sub_end s at)) (entries later) × (at + 3 < sub_end s at)
  unfolding read_body read_information
  first-here two =
      let f = first_of in
      let end : ℕ = sub_end s at in
      let all : List Entry × Bool = read_entries s end (at + 3) in
      let body : read_body 2 s at end ≡ more f.value end =
      subst (λ (n : ℕ). read_body n s at end ≡ more f.value end) two (suboption-read s at f.value end f.is).body in
      let g = good-read (ltb (at + 3) end && all.1) (information (bit2 (get_or s (at + 2) 0)) (bit1 (get_or s (at + 2) 0)) all.0) at end f.value end body in
      let framed = and-to (ltb (at + 3) end) all.1 g.0 in
      let some : at + 3 < end = ltb-true (at + 3) end framed.0 in (
        record {
          here = all.0;
          later = f.rest;
          ordered = omega (arith, some);
          inside = first-within;
          framed = ap (λ (b : Bool). (all.0, b)) framed.1;
          goes_on = f.after;
          are = ap entries f.later-is ∙ entries-cons f.value f.rest ∙ ap (λ (x : SuboptionValue). entries_of x ++ entries f.rest) (sym g.2);
        },
        some,
      )

-- LOOKING FOR AN INFORMATION: the suboptions from `at` up to a place are stepped over, and none of them has entries.
pub Skipping : List ℕ → ℕ → ℕ → Type 0
Skipping s at place = (later : List SuboptionValue) → at ≤ length s → read_suboptions s at ≡ (later, whole)
    → (rest : List SuboptionValue) × (place ≤ length s) × (read_suboptions s place ≡ (rest, whole)) × (entries rest ≡ entries later)

pub skipping-none : (s : List ℕ) (at : ℕ) → Skipping s at at
unfolding Skipping
skipping-none s at later inside good = (later, inside, good, refl)

module _ (s : List ℕ) (at place : ℕ) (h : Skipping s at place) where
  module _ (lt : place < length s) (len end : ℕ) (e : end ≡ place + 2 + len) (l : len ≡ get_or s (place + 1) 0) where
    end_is : end ≡ sub_end s place
    end_is = omega (arith, e, l)

    pub skipping-more : (get_or s place 0 ≡ 2 → ⊥) → Skipping s at end
    unfolding Skipping
    skipping-more k later inside good =
        let g = h later inside good in
        let f = first_of s place g.0 lt g.2 in
        (f.rest, omega (arith, end_is, first-within s place g.0 lt g.2), ap (read_suboptions s) end_is ∙ f.after, sym (first-other s place g.0 lt g.2 k) ∙ g.3)

    pub skipping-here : get_or s place 0 ≡ 2 → (later : List SuboptionValue) → at ≤ length s → read_suboptions s at ≡ (later, whole)
        → LeftAt s (entries_from (place + 3) end) (entries later) × (place + 3 < end)
    unfolding Skipping
    skipping-here two later inside good =
        let g = h later inside good in
        let f = first-here s place g.0 lt g.2 two in
        (subst (λ (m : ℕ). LeftAt s (entries_from (place + 3) m) (entries later)) (sym end_is) (subst (LeftAt s (entries_from (place + 3) (sub_end s place))) g.3 f.0), omega (arith, end_is, f.1))

  -- It has its head,
  pub skipping-head : place < length s → (later : List SuboptionValue) → at ≤ length s → read_suboptions s at ≡ (later, whole) → place + 2 ≤ length s
  unfolding Skipping
  skipping-head lt later inside good = let g = h later inside good in first_head s place g.0 lt g.2

  -- and at the end of the option no entry is left.
  pub skipping-end : length s ≤ place → (later : List SuboptionValue) → at ≤ length s → read_suboptions s at ≡ (later, whole) → entries later ≡ []
  unfolding Skipping read_suboption
  skipping-end past later inside good =
      let g = h later inside good in
      let end : read_suboption s place ≡ stop whole = cond-true (leb (length s) place) _ _ (le-leb (length s) place past) in
      let nothing : ◌≡◌ {A = List SuboptionValue × End} ([], whole) (g.0, whole) = sym (suboptions-stop s place g.1 whole end) ∙ g.2 in
      sym g.3 ∙ ap (λ (q : List SuboptionValue × End). entries q.0) (sym nothing)

-- THE ENTRY AT A CURSOR

-- Before the first.
pub left-first : (s : List ℕ) (subs : List SuboptionValue) → 3 ≤ length s → read_suboptions s 3 ≡ (subs, whole) → LeftAt s first_entries (entries subs)
unfolding read_entry
left-first s subs long good = record {
  here = [];
  later = subs;
  ordered = omega arith;
  inside = long;
  framed = entries-stop s 3 3 (omega arith) true refl;
  goes_on = good;
  are = refl;
}

module _ (s : List ℕ) (c : EntryCursor) (e : Entry) (es : List Entry) (h : LeftAt s c (e ∷ es)) where
  -- None is left in this information: the next one is in a later suboption.
  pub left-later : c.end ≤ c.at → entries h.later ≡ e ∷ es
  unfolding read_entry
  left-later past =
      let end : read_entry s c.end c.at ≡ stop true = cond-true (leb c.end c.at) _ _ (le-leb c.end c.at past) in
      let nothing : ◌≡◌ {A = List Entry × Bool} ([], true) (h.here, true) = sym (entries-stop s c.end c.at h.ordered true end) ∙ h.framed in
      sym (h.are ∙ ap (λ (q : List Entry × Bool). q.0 ++ entries h.later) (sym nothing))

  -- One is left here.
  module _ (some : c.at < c.end) where
    pub left-entry : (next : ℕ) × (read_entry s c.end c.at ≡ more e next) × LeftAt s (entries_from next c.end) es
    left-entry = go (read_entry s c.end c.at) refl
      where
        go : (t : Turn Entry Bool) → read_entry s c.end c.at ≡ t → (next : ℕ) × (read_entry s c.end c.at ≡ more e next) × LeftAt s (entries_from next c.end) es
        go (more x next) k =
            let all : ◌≡◌ {A = List Entry × Bool} (x ∷ (read_entries s c.end next).0, (read_entries s c.end next).1) (h.here, true) = sym (entries-more s c.end c.at h.ordered x next k) ∙ h.framed in
            let are : e ∷ es ≡ x ∷ ((read_entries s c.end next).0 ++ entries h.later) = h.are ∙ ap (λ (q : List Entry × Bool). q.0 ++ entries h.later) (sym all) in
            let head : x ≡ e = cc in
            let tail : es ≡ (read_entries s c.end next).0 ++ entries h.later = cc in (
              next,
              k ∙ ap (λ (y : Entry). more y next) head,
              record {
                here = (read_entries s c.end next).0;
                later = h.later;
                ordered = (entry-moves s c.end c.at x next k).1;
                inside = h.inside;
                framed = ap (λ (b : Bool). ((read_entries s c.end next).0, b)) (ap (λ (q : List Entry × Bool). q.1) all);
                goes_on = h.goes_on;
                are = tail;
              },
            )
        go (stop true) k = absurd (omega (arith, entry-end s c.end c.at k))
        go (stop false) k =
            let two : ◌≡◌ {A = List Entry × Bool} ([], false) (h.here, true) = sym (entries-stop s c.end c.at h.ordered false k) ∙ h.framed in
            let ends : false ≡ true = ap (λ (q : List Entry × Bool). q.1) two in
            let z : ◌≡◌ {A = ℕ} 0 1 = cc in absurd (omega arith)

    -- What the step's answer tells: it is this entry.
    pub left-step : entry_step_of c.end (read_entry s c.end c.at) ≡ Ok (Some (fields_of e, entries_from left-entry.0 c.end))
    left-step = ap (entry_step_of c.end) left-entry.1

    pub left-told : (f : EntryFields) (n : EntryCursor) → entry_step_of c.end (read_entry s c.end c.at) ≡ Ok (Some (f, n)) → (f.figures ≡ figures_of e.figures) × LeftAt s n es
    left-told f n k =
        let told : Ok (Some (fields_of e, entries_from left-entry.0 c.end)) ≡ entry_step_of c.end (read_entry s c.end c.at) = sym left-step in
        let both : ◌≡◌ {A = EntryFields × EntryCursor} (fields_of e, entries_from left-entry.0 c.end) (f, n) = cc in
        (sym (ap (λ p. p.0.figures) both), subst (λ (m : EntryCursor). LeftAt s m es) (ap (λ p. p.1) both) left-entry.2)
