-- "Undefined flag bits are ignored on reading and written as 0, also in the option's own flags."
-- Assumes nothing.
use Prim.Native.Nat.{ℕ, ◌+◌, ◌-◌, ◌*◌, ◌/◌, ◌%◌, ◌≤◌, ◌<◌}
use native.Mathlib.Omega.{arith}
use mathlib.Core.Path.{◌≡◌, refl, sym, ap, ap₂, subst, ◌∙◌}
use mathlib.Core.List.{List, [], ◌∷◌}
use mathlib.Core.Bool.{Bool, true, false, cond}
use lib.ListN.{length, get_or, take, drop, length-take, length-drop}
use lib.Seq.{get_or-take, get_or-drop, ext_get_or}
use lib.Dec.{eqb, leb, ltb}
use borrow.Author.Tests.{leb-true, leb-false, ltb-true, eq-eqb, le-leb, lt-leb}
use Rattle.lists.specs.Lists.{All}
use Rattle.lists.specs.Walk.{more}
use Rattle.lists.specs.Properties.{Placed, Tiles}
use Rattle.lists.proofs.Tests.{and-to}
use Rattle.option.specs.Values.{Entry, SuboptionValue, unknown, accepted}
use Rattle.option.specs.Reading.{End, whole, bit1, bit2, two, four, figures_at, entry_framed?, entry_at, entry_end, read_entry, read_entries, sub_end, sub_inside?, read_request, read_information, read_name, read_body, read_suboption, read_suboptions, read_option}
use Rattle.option.specs.Writing.{flags, option_head, option_bytes}
use Rattle.option.specs.Places.{placed_suboptions, placed_entries, SameFrom, SameEntry, SameBody, SameSuboption, SameButIgnored}
use Rattle.option.proofs.RuleLaws.{option-of}
use Rattle.option_entry.proofs.FigureLaws.{figures-none, figures-one, figures-two, figures-three}
use Rattle.option.proofs.EntryLaws.{entry_read, entries-more, entries-stop}
use Rattle.option.proofs.SuboptionLaws.{good-read, suboption-read, suboption-moves, suboptions-more, suboptions-stop}
use Rattle.option.proofs.AcceptedWritesBack.{pieces_of, placed-entries, tiled-entries, given-entries, accepted-read, never-joined}

-- The two bits go by the two low bits alone.
bit1-same : (x y : ℕ) → x % 4 ≡ y % 4 → bit1 x ≡ bit1 y
bit1-same x y h = let e : x % 2 ≡ y % 2 = omega arith in ap (λ (n : ℕ). eqb n 1) e

bit2-same : (x y : ℕ) → x % 4 ≡ y % 4 → bit2 x ≡ bit2 y
bit2-same x y h = let e : x / 2 % 2 ≡ y / 2 % 2 = omega arith in ap (λ (n : ℕ). eqb n 1) e

module _ (s t : List ℕ) where
  two-same : (at end : ℕ) → SameFrom s t at end → at + 2 ≤ end → two s at ≡ two t at
  two-same at end same h = ap₂ (λ (x y : ℕ). x * 256 + y) (same at (omega arith) (omega arith)) (same (at + 1) (omega arith) (omega arith))

  four_same : (at end : ℕ) → SameFrom s t at end → at + 4 ≤ end → four s at ≡ four t at
  four_same at end same h =
      let e₀ = same at (omega arith) (omega arith) in
      let e₁ = same (at + 1) (omega arith) (omega arith) in
      let e₂ = same (at + 2) (omega arith) (omega arith) in
      let e₃ = same (at + 3) (omega arith) (omega arith) in
      simp (e₀, e₁, e₂, e₃)

  -- Figures, by how many bytes there are of them.
  figures-same : (at n : ℕ) → SameFrom s t at (at + n) → figures_at s at n ≡ figures_at t at n
  figures-same at n same = go (leb 2 n) (leb 4 n) (leb 6 n) refl refl refl
    where
      part : (k : ℕ) → k + 2 ≤ n → SameFrom s t (at + k) (at + n)
      part k h m a b = same m (omega arith) b

      first : 2 ≤ n → two s at ≡ two t at
      first h = two-same at (at + n) same (omega arith)

      second : 4 ≤ n → two s (at + 2) ≡ two t (at + 2)
      second h = two-same (at + 2) (at + n) (part 2 (omega arith)) (omega arith)

      third : 6 ≤ n → two s (at + 4) ≡ two t (at + 4)
      third h = two-same (at + 4) (at + n) (part 4 (omega arith)) (omega arith)

      go : (a b c : Bool) → leb 2 n ≡ a → leb 4 n ≡ b → leb 6 n ≡ c → figures_at s at n ≡ figures_at t at n
      go false b c ea eb ec = let h = leb-false 2 n ea in figures-none s at n h ∙ sym (figures-none t at n h)
      go true false c ea eb ec =
          let h = leb-true 2 n ea in
          let k = leb-false 4 n eb in
          figures-one s at n h k ∙ ap (λ (x : ℕ). x ∷ []) (first h) ∙ sym (figures-one t at n h k)
      go true true false ea eb ec =
          let h = leb-true 2 n ea in
          let j = leb-true 4 n eb in
          let k = leb-false 6 n ec in
          figures-two s at n j k ∙ ap₂ (λ (x y : ℕ). x ∷ y ∷ []) (first h) (second j) ∙ sym (figures-two t at n j k)
      go true true true ea eb ec =
          let h = leb-true 2 n ea in
          let j = leb-true 4 n eb in
          let k = leb-true 6 n ec in
          figures-three s at n k ∙ ap₂ (λ (x y : ℕ). x ∷ y ∷ two s (at + 4) ∷ []) (first h) (second j)
          ∙ ap (λ (z : ℕ). two t at ∷ two t (at + 2) ∷ z ∷ []) (third k) ∙ sym (figures-three t at n k)

  module _ (size : length s ≡ length t) where
    -- An entry reads as the same.
    entry-same : (end : ℕ) (p : Placed Entry) → read_entry s end p.at ≡ more p.piece p.next → SameEntry s t p → read_entry t end p.at ≡ more p.piece p.next
    unfolding read_entry entry_framed? entry_at
    entry-same end p given same =
        let at = p.at in
        let r = entry_read s end at p.piece p.next given in
        let f = r.0 in
        let next : entry_end s at ≡ p.next = r.2 in
        let inside : end ≤ length t = omega (arith, f.inside) in
        let head : at + 7 ≤ end = f.head in
        let before : at < end = omega arith in
        let stat : get_or s (at + 6) 0 ≡ get_or t (at + 6) 0 = same.figures (at + 6) (omega arith) (omega arith) in
        let even : get_or t (at + 6) 0 % 2 ≡ 0 = ap (λ (x : ℕ). x % 2) (sym stat) ∙ f.even in
        let ends : entry_end t at ≡ p.next = ap (λ (x : ℕ). at + 7 + x) (sym stat) ∙ next in
        let fits : p.next ≤ end = omega (arith, f.whole) in
        let figures : figures_at s (at + 7) (get_or s (at + 6) 0) ≡ figures_at t (at + 7) (get_or t (at + 6) 0) =
        figures-same (at + 7) (get_or s (at + 6) 0) (λ k a b. same.figures k (omega arith) (omega arith)) ∙ ap (figures_at t (at + 7)) stat in
        let value : entry_at t at ≡ p.piece =
        simp (
          sym (four_same at (at + 5) same.prefix (omega arith)),
          sym (same.prefix (at + 4) (omega arith) (omega arith)),
          sym (bit2-same _ _ same.flags),
          sym (bit1-same _ _ same.flags),
          sym figures,
        ) r.1 in
        simp (lt-leb _ _ before, le-leb _ _ inside, le-leb _ _ head, eq-eqb _ _ even, ends, le-leb _ _ fits, value)

    entries-same : (end : ℕ) → end ≤ length s → (ps : List (Placed Entry)) (at : ℕ) → at ≤ end → Tiles at ps end
        → All (λ (p : Placed Entry). read_entry s end p.at ≡ more p.piece p.next) ps → All (SameEntry s t) ps → read_entries t end at ≡ (pieces_of ps, true)
    unfolding read_entry
    entries-same end fits [] at le tiles given same =
        let here : end ≤ at = omega arith in
        entries-stop t end at le true (simp (le-leb _ _ here))
    entries-same end fits (p ∷ ps) at le tiles given same =
        let r = entry-same end p given.0 same.0 in
        let n : p.next ≤ end = let f = entry_read s end p.at p.piece p.next given.0 in omega (arith, f.0.whole, f.2) in
        let tail = entries-same end fits ps p.next n tiles.1 given.1 same.1 in
        entries-more t end at le p.piece p.next (ap (read_entry t end) (sym tiles.0) ∙ r) ∙ ap (λ (x : List Entry × Bool). (p.piece ∷ x.0, x.1)) tail

    -- A suboption reads as the same.
    module _ (at : ℕ) (x : SuboptionValue) (next : ℕ) where
      body_same : (one two three : Bool) (end : ℕ) → end ≤ length s
          → cond one (read_request s at end) (cond two (read_information s at end) (cond three (read_name s at end) (more unknown end))) ≡ more x next → SameBody s t at next x
          → cond one (read_request t at end) (cond two (read_information t at end) (cond three (read_name t at end) (more unknown end))) ≡ more x next
      unfolding read_request read_information read_name
      body_same true two three end fits h same =
          let g = good-read _ _ at end x next h in
          let b = subst (SameBody s t at next) (sym g.2) same in
          simp (sym (bit1-same _ _ b.0), sym (bit2-same _ _ b.0), sym b.1) h
      body_same false true three end fits h same =
          let g = good-read _ _ at end x next h in
          let f = and-to (ltb (at + 3) end) (read_entries s end (at + 3)).1 g.0 in
          let some : at + 3 < end = ltb-true (at + 3) end f.0 in
          let le : at + 3 ≤ end = omega arith in
          let b = subst (SameBody s t at next) (sym g.2) same in
          let es : List (Placed Entry) = placed_entries s end (at + 3) in
          let entries : All (SameEntry s t) es = subst (λ (n : ℕ). All (SameEntry s t) (placed_entries s n (at + 3))) (sym g.3) b.1 in
          let there = entries-same end fits es (at + 3) le (tiled-entries s end (at + 3) le f.1) (given-entries s end (at + 3) le f.1) entries in
          let here : (pieces_of es, true) ≡ read_entries s end (at + 3) = ap₂ (λ (l : List Entry) (y : Bool). (l, y)) (placed-entries s end (at + 3) le f.1) (sym f.1) in
          simp (there ∙ here, sym (bit1-same _ _ b.0), sym (bit2-same _ _ b.0)) h
      body_same false false true end fits h same =
          let g = good-read _ _ at end x next h in
          let some : at + 2 < end = ltb-true (at + 2) end g.0 in
          let b = subst (SameBody s t at next) (sym g.2) same in
          let last : end ≡ next = g.3 in
          let octets : take (end - (at + 2)) (drop (at + 2) t) ≡ take (end - (at + 2)) (drop (at + 2) s) =
          ext_get_or 0 (take (end - (at + 2)) (drop (at + 2) t)) (take (end - (at + 2)) (drop (at + 2) s)) (simp (length-take, length-drop, size))
          (λ i lt.
          let short : i < end - (at + 2) = omega (arith, length-take (end - (at + 2)) (drop (at + 2) t)) in
          get_or-take (end - (at + 2)) (drop (at + 2) t) i 0 short ∙ get_or-drop (at + 2) t i 0
          ∙ sym (b (at + 2 + i) (omega arith) (omega arith))
          ∙ sym (get_or-take (end - (at + 2)) (drop (at + 2) s) i 0 short ∙ get_or-drop (at + 2) s i 0)) in
          simp octets h
      body_same false false false end fits h same = h

    suboption-same : (p : Placed SuboptionValue) → read_suboption s p.at ≡ more p.piece p.next → SameSuboption s t p
        → read_suboption t p.at ≡ more p.piece p.next
    unfolding read_suboption sub_inside? read_body
    suboption-same p given same =
        let at = p.at in
        let r = suboption-read s at p.piece p.next given in
        let head : at + 2 ≤ length t = omega (arith, r.head) in
        let before : at < length t = omega arith in
        let ends : sub_end t at ≡ sub_end s at = ap (λ (n : ℕ). at + 2 + n) (sym same.len) in
        let fits : sub_end s at ≤ length t = omega (arith, r.fits) in
        let n : ℕ = get_or s at 0 in
        let body = body_same at p.piece p.next (eqb n 1) (eqb n 2) (eqb n 3) (sub_end s at) r.fits r.body same.body in
        simp (lt-leb _ _ before, le-leb _ _ head, ends, le-leb _ _ fits, sym same.number) body

    suboptions-same : (ps : List (Placed SuboptionValue)) (at : ℕ) → at ≤ length s → Tiles at ps (length s)
        → All (λ (p : Placed SuboptionValue). read_suboption s p.at ≡ more p.piece p.next) ps → All (SameSuboption s t) ps
        → read_suboptions t at ≡ (pieces_of ps, whole)
    unfolding read_suboption
    suboptions-same [] at le tiles given same =
        let here : length t ≤ at = omega arith in
        suboptions-stop t at (omega arith) whole (simp (le-leb _ _ here))
    suboptions-same (p ∷ ps) at le tiles given same =
        let r = suboption-same p given.0 same.0 in
        let m = suboption-moves s p.at p.piece p.next given.0 in
        let tail = suboptions-same ps p.next m.1 tiles.1 given.1 same.1 in
        suboptions-more t at (omega arith) p.piece p.next (ap (read_suboption t) (sym tiles.0) ∙ r)
        ∙ ap (λ (y : List SuboptionValue × End). (p.piece ∷ y.0, y.1)) tail

-- "Undefined flag bits are ignored on reading": an option that differs from an accepted one at most in them reads as the same list.
pub ignored-bits-read-the-same : (s t : List ℕ) (subs : List SuboptionValue) → read_option s ≡ accepted subs → SameButIgnored s t → read_option t ≡ accepted subs
unfolding read_option
ignored-bits-read-the-same s t subs h same =
    let a = accepted-read s subs h in
    let j = never-joined s subs h in
    let start : 3 ≤ length s = omega (arith, a.len, a.some) in
    let read : read_suboptions t 3 ≡ (subs, whole) =
    suboptions-same s t same.size (placed_suboptions s) 3 start j.tiles j.given same.suboptions ∙ ap (λ (l : List SuboptionValue). (l, whole)) j.pieces in
    let two-long : 2 ≤ length t = omega (arith, same.size) in
    let code : get_or t 0 0 ≡ 220 = sym same.code ∙ a.code in
    let len : get_or t 1 0 + 2 ≡ length t = ap (λ (n : ℕ). n + 2) (sym same.len) ∙ a.len ∙ same.size in
    let some : 2 ≤ get_or t 1 0 = subst (λ (n : ℕ). 2 ≤ n) same.len a.some in
    simp (option-of t (record { two_bytes = two-long; code-byte = code; len = len }) some, read)

-- ".. and written as 0": of a flags byte that is written only the two low bits can be set, and the option's own flags are 0.
pub written-flags : (b a : Bool) → flags b a < 4
written-flags true true = omega arith
written-flags true false = omega arith
written-flags false true = omega arith
written-flags false false = omega arith

pub written-option-flags : (subs : List SuboptionValue) → get_or (option_bytes subs) 2 0 ≡ 0
unfolding option_bytes option_head
written-option-flags subs = refl
