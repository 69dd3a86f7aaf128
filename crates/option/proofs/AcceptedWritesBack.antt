-- "An accepted option with no unknown suboption, no ignored bit set and no figure past the third is written back as the same bytes."
-- "Repeated suboptions are never joined."
-- Assumes nothing.
use Prim.Native.Nat.{ℕ, zero, suc, ◌+◌, ◌-◌, ◌*◌, ◌/◌, ◌%◌, ◌≤◌, ◌<◌}
use native.Mathlib.Omega.{arith}
use native.Mathlib.Nat.{add_assoc}
use native.Mathlib.Numerals.{add-one}
use mathlib.Core.Path.{◌≡◌, refl, sym, ap, ap₂, subst, ◌∙◌}
use mathlib.Core.List.{List, [], ◌∷◌, ◌++◌, map, append_assoc}
use mathlib.Core.Bool.{Bool, true, false, cond}
use lib.ListN.{length, get_or, take, drop, length-append, length-drop, length-take, take-append-drop, drop_of_length-le}
use lib.Seq.{drop-cons, drop-drop, drop-length}
use lib.Dec.{eqb, leb, ltb}
use borrow.Author.Tests.{eqb-true, ltb-true, le-leb}
use Rattle.lists.specs.Lists.{All, all?, concat_map}
use Rattle.lists.specs.Walk.{more}
use Rattle.lists.specs.Properties.{Placed, Tiles}
use Rattle.lists.proofs.Tests.{and-to, and-of, all?-to, all?-of}
use Rattle.lists.proofs.ListLaws.{all_map, all-map₂, all-image}
use Rattle.lists.proofs.WalkLaws.{placed-pieces, placed-given, placed-tiles}
use Rattle.option.specs.Values.{Entry, SuboptionValue, unknown, accepted, refused}
use Rattle.option.specs.Rules.{entry_fields?, fields?}
use Rattle.option.specs.Reading.{End, whole, bad_at, bit1, bit2, two, four, figures_at, entry_at, entry_end, read_entry, read_entries, sub_end, read_request, read_information, read_name, read_body, read_suboption, read_suboptions, ended, option?, read_option}
use Rattle.option.specs.Writing.{flags, two_bytes, four_bytes, request_bytes, entry_head, entry_bytes, entries_bytes, information_head, suboption_bytes, suboptions_bytes, option_head, option_bytes, written}
use Rattle.option.specs.Writer.{entry_writable?, writable?, write_option}
use Rattle.option.specs.Places.{Bytes, placed_suboptions, placed_entries, PlainEntry, PlainAs, PlainSuboption, PlainOption}
use Rattle.option.specs.Selection.{refused as refused_with118, address, selection?, read_selection, selection_bytes}
use Rattle.option.proofs.RuleLaws.{option-to, selection-to}
use Rattle.option.proofs.EntryLaws.{entry_read, entry-end, entry-moves}
use Rattle.option.proofs.SuboptionLaws.{good-read, suboption-read, suboption-moves, suboption-whole}

flags-same : (f : ℕ) → f < 4 → flags (bit2 f) (bit1 f) ≡ f
flags-same zero h = refl
flags-same (suc zero) h = refl
flags-same (suc (suc zero)) h = refl
flags-same (suc (suc (suc zero))) h = refl
flags-same (suc (suc (suc (suc f)))) h = absurd (omega arith)

-- One byte more, and two.
next : (s : List ℕ) (n m : ℕ) → m ≡ n + 1 → n < length s → drop n s ≡ get_or s n 0 ∷ drop m s
next s n m e h = drop-cons s n 0 h ∙ ap (λ (k : ℕ). get_or s n 0 ∷ drop k s) (sym (e ∙ add-one n))

pair : (s : List ℕ) (n m : ℕ) → m ≡ n + 2 → m ≤ length s → drop n s ≡ get_or s n 0 ∷ get_or s (n + 1) 0 ∷ drop m s
pair s n m e h = next s n (n + 1) refl (omega arith) ∙ ap (λ (l : List ℕ). get_or s n 0 ∷ l) (next s (n + 1) m (omega arith) (omega arith))

-- The length of a part, from what goes before the rest.
part_length : (s : List ℕ) (at end : ℕ) (w : List ℕ) → at ≤ end → end ≤ length s → drop at s ≡ w ++ drop end s → length w ≡ end - at
part_length s at end w le fits h = omega (arith, length-drop at s, length-drop end s, simp length-append at (ap length h))

-- No entry is read with more than three figures.
few-figures : (s : List ℕ) (at n : ℕ) → length (figures_at s at n) ≤ 3
unfolding figures_at
few-figures s at n = simp length-take (omega arith)

-- The pieces alone.
abbrev pub pieces_of : {A : Type 0} → List (Placed A) → List A
pieces_of ps = map (λ p. p.piece) ps

-- The entries of an information, all framed.
module _ (s : List ℕ) (end at : ℕ) (le : at ≤ end) (framed : (read_entries s end at).1 ≡ true) where
  pub placed-entries : pieces_of (placed_entries s end at) ≡ (read_entries s end at).0
  unfolding placed_entries read_entries
  placed-entries = placed-pieces (read_entry s end) false (suc end) at

  pub tiled-entries : Tiles at (placed_entries s end at) end
  unfolding placed_entries read_entries
  tiled-entries = placed-tiles (read_entry s end) false end (entry-moves s end) true (λ at h. entry-end s end at h) at le framed

  pub given-entries : All (λ (p : Placed Entry). read_entry s end p.at ≡ more p.piece p.next) (placed_entries s end at)
  unfolding placed_entries
  given-entries = placed-given (read_entry s end) false (suc end) at

-- A list whose elements are bytes.
module _ (s : List ℕ) (bytes : Bytes s) where
  written-two : (n m : ℕ) → m ≡ n + 2 → m ≤ length s → drop n s ≡ two s n / 256 ∷ two s n % 256 ∷ drop m s
  written-two n m e h =
      let a = bytes n in
      let b = bytes (n + 1) in
      let hi : two s n / 256 ≡ get_or s n 0 = omega arith in
      let lo : two s n % 256 ≡ get_or s (n + 1) 0 = omega arith in
      pair s n m e h ∙ ap₂ (λ (x y : ℕ). x ∷ y ∷ drop m s) (sym hi) (sym lo)

  written-figures : (n k : ℕ) → k % 2 ≡ 0 → k ≤ 6 → n + k ≤ length s → drop n s ≡ concat_map two_bytes (figures_at s n k) ++ drop (n + k) s
  unfolding figures_at two_bytes
  written-figures n zero e h l = let z : n ≡ n + 0 = omega arith in ap (λ (m : ℕ). drop m s) z
  written-figures n (suc (suc zero)) e h l = written-two n (n + 2) refl l
  written-figures n (suc (suc (suc (suc zero)))) e h l =
      written-two n (n + 2) refl (omega arith)
      ∙ ap (λ (r : List ℕ). two s n / 256 ∷ two s n % 256 ∷ r) (written-two (n + 2) (n + 4) (omega arith) l)
  written-figures n (suc (suc (suc (suc (suc (suc zero)))))) e h l =
      written-two n (n + 2) refl (omega arith)
      ∙ ap (λ (r : List ℕ). two s n / 256 ∷ two s n % 256 ∷ r)
      (written-two (n + 2) (n + 4) (omega arith) (omega arith)
      ∙ ap (λ (r : List ℕ). two s (n + 2) / 256 ∷ two s (n + 2) % 256 ∷ r) (written-two (n + 4) (n + 6) (omega arith) l))
  written-figures n (suc zero) e h l = absurd (omega arith)
  written-figures n (suc (suc (suc zero))) e h l = absurd (omega arith)
  written-figures n (suc (suc (suc (suc (suc zero))))) e h l = absurd (omega arith)
  written-figures n (suc (suc (suc (suc (suc (suc (suc k))))))) e h l = absurd (omega arith)

  figures-even : (n k : ℕ) → k % 2 ≡ 0 → k ≤ 6 → 2 * length (figures_at s n k) ≡ k
  unfolding figures_at
  figures-even n zero e h = refl
  figures-even n (suc (suc zero)) e h = refl
  figures-even n (suc (suc (suc (suc zero)))) e h = refl
  figures-even n (suc (suc (suc (suc (suc (suc zero)))))) e h = refl
  figures-even n (suc zero) e h = absurd (omega arith)
  figures-even n (suc (suc (suc zero))) e h = absurd (omega arith)
  figures-even n (suc (suc (suc (suc (suc zero))))) e h = absurd (omega arith)
  figures-even n (suc (suc (suc (suc (suc (suc (suc k))))))) e h = absurd (omega arith)

  -- The seven bytes of an entry, and the whole of it.
  seven : (n : ℕ) → n + 7 ≤ length s
      → drop n s ≡ get_or s n 0 ∷ get_or s (n + 1) 0 ∷ get_or s (n + 2) 0 ∷ get_or s (n + 3) 0 ∷ get_or s (n + 4) 0 ∷ get_or s (n + 5) 0 ∷ get_or s (n + 6) 0 ∷ drop (n + 7) s
  seven n h =
      next s n (n + 1) refl (omega arith)
      ∙ ap (λ (l : List ℕ). get_or s n 0 ∷ l) (next s (n + 1) (n + 2) (omega arith) (omega arith)
      ∙ ap (λ (l : List ℕ). get_or s (n + 1) 0 ∷ l) (next s (n + 2) (n + 3) (omega arith) (omega arith)
      ∙ ap (λ (l : List ℕ). get_or s (n + 2) 0 ∷ l) (next s (n + 3) (n + 4) (omega arith) (omega arith)
      ∙ ap (λ (l : List ℕ). get_or s (n + 3) 0 ∷ l) (next s (n + 4) (n + 5) (omega arith) (omega arith)
      ∙ ap (λ (l : List ℕ). get_or s (n + 4) 0 ∷ l) (next s (n + 5) (n + 6) (omega arith) (omega arith)
      ∙ ap (λ (l : List ℕ). get_or s (n + 5) 0 ∷ l) (next s (n + 6) (n + 7) (omega arith) (omega arith)))))))

  four_same : (n : ℕ) → (four s n / 16777216 ≡ get_or s n 0) × (four s n / 65536 % 256 ≡ get_or s (n + 1) 0) × (four s n / 256 % 256 ≡ get_or s (n + 2) 0) × (four s n % 256 ≡ get_or s (n + 3) 0)
  four_same n =
      let b₀ = bytes n in
      let b₁ = bytes (n + 1) in
      let b₂ = bytes (n + 2) in
      let b₃ = bytes (n + 3) in
      (omega arith, omega arith, omega arith, omega arith)

  written_entry : (n : ℕ) → get_or s (n + 5) 0 < 4 → get_or s (n + 6) 0 ≤ 6 → get_or s (n + 6) 0 % 2 ≡ 0 → entry_end s n ≤ length s
      → drop n s ≡ entry_bytes (entry_at s n) ++ drop (entry_end s n) s
  unfolding entry_bytes entry_head four_bytes entry_at
  written_entry n bits few even l =
      let k : ℕ = get_or s (n + 6) 0 in
      let e₀ = (four_same n).0 in
      let e₁ = (four_same n).1 in
      let e₂ = (four_same n).2 in
      let e₃ = (four_same n).3 in
      let e₅ = flags-same (get_or s (n + 5) 0) bits in
      let e₆ = figures-even (n + 7) k even few in
      let e₇ = written-figures (n + 7) k even few l in
      seven n (omega arith) ∙ cc

  -- Entries that follow one another without a gap.
  entries-same : (end : ℕ) → end ≤ length s → (ps : List (Placed Entry)) (at : ℕ) → Tiles at ps end
      → All (λ (p : Placed Entry). read_entry s end p.at ≡ more p.piece p.next) ps → All (PlainEntry s) ps
      → drop at s ≡ entries_bytes (pieces_of ps) ++ drop end s
  unfolding entries_bytes
  entries-same end fits [] at t given plain = ap (λ (n : ℕ). drop n s) t
  entries-same end fits (p ∷ ps) at t given plain =
      let r = entry_read s end p.at p.piece p.next given.0 in
      let f = r.0 in
      let tail = entries-same end fits ps p.next t.1 given.1 plain.1 in
      let head = written_entry p.at plain.0.bits plain.0.few f.even (omega (arith, f.whole)) in
      ap (λ (n : ℕ). drop n s) (sym t.0)
      ∙ head
      ∙ ap₂ (λ (y : Entry) (n : ℕ). entry_bytes y ++ drop n s) r.1 r.2
      ∙ ap (λ (l : List ℕ). entry_bytes p.piece ++ l) tail
      ∙ sym (append_assoc (entry_bytes p.piece) (entries_bytes (pieces_of ps)) (drop end s))

  -- The entries of an information, all framed.
  module _ (end at : ℕ) (le : at ≤ end) (framed : (read_entries s end at).1 ≡ true) where
    information-body : end ≤ length s → All (PlainEntry s) (placed_entries s end at) → drop at s ≡ entries_bytes (read_entries s end at).0 ++ drop end s
    information-body fits plain =
        entries-same end fits (placed_entries s end at) at (tiled-entries s end at le framed) (given-entries s end at le framed) plain
        ∙ ap (λ (es : List Entry). entries_bytes es ++ drop end s) (placed-entries s end at le framed)

    entries-few : All (λ (e : Entry). length e.figures ≤ 3) (read_entries s end at).0
    unfolding entry_at
    entries-few =
        subst (All (λ (e : Entry). length e.figures ≤ 3)) (placed-entries s end at le framed)
        (all-image (λ (p : Placed Entry). p.piece) (λ (e : Entry). length e.figures ≤ 3) (placed_entries s end at)
        (all_map (λ p g. let r = entry_read s end p.at p.piece p.next g in
        subst (λ (e : Entry). length e.figures ≤ 3) r.1 (few-figures s (p.at + 7) (get_or s (p.at + 6) 0))) (placed_entries s end at) (given-entries s end at le framed)))

    some-entries : at < end → 1 ≤ length (read_entries s end at).0
    some-entries lt = go (placed_entries s end at) (tiled-entries s end at le framed) (placed-entries s end at le framed)
      where
        go : (ps : List (Placed Entry)) → Tiles at ps end → pieces_of ps ≡ (read_entries s end at).0 → 1 ≤ length (read_entries s end at).0
        go [] t e = absurd (omega arith)
        go (p ∷ ps) t e = omega (arith, ap length e)

    entries-writable : all? entry_fields? (read_entries s end at).0 ≡ true → all? entry_writable? (read_entries s end at).0 ≡ true
    unfolding entry_writable?
    entries-writable ok =
        all?-of {P = λ (e : Entry). (length e.figures ≤ 3) × (entry_fields? e ≡ true)} entry_writable? (λ e h. and-of _ _ (le-leb _ _ h.0) h.1) (read_entries s end at).0
        (all-map₂ (λ e a b. (a, b)) (read_entries s end at).0 entries-few (all?-to entry_fields? (λ e b. b) (read_entries s end at).0 ok))

  -- A suboption that is read and plain: its bytes, and that it can be written.
  pub record Back (at : ℕ) (x : SuboptionValue) (after : ℕ) : Type 0 where
    pub same : drop at s ≡ suboption_bytes x ++ drop after s
    pub good : writable? x ≡ true

  module _ (at : ℕ) (x : SuboptionValue) (after : ℕ) where
    body_back : (one two three : Bool) → eqb (get_or s at 0) 1 ≡ one → eqb (get_or s at 0) 2 ≡ two → eqb (get_or s at 0) 3 ≡ three
        → at + 2 ≤ length s → (end : ℕ) → end ≡ sub_end s at → end ≤ length s
        → cond one (read_request s at end) (cond two (read_information s at end) (cond three (read_name s at end) (more unknown end))) ≡ more x after
        → PlainAs s at after x → Back at x after
    unfolding read_request read_information read_name suboption_bytes request_bytes information_head writable? fields?
    body_back true two three e₁ e₂ e₃ short end size fits h pl =
        let f : ℕ = get_or s (at + 2) 0 in
        let g = good-read _ _ at end x after h in
        let len : end ≡ at + 4 = eqb-true end (at + 4) g.0 in
        let last : end ≡ after = g.3 in
        let bits : f < 4 = subst (PlainAs s at after) (sym g.2) pl in
        let b₀ : get_or s at 0 ≡ 1 = eqb-true (get_or s at 0) 1 e₁ in
        let b₁ : get_or s (at + 1) 0 ≡ 2 = omega arith in
        let b₂ = flags-same f bits in
        record {
          same =
              pair s at (at + 2) refl short
              ∙ ap (λ (l : List ℕ). get_or s at 0 ∷ get_or s (at + 1) 0 ∷ l) (pair s (at + 2) after (omega arith) (omega arith)
              ∙ ap (λ (k : ℕ). get_or s (at + 2) 0 ∷ get_or s k 0 ∷ drop after s) (add_assoc at 2 1))
              ∙ cc (b₀, b₁, b₂)
              ∙ ap (λ (y : SuboptionValue). suboption_bytes y ++ drop after s) g.2;
          good = sym (ap writable? g.2) ∙ g.1;
        }
    body_back false true three e₁ e₂ e₃ short end size fits h pl =
        let f : ℕ = get_or s (at + 2) 0 in
        let all : List Entry × Bool = read_entries s end (at + 3) in
        let g = good-read _ _ at end x after h in
        let t = and-to (ltb (at + 3) end) all.1 g.0 in
        let some : at + 3 < end = ltb-true (at + 3) end t.0 in
        let le : at + 3 ≤ end = omega arith in
        let last : end ≡ after = g.3 in
        let plains = subst (PlainAs s at after) (sym g.2) pl in
        let b₀ : get_or s at 0 ≡ 2 = eqb-true (get_or s at 0) 2 e₂ in
        let b₂ = flags-same f plains.0 in
        let body : drop (at + 3) s ≡ entries_bytes all.0 ++ drop end s =
        information-body end (at + 3) le t.1 fits (subst (λ (n : ℕ). All (PlainEntry s) (placed_entries s n (at + 3))) (sym last) plains.1) in
        let b₁ : get_or s (at + 1) 0 ≡ 1 + length (entries_bytes all.0) = omega (arith, part_length s (at + 3) end (entries_bytes all.0) le fits body) in
        record {
          same =
              pair s at (at + 2) refl short
              ∙ ap (λ (l : List ℕ). get_or s at 0 ∷ get_or s (at + 1) 0 ∷ l) (next s (at + 2) (at + 3) (omega arith) (omega arith)
              ∙ ap (λ (l : List ℕ). get_or s (at + 2) 0 ∷ l) (body ∙ ap (λ (n : ℕ). entries_bytes all.0 ++ drop n s) last))
              ∙ cc (b₀, b₁, b₂)
              ∙ ap (λ (y : SuboptionValue). suboption_bytes y ++ drop after s) g.2;
          good =
              sym (ap writable? g.2)
              ∙ and-of (leb 1 (length all.0)) (all? entry_writable? all.0) (le-leb 1 (length all.0) (some-entries end (at + 3) le t.1 some))
              (entries-writable end (at + 3) le t.1 g.1);
        }
    body_back false false true e₁ e₂ e₃ short end size fits h pl =
        let o : List ℕ = take (end - (at + 2)) (drop (at + 2) s) in
        let g = good-read _ _ at end x after h in
        let some : at + 2 < end = ltb-true (at + 2) end g.0 in
        let last : end ≡ after = g.3 in
        let b₀ : get_or s at 0 ≡ 3 = eqb-true (get_or s at 0) 3 e₃ in
        let there : at + 2 + (end - (at + 2)) ≡ after = omega arith in
        let body : drop (at + 2) s ≡ o ++ drop after s =
        sym (take-append-drop (end - (at + 2)) (drop (at + 2) s))
        ∙ ap (λ (l : List ℕ). o ++ l) (drop-drop (end - (at + 2)) (at + 2) s ∙ ap (λ (n : ℕ). drop n s) there) in
        let n = part_length s (at + 2) end o (omega arith) fits (body ∙ ap (λ (n : ℕ). o ++ drop n s) (sym last)) in
        let b₁ : get_or s (at + 1) 0 ≡ length o = omega (arith, n) in
        let one : 1 ≤ length o = omega (arith, n) in
        record {
          same =
              pair s at (at + 2) refl short
              ∙ ap (λ (l : List ℕ). get_or s at 0 ∷ get_or s (at + 1) 0 ∷ l) body
              ∙ cc (b₀, b₁)
              ∙ ap (λ (y : SuboptionValue). suboption_bytes y ++ drop after s) g.2;
          good = sym (ap writable? g.2) ∙ and-of (leb 1 (length o)) _ (le-leb 1 (length o) one) g.1;
        }
    body_back false false false e₁ e₂ e₃ short end size fits h pl =
        let none : unknown ≡ x = cc in
        absurd (subst (PlainAs s at after) (sym none) pl)

    suboption-back : read_suboption s at ≡ more x after → PlainAs s at after x → Back at x after
    unfolding read_body
    suboption-back h pl =
        let n : ℕ = get_or s at 0 in
        let r = suboption-read s at x after h in
        body_back (eqb n 1) (eqb n 2) (eqb n 3) refl refl refl r.head (sub_end s at) refl r.fits r.body pl

  suboptions-same : (ps : List (Placed SuboptionValue)) (at : ℕ) → Tiles at ps (length s)
      → All (λ (p : Placed SuboptionValue). read_suboption s p.at ≡ more p.piece p.next) ps → All (PlainSuboption s) ps
      → (drop at s ≡ suboptions_bytes (pieces_of ps)) × All (λ x. writable? x ≡ true) (pieces_of ps)
  unfolding suboptions_bytes
  suboptions-same [] at t given plain = (ap (λ (n : ℕ). drop n s) t ∙ drop-length s, tt)
  suboptions-same (p ∷ ps) at t given plain =
      let b = suboption-back p.at p.piece p.next given.0 plain.0 in
      let tail = suboptions-same ps p.next t.1 given.1 plain.1 in (
        ap (λ (n : ℕ). drop n s) (sym t.0) ∙ b.same ∙ ap (λ (l : List ℕ). suboption_bytes p.piece ++ l) tail.0,
        (b.good, tail.1),
      )

-- What an accepted option tells.
pub record Accepted (s : List ℕ) (subs : List SuboptionValue) : Type 0 where
  pub code : get_or s 0 0 ≡ 220
  pub len : get_or s 1 0 + 2 ≡ length s
  pub some : 2 ≤ get_or s 1 0
  pub list : (read_suboptions s 3).0 ≡ subs
  pub ends : (read_suboptions s 3).1 ≡ whole

pub accepted-read : (s : List ℕ) (subs : List SuboptionValue) → read_option s ≡ accepted subs → Accepted s subs
unfolding read_option
accepted-read s subs h = go (option? s) refl (read_suboptions s 3).0 (read_suboptions s 3).1 refl refl h
  where
    go : (ok : Bool) → option? s ≡ ok → (xs : List SuboptionValue) (e : End) → (read_suboptions s 3).0 ≡ xs → (read_suboptions s 3).1 ≡ e
        → cond ok (ended xs e) (refused 6 0) ≡ accepted subs → Accepted s subs
    go true o xs whole ex ee k =
        let f = option-to s o in
        record { code = f.0.code-byte; len = f.0.len; some = f.1; list = ex ∙ cc; ends = ee }
    go true o xs (bad_at f p) ex ee k = let z : ◌≡◌ {A = ℕ} 0 1 = cc in absurd (omega arith)
    go false o xs e ex ee k = let z : ◌≡◌ {A = ℕ} 0 1 = cc in absurd (omega arith)

-- "Repeated suboptions are never joined": the suboptions that are read stand one after another, without a gap, from the third place to the end
-- of the option, and each is what is read at its own place.
pub record NeverJoined (s : List ℕ) (subs : List SuboptionValue) : Type 0 where
  pub pieces : map (λ (p : Placed SuboptionValue). p.piece) (placed_suboptions s) ≡ subs
  pub tiles : Tiles 3 (placed_suboptions s) (length s)
  pub given : All (λ (p : Placed SuboptionValue). read_suboption s p.at ≡ more p.piece p.next) (placed_suboptions s)

pub never-joined : (s : List ℕ) (subs : List SuboptionValue) → read_option s ≡ accepted subs → NeverJoined s subs
unfolding placed_suboptions read_suboptions
never-joined s subs h =
    let a = accepted-read s subs h in
    record {
      pieces = placed-pieces (read_suboption s) whole (suc (length s)) 3 ∙ a.list;
      tiles = placed-tiles (read_suboption s) whole (length s) (suboption-moves s) whole (suboption-whole s) 3 (omega (arith, a.len, a.some)) a.ends;
      given = placed-given (read_suboption s) whole (suc (length s)) 3;
    }

some-subs : (subs : List SuboptionValue) → 1 ≤ length (suboptions_bytes subs) → 1 ≤ length subs
unfolding suboptions_bytes
some-subs [] h = absurd (omega arith)
some-subs (x ∷ xs) h = omega arith

-- "An accepted option with no unknown suboption, no ignored bit set and no figure past the third is written back as the same bytes."
pub accepted-writes-back : (s : List ℕ) (subs : List SuboptionValue) (capacity : ℕ) → Bytes s → PlainOption s → read_option s ≡ accepted subs → length s ≤ capacity
    → write_option capacity subs ≡ written s
unfolding write_option option_bytes option_head
accepted-writes-back s subs capacity bytes plain h room =
    let a = accepted-read s subs h in
    let j = never-joined s subs h in
    let w = suboptions-same s bytes (placed_suboptions s) 3 j.tiles j.given plain.suboptions in
    let body : drop 3 s ≡ suboptions_bytes subs = w.0 ∙ ap suboptions_bytes j.pieces in
    let good : all? writable? subs ≡ true = all?-of writable? (λ x b. b) subs (subst (All (λ (x : SuboptionValue). writable? x ≡ true)) j.pieces w.1) in
    let n : length (suboptions_bytes subs) ≡ length s - 3 = sym (ap length body) ∙ length-drop 3 s in
    let b₀ : get_or s 0 0 ≡ 220 = a.code in
    let b₁ : get_or s 1 0 ≡ 1 + length (suboptions_bytes subs) = omega (arith, a.len, a.some) in
    let b₂ : get_or s 2 0 ≡ 0 = plain.bits in
    let len : length s ≡ get_or s 1 0 + 2 = sym a.len in
    let least : 2 ≤ get_or s 1 0 = a.some in
    let split : s ≡ get_or s 0 0 ∷ get_or s 1 0 ∷ get_or s 2 0 ∷ drop 3 s =
    pair s 0 2 refl (omega arith) ∙ ap (λ (l : List ℕ). get_or s 0 0 ∷ get_or s 1 0 ∷ l) (next s 2 3 refl (omega arith)) in
    let same : option_bytes subs ≡ s = sym (split ∙ cc (b₀, b₁, b₂, body)) in
    let one : 1 ≤ length subs = some-subs subs (omega arith) in
    let fits : length (option_bytes subs) ≤ capacity = omega (arith, ap length same) in
    let small : 1 + length (suboptions_bytes subs) ≤ 255 = omega (arith, bytes 1) in
    simp (le-leb _ _ one, good, le-leb _ _ fits, le-leb _ _ small) (ap written same)

-- Option 118: an option that is accepted is written back as the same bytes.
pub selection-writes-back : (s : List ℕ) (a : ℕ) → Bytes s → read_selection s ≡ address a → selection_bytes a ≡ s
unfolding read_selection selection_bytes four_bytes
selection-writes-back s a bytes h = go (selection? s) refl h
  where
    go : (ok : Bool) → selection? s ≡ ok → cond ok (address (four s 2)) (refused_with118 6) ≡ address a → selection_bytes a ≡ s
    go true o k =
        let p = selection-to s o in
        let code : get_or s 0 0 ≡ 118 = p.0.code-byte in
        let size : get_or s 1 0 + 2 ≡ length s = p.0.len in
        let len : get_or s 1 0 ≡ 4 = p.1 in
        let value : four s 2 ≡ a = cc in
        let f = four_same s bytes 2 in
        let none : drop 6 s ≡ [] = drop_of_length-le s {i = 6} (omega arith) in
        let split : s ≡ get_or s 0 0 ∷ get_or s 1 0 ∷ get_or s 2 0 ∷ get_or s 3 0 ∷ get_or s 4 0 ∷ get_or s 5 0 ∷ drop 6 s =
        pair s 0 2 refl (omega arith)
        ∙ ap (λ (l : List ℕ). get_or s 0 0 ∷ get_or s 1 0 ∷ l) (pair s 2 4 refl (omega arith) ∙ ap (λ (l : List ℕ). get_or s 2 0 ∷ get_or s 3 0 ∷ l) (pair s 4 6 refl (omega arith))) in
        ap selection_bytes (sym value) ∙ sym (split ∙ cc (code, len, f.0, f.1, f.2, f.3, none))
    go false o k = let z : ◌≡◌ {A = ℕ} 0 1 = cc in absurd (omega arith)
