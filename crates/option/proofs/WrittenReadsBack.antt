-- "A written option reads back as the same list of suboptions, entries and figures included."
-- Assumes nothing.
use Prim.Native.Nat.{ℕ, ◌+◌, ◌-◌, ◌*◌, ◌/◌, ◌%◌, ◌≤◌, ◌<◌}
use native.Mathlib.Omega.{arith}
use native.Mathlib.Nat.{add-zero, add_assoc}
use mathlib.Core.Path.{◌≡◌, refl, sym, ap, ap₂, ◌∙◌}
use mathlib.Core.List.{List, [], ◌∷◌, ◌++◌, append_assoc}
use mathlib.Core.Bool.{Bool, true, false, cond, ◌&&◌}
use lib.ListN.{length, get_or, take, drop, length-append, length-drop}
use lib.Seq.{get_or-drop, drop-drop, drop_at, take_at}
use lib.Dec.{leb}
use borrow.Author.Tests.{eq-eqb, le-leb, lt-leb, lt-ltb, leb-true}
use Rattle.lists.specs.Lists.{All, all?, concat_map}
use Rattle.lists.specs.Walk.{more}
use Rattle.lists.proofs.Tests.{and-to, all?-to, all?-of}
use Rattle.option.specs.Values.{Entry, SuboptionValue, request, information, name, unknown, accepted}
use Rattle.option.specs.Rules.{entry_fields?, fields?}
use Rattle.option.specs.Reading.{End, whole, bit1, bit2, four, figures_at, entry_framed?, entry_at, read_entry, read_entries, when_good, sub_inside?, read_request, read_information, read_name, read_body, read_suboption, read_suboptions, option?, read_option}
use Rattle.option.specs.Writing.{two_bytes, four_bytes, flags, request_bytes, entry_head, entry_bytes, entries_bytes, information_head, suboption_bytes, suboptions_bytes, option_head, option_bytes, refused_with, written}
use Rattle.option.specs.Writer.{entry_writable?, writable?, write_option}
use Rattle.option.specs.Selection.{address, selection?, read_selection, selection_bytes}
use Rattle.option.proofs.EntryLaws.{entries-more, entries-stop}
use Rattle.option.proofs.SuboptionLaws.{suboptions-more, suboptions-stop}
use Rattle.option.proofs.WritingLaws.{entry_length}

-- The bytes of a list that goes on as xs from a position on.
byte : (s : List ℕ) (at : ℕ) (xs : List ℕ) → drop at s ≡ xs → (k : ℕ) → get_or s (at + k) 0 ≡ get_or xs k 0
byte s at xs h k = sym (get_or-drop at s k 0) ∙ ap (λ (l : List ℕ). get_or l k 0) h

first : (s : List ℕ) (at : ℕ) (xs : List ℕ) → drop at s ≡ xs → get_or s at 0 ≡ get_or xs 0 0
first s at xs h = ap (λ (n : ℕ). get_or s n 0) (sym (add-zero at)) ∙ byte s at xs h 0

after : (s : List ℕ) (at : ℕ) (xs ys : List ℕ) → drop at s ≡ xs ++ ys → drop (at + length xs) s ≡ ys
after s at xs ys h = sym (drop-drop (length xs) at s) ∙ ap (drop (length xs)) h ∙ drop_at xs ys (length xs) refl

-- Such a list is long enough.
room : (s : List ℕ) (at : ℕ) (xs q : List ℕ) → drop at s ≡ xs ++ q → 0 < length xs → at + length xs ≤ length s
room s at xs q h pos =
    let a = length-drop at s in
    let b = ap length h in
    let c = length-append xs q in
    omega arith

-- Flags, and numbers of two and of four bytes.
bit1-flags : (b a : Bool) → bit1 (flags b a) ≡ a
bit1-flags true true = refl
bit1-flags true false = refl
bit1-flags false true = refl
bit1-flags false false = refl

bit2-flags : (b a : Bool) → bit2 (flags b a) ≡ b
bit2-flags true true = refl
bit2-flags true false = refl
bit2-flags false true = refl
bit2-flags false false = refl

four-back : (n : ℕ) → ((n / 16777216 * 256 + n / 65536 % 256) * 256 + n / 256 % 256) * 256 + n % 256 ≡ n
four-back n = omega arith

two_back : (n : ℕ) → n / 256 * 256 + n % 256 ≡ n
two_back n = omega arith

-- At most three figures.
figures-back : (s : List ℕ) (at : ℕ) (fs q : List ℕ) → drop at s ≡ concat_map two_bytes fs ++ q → length fs ≤ 3 → figures_at s at (2 * length fs) ≡ fs
unfolding figures_at two_bytes
figures-back s at [] q h le = refl
figures-back s at (a ∷ []) q h le =
    let xs = concat_map two_bytes (a ∷ []) ++ q in
    simp (first s at xs h, byte s at xs h 1, two_back)
figures-back s at (a ∷ b ∷ []) q h le =
    let xs = concat_map two_bytes (a ∷ b ∷ []) ++ q in
    simp (first s at xs h, byte s at xs h 1, byte s at xs h 2, add_assoc, byte s at xs h 3, two_back)
figures-back s at (a ∷ b ∷ d ∷ []) q h le =
    let xs = concat_map two_bytes (a ∷ b ∷ d ∷ []) ++ q in
    simp (first s at xs h, byte s at xs h 1, byte s at xs h 2, add_assoc, byte s at xs h 3, byte s at xs h 4, byte s at xs h 5, two_back)
figures-back s at (a ∷ b ∷ d ∷ e ∷ fs) q h le = absurd (omega arith)

abbrev Few : Entry → Type 0
Few e = length e.figures ≤ 3

-- An entry.
module _ (s : List ℕ) (end at : ℕ) (e : Entry) (q : List ℕ) (h : drop at s ≡ entry_bytes e ++ q) (few : Few e) where
  network-back : four s at ≡ e.network
  unfolding entry_bytes entry_head four_bytes
  network-back =
      let xs = entry_bytes e ++ q in
      simp (first s at xs h, byte s at xs h 1, byte s at xs h 2, byte s at xs h 3, four-back e.network)

  length_back : get_or s (at + 4) 0 ≡ e.length
  unfolding entry_bytes entry_head four_bytes
  length_back = byte s at (entry_bytes e ++ q) h 4

  flags-back : get_or s (at + 5) 0 ≡ flags e.h e.d
  unfolding entry_bytes entry_head four_bytes
  flags-back = byte s at (entry_bytes e ++ q) h 5

  stat-back : get_or s (at + 6) 0 ≡ 2 * length e.figures
  unfolding entry_bytes entry_head four_bytes
  stat-back = byte s at (entry_bytes e ++ q) h 6

  rest_back : drop (at + 7) s ≡ concat_map two_bytes e.figures ++ q
  unfolding entry_bytes entry_head four_bytes
  rest_back = sym (drop-drop 7 at s) ∙ ap (drop 7) h

  entry-at-back : entry_at s at ≡ e
  unfolding entry_at
  entry-at-back =
      simp (
        network-back,
        length_back,
        flags-back,
        stat-back,
        bit1-flags,
        bit2-flags,
        figures-back s (at + 7) e.figures q rest_back few,
      )

  entry-back : at + length (entry_bytes e) ≤ end → end ≤ length s → read_entry s end at ≡ more e (at + length (entry_bytes e))
  unfolding read_entry entry_framed?
  entry-back le inside =
      let l = entry_length e in
      let before : at < end = omega arith in
      let even : (2 * length e.figures) % 2 ≡ 0 = omega arith in
      let next : at + 7 + 2 * length e.figures ≡ at + length (entry_bytes e) = omega arith in
      let head : at + 7 ≤ end = omega arith in
      simp (
        lt-leb _ _ before,
        le-leb _ _ inside,
        le-leb _ _ head,
        stat-back,
        eq-eqb _ _ even,
        next,
        le-leb _ _ le,
        entry-at-back,
      )

entries-back : (es : List Entry) (s : List ℕ) (end at : ℕ) (q : List ℕ) → drop at s ≡ entries_bytes es ++ q → All Few es
    → at + length (entries_bytes es) ≡ end → end ≤ length s → read_entries s end at ≡ (es, true)
unfolding entries_bytes read_entry
entries-back [] s end at q h few l inside =
    let e : end ≤ at = omega arith in
    entries-stop s end at (omega arith) true (simp (le-leb _ _ e))
entries-back (e ∷ es) s end at q h few l inside =
    let h₁ : drop at s ≡ entry_bytes e ++ (entries_bytes es ++ q) = h ∙ append_assoc (entry_bytes e) (entries_bytes es) q in
    let n : ℕ = at + length (entry_bytes e) in
    let m = length-append (entry_bytes e) (entries_bytes es) in
    let r : read_entry s end at ≡ more e n = entry-back s end at e (entries_bytes es ++ q) h₁ few.0 (omega arith) inside in
    let t : read_entries s end n ≡ (es, true) =
    entries-back es s end n q (after s at (entry_bytes e) (entries_bytes es ++ q) h₁) few.1 (omega arith) inside in
    entries-more s end at (omega arith) e n r ∙ ap (λ (x : List Entry × Bool). (e ∷ x.0, x.1)) t

entries-long : (es : List Entry) → 1 ≤ length es → 7 ≤ length (entries_bytes es)
unfolding entries_bytes
entries-long [] h = absurd (omega arith)
entries-long (e ∷ es) h = omega (arith, entry_length e, length-append (entry_bytes e) (entries_bytes es))

-- What can be written keeps the reader's rules of fields, and its entries have few figures.
entry-few : (e : Entry) → entry_writable? e ≡ true → Few e
unfolding entry_writable?
entry-few e w = leb-true _ _ (and-to (leb (length e.figures) 3) (entry_fields? e) w).0

entry-fields : (e : Entry) → entry_writable? e ≡ true → entry_fields? e ≡ true
unfolding entry_writable?
entry-fields e w = (and-to (leb (length e.figures) 3) (entry_fields? e) w).1

pub writable-fields : (x : SuboptionValue) → writable? x ≡ true → fields? x ≡ true
unfolding writable? fields?
writable-fields (request h i l) w = w
writable-fields (information c s entries) w =
    all?-of {P = λ e. entry_fields? e ≡ true} entry_fields? (λ e b. b) entries
    (all?-to entry_writable? entry-fields entries (and-to (leb 1 (length entries)) (all? entry_writable? entries) w).1)
writable-fields (name octets) w = (and-to (leb 1 (length octets)) (fields? (name octets)) w).1
writable-fields unknown w = refl

-- A suboption.
suboption-back : (x : SuboptionValue) (s : List ℕ) (at : ℕ) (q : List ℕ) → drop at s ≡ suboption_bytes x ++ q → writable? x ≡ true
    → read_suboption s at ≡ more x (at + length (suboption_bytes x))
unfolding suboption_bytes request_bytes information_head writable? read_suboption sub_inside? read_body read_request read_information read_name when_good
suboption-back (request h i length') s at q e good =
    let xs = suboption_bytes (request h i length') ++ q in
    let r : at + 4 ≤ length s = room s at (suboption_bytes (request h i length')) q e (omega arith) in
    let before : at < length s = omega arith in
    let two-fit : at + 2 ≤ length s = omega arith in
    let end : at + 2 + 2 ≡ at + 4 = omega arith in
    simp (
      lt-leb _ _ before,
      first s at xs e,
      byte s at xs e 1,
      byte s at xs e 2,
      byte s at xs e 3,
      le-leb _ _ two-fit,
      end,
      le-leb _ _ r,
      eq-eqb (at + 4) (at + 4) refl,
      bit1-flags,
      bit2-flags,
      good,
    )
suboption-back (information c t entries) s at q e good =
    let w = entries_bytes entries in
    let xs = suboption_bytes (information c t entries) ++ q in
    let n : ℕ = at + length (suboption_bytes (information c t entries)) in
    let r : n ≤ length s = room s at (suboption_bytes (information c t entries)) q e (omega arith) in
    let before : at < length s = omega arith in
    let two-fit : at + 2 ≤ length s = omega arith in
    let end : at + 2 + (1 + length w) ≡ n = omega arith in
    let g = and-to (leb 1 (length entries)) (all? entry_writable? entries) good in
    let long = entries-long entries (leb-true _ _ g.0) in
    let some : at + 3 < n = omega arith in
    let rest : drop (at + 3) s ≡ w ++ q = sym (drop-drop 3 at s) ∙ ap (drop 3) e in
    let back : read_entries s n (at + 3) ≡ (entries, true) =
    entries-back entries s n (at + 3) q rest (all?-to entry_writable? entry-few entries g.1) (omega arith) r in
    let fields = writable-fields (information c t entries) good in
    simp (
      lt-leb _ _ before,
      first s at xs e,
      byte s at xs e 1,
      byte s at xs e 2,
      le-leb _ _ two-fit,
      end,
      le-leb _ _ r,
      lt-ltb _ _ some,
      back,
      bit1-flags,
      bit2-flags,
      fields,
    )
suboption-back (name octets) s at q e good =
    let xs = suboption_bytes (name octets) ++ q in
    let n : ℕ = at + length (suboption_bytes (name octets)) in
    let r : n ≤ length s = room s at (suboption_bytes (name octets)) q e (omega arith) in
    let before : at < length s = omega arith in
    let two-fit : at + 2 ≤ length s = omega arith in
    let end : at + 2 + length octets ≡ n = omega arith in
    let g = and-to (leb 1 (length octets)) (fields? (name octets)) good in
    let long : 1 ≤ length octets = leb-true 1 (length octets) g.0 in
    let some : at + 2 < n = omega arith in
    let rest : drop (at + 2) s ≡ octets ++ q = sym (drop-drop 2 at s) ∙ ap (drop 2) e in
    let size : n - (at + 2) ≡ length octets = omega arith in
    let body : take (n - (at + 2)) (drop (at + 2) s) ≡ octets = ap₂ take size rest ∙ take_at octets q (length octets) refl in
    simp (
      lt-leb _ _ before,
      first s at xs e,
      byte s at xs e 1,
      le-leb _ _ two-fit,
      end,
      le-leb _ _ r,
      lt-ltb _ _ some,
      body,
      g.1,
    )
suboption-back unknown s at q e good = let z : ◌≡◌ {A = Bool} false true = good in cc

suboptions-back : (xs : List SuboptionValue) (s : List ℕ) (at : ℕ) → drop at s ≡ suboptions_bytes xs → All (λ x. writable? x ≡ true) xs
    → at + length (suboptions_bytes xs) ≡ length s → read_suboptions s at ≡ (xs, whole)
unfolding suboptions_bytes read_suboption
suboptions-back [] s at h good l =
    let e : length s ≤ at = omega arith in
    suboptions-stop s at (omega arith) whole (simp (le-leb _ _ e))
suboptions-back (x ∷ xs) s at h good l =
    let n : ℕ = at + length (suboption_bytes x) in
    let m = length-append (suboption_bytes x) (suboptions_bytes xs) in
    let r : read_suboption s at ≡ more x n = suboption-back x s at (suboptions_bytes xs) h good.0 in
    let t : read_suboptions s n ≡ (xs, whole) = suboptions-back xs s n (after s at (suboption_bytes x) (suboptions_bytes xs) h) good.1 (omega arith) in
    suboptions-more s at (omega arith) x n r ∙ ap (λ (y : List SuboptionValue × End). (x ∷ y.0, y.1)) t

suboption-long : (x : SuboptionValue) → writable? x ≡ true → 2 ≤ length (suboption_bytes x)
unfolding suboption_bytes request_bytes information_head writable?
suboption-long (request h i l) good = omega arith
suboption-long (information c s entries) good = omega arith
suboption-long (name octets) good = omega arith
suboption-long unknown good = let z : ◌≡◌ {A = Bool} false true = good in let y : ◌≡◌ {A = ℕ} 0 1 = cc in absurd (omega arith)

-- The bytes of a list that can be written, whatever its length.
pub bytes-read-back : (subs : List SuboptionValue) → 1 ≤ length subs → All (λ x. writable? x ≡ true) subs → read_option (option_bytes subs) ≡ accepted subs
unfolding read_option option? option_bytes option_head suboptions_bytes
bytes-read-back [] some good = absurd (omega arith)
bytes-read-back (x ∷ xs) some good =
    let s = option_bytes (x ∷ xs) in
    let n : ℕ = length (suboptions_bytes (x ∷ xs)) in
    let long : 2 ≤ n = omega (arith, suboption-long x good.0, length-append (suboption_bytes x) (suboptions_bytes xs)) in
    let enough : 2 ≤ length s = omega arith in
    let len : 1 + n + 2 ≡ length s = omega arith in
    let two-more : 2 ≤ 1 + n = omega arith in
    let back : read_suboptions s 3 ≡ (x ∷ xs, whole) = suboptions-back (x ∷ xs) s 3 refl good (omega arith) in
    simp (le-leb _ _ enough, eq-eqb _ _ len, le-leb _ _ two-more, back)

-- What a writing that is accepted tells.
pub record Wrote (capacity : ℕ) (subs : List SuboptionValue) (bytes : List ℕ) : Type 0 where
  pub some : 1 ≤ length subs
  pub good : All (λ x. writable? x ≡ true) subs
  pub same : option_bytes subs ≡ bytes
  pub fits : length (option_bytes subs) ≤ capacity
  pub len : 1 + length (suboptions_bytes subs) ≤ 255

pub wrote : (capacity : ℕ) (subs : List SuboptionValue) (bytes : List ℕ) → write_option capacity subs ≡ written bytes → Wrote capacity subs bytes
unfolding write_option
wrote capacity subs bytes h =
    go (leb 1 (length subs) && all? writable? subs) (leb (length (option_bytes subs)) capacity && leb (1 + length (suboptions_bytes subs)) 255) refl refl h
  where
    go : (p q : Bool) → (leb 1 (length subs) && all? writable? subs) ≡ p → (leb (length (option_bytes subs)) capacity && leb (1 + length (suboptions_bytes subs)) 255) ≡ q
        → cond p (cond q (written (option_bytes subs)) (refused_with 14)) (refused_with 13) ≡ written bytes → Wrote capacity subs bytes
    go true true ep eq k =
        let a = and-to (leb 1 (length subs)) (all? writable? subs) ep in
        let b = and-to (leb (length (option_bytes subs)) capacity) (leb (1 + length (suboptions_bytes subs)) 255) eq in
        record { some = leb-true _ _ a.0; good = all?-to writable? (λ x w. w) subs a.1; same = cc; fits = leb-true _ _ b.0; len = leb-true _ _ b.1 }
    go true false ep eq k = let z : ◌≡◌ {A = ℕ} 0 1 = cc in absurd (omega arith)
    go false q ep eq k = let z : ◌≡◌ {A = ℕ} 0 1 = cc in absurd (omega arith)

-- "A written option reads back as the same list of suboptions, entries and figures included."
pub written-reads-back : (capacity : ℕ) (subs : List SuboptionValue) (bytes : List ℕ) → write_option capacity subs ≡ written bytes → read_option bytes ≡ accepted subs
written-reads-back capacity subs bytes h =
    let w = wrote capacity subs bytes h in
    ap read_option (sym w.same) ∙ bytes-read-back subs w.some w.good

-- Option 118: what is written reads back as the same address.
pub selection-reads-back : (a : ℕ) → read_selection (selection_bytes a) ≡ address a
unfolding read_selection selection? selection_bytes four_bytes
selection-reads-back a = simp (four-back a)
