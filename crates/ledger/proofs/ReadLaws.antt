-- What the reader gives: the length of a request is at most 30, a figure has 16 bits, the first name has bytes of the option, an option has at most 35 entries,
-- and the place of a bad suboption lies in it.
-- Assumes nothing.
use Prim.Native.Nat.{ℕ, zero, suc, ◌+◌, ◌-◌, ◌*◌, ◌/◌, ◌≤◌, ◌<◌}
use mathlib.Core.Path.{◌≡◌, refl, sym, ap, subst, ◌∙◌}
use mathlib.Core.Bool.{Bool, true, false, cond, true≢false}
use mathlib.Core.Logic.{by_cases}
use native.Mathlib.Decide.{dec_le}
use mathlib.Core.List.{List, [], ◌∷◌}
use native.Mathlib.Omega.{arith}
use lib.ListN.{length, get_or, take, drop, length-append}
use lib.Dec.{leb, eqb}
use borrow.Author.Tests.{leb-true, leb-false, eqb-true, eqb-false, not-true}
use Rattle.lists.specs.Lists.{All}
use Rattle.lists.specs.Walk.{Turn, more, stop, on_turn, walk}
use Rattle.lists.proofs.Tests.{and-to}
use Rattle.lists.proofs.IndexLaws.{all-at}
use Rattle.lists.proofs.ListLaws.{all_append, all_left}
use Rattle.lists.proofs.DropLaws.{all_drop}
use Rattle.prefix.specs.Prefixes.{longest}
use Rattle.option.specs.Values.{Entry, SuboptionValue, request, information, name, unknown, refused}
use Rattle.option.specs.Rules.{final, fields?}
use Rattle.option.specs.declared.Fault.TheVariants.{Framing}
use Rattle.option.specs.Reading.{two, figures_at, entry_at, read_entry, read_entries, End, whole, bad_at, sub_end, sub_inside?, when_good, read_request, read_information, read_name, read_body, read_suboption, read_suboptions, ended, option?, read_option}
use Rattle.option.proofs.EntryLaws.{entry_read, weigh, walk-weight, entries-weight}
use Rattle.option.proofs.SuboptionLaws.{good-read, suboption-read, suboption-moves, information-entries, option-long, body-stops}
use Rattle.option.specs.Contents.{refuses?, place_in, suboptions, requests, entries, requests_in, entries_in, first_name, first_name_in}
use Rattle.ledger.specs.Ledger.{placed?, refusal_place}
use Rattle.ledger.proofs.Counts.{up_to-all}

-- WHAT HOLDS OF EACH PIECE OF A WALK

module _ {A B : Type 0} (P : A → Type 0) (turn : ℕ → Turn A B) (out : B) (p : (at : ℕ) (a : A) (next : ℕ) → turn at ≡ more a next → P a) where
  turn-all : (at : ℕ) (t : Turn A B) (k : ℕ → List A × B) → turn at ≡ t → ((next : ℕ) → All P (k next).0) → All P (on_turn t k).0
  turn-all at (more a next) k e h = (p at a next e, h next)
  turn-all at (stop b) k e h = tt

  pub walk-all : (fuel at : ℕ) → All P (walk turn out fuel at).0
  unfolding walk
  walk-all zero at = tt
  walk-all (suc fuel) at = turn-all at (turn at) (λ next. walk turn out fuel next) refl (λ next. walk-all fuel next)

-- THE FIELDS OF WHAT IS READ

-- What a suboption that is read is like.
module _ (P : SuboptionValue → Type 0) where
  abbrev Gives : Turn SuboptionValue End → Type 0
  Gives t = (x : SuboptionValue) (next : ℕ) → t ≡ more x next → P x

  cond-gives : (b : Bool) (t u : Turn SuboptionValue End) → Gives t → Gives u → Gives (cond b t u)
  cond-gives true t u p q = p
  cond-gives false t u p q = q

  good-gives : (framed : Bool) (x : SuboptionValue) (at end : ℕ) → (fields? x ≡ true → P x) → Gives (when_good framed x at end)
  good-gives framed x at end p y next h = let g = good-read framed x at end y next h in subst P g.2 (p g.1)

  ended-all : (subs : List SuboptionValue) (e : End) → All P subs → All P (suboptions (ended subs e))
  ended-all subs whole a = a
  ended-all subs (bad_at fault place) a = tt

  read_all : (s : List ℕ) → ((at : ℕ) → Gives (read_suboption s at)) → All P (suboptions (read_option s))
  unfolding read_option read_suboptions
  read_all s p = go (option? s)
    where
      go : (b : Bool) → All P (suboptions (cond b (ended (read_suboptions s 3).0 (read_suboptions s 3).1) (refused 6 0)))
      go true = ended-all (read_suboptions s 3).0 (read_suboptions s 3).1 (walk-all P (read_suboption s) whole p (suc (length s)) 3)
      go false = tt

  -- By the kinds of suboptions.
  kinds-all : (s : List ℕ) → ((h i : Bool) (len : ℕ) → fields? (request h i len) ≡ true → P (request h i len)) → ((c t : Bool) (es : List Entry) → fields? (information c t es) ≡ true → P (information c t es))
      → ((n i : ℕ) → fields? (name (take n (drop i s))) ≡ true → P (name (take n (drop i s)))) → P unknown → All P (suboptions (read_option s))
  unfolding read_body read_request read_information read_name
  kinds-all s a b d u =
      read_all s (λ at x next e.
      let end : ℕ = sub_end s at in
      let number : ℕ = get_or s at 0 in
      cond-gives (eqb number 1) (read_request s at end) _ (good-gives _ _ at end (a _ _ _))
      (cond-gives (eqb number 2) (read_information s at end) _ (good-gives _ _ at end (b _ _ _))
      (cond-gives (eqb number 3) (read_name s at end) _ (good-gives _ _ at end (d (end - (at + 2)) (at + 2)))
      (λ y n h. let q : unknown ≡ y = cc in subst P q u)))
      x next (suboption-read s at x next e).body)

pub fields_read : (s : List ℕ) → All (λ x. fields? x ≡ true) (suboptions (read_option s))
unfolding fields?
fields_read s = kinds-all (λ x. fields? x ≡ true) s (λ h i len e. e) (λ c t es e. e) (λ n i e. e) refl

requests-fields : (subs : List SuboptionValue) → All (λ x. fields? x ≡ true) subs → All (λ r. r.length ≤ longest) (requests subs)
unfolding fields?
requests-fields [] a = tt
requests-fields (request h i len ∷ subs) a = (leb-true len longest a.0, requests-fields subs a.1)
requests-fields (information c s es ∷ subs) a = requests-fields subs a.1
requests-fields (name octets ∷ subs) a = requests-fields subs a.1
requests-fields (unknown ∷ subs) a = requests-fields subs a.1

-- "prefix length 0 to 30"
pub requests-short : (s : List ℕ) → All (λ r. r.length ≤ longest) (requests_in s)
requests-short s = requests-fields (suboptions (read_option s)) (fields_read s)

-- "Figures are 16-bit"

byte_at : (s : List ℕ) → All (λ b. b < 256) s → (i : ℕ) → get_or s i 0 < 256
byte_at [] a i = omega arith
byte_at (x ∷ s) a zero = a.0
byte_at (x ∷ s) a (suc i) = byte_at s a.1 i

abbrev Figures16 : Entry → Type 0
Figures16 e = All (λ n. n < 65536) e.figures

figures-read : (s : List ℕ) → All (λ b. b < 256) s → (at : ℕ) → Figures16 (entry_at s at)
unfolding entry_at figures_at
figures-read s a at = up_to-all (λ n. n < 65536) (get_or s (at + 6) 0 / 2) _ (two_at (at + 7), (two_at (at + 7 + 2), (two_at (at + 7 + 4), tt)))
  where
    two_at : (i : ℕ) → two s i < 65536
    two_at i = omega (arith, byte_at s a i, byte_at s a (i + 1))

entries-read : (s : List ℕ) → All (λ b. b < 256) s → (end at : ℕ) → All Figures16 (read_entries s end at).0
unfolding read_entries
entries-read s a end at = walk-all Figures16 (read_entry s end) false (λ i e next h. subst Figures16 (entry_read s end i e next h).1 (figures-read s a i)) (suc end) at

sub-figures : (s : List ℕ) → All (λ b. b < 256) s → (at : ℕ) (x : SuboptionValue) (next : ℕ) → read_suboption s at ≡ more x next → All Figures16 (entries (x ∷ []))
sub-figures s a at (request h i len) next e = tt
sub-figures s a at (information c t es) next e =
    all_append Figures16 es [] (subst (λ (p : List Entry × Bool). All Figures16 p.0) (information-entries s at c t es next e).1 (entries-read s a next (at + 3))) tt
sub-figures s a at (name octets) next e = tt
sub-figures s a at unknown next e = tt

entries-figures : (subs : List SuboptionValue) → All (λ x. All Figures16 (entries (x ∷ []))) subs → All Figures16 (entries subs)
entries-figures [] a = tt
entries-figures (request h i len ∷ subs) a = entries-figures subs a.1
entries-figures (information c t es ∷ subs) a = all_append Figures16 es (entries subs) (all_left Figures16 es [] a.0) (entries-figures subs a.1)
entries-figures (name octets ∷ subs) a = entries-figures subs a.1
entries-figures (unknown ∷ subs) a = entries-figures subs a.1

pub figures-short : (s : List ℕ) → All (λ b. b < 256) s → All (λ e. All (λ n. n < 65536) e.figures) (entries_in s)
figures-short s a = entries-figures (suboptions (read_option s)) (read_all (λ x. All Figures16 (entries (x ∷ []))) s (sub-figures s a))

-- THE FIRST NAME is bytes of the option, and does not end in zero.

abbrev NameBytes : SuboptionValue → Type 0
NameBytes x = All (λ b. b < 256) (first_name (x ∷ []))

first-bytes : (subs : List SuboptionValue) → All NameBytes subs → All (λ b. b < 256) (first_name subs)
first-bytes [] a = tt
first-bytes (request h i len ∷ subs) a = first-bytes subs a.1
first-bytes (information c t es ∷ subs) a = first-bytes subs a.1
first-bytes (name octets ∷ subs) a = a.0
first-bytes (unknown ∷ subs) a = first-bytes subs a.1

pub name-bytes : (s : List ℕ) → All (λ b. b < 256) s → All (λ b. b < 256) (first_name_in s)
name-bytes s a =
    first-bytes (suboptions (read_option s))
    (kinds-all NameBytes s (λ h i len e. tt) (λ c t es e. tt) (λ n i e. up_to-all (λ b. b < 256) n (drop i s) (all_drop (λ b. b < 256) i s a)) tt)

first_ends : (subs : List SuboptionValue) → All (λ x. fields? x ≡ true) subs → (k : ℕ) → length (first_name subs) ≡ suc k → get_or (first_name subs) k 0 ≡ 0 → ⊥
unfolding fields?
first_ends [] a k e z = absurd (omega arith)
first_ends (request h i len ∷ subs) a k e z = first_ends subs a.1 k e z
first_ends (information c t es ∷ subs) a k e z = first_ends subs a.1 k e z
first_ends (name octets ∷ subs) a k e z =
    let last : length octets - 1 ≡ k = omega arith in
    eqb-false (final octets) 0 (not-true (eqb (final octets) 0) a.0) (ap (λ (i : ℕ). get_or octets i 0) last ∙ z)
first_ends (unknown ∷ subs) a k e z = first_ends subs a.1 k e z

pub name-ends : (s : List ℕ) (k : ℕ) → length (first_name_in s) ≡ suc k → get_or (first_name_in s) k 0 ≡ 0 → ⊥
name-ends s = first_ends (suboptions (read_option s)) (fields_read s)

-- HOW MANY

-- The bytes that a request and an information need at least.
abbrev bytes_of : SuboptionValue → ℕ
bytes_of (request h i len) = 4
bytes_of (information c s es) = 3 + 7 * length es
bytes_of (name octets) = 0
bytes_of unknown = 0

abbrev Needs : ℕ → Turn SuboptionValue End → Type 0
Needs at t = (h i : Bool) (len next : ℕ) → t ≡ more (request h i len) next → at + 4 ≡ next

cond-needs : (b : Bool) (at : ℕ) (t u : Turn SuboptionValue End) → Needs at t → Needs at u → Needs at (cond b t u)
cond-needs true at t u p q = p
cond-needs false at t u p q = q

body-needs : (number : ℕ) (s : List ℕ) (at end : ℕ) → Needs at (read_body number s at end)
unfolding read_body read_request read_information read_name
body-needs number s at end =
    cond-needs (eqb number 1) at (read_request s at end) _
    (λ h i len next e. let g = good-read (eqb end (at + 4)) _ at end (request h i len) next e in omega (arith, eqb-true end (at + 4) g.0, g.3))
    (cond-needs (eqb number 2) at (read_information s at end) _
    (λ h i len next e. let g = good-read _ _ at end (request h i len) next e in let w = g.2 in let z : ◌≡◌ {A = ℕ} 0 1 = cc in absurd (omega arith))
    (cond-needs (eqb number 3) at (read_name s at end) _
    (λ h i len next e. let g = good-read _ _ at end (request h i len) next e in let w = g.2 in let z : ◌≡◌ {A = ℕ} 0 1 = cc in absurd (omega arith))
    (λ h i len next e. let z : ◌≡◌ {A = ℕ} 0 1 = cc in absurd (omega arith))))

sub-weight : (s : List ℕ) (at : ℕ) (x : SuboptionValue) (next : ℕ) → read_suboption s at ≡ more x next → at + bytes_of x ≤ next
sub-weight s at (request h i len) next e = omega (arith, body-needs (get_or s at 0) s at (sub_end s at) h i len next (suboption-read s at (request h i len) next e).body)
sub-weight s at (information c t es) next e =
    let r = information-entries s at c t es next e in
    omega (arith, entries-weight s next (at + 3) (omega (arith, r.0)), ap (λ (p : List Entry × Bool). length p.0) r.1)
sub-weight s at (name octets) next e = omega (arith, (suboption-moves s at (name octets) next e).0)
sub-weight s at unknown next e = omega (arith, (suboption-moves s at unknown next e).0)

entries-of-weight : (subs : List SuboptionValue) → 4 * length (requests subs) + 7 * length (entries subs) ≤ weigh bytes_of subs
entries-of-weight [] = omega arith
entries-of-weight (request h i len ∷ subs) = omega (arith, entries-of-weight subs)
entries-of-weight (information c s es ∷ subs) = omega (arith, entries-of-weight subs, length-append es (entries subs))
entries-of-weight (name octets ∷ subs) = omega (arith, entries-of-weight subs)
entries-of-weight (unknown ∷ subs) = omega (arith, entries-of-weight subs)

-- Where there is an entry there is an information around it.
entries-head : (subs : List SuboptionValue) → 1 ≤ length (entries subs) → 3 + 7 * length (entries subs) ≤ weigh bytes_of subs
entries-head [] h = absurd (omega arith)
entries-head (request h i len ∷ subs) k = omega (arith, entries-head subs k)
entries-head (information c s es ∷ subs) k = omega (arith, entries-of-weight subs, length-append es (entries subs))
entries-head (name octets ∷ subs) k = omega (arith, entries-head subs k)
entries-head (unknown ∷ subs) k = omega (arith, entries-head subs k)

ended-weight : (subs : List SuboptionValue) (e : End) → weigh bytes_of (suboptions (ended subs e)) ≤ weigh bytes_of subs
ended-weight subs whole = omega arith
ended-weight subs (bad_at fault place) = omega arith

short : (s : List ℕ) → All (λ b. b < 256) s → option? s ≡ true → length s ≤ 257
unfolding option?
short s a e =
    let b = and-to (leb 2 (length s)) _ e in
    let c = and-to (eqb (get_or s 0 0) 220) _ b.1 in
    let d = and-to (eqb (get_or s 1 0 + 2) (length s)) (leb 2 (get_or s 1 0)) c.1 in
    omega (arith, eqb-true (get_or s 1 0 + 2) (length s) d.0, all-at (λ v. v < 256) s a 1 0 (leb-true 2 (length s) b.0))

few : (s : List ℕ) → length s ≤ 257 → 3 + weigh bytes_of (suboptions (read_option s)) ≤ 257
unfolding read_option read_suboptions
few s l = go (option? s) refl
  where
    go : (b : Bool) → option? s ≡ b → 3 + weigh bytes_of (suboptions (cond b (ended (read_suboptions s 3).0 (read_suboptions s 3).1) (refused 6 0))) ≤ 257
    go true e =
        omega (
          arith,
          ended-weight (read_suboptions s 3).0 (read_suboptions s 3).1,
          walk-weight bytes_of (read_suboption s) whole (length s) (λ at x next e. (sub-weight s at x next e, (suboption-moves s at x next e).1)) (suc (length s)) 3 (omega (arith, option-long s e)),
        )
    go false e = omega arith

-- An option holds at most 35 entries.
pub entries-few : (s : List ℕ) → length s ≤ 257 → length (entries_in s) ≤ 35
entries-few s l =
    by_cases (dec_le 1 (length (entries_in s)))
    (λ h. omega (arith, few s l, entries-head (suboptions (read_option s)) h))
    (λ h. omega arith)

-- An option of bytes that is no refusal of row 6 has at most 257 bytes.
pub option-short : (s : List ℕ) → All (λ b. b < 256) s → refuses? 6 (read_option s) ≡ false → length s ≤ 257
unfolding read_option
option-short s a r = go (option? s) refl r
  where
    go : (b : Bool) → option? s ≡ b → refuses? 6 (cond b (ended (read_suboptions s 3).0 (read_suboptions s 3).1) (refused 6 0)) ≡ false → length s ≤ 257
    go true e f = short s a e
    go false e f = absurd (true≢false f)

-- THE PLACE of a bad suboption lies in the option.

module _ {A B : Type 0} (P : B → Type 0) (turn : ℕ → Turn A B) (out : B) (q : P out) (p : (at : ℕ) (b : B) → turn at ≡ stop b → P b) where
  turn-reason : (at : ℕ) (t : Turn A B) (k : ℕ → List A × B) → turn at ≡ t → ((next : ℕ) → P (k next).1) → P (on_turn t k).1
  turn-reason at (more a next) k e h = h next
  turn-reason at (stop b) k e h = p at b e

  walk-reason : (fuel at : ℕ) → P (walk turn out fuel at).1
  unfolding walk
  walk-reason zero at = q
  walk-reason (suc fuel) at = turn-reason at (turn at) (λ next. walk turn out fuel next) refl (λ next. walk-reason fuel next)

abbrev Within : ℕ → End → Type 0
Within n whole = Unit {0}
Within n (bad_at fault place) = place ≤ n

sub-stops : (s : List ℕ) (at : ℕ) (b : End) → read_suboption s at ≡ stop b → Within (length s) b
unfolding read_suboption
sub-stops s at b = go (leb (length s) at) (sub_inside? s at) refl b
  where
    go : (p q : Bool) → leb (length s) at ≡ p → (b : End) → cond p (stop whole) (cond q (read_body (get_or s at 0) s at (sub_end s at)) (stop (bad_at Framing at))) ≡ stop b → Within (length s) b
    go true q l b e = let z : whole ≡ b = cc in subst (Within (length s)) z tt
    go false true l b e = subst (Within (length s)) (sym (body-stops (get_or s at 0) s at (sub_end s at) b e).1) (omega (arith, leb-false (length s) at l))
    go false false l b e = let z : bad_at Framing at ≡ b = cc in subst (Within (length s)) z (omega (arith, leb-false (length s) at l))

pub place_inside : (s : List ℕ) → place_in (read_option s) ≤ length s
unfolding read_option read_suboptions
place_inside s = go (option? s)
  where
    ended-place : (subs : List SuboptionValue) (e : End) → Within (length s) e → place_in (ended subs e) ≤ length s
    ended-place subs whole w = omega arith
    ended-place subs (bad_at fault place) w = w

    go : (b : Bool) → place_in (cond b (ended (read_suboptions s 3).0 (read_suboptions s 3).1) (refused 6 0)) ≤ length s
    go true = ended-place (read_suboptions s 3).0 (read_suboptions s 3).1 (walk-reason (Within (length s)) (read_suboption s) whole tt (sub-stops s) (suc (length s)) 3)
    go false = omega arith

-- "7 also its place", and 16: at most 257.
pub place_short : (s : List ℕ) → All (λ b. b < 256) s → (n : ℕ) → refusal_place s n ≤ 257
unfolding read_option
place_short s a n = go (placed? n)
  where
    at : (b : Bool) → option? s ≡ b → place_in (cond b (ended (read_suboptions s 3).0 (read_suboptions s 3).1) (refused 6 0)) ≤ length s
        → place_in (cond b (ended (read_suboptions s 3).0 (read_suboptions s 3).1) (refused 6 0)) ≤ 257
    at true e l = omega (arith, short s a e)
    at false e l = omega arith

    go : (b : Bool) → cond b (place_in (read_option s)) 0 ≤ 257
    go true = at (option? s) refl (place_inside s)
    go false = omega arith
