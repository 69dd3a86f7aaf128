-- Patterns that were filled, as the lines that they make.
-- Assumes nothing.
use Prim.Native.Nat.{ℕ, zero, suc, ◌+◌, ◌-◌, ◌*◌, ◌/◌, ◌%◌, ◌^◌, ◌≤◌, ◌<◌}
use native.Mathlib.Nat.{pow-le-pow_right, pow-suc}
use native.Mathlib.Omega.{arith}
use mathlib.Core.Path.{◌≡◌, refl, sym, ap, ap₂, subst, ◌∙◌}
use mathlib.Core.Bool.{Bool, true, false, cond}
use mathlib.Core.List.{List, [], ◌∷◌, ◌++◌}
use lib.ListN.{length, take, length-append}
use lib.Seq.{take_all}
use lib.Dec.{ltb, leb, eqb}
use borrow.Author.Tests.{lt-ltb, ltb-true, ltb-false, leb-true, leb-false}
use Rattle.lists.specs.Lists.{All, concat_map}
use Rattle.lists.proofs.ConcatMapLaws.{length-concat_map}
use Rattle.lists.specs.Put.{put}
use Rattle.lists.proofs.PutLaws.{put-more}
use Rattle.io.specs.Digits.{hex_digit_ascii, last_digits, IsDigitCount}
use Rattle.console_text.specs.Text.{hex_of, Decimal, Piece, Spells, Filled}
use Rattle.text.specs.Decimal.{digits as digits_of}
use Rattle.text.specs.Wrote.{Wrote}
use Rattle.console_lines.specs.Lines.{decimal}

-- THE FEWEST DIGITS

last_glyph : (n : ℕ) → hex_digit_ascii (n % 10) ≡ 48 + n % 10
last_glyph n = ap (λ (b : Bool). cond b (48 + n % 10) (87 + n % 10)) (lt-ltb (n % 10) 10 (omega arith))

one-digit : (n : ℕ) → last_digits 10 1 n ≡ (48 + n % 10) ∷ []
one-digit n = ap (λ (x : ℕ). x ∷ []) (last_glyph n)

module _ (n j : ℕ) (f : IsDigitCount 10 1 n (suc j)) where
  alone : n < 10 → j ≡ 0
  alone small = by (leb j 0) refl
    where
      by : (b : Bool) → leb j 0 ≡ b → j ≡ 0
      by true e = omega (arith, leb-true j 0 e)
      by false e =
          let more : 0 < j = leb-false j 0 e in
          let large : 10 ^ 1 ≤ 10 ^ j = pow-le-pow_right {n = 10} (omega arith) {i = 1} {j = j} (omega arith) in
          let here : 10 ^ (suc j - 1) ≤ n = f.2 (omega arith) in
          let same : suc j - 1 ≡ j = omega arith in
          absurd (omega (arith, ap (λ (k : ℕ). 10 ^ k) same))

  not-alone : 10 ≤ n → 0 < j
  not-alone large = by (leb 1 j) refl
    where
      by : (b : Bool) → leb 1 j ≡ b → 0 < j
      by true e = omega (arith, leb-true 1 j e)
      by false e =
          let none : j ≡ 0 = omega (arith, leb-false 1 j e) in
          absurd (omega (arith, f.1, ap (λ (k : ℕ). 10 ^ suc k) none))

  fewer : 10 ≤ n → IsDigitCount 10 1 (n / 10) j
  fewer large =
      let some : 0 < j = not-alone large in
      let same : suc j - 1 ≡ j = omega arith in (
        omega arith,
        omega (arith, f.1, pow-suc 10 j),
        λ more.
            let split : 10 ^ j ≡ 10 ^ (j - 1) * 10 = let e : j ≡ suc (j - 1) = omega arith in ap (λ (k : ℕ). 10 ^ k) e ∙ pow-suc 10 (j - 1) in
            let here : 10 ^ (suc j - 1) ≤ n = f.2 (omega arith) in
            omega (arith, ap (λ (k : ℕ). 10 ^ k) same),
      )

abbrev Spelled : ℕ → Type 0
Spelled more = (j n : ℕ) → j ≤ more → IsDigitCount 10 1 n (suc j) → last_digits 10 (suc j) n ≡ digits_of more n

one_more : (more j n : ℕ) → j ≤ suc more → IsDigitCount 10 1 n (suc j) → Spelled more → (b : Bool) → ltb n 10 ≡ b → last_digits 10 (suc j) n ≡ digits_of (suc more) n
unfolding digits_of
one_more more j n le f fewer-spelled true e =
    ap (λ (k : ℕ). last_digits 10 (suc k) n) (alone n j f (ltb-true n 10 e)) ∙ one-digit n
    ∙ sym (ap (λ (b : Bool). cond b ((48 + n % 10) ∷ []) (digits_of more (n / 10) ++ ((48 + n % 10) ∷ []))) e)
one_more more j n le f fewer-spelled false e =
    let large : 10 ≤ n = ltb-false n 10 e in
    let back : j ≡ suc (j - 1) = omega (arith, not-alone n j f large) in
    ap₂ (λ (l : List ℕ) (x : ℕ). l ++ (x ∷ []))
    (ap (λ (k : ℕ). last_digits 10 k (n / 10)) back ∙ fewer-spelled (j - 1) (n / 10) (omega arith) (subst (IsDigitCount 10 1 (n / 10)) back (fewer n j f large)))
    (last_glyph n)
    ∙ sym (ap (λ (b : Bool). cond b ((48 + n % 10) ∷ []) (digits_of more (n / 10) ++ ((48 + n % 10) ∷ []))) e)

spelt-digits : (more : ℕ) → Spelled more
unfolding digits_of
spelt-digits zero zero n le f = one-digit n
spelt-digits zero (suc j) n le f = absurd (omega arith)
spelt-digits (suc more) j n le f = one_more more j n le f (spelt-digits more) (ltb n 10) refl

few-by : (n k : ℕ) → n < 10 ^ 20 → IsDigitCount 10 1 n k → (b : Bool) → leb k 20 ≡ b → k ≤ 20
few-by n k small f true e = leb-true k 20 e
few-by n k small f false e =
    let past : 20 < k = leb-false k 20 e in
    let large : 10 ^ 20 ≤ 10 ^ (k - 1) = pow-le-pow_right {n = 10} (omega arith) {i = 20} {j = k - 1} (omega arith) in
    absurd (omega (arith, f.2 (omega arith)))

pub decimal-of : (n k : ℕ) → n < 10 ^ 20 → IsDigitCount 10 1 n k → last_digits 10 k n ≡ decimal n
decimal-of n k small f =
    let back : k ≡ suc (k - 1) = omega (arith, f.0) in
    ap (λ (j : ℕ). last_digits 10 j n) back ∙ spelt-digits 19 (k - 1) n (omega (arith, few-by n k small f (leb k 20) refl)) (subst (IsDigitCount 10 1 n) back f)

-- FILLED PATTERNS

abbrev piece : Bool → ℕ → List ℕ → (List ℕ → List ℕ) → List ℕ
piece true c (n ∷ ns) later = decimal n ++ later ns
piece true c [] later = c ∷ later []
piece false c ns later = c ∷ later ns

abbrev pub filled : List ℕ → List ℕ → List ℕ
filled [] ns = []
filled (c ∷ cs) ns = piece (eqb c 37) c ns (filled cs)

abbrev pub Small : List ℕ → Type 0
Small ns = All (λ n. n < 10 ^ 20) ns

piece-spelled : (b : Bool) (c : ℕ) (cs ns text : List ℕ) → ((ms rest : List ℕ) → Small ms → Spells cs ms rest → rest ≡ filled cs ms) → Small ns → Piece b c ns (Spells cs) text → text ≡ piece b c ns (filled cs)
piece-spelled true c cs (n ∷ ns) text later small h = h.same ∙ ap₂ (λ (a b : List ℕ). a ++ b) (decimal-of n h.k small.0 h.fewest) (later ns h.rest small.1 h.goes_on)
piece-spelled true c cs [] text later small h = h.same ∙ ap (λ (l : List ℕ). c ∷ l) (later [] h.rest small h.goes_on)
piece-spelled false c cs ns text later small h = h.same ∙ ap (λ (l : List ℕ). c ∷ l) (later ns h.rest small h.goes_on)

spelled : (pattern ns text : List ℕ) → Small ns → Spells pattern ns text → text ≡ filled pattern ns
spelled [] ns text small h = h
spelled (c ∷ cs) ns text small h = piece-spelled (eqb c 37) c cs ns text (spelled cs) small h

pub filled-wrote : (pattern ns old : List ℕ) (at : ℕ) (new : List ℕ) (r : ℕ) → Small ns → Filled pattern ns old at new r → Wrote old at (filled pattern ns) new r
filled-wrote pattern ns old at new r small f =
    let e : f.text ≡ filled pattern ns = spelled pattern ns f.text small f.spells in
    record { bytes = f.bytes ∙ ap (put old at) e; place = f.ends ∙ ap (λ (l : List ℕ). at + length l) e }

-- PIECES ONE AFTER THE OTHER

pub text-wrote : (old : List ℕ) (at : ℕ) (text new : List ℕ) (r : ℕ) → r ≡ at + length text → new ≡ put old at text → Wrote old at text new r
text-wrote old at text new r place bytes = record { bytes = bytes; place = place }

pub octets-wrote : (old : List ℕ) (at : ℕ) (octets new : List ℕ) (r : ℕ) → r ≡ at + 2 * length octets → new ≡ put old at (concat_map hex_of octets) → Wrote old at (concat_map hex_of octets) new r
octets-wrote old at octets new r place bytes = record { bytes = bytes; place = omega (arith, length-concat_map hex_of 2 octets (sized octets)) }
  where
    sized : (l : List ℕ) → All (λ x. length (hex_of x) ≡ 2) l
    sized [] = tt
    sized (x ∷ xs) = (refl, sized xs)

pub number-wrote : (n : ℕ) (old : List ℕ) (at : ℕ) (new : List ℕ) (r : ℕ) → n < 10 ^ 20 → at ≤ r → Decimal n old at new (r - at) → Wrote old at (decimal n) new r
number-wrote n old at new r small le d =
    let e : last_digits 10 (r - at) n ≡ decimal n = decimal-of n (r - at) small d.fewest in
    record { bytes = d.bytes ∙ ap (put old at) e; place = omega (arith, ap length e, length_digits (r - at) n) }
  where
    length_digits : (k m : ℕ) → length (last_digits 10 k m) ≡ k
    length_digits zero m = refl
    length_digits (suc k) m = omega (arith, length-append (last_digits 10 k (m / 10)) (hex_digit_ascii (m % 10) ∷ []), length_digits k (m / 10))

pub then-wrote : (old mid new first second : List ℕ) (at p r : ℕ) → Wrote old at first mid p → Wrote mid p second new r → Wrote old at (first ++ second) new r
then-wrote old mid new first second at p r a b =
    record { bytes = put-more old mid new at first p second a.bytes a.place b.bytes; place = omega (arith, a.place, b.place, length-append first second) }

pub wrote_as : (old : List ℕ) (at : ℕ) (text line new : List ℕ) (r : ℕ) → text ≡ line → Wrote old at text new r → Wrote old at line new r
wrote_as old at text line new r e w = subst (λ (l : List ℕ). Wrote old at l new r) e w

-- The first bytes of a buffer, at most as many as it has.
pub first-bytes : (bytes k : ℕ) (l : List ℕ) → (length l < bytes → k ≡ length l) → (bytes ≤ length l → k ≡ bytes) → take (k - 0) l ≡ take bytes l
first-bytes bytes k l over under = by (leb bytes (length l)) refl
  where
    by : (b : Bool) → leb bytes (length l) ≡ b → take (k - 0) l ≡ take bytes l
    by true e = let z : k - 0 ≡ bytes = omega (arith, under (leb-true bytes (length l) e)) in ap (λ (i : ℕ). take i l) z
    by false e =
        let past : length l < bytes = leb-false bytes (length l) e in
        take_all (k - 0) l (omega (arith, over past)) ∙ sym (take_all bytes l (omega arith))
