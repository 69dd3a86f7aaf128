-- Texts put one after another, and decimal numbers: how many digits they have, and that these can be put from the last to the first.
-- Assumes nothing.
use Prim.Native.Nat.{ℕ, zero, suc, ◌+◌, ◌-◌, ◌*◌, ◌/◌, ◌^◌, ◌≤◌, ◌<◌}
use mathlib.Core.Path.{◌≡◌, refl, sym, ap, ap₂, subst, ◌∙◌}
use mathlib.Core.Logic.{◌⊎◌, inl, inr, ⊎_elim, by_cases}
use mathlib.Core.List.{List, [], ◌∷◌, ◌++◌, append-nil, append_assoc}
use native.Mathlib.Nat.{pow-suc, pow-le-pow_right}
use native.Mathlib.Decide.{dec_le}
use native.Mathlib.Omega.{arith}
use lib.ListN.{length, take, drop, set, length-append, length-drop, drop_of_length-le}
use lib.Seq.{take_all, drop-drop}
use borrow.Rule.Slice.PartMut.{mid_of, put_mid}
use borrow.Author.Tests.{lt-ltb, le-ltb}
use Rattle.lists.specs.Put.{put}
use Rattle.lists.proofs.PutLaws.{put-nothing, put_one, put-more, put-fits, put-before}
use Rattle.text.specs.Decimal.{digit, digits, decimal}
use Rattle.text.specs.Wrote.{lowest_digits, Width, Wrote, WroteNumber}

-- TEXTS, ONE AFTER ANOTHER

pub wrote_as : {l l' xs ys : List ℕ} {at q : ℕ} → Wrote l at xs l' q → xs ≡ ys → Wrote l at ys l' q
wrote_as {l} {l'} {xs} {ys} {at} {q} w e = subst (λ (t : List ℕ). Wrote l at t l' q) e w

pub wrote_then : {l l₁ l₂ xs ys : List ℕ} {at p q : ℕ} → Wrote l at xs l₁ p → Wrote l₁ p ys l₂ q → Wrote l at (xs ++ ys) l₂ q
wrote_then {l} {l₁} {l₂} {xs} {ys} {at} {p} {q} w v = record {
  bytes = put-more l l₁ l₂ at xs p ys w.bytes w.place v.bytes;
  place = omega (arith, w.place, v.place, length-append xs ys);
}

-- A mark and a text: after another text, and the mark by itself.
pub wrote-marked : {l l₁ l₂ xs n : List ℕ} {mark at p q : ℕ} → Wrote l at xs l₁ p → Wrote l₁ p (mark ∷ n) l₂ q → Wrote l at (xs ++ (mark ∷ []) ++ n) l₂ q
wrote-marked {xs = xs} {n = n} {mark = mark} w v = wrote_as (wrote_then w v) (sym (append_assoc xs (mark ∷ []) n))

pub wrote_one : (l : List ℕ) (at x : ℕ) → Wrote l at (x ∷ []) (set l at x) (at + 1)
wrote_one l at x = record { bytes = sym (put_one l at x); place = refl }

-- A text copied into the part of a buffer from a place on.
pub wrote-part : (l s part : List ℕ) (at n : ℕ) → n ≡ length s → at + length s ≤ length l → part ≡ s ++ drop (length s) (mid_of at (length l - at) l)
    → Wrote l at s (put_mid at (length l - at) l part) (at + n)
wrote-part l s part at n en h e =
    let left : ℕ = length l - at in
    let rest : length (drop at l) ≤ left = omega (arith, length-drop at l) in
    let copied : part ≡ s ++ drop (length s) (drop at l) = e ∙ ap (λ (b : List ℕ). s ++ drop (length s) b) (take_all left (drop at l) rest) in
    let after : drop (length s) (drop at l) ≡ drop (at + length s) l = drop-drop (length s) at l in
    record {
      bytes =
          ap₂ (λ (a b : List ℕ). take at l ++ (a ++ b)) (copied ∙ ap (λ (b : List ℕ). s ++ b) after) (drop_of_length-le (drop at l) rest)
          ∙ ap (λ (b : List ℕ). take at l ++ b) (append-nil (s ++ drop (at + length s) l))
          ∙ sym (put-fits s l at h ∙ append_assoc (take at l) s (drop (at + length s) l));
      place = omega arith;
    }

-- DIGITS

pub length_last : (k n : ℕ) → length (lowest_digits k n) ≡ k
length_last zero n = refl
length_last (suc k) n = omega (arith, length-append (lowest_digits k (n / 10)) (digit n ∷ []), length_last k (n / 10))

one-le : (k : ℕ) → 1 ≤ 10 ^ k
one-le zero = omega arith
one-le (suc k) = omega (arith, pow-suc 10 k, one-le k)

pub next-power : (k : ℕ) → 1 ≤ k → 10 * 10 ^ (k - 1) ≡ 10 ^ k
next-power k h = let whole : suc (k - 1) ≡ k = omega arith in omega (arith, pow-suc 10 (k - 1), ap (λ (m : ℕ). 10 ^ m) whole)

-- These are all: with room for more of them nothing changes.
pub all_digits : (more k n : ℕ) → k ≤ suc more → Width n k → digits more n ≡ lowest_digits k n
unfolding digits
all_digits more zero n h w = absurd (omega arith)
all_digits zero (suc zero) n h w = refl
all_digits (suc more) (suc zero) n h w = rw (lt-ltb n 10 (omega arith)) refl
all_digits zero (suc (suc k)) n h w = absurd (omega arith)
all_digits (suc more) (suc (suc k)) n h w =
    let power = pow-suc 10 k in
    let least : 10 ^ (suc (suc k) - 1) ≡ 10 ^ suc k = ap (λ (m : ℕ). 10 ^ m) (omega arith) in
    let rest : 10 ^ (suc k - 1) ≡ 10 ^ k = ap (λ (m : ℕ). 10 ^ m) (omega arith) in
    let bound : 1 ≤ 10 ^ k = one-le k in
    rw (le-ltb n 10 (omega (arith, power)))
    (ap (λ (front : List ℕ). front ++ (digit n ∷ [])) (all_digits more (suc k) (n / 10) (omega arith) (omega arith, omega (arith, pow-suc 10 (suc k)), omega (arith, power))))

-- A number below 10^most has no more digits than that.
pub few-digits : (n k most : ℕ) → 0 < most → n < 10 ^ most → Width n k → k ≤ most
few-digits n k most pos small w =
    by_cases (dec_le k most) (λ h. h)
    (λ h.
    let large : 10 ^ most ≤ 10 ^ (k - 1) = pow-le-pow_right {n = 10} (omega arith) {i = most} {j = k - 1} (omega arith) in
    absurd (omega (arith, large, w.2)))

-- A number of 32 bits.
pub decimal-digits : (n k : ℕ) → n < 4294967296 → Width n k → decimal n ≡ lowest_digits k n
decimal-digits n k small w = all_digits 9 k n (few-digits n k 10 (omega arith) (omega arith) w) w

pub decimal-room : (n at room : ℕ) → n < 4294967296 → at + length (decimal n) ≤ room → (k : ℕ) → Width n k → at + k ≤ room
decimal-room n at room small h k w = omega (arith, ap length (decimal-digits n k small w), length_last k n)

pub wrote-decimal : {n at q : ℕ} {l l' : List ℕ} → n < 4294967296 → WroteNumber n l at l' q → Wrote l at (decimal n) l' q
wrote-decimal {n} small w = wrote_as w.wrote (sym (decimal-digits n w.size small w.width))

-- No number has more digits than there is room for, or than it needs.
pub length_digits : (more k n : ℕ) → (more ≤ k) ⊎ (n < 10 ^ suc k) → length (digits more n) ≤ suc k
unfolding digits
length_digits zero k n h = omega arith
length_digits (suc more) zero n (inl h) = absurd (omega arith)
length_digits (suc more) zero n (inr h) = rw (lt-ltb n 10 h) (omega arith)
length_digits (suc more) (suc k) n h =
    by_cases (dec_le 10 n)
    (λ large. rw (le-ltb n 10 large) (simp length-append (omega (arith, length_digits more k (n / 10) (⊎_elim (λ (f : suc more ≤ suc k). inl (omega arith)) (λ (f : n < 10 ^ suc (suc k)). inr (omega (arith, pow-suc 10 (suc k)))) h)))))
    (λ small. rw (lt-ltb n 10 (omega arith)) (omega arith))

-- One digit more in front of those that are put, and two.
pub put-digit : (l end : List ℕ) (at i j left : ℕ) → i ≡ suc j → put l at (lowest_digits i left) ≡ end → put (set l (at + j) (digit left)) at (lowest_digits j (left / 10)) ≡ end
put-digit l end at i j left h e =
    let xs : List ℕ = lowest_digits j (left / 10) in
    let place : at + j ≡ at + length xs = omega (arith, length_last j (left / 10)) in
    ap (λ (k : List ℕ). put k at xs) (sym (put_one l (at + j) (digit left)) ∙ ap (λ (m : ℕ). put l m (digit left ∷ [])) place)
    ∙ put-before xs l at (digit left ∷ [])
    ∙ ap (λ (m : ℕ). put l at (lowest_digits m left)) (sym h)
    ∙ e

pub put-digits : (l end : List ℕ) (at i j left : ℕ) → i ≡ suc (suc j) → put l at (lowest_digits i left) ≡ end
    → put (set (set l (at + j + 1) (digit left)) (at + j) (digit (left / 10))) at (lowest_digits j (left / 100)) ≡ end
put-digits l end at i j left h e =
    let place : at + j + 1 ≡ at + suc j = omega arith in
    let rest : left / 100 ≡ left / 10 / 10 = omega arith in
    ap₂ (λ (p m : ℕ). put (set (set l p (digit left)) (at + j) (digit (left / 10))) at (lowest_digits j m)) place rest
    ∙ put-digit (set l (at + suc j) (digit left)) end at (suc j) j (left / 10) refl (put-digit l end at i (suc j) left h e)

-- The first digit, where one is left.
pub put_first : (l end : List ℕ) (at i left : ℕ) → i ≤ 1 → 0 < i → put l at (lowest_digits i left) ≡ end → set l at (digit left) ≡ end
put_first l end at i left h g e =
    let place : at ≡ at + 0 = omega arith in
    ap (λ (p : ℕ). set l p (digit left)) place
    ∙ sym (put-nothing (set l (at + 0) (digit left)) at)
    ∙ put-digit l end at i 0 left (omega arith) e

pub put_last : (l end : List ℕ) (at i left : ℕ) → i ≤ 0 → put l at (lowest_digits i left) ≡ end → l ≡ end
put_last l end at i left h e =
    let none : 0 ≡ i = omega arith in
    sym (put-nothing l at) ∙ ap (λ (m : ℕ). put l at (lowest_digits m left)) none ∙ e
