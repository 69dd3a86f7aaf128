-- Octets read from pairs of digits, over the digits themselves.
-- Assumes nothing.
use Prim.Native.Nat.{ℕ, ◌+◌, ◌-◌, ◌*◌, ◌/◌, ◌%◌, ◌≤◌, ◌<◌}
use native.Mathlib.Omega.{arith}
use mathlib.Core.Path.{◌≡◌, refl, sym, ap, ap₂, ◌∙◌}
use mathlib.Core.Bool.{Bool, true, false, cond}
use mathlib.Core.Option.{none, some}
use mathlib.Core.Option as math
use Rattle.std.specs.Prelude.{Option, Some, None}
use mathlib.Core.List.{List, [], ◌∷◌, ◌++◌, append-nil, append_assoc}
use lib.ListN.{length, take, drop, get_or, set, length-append}
use lib.Seq.{get_or-set_other, take_at, take-append-le, get_or-take, get_or-drop, length-take-le}
use lib.Seq.{drop_at as drop-seam}
use native.Mathlib.Nat.{add-zero}
use borrow.Author.Tests.{eq-eqb, ne_eqb}
use Rattle.lists.specs.Put.{put}
use Rattle.lists.proofs.PutLaws.{put_front, put-nothing, length-put, set_more}
use Rattle.lists.proofs.DropLaws.{drop_at, drop-end}
use Rattle.console_words.specs.Words.{between, first_word, after_word, last?}
use Rattle.console_words.proofs.WordLaws.{length-between}
use Rattle.console_words.specs.Octets.{digit_of, and_then, pairs_of, octets_of, octets_in, last_octets, front}

-- What is put leaves what stands behind it.
pub get_d-put-behind : (xs l : List ℕ) (at k : ℕ) → at + length xs ≤ k → get_or (put l at xs) k 0 ≡ get_or l k 0
unfolding put
get_d-put-behind [] l at k le = refl
get_d-put-behind (x ∷ xs) l at k le = get_d-put-behind xs (set l at x) (at + 1) k (omega arith) ∙ get_or-set_other l at k x 0 (λ e. absurd (omega arith))

abbrev behind : List ℕ → math.Option (List ℕ) → math.Option (List ℕ)
behind xs none = none
behind xs (some ys) = some (xs ++ ys)

-- After i octets.
pub record Pairing (s₀ s : List ℕ) (i : ℕ) : Type 0 where
  pub done : List ℕ
  pub few : i ≤ length s₀ / 2
  pub count : length done ≡ i
  pub bytes : s ≡ put s₀ 0 done
  pub same : pairs_of s₀ ≡ behind done (pairs_of (drop (2 * i) s₀))

same-pairs : (o : math.Option (List ℕ)) → o ≡ behind [] o
same-pairs none = refl
same-pairs (some xs) = refl

pub pairing-none : (s : List ℕ) → Pairing s s 0
pairing-none s = record { done = []; few = omega arith; count = refl; bytes = sym (put-nothing s 0); same = same-pairs (pairs_of s) }

behind_more : (done : List ℕ) (high low : ℕ) (o : math.Option (List ℕ)) → behind done (and_then (Some high) (Some low) o) ≡ behind (done ++ ((16 * high + low) ∷ [])) o
behind_more done high low none = refl
behind_more done high low (some ys) = ap some (sym (append_assoc done ((16 * high + low) ∷ []) ys))

no-low : (l : Option ℕ) (o : math.Option (List ℕ)) → and_then l None o ≡ none
no-low None o = refl
no-low (Some high) o = refl

no-more : (l m : Option ℕ) → and_then l m none ≡ none
no-more None m = refl
no-more (Some high) None = refl
no-more (Some high) (Some low) = refl

module _ (s₀ s : List ℕ) (i : ℕ) (p : Pairing s₀ s i) where
  pub pairing-length : length s ≡ length s₀
  pairing-length = ap length p.bytes ∙ length-put p.done s₀ 0

  digit-here : (k : ℕ) → i ≤ k → get_or s k 0 ≡ get_or s₀ k 0
  digit-here k le = ap (λ (l : List ℕ). get_or l k 0) p.bytes ∙ get_d-put-behind p.done s₀ 0 k (omega (arith, p.count))

  pub pairing-all : i ≡ length s₀ / 2 → length s₀ % 2 ≡ 0 → front (Some (length s₀ / 2)) s ≡ pairs_of s₀
  unfolding pairs_of
  pairing-all all even =
      let none_left : drop (2 * i) s₀ ≡ [] = drop-end s₀ (2 * i) (omega arith) in
      ap some (ap (λ (l : List ℕ). take (length s₀ / 2) l) (p.bytes ∙ put_front p.done s₀ (omega (arith, p.count))) ∙ take_at p.done _ (length s₀ / 2) (omega (arith, p.count)))
      ∙ sym (p.same ∙ ap (λ (l : List ℕ). behind p.done (pairs_of l)) none_left ∙ ap some (append-nil p.done))

  module _ (lt : i < length s₀ / 2) where
    here : drop (2 * i) s₀ ≡ get_or s (2 * i) 0 ∷ get_or s (2 * i + 1) 0 ∷ drop (2 * (i + 1)) s₀
    here =
        let e : 2 * i + 1 + 1 ≡ 2 * (i + 1) = omega arith in
        drop_at s₀ (2 * i) 0 (omega arith) ∙ ap (λ (l : List ℕ). get_or s₀ (2 * i) 0 ∷ l) (drop_at s₀ (2 * i + 1) 0 (omega arith))
        ∙ ap (λ (k : ℕ). get_or s₀ (2 * i) 0 ∷ get_or s₀ (2 * i + 1) 0 ∷ drop k s₀) e
        ∙ ap₂ (λ (a b : ℕ). a ∷ b ∷ drop (2 * (i + 1)) s₀) (sym (digit-here (2 * i) (omega arith))) (sym (digit-here (2 * i + 1) (omega arith)))

    pair-here : (l m : Option ℕ) → l ≡ digit_of (get_or s (2 * i) 0) → m ≡ digit_of (get_or s (2 * i + 1) 0) → pairs_of s₀ ≡ behind p.done (and_then l m (pairs_of (drop (2 * (i + 1)) s₀)))
    unfolding pairs_of
    pair-here l m e d = p.same ∙ ap (λ (l : List ℕ). behind p.done (pairs_of l)) here ∙ sym (ap₂ (λ (l m : Option ℕ). behind p.done (and_then l m (pairs_of (drop (2 * (i + 1)) s₀)))) e d)

    pub pairing-no-high : None ≡ digit_of (get_or s (2 * i) 0) → none ≡ pairs_of s₀
    pairing-no-high e = sym (pair-here _ _ e refl)

    pub pairing-no-low : None ≡ digit_of (get_or s (2 * i + 1) 0) → none ≡ pairs_of s₀
    pairing-no-low d = sym (pair-here _ _ refl d ∙ ap (behind p.done) (no-low (digit_of (get_or s (2 * i) 0)) (pairs_of (drop (2 * (i + 1)) s₀))))

    pub pairing-more : (high low : ℕ) → Some high ≡ digit_of (get_or s (2 * i) 0) → Some low ≡ digit_of (get_or s (2 * i + 1) 0) → Pairing s₀ (set s i (16 * high + low)) (i + 1)
    pairing-more high low e d =
        record {
          done = p.done ++ ((16 * high + low) ∷ []);
          few = omega arith;
          count = omega (arith, length-append p.done ((16 * high + low) ∷ []), p.count);
          bytes = set_more s₀ s _ 0 p.done i (16 * high + low) p.bytes (omega (arith, p.count)) refl;
          same = pair-here _ _ e d ∙ behind_more p.done high low (pairs_of (drop (2 * (i + 1)) s₀));
        }

-- A word of no byte, of one, of more.
pub octets-none : (s : List ℕ) (start end : ℕ) → end - start ≡ 0 → none ≡ octets_of (between start end s)
unfolding octets_of
octets-none s start end e = sym (ap (λ (k : ℕ). octets_of (take k (drop start s))) e)

one_byte : (w : List ℕ) → length w ≡ 1 → w ≡ get_or w 0 0 ∷ []
one_byte [] h = absurd (omega arith)
one_byte (c ∷ []) h = refl
one_byte (c ∷ b ∷ cs) h = absurd (omega arith)

module _ (s : List ℕ) (start end : ℕ) (le : start ≤ end) (inside : end ≤ length s) where
  size : length (between start end s) ≡ end - start
  size = length-between s start end le inside

  module _ (one : end - start ≡ 1) where
    alone : between start end s ≡ get_or s start 0 ∷ []
    alone =
        one_byte (between start end s) (size ∙ one)
        ∙ ap (λ (x : ℕ). x ∷ []) (get_or-take (end - start) (drop start s) 0 0 (omega arith) ∙ get_or-drop start s 0 0)
        ∙ ap (λ (k : ℕ). get_or s k 0 ∷ []) (add-zero start)

    pub octets-dash : get_or s start 0 ≡ 45 → some [] ≡ octets_of (between start end s)
    unfolding octets_of
    octets-dash e = sym (ap octets_of alone ∙ ap (λ (b : Bool). cond b (some []) none) (eq-eqb (get_or s start 0) 45 e))

    pub octets-one : (get_or s start 0 ≡ 45 → ⊥) → none ≡ octets_of (between start end s)
    unfolding octets_of
    octets-one k = sym (ap octets_of alone ∙ ap (λ (b : Bool). cond b (some []) none) (ne_eqb (get_or s start 0) 45 k))

  module _ (more : 1 < end - start) where
    as-pairs : (w : List ℕ) → 1 < length w → octets_of w ≡ pairs_of w
    unfolding octets_of
    as-pairs [] h = absurd (omega arith)
    as-pairs (c ∷ []) h = absurd (omega arith)
    as-pairs (c ∷ b ∷ cs) h = refl

    pub octets-pairs : octets_of (between start end s) ≡ pairs_of (between start end s)
    octets-pairs = as-pairs (between start end s) (omega (arith, size))

    odd-pairs : (w : List ℕ) → length w % 2 ≡ 1 → pairs_of w ≡ none
    unfolding pairs_of
    odd-pairs [] h = let z : ◌≡◌ {A = ℕ} 0 1 = h in absurd (omega arith)
    odd-pairs (c ∷ []) h = refl
    odd-pairs (c ∷ b ∷ cs) h = ap (and_then (digit_of c) (digit_of b)) (odd-pairs cs (omega arith)) ∙ no-more (digit_of c) (digit_of b)

    pub octets-odd : (end - start) % 2 ≡ 1 → none ≡ octets_of (between start end s)
    octets-odd odd = sym (octets-pairs ∙ odd-pairs (between start end s) (ap (λ (k : ℕ). k % 2) size ∙ odd))

    pub octets-none-lent : none ≡ pairs_of (between start end s) → none ≡ octets_of (between start end s)
    octets-none-lent paired = paired ∙ sym octets-pairs

    -- The part of the line that was lent has come back, with octets at its front.
    pub octets-lent : (n : ℕ) (ys post : List ℕ) → n ≤ length ys → front (Some n) ys ≡ pairs_of (between start end s)
        → octets_in (take start s ++ (ys ++ post)) (Some (record { start = start; end = start + n })) ≡ octets_of (between start end s)
    octets-lent n ys post few paired =
        let here : start + n - start ≡ n = omega arith in
        ap₂ (λ (k : ℕ) (l : List ℕ). some (take k l)) here (drop-seam (take start s) (ys ++ post) start (length-take-le start s (omega arith)))
        ∙ ap some (take-append-le n ys post few)
        ∙ paired
        ∙ sym octets-pairs

-- Only the last word spells octets.
pub octets-not-last : (xs : List ℕ) → last? (after_word xs) ≡ false → none ≡ last_octets xs
octets-not-last xs e = sym (ap (λ (b : Bool). cond b (octets_of (first_word xs)) none) e)

pub octets-last : (xs : List ℕ) (o : math.Option (List ℕ)) → last? (after_word xs) ≡ true → o ≡ octets_of (first_word xs) → o ≡ last_octets xs
octets-last xs o e h = h ∙ sym (ap (λ (b : Bool). cond b (octets_of (first_word xs)) none) e)

pub in-none : (s : List ℕ) (start : ℕ) → octets_in s (Some (record { start = start; end = start })) ≡ some []
in-none s start = let z : start - start ≡ 0 = omega arith in ap (λ (k : ℕ). some (take k (drop start s))) z
