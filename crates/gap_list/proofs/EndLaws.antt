-- Rounding by masks, and the best fit at the two ends of a gap by their lowest bit.
-- Assumes nothing.
use Prim.Native.Nat.{ℕ, zero, suc, ◌+◌, ◌-◌, ◌^◌, ◌%◌, ◌≤◌, ◌<◌}
use mathlib.Core.Path.{◌≡◌, sym, ap, ap₂, ◌∙◌}
use mathlib.Core.Logic.{by_cases}
use mathlib.Core.Option.{Option, some}
use native.Mathlib.Nat.{le_refl, mod-lt, div-add-mod', pow-suc}
use native.Mathlib.Decide.{dec_le}
use native.Mathlib.Omega.{arith}
use lib.Bits.{bit_and, bit_or, and_mask, and_zero_l, or_add_and, and_le_l}
use lib.Dec.{ltb}
use lib.Pow.{pow_mono, pow_pos}
use borrow.Author.Tests.{lt-ltb, le-ltb}
use Rattle.lists.proofs.Tests.{cond-true, cond-false}
use Rattle.prefix.specs.declared.Prefix.{Prefix}
use Rattle.prefix.specs.Prefixes.{size, prefix}
use Rattle.prefix.proofs.PrefixLaws.{size-positive}
use Rattle.prefix.proofs.Nesting.{aligned-down, next_multiple}
use Rattle.free_space.specs.Scan.{length_of, levels, in_gap, round_up, round_down}
use Rattle.free_space.proofs.LevelLaws.{levels-low, levels-high, levels-on, levels-none, gap-small, gap-nothing, gap-empty, gap_ends}
use Rattle.free_space.proofs.GapLaws.{up_multiple, up-ge, up_least, down-multiple, down_le}
use Rattle.gap_list.specs.declared.Best.{Best}
use Rattle.gap_list.specs.InnerSearch.{Passed, bits_of, BestFound, AtEnd}
use Rattle.gap_list.proofs.BitLaws.{Lowest, lowest, or-multiple, multiple-or}

-- rounding

size-mask : (x l s : ℕ) → s ≡ size l → bit_and x (s - 1) ≡ x % size l
size-mask x l s e = ap (λ (t : ℕ). bit_and x (t - 1)) e ∙ and_mask x (32 - l)

module _ (l s : ℕ) (sized : s ≡ size l) where
  pub mask-down : (x : ℕ) → x - bit_and x (s - 1) ≡ round_down l x
  mask-down x = ap (λ (y : ℕ). x - y) (size-mask x l s sized)

  pub mask_up : (x : ℕ) → x + (s - 1) - bit_and (x + (s - 1)) (s - 1) ≡ round_up l x
  mask_up x =
      let up : ℕ = x + (s - 1) in
      let near : x ≤ round_down l up = omega (arith, div-add-mod' up (size l), mod-lt up (size-positive l), sized) in
      let above : round_up l x ≤ round_down l up = up_least l x (round_down l up) (down-multiple l up) near in
      let below : round_down l up ≤ round_up l x =
      by_cases (dec_le (round_down l up) (round_up l x)) (λ h. h)
      (λ h. absurd (omega (arith, next_multiple (size l) (round_up l x) (round_down l up) (up_multiple l x) (down-multiple l up) (omega arith), up-ge l x, down_le l up, sized, size-positive l))) in
      mask-down up ∙ omega arith

-- The first prefix of the size that begins in a gap ends behind it: the gap has none.
pub gap-passed : (mask a b : ℕ) → b < a + mask - bit_and (a + mask) mask + mask → Passed a b mask
gap-passed mask a b h l best e =
    let m : mask + 1 - 1 ≡ mask = omega arith in
    let up : a + mask - bit_and (a + mask) mask ≡ round_up l a = ap (λ (x : ℕ). a + x - bit_and (a + x) x) (sym m) ∙ mask_up l (mask + 1) (sym e) a in
    let shut : round_down l (b + 1) ≤ round_up l a =
    by_cases (dec_le (round_down l (b + 1)) (round_up l a)) (λ k. k)
    (λ k. absurd (omega (arith, next_multiple (size l) (round_up l a) (round_down l (b + 1)) (up_multiple l a) (down-multiple l (b + 1)) (omega arith), down_le l (b + 1), up, e, h))) in
    by_cases (dec_le (a + size l) (b + 1)) (λ k. gap-empty l best a (b + 1) k shut) (λ k. gap-small l best a (b + 1) (omega arith))

-- What the bits of both ends say.

pub bits-some : (low high : ℕ) → low < high → bits_of low high ≡ bit_or low high
bits-some low high h = cond-true (ltb low high) (bit_or low high) 0 (lt-ltb low high h)

pub bits_none : (low high : ℕ) → high ≤ low → bits_of low high ≡ 0
bits_none low high h = cond-false (ltb low high) (bit_or low high) 0 (le-ltb low high h)

-- Both ends are multiples down to a length: the larger sizes that remain are those from there on.
levels-skip : (a b stop l len : ℕ) (best : Option Prefix) (d : ℕ) → d + len ≡ l → stop < len → a % size len ≡ 0 → b % size len ≡ 0
    → levels a b stop (l - stop) best ≡ levels a b stop (len - stop) best
levels-skip a b stop l len best zero e h p q = let f : l ≡ len = omega arith in ap (λ (k : ℕ). levels a b stop (k - stop) best) f
levels-skip a b stop l len best (suc d) e h p q =
    levels-on a b stop l best (omega arith)
    (aligned-down a (32 - (l - 1)) (32 - len) (omega arith) p) (aligned-down b (32 - (l - 1)) (32 - len) (omega arith) q)
    ∙ levels-skip a b stop (l - 1) len best d (omega arith) h p q

-- the lowest bit of both ends

module _ (low high : ℕ) (room : low < high) (bound : high ≤ 4294967296) where
  pub positive : 0 < bit_or low high
  positive = omega (arith, or_add_and low high, and_le_l low high)

  pub low_bit : Lowest (bit_or low high)
  low_bit = lowest (bit_or low high) positive

  -- As the code has it.
  pub bit_is : (ends : ℕ) → ends ≡ bit_or low high → ends - bit_and ends (ends - 1) ≡ 2 ^ low_bit.place
  bit_is ends e = ap (λ (x : ℕ). x - bit_and x (x - 1)) e ∙ low_bit.value

  multiples : (low % 2 ^ low_bit.place ≡ 0) × (high % 2 ^ low_bit.place ≡ 0)
  multiples = or-multiple low_bit.place low high low_bit.multiple

  -- A prefix of that size fits.
  fits_in : low + 2 ^ low_bit.place ≤ high
  fits_in = next_multiple (2 ^ low_bit.place) low high multiples.0 multiples.1 room

  module _ (s : ℕ) (is : s ≡ 2 ^ low_bit.place) where
    pub bit-positive : 0 < s
    bit-positive = omega (arith, is, pow_pos low_bit.place)

    pub bit-fits : low + s ≤ high
    bit-fits = omega (arith, is, fits_in)

    twice-mask : (x : ℕ) → bit_and x (s + s - 1) ≡ x % 2 ^ suc low_bit.place
    twice-mask x =
        let e : s + s ≡ 2 ^ suc low_bit.place = omega (arith, is, pow-suc 2 low_bit.place) in
        ap (λ (t : ℕ). bit_and x (t - 1)) e ∙ and_mask x (suc low_bit.place)

    module _ (stop l : ℕ) (best : Option Prefix) (long : l ≤ 32) (at_low : low % size l ≡ 0) (at_high : high % size l ≡ 0) (odd : bit_or low high % size stop ≡ 0 → ⊥) where
      -- The bit lies below the best's size, and not below the size that is asked for.
      below : low_bit.place < 32 - stop
      below =
          by_cases (dec_le (32 - stop) low_bit.place)
          (λ h. absurd (odd (aligned-down (bit_or low high) (32 - stop) low_bit.place h low_bit.multiple)))
          (λ h. omega arith)

      above : 32 - l ≤ low_bit.place
      above =
          by_cases (dec_le (32 - l) low_bit.place) (λ h. h)
          (λ h. absurd (low_bit.odd (multiple-or (suc low_bit.place) low high
          (aligned-down low (suc low_bit.place) (32 - l) (omega arith) at_low) (aligned-down high (suc low_bit.place) (32 - l) (omega arith) at_high))))

      abbrev len : ℕ
      len = 32 - low_bit.place

      order_is : 32 - len ≡ low_bit.place
      order_is = omega (arith, below)

      order-next : 32 - (len - 1) ≡ suc low_bit.place
      order-next = omega (arith, below)

      at : (x : ℕ) → x % 2 ^ low_bit.place ≡ 0 → x % size len ≡ 0
      at x e = ap (λ (k : ℕ). x % 2 ^ k) order_is ∙ e

      skip : levels low high stop (l - stop) best ≡ levels low high stop (len - stop) best
      skip = levels-skip low high stop l len best (l - len) (omega (arith, below, above)) (omega (arith, below)) (at low multiples.0) (at high multiples.1)

      less : size l ≤ s
      less = omega (arith, is, pow_mono {i = 32 - l} {j = low_bit.place} above)

      sized : s ≡ size len
      sized = is ∙ ap (λ (k : ℕ). 2 ^ k) (sym order_is)

      pub found-low : (bit_and low (s + s - 1) ≡ 0 → ⊥) → BestFound low high stop l best (record { network = low; size = s })
      found-low o = record {
        length = len;
        sized = sized;
        better = omega (arith, below);
        short = omega (arith, above, long);
        fits = skip ∙ levels-low low high stop len best (omega (arith, below)) (λ e. o (twice-mask low ∙ ap (λ (k : ℕ). low % 2 ^ k) (sym order-next) ∙ e));
        inside = (le_refl low, omega (arith, less, bit-fits));
      }

      pub found-high : bit_and low (s + s - 1) ≡ 0 → BestFound low high stop l best (record { network = high - s; size = s })
      found-high e =
          let even : low % 2 ^ suc low_bit.place ≡ 0 = sym (twice-mask low) ∙ e in
          record {
            length = len;
            sized = sized;
            better = omega (arith, below);
            short = omega (arith, above, long);
            fits =
                skip
                ∙ levels-high low high stop len best (omega (arith, below)) (ap (λ (k : ℕ). low % 2 ^ k) order-next ∙ even)
                (λ f. low_bit.odd (multiple-or (suc low_bit.place) low high even (ap (λ (k : ℕ). high % 2 ^ k) (sym order-next) ∙ f)))
                ∙ ap (λ (k : ℕ). some (prefix (high - k) len)) (sym sized);
            inside = (omega (arith, bit-fits), omega (arith, less, bit-fits));
          }

-- One gap, from its ends rounded: nothing better than the best so far, or what is found at an end.
module _ (l s from last low high : ℕ) (best : Option Prefix) (sized : s ≡ size l) (at_low : low ≡ round_up l from) (at_high : high ≡ round_down l (last + 1)) where
  -- A gap that is too small has nothing between its rounded ends.
  gap-closed : high ≤ low → in_gap l best from (last + 1) ≡ best
  gap-closed h =
      by_cases (dec_le (from + size l) (last + 1)) (λ k. gap-empty l best from (last + 1) k (omega arith)) (λ k. gap-small l best from (last + 1) (omega arith))

  pub gap-worse : (t : ℕ) → t ≡ size (length_of best) → bit_and (bits_of low high) (t - 1) ≡ 0 → in_gap l best from (last + 1) ≡ best
  gap-worse t e z =
      by_cases (dec_le high low) gap-closed
      (λ k.
      let m = or-multiple (32 - length_of best) low high (sym (size-mask (bit_or low high) (length_of best) t e) ∙ ap (λ (x : ℕ). bit_and x (t - 1)) (sym (bits-some low high (omega arith))) ∙ z) in
      gap-nothing l best from (last + 1)
      (levels-none (round_up l from) (round_down l (last + 1)) (length_of best) (l - length_of best) best
      (ap (λ (x : ℕ). x % size (length_of best)) (sym at_low) ∙ m.0) (ap (λ (x : ℕ). x % size (length_of best)) (sym at_high) ∙ m.1)))

  module _ (t : ℕ) (e : t ≡ size (length_of best)) (some-bit : bit_and (bits_of low high) (t - 1) ≡ 0 → ⊥) where
    pub gap-open : low < high
    gap-open =
        by_cases (dec_le high low)
        (λ h. absurd (some-bit (ap (λ (x : ℕ). bit_and x (t - 1)) (bits_none low high h) ∙ and_zero_l (t - 1))))
        (λ h. omega arith)

    odd : bit_or low high % size (length_of best) ≡ 0 → ⊥
    odd z = some-bit (ap (λ (x : ℕ). bit_and x (t - 1)) (bits-some low high gap-open) ∙ size-mask (bit_or low high) (length_of best) t e ∙ z)

    ends : (low % size l ≡ 0) × (high % size l ≡ 0)
    ends = (ap (λ (x : ℕ). x % size l) at_low ∙ up_multiple l from, ap (λ (x : ℕ). x % size l) at_high ∙ down-multiple l (last + 1))

    pub gap-found : l ≤ 32 → (r : Best) → AtEnd low high r → BestFound low high (length_of best) l best r
    gap-found long r found = found (length_of best) l best long ends.0 ends.1 odd

    pub gap-better : (r : Best) (f : BestFound low high (length_of best) l best r) → in_gap l best from (last + 1) ≡ some (prefix r.network f.length)
    gap-better r f =
        let large : from + size l ≤ last + 1 = omega (arith, next_multiple (size l) low high ends.0 ends.1 gap-open, at_low, at_high, up-ge l from, down_le l (last + 1)) in
        gap_ends l best from (last + 1) large (omega (arith, gap-open))
        ∙ ap₂ (λ (x y : ℕ). levels x y (length_of best) (l - length_of best) best) (sym at_low) (sym at_high)
        ∙ f.fits
