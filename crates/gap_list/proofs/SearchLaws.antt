-- The search through gaps in a buffer, one gap after the other.
-- Assumes nothing.
use Prim.Native.Nat.{ℕ, ◌+◌, ◌-◌, ◌≤◌, ◌<◌}
use mathlib.Core.Path.{◌≡◌, refl, sym, ap, ◌∙◌}
use mathlib.Core.List.{List, [], ◌∷◌}
use mathlib.Core.Option.{Option, none, some}
use native.Mathlib.Omega.{arith}
use lib.Bits.{bit_and}
use lib.ListN.{length, drop, get_or}
use Rattle.std.specs.Prelude.{Some, None, ⊤}
use Rattle.std.specs.Prelude.{Option as Optional}
use Rattle.lists.proofs.DropLaws.{drop_at, drop-end}
use Rattle.prefix.specs.declared.Prefix.{Prefix}
use Rattle.prefix.specs.Prefixes.{size, prefix}
use Rattle.prefix.proofs.PrefixLaws.{size-positive}
use Rattle.prefix.proofs.Nesting.{pow-le}
use Rattle.free_space.specs.Grant.{lowest_part}
use Rattle.free_space.specs.Scan.{length_of, in_gap, round_up, round_down}
use Rattle.free_space.proofs.GapLaws.{up-ge, down_le}
use Rattle.gap_list.specs.declared.{Best.Best, Choice.Choice, Ends.Ends}
use Rattle.gap_list.specs.Gaps.{Gap, fit_from, fit_in, LiesIn}
use Rattle.gap_list.specs.Columns.{gap_of, held, Fitted}
use Rattle.gap_list.specs.InnerSearch.{Passed, PassedTo, NextLarge, cut_up, cut_down, bits_of, BestFound, AtEnd}
use Rattle.gap_list.proofs.FitLaws.{fit-exact}
use Rattle.gap_list.proofs.ColumnLaws.{no_ends, at_lies}
use Rattle.gap_list.proofs.EndLaws.{mask_up, mask-down, gap-worse, gap-open, gap-found, gap-better}

module _ (es : List Ends) where
  held_next : (i : ℕ) → i < length es → held (drop i es) ≡ gap_of (get_or es i no_ends) ∷ held (drop (i + 1) es)
  held_next i h = ap held (drop_at es i no_ends h)

  -- Gaps that have nothing of a size are passed over.

  pub passed-none : (mask from : ℕ) → PassedTo es mask from from
  passed-none mask from = record { later = omega arith; rest = λ l best e. refl }

  pub passed-next : (mask from i j : ℕ) → i < length es → j ≡ i + 1 → Passed (get_or es i no_ends).first (get_or es i no_ends).last mask → PassedTo es mask from i → PassedTo es mask from j
  passed-next mask from i j h is passed next = record {
    later = omega (arith, next.later);
    rest = λ l best e.
        next.rest l best e ∙ ap (fit_from l best) (held_next i h)
        ∙ ap (λ (o : Option Prefix). fit_from l o (held (drop (i + 1) es))) (passed l best e)
        ∙ ap (λ (x : ℕ). fit_from l best (held (drop x es))) (sym is);
  }

-- The best so far, as the code has it, beside a prefix.
abbrev pub Chosen : List Gap → ℕ → Optional Choice → Option Prefix → Type 0
Chosen gs l None none = ⊤
Chosen gs l None (some v) = ⊥
Chosen gs l (Some c) none = ⊥
Chosen gs l (Some c) (some v) = (v.network ≡ c.network) × LiesIn (prefix c.network l) c.index gs

-- What the search has come to before gap i: the best fit in the rest is the best fit in all. With none so far its size is that of all addresses.
pub record Searching (es : List Ends) (l : ℕ) (best : Optional Choice) (most i : ℕ) : Type 0 where
  pub within : i ≤ length es
  pub so_far : Option Prefix
  pub sized : most ≡ size (length_of so_far)
  pub short : length_of so_far ≤ l
  pub rest : fit_in l (held es) ≡ fit_from l so_far (held (drop i es))
  pub chosen : Chosen (held es) l best so_far

pub search-start : (es : List Ends) (l : ℕ) → Searching es l None 4294967296 0
search-start es l = record { within = omega arith; so_far = none; sized = refl; short = omega arith; rest = refl; chosen = tt }

-- Lengths up to 32 of one size are one.
same_length : (a b : ℕ) → a ≤ b → b ≤ 32 → size a ≡ size b → a ≡ b
same_length a b h k e = omega (arith, pow-le (32 - a) (32 - b) (omega (arith, e)))

-- An answer.
answered : (gs : List Gap) (l : ℕ) (best : Optional Choice) (o : Option Prefix) → Chosen gs l best o → lowest_part l (fit_in l gs) ≡ lowest_part l o → Fitted gs l best
answered gs l None none k e = record { best = λ short. sym e; place = tt }
answered gs l None (some v) k e = absurd k
answered gs l (Some c) none k e = absurd k
answered gs l (Some c) (some v) k e = record { best = λ short. ap (λ (n : ℕ). some (prefix n l)) (sym k.0) ∙ sym e; place = k.1 }

module _ (es : List Ends) (l s : ℕ) (best : Optional Choice) (most from : ℕ) (searching : Searching es l best most from) (sized : s ≡ size l) where
  pub most-pos : 0 < most
  most-pos = omega (arith, searching.sized, size-positive (length_of searching.so_far))

  passed-all : (i : ℕ) → PassedTo es (s - 1) from i → fit_in l (held es) ≡ fit_from l searching.so_far (held (drop i es))
  passed-all i next = searching.rest ∙ next.rest l searching.so_far (omega (arith, sized, size-positive l))

  -- Nothing is left that could be better.
  pub search-end : NextLarge es (s - 1) from None → Fitted (held es) l best
  search-end next =
      answered (held es) l best searching.so_far searching.chosen
      (ap (lowest_part l) (passed-all (length es) next ∙ ap (λ (xs : List Ends). fit_from l searching.so_far (held xs)) (drop-end es (length es) (omega arith))))

  -- The gap at i, its ends cut to multiples of the size as the code does it, and their bits.
  module _ (i : ℕ) (large : NextLarge es (s - 1) from (Some i)) (low high bits : ℕ) (low_is : low ≡ cut_up (s - 1) (get_or es i no_ends).first) (high_is : high ≡ cut_down (s - 1) ((get_or es i no_ends).last + 1)) (bits_are : bits ≡ bits_of low high) where
    abbrev first : ℕ
    first = (get_or es i no_ends).first

    abbrev last : ℕ
    last = (get_or es i no_ends).last

    at_low : low ≡ round_up l first
    at_low = low_is ∙ mask_up l s sized first

    at_high : high ≡ round_down l (last + 1)
    at_high = high_is ∙ mask-down l s sized (last + 1)

    told : bit_and bits (most - 1) ≡ bit_and (bits_of low high) (most - 1)
    told = ap (λ (x : ℕ). bit_and x (most - 1)) bits_are

    next : fit_in l (held es) ≡ fit_from l (in_gap l searching.so_far first (last + 1)) (held (drop (i + 1) es))
    next = passed-all i large.1 ∙ ap (fit_from l searching.so_far) (held_next es i large.0)

    -- The gap has nothing better.
    pub search-keep : bit_and bits (most - 1) ≡ 0 → Searching es l best most (i + 1)
    search-keep z = record {
      within = omega (arith, large.0);
      so_far = searching.so_far;
      sized = searching.sized;
      short = searching.short;
      rest =
          next
          ∙ ap (λ (o : Option Prefix). fit_from l o (held (drop (i + 1) es)))
          (gap-worse l s first last low high searching.so_far sized at_low at_high most searching.sized (sym told ∙ z));
      chosen = searching.chosen;
    }

    module _ (some_bits : bit_and bits (most - 1) ≡ 0 → ⊥) where
      some-bit : bit_and (bits_of low high) (most - 1) ≡ 0 → ⊥
      some-bit z = some_bits (told ∙ z)

      pub search-open : low < high
      search-open = gap-open l s first last low high searching.so_far sized at_low at_high most searching.sized some-bit

      module _ (long : l ≤ 32) (bound : high ≤ 4294967296) (r : Best) (at : AtEnd low high r) where
        found : BestFound low high (length_of searching.so_far) l searching.so_far r
        found = gap-found l s first last low high searching.so_far sized at_low at_high most searching.sized some-bit long r at

        better : in_gap l searching.so_far first (last + 1) ≡ some (prefix r.network found.length)
        better = gap-better l s first last low high searching.so_far sized at_low at_high most searching.sized some-bit r found

        inside : (first ≤ r.network) × (r.network + size l ≤ last + 1)
        inside = (omega (arith, found.inside.0, at_low, up-ge l first), omega (arith, found.inside.1, at_high, down_le l (last + 1)))

        pub search-small : r.network < 4294967296
        search-small = omega (arith, found.inside.1, size-positive l)

        lies : LiesIn (prefix r.network l) i (held es)
        lies = at_lies (prefix r.network l) i es large.0 inside.0 inside.1

        rest-better : fit_in l (held es) ≡ fit_from l (some (prefix r.network found.length)) (held (drop (i + 1) es))
        rest-better = next ∙ ap (λ (o : Option Prefix). fit_from l o (held (drop (i + 1) es))) better

        -- It has something better.
        pub search-better : Searching es l (Some (record { index = i; network = r.network })) r.size (i + 1)
        search-better = record {
          within = omega (arith, large.0);
          so_far = some (prefix r.network found.length);
          sized = found.sized;
          short = found.short;
          rest = rest-better;
          chosen = (refl, lies);
        }

        -- An exact fit.
        pub search-exact : r.size ≡ s → Fitted (held es) l (Some (record { index = i; network = r.network }))
        search-exact e =
            let exact : found.length ≡ l = same_length found.length l found.short long (sym found.sized ∙ e ∙ sized) in
            answered (held es) l (Some (record { index = i; network = r.network })) (some (prefix r.network found.length)) (refl, lies)
            (ap (lowest_part l) (rest-better ∙ fit-exact l (some (prefix r.network found.length)) (held (drop (i + 1) es)) exact))
