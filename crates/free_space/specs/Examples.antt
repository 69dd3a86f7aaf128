-- Document 01's marked examples P5 to P8 at this level, as rows: the pools, the lengths asked for in turn, and what each is granted.
use Rattle.std.specs.Prelude.{ℕ, List, [], ◌∷◌}
use Rattle.std.proofs.Math.Option.{Option, none, some}
use Rattle.prefix.specs.declared.Prefix.{Prefix}
use Rattle.prefix.specs.Prefixes.{prefix}

pub record Row : Type 0 where
  pub pools : List Prefix
  pub asks : List ℕ
  pub granted : List (Option Prefix)

abbrev pub rows : List Row
rows =
    -- P5: root 10.0.1.0/24, asks 26, 25, 27 get 10.0.1.0, 10.0.1.128, 10.0.1.64; then 26 gets 10
    record {
      pools = prefix 0x0a000100 24 ∷ [];
      asks = 26 ∷ 25 ∷ 27 ∷ 26 ∷ [];
      granted = some (prefix 0x0a000100 26) ∷ some (prefix 0x0a000180 25) ∷ some (prefix 0x0a000140 27) ∷ none ∷ [];
    }
    -- P6: roots 10.0.0.0/25 and 10.0.0.128/25, ask 24 gets 10
    ∷ record {
      pools = prefix 0x0a000000 25 ∷ prefix 0x0a000080 25 ∷ [];
      asks = 24 ∷ [];
      granted = none ∷ [];
    }
    -- P7: roots 10.0.0.0/24 and 10.0.8.0/26, ask 27 gets 10.0.8.0/27; then 24 gets 10.0.0.0
    ∷ record {
      pools = prefix 0x0a000000 24 ∷ prefix 0x0a000800 26 ∷ [];
      asks = 27 ∷ 24 ∷ [];
      granted = some (prefix 0x0a000800 27) ∷ some (prefix 0x0a000000 24) ∷ [];
    }
    -- P8: the default length 28, P5's root empty: 10.0.1.0/28
    ∷ record {
      pools = prefix 0x0a000100 24 ∷ [];
      asks = 28 ∷ [];
      granted = some (prefix 0x0a000100 28) ∷ [];
    }
    ∷ []
