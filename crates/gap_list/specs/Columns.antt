-- Gaps in a buffer, and what the functions over it answer.
use Rattle.std.specs.Prelude.{ℕ, ◌+◌, ◌≤◌, ◌≡◌, List, map, take, Some, None, IfSome}
use Rattle.std.specs.Prelude.{Option as Optional}
use Rattle.std.proofs.Math.Option.{Option, none, some}
use Rattle.prefix.specs.declared.Prefix.{Prefix}
use Rattle.prefix.specs.Prefixes.{prefix}
use Rattle.free_space.specs.Grant.{lowest_part}
use Rattle.gap_list.specs.declared.{Choice.Choice, Ends.Ends}
use Rattle.gap_list.specs.Gaps.{Gap, fit_in, LiesIn, solid}

-- The gap with these ends, and those of a buffer.
abbrev pub gap_of : Ends → Gap
gap_of e = record { from = e.first; to = e.last + 1 }

abbrev pub held : List Ends → List Gap
held es = map gap_of es

-- The gaps in the first n places of a buffer.
abbrev pub held_in : List Ends → ℕ → List Gap
held_in es n = held (take n es)

-- The buffer holds these gaps, r of them, at most one more than n.
pub record Kept (n : ℕ) (gs : List Gap) (r : ℕ) (es : List Ends) : Type 0 where
  pub gaps : held_in es r ≡ gs
  pub few : r ≤ n + 1

-- The buffer holds these gaps but for empty ones, in r places, at most one more than n.
pub record Carved (n : ℕ) (gs : List Gap) (r : ℕ) (es : List Ends) : Type 0 where
  pub gaps : solid (held_in es r) ≡ solid gs
  pub few : r ≤ n + 1

-- What a search answers.
abbrev pub fit_of : Optional Choice → ℕ → Option Prefix
fit_of None length = none
fit_of (Some c) length = some (prefix c.network length)

pub record Fitted (gaps : List Gap) (length : ℕ) (r : Optional Choice) : Type 0 where
  pub best : length ≤ 32 → fit_of r length ≡ lowest_part length (fit_in length gaps)
  pub place : IfSome r (λ c. LiesIn (prefix c.network length) c.index gaps)
