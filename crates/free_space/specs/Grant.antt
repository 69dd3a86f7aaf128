-- What an ask is granted, as functions that compute: the whole free prefixes from halves, the best of them, its lowest part. Nobody has to
-- believe them: an ask takes what the rule `Takes` of Space says, exactly (`grant-takes`).
use Rattle.std.specs.Prelude.{ℕ, zero, suc, ◌-◌, Bool, true, false, ◌&&◌, ◌||◌, List, [], ◌∷◌, ◌++◌, leb, ltb, eqb}
use Rattle.std.proofs.Math.Option.{Option, none, some}
use Rattle.lists.specs.Lists.{any?, concat_map}
use Rattle.prefix.specs.declared.Prefix.{Prefix}
use Rattle.prefix.specs.Prefixes.{prefix, inside?, lower, upper}
use Rattle.free_space.specs.Space.{unused?}

abbrev pub covered? : List Prefix → Prefix → Bool
covered? outer p = any? (inside? p) outer

-- Of a prefix that is unused the whole free prefix is itself; one inside a lease has none; of any other they are those of its halves.
abbrev pub pick : Bool → Bool → Prefix → List Prefix → List Prefix
pick true covered p halves = p ∷ []
pick false true p halves = []
pick false false p halves = halves

-- The whole free prefixes in p, from the lowest up; `left` is 32 less its length.
abbrev pub walk : List Prefix → ℕ → Prefix → List Prefix
walk leases zero p = pick (unused? leases p) (covered? leases p) p []
walk leases (suc left) p =
    let halves = walk leases left (lower p) ++ walk leases left (upper p) in
    pick (unused? leases p) (covered? leases p) p halves

abbrev pub wholes : List Prefix → List Prefix → List Prefix
wholes pools leases = concat_map (λ p. walk leases (32 - p.length) p) pools

-- w is smaller than v, or as large and lower.
abbrev pub better? : Prefix → Prefix → Bool
better? w v = ltb v.length w.length || (eqb v.length w.length && ltb w.network v.network)

abbrev pub better : Bool → Prefix → Prefix → Option Prefix
better true w v = some w
better false w v = some v

-- `large`: w is large enough. `found`: the best of those after w.
abbrev pub consider : Bool → Prefix → Option Prefix → Option Prefix
consider false w found = found
consider true w none = some w
consider true w (some v) = better (better? w v) w v

-- Of the prefixes of at most this length the smallest, and of these the lowest.
abbrev pub best : ℕ → List Prefix → Option Prefix
best length [] = none
best length (w ∷ ws) = consider (leb w.length length) w (best length ws)

abbrev pub lowest_part : ℕ → Option Prefix → Option Prefix
lowest_part length none = none
lowest_part length (some w) = some (prefix w.network length)

-- What an ask of this length is granted.
abbrev pub grant : List Prefix → List Prefix → ℕ → Option Prefix
grant pools leases length = lowest_part length (best length (wholes pools leases))
