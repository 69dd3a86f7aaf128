-- How far a pass over the leases of an image has come, pool by pool.
use Rattle.std.specs.Prelude.{ℕ, ◌+◌, ◌-◌, ◌*◌, ◌≤◌, ◌<◌, ◌≡◌, Bool, true, false, cond, List, [], ◌∷◌, map, length, drop, leb, eqb, Option, Some, None}
use Rattle.std.proofs.Math.Option.{some}
use Rattle.lists.specs.Lists.{and, filter}
use Rattle.prefix.specs.declared.Prefix.{Prefix}
use Rattle.prefix.specs.Prefixes.{inside?}
use Rattle.table.specs.declared.Lease.{Lease}
use Rattle.table.specs.Table.{lease_slots, pool_prefix, leases_ascend?}
use Rattle.image.specs.declared.Head.{Head}
use Rattle.image.specs.declared.Form.{Form}
use Rattle.image.specs.Fields.{Run, records}
use Rattle.image.specs.Image.{lease_size_in, pool_size}
use Rattle.image.specs.Reading.{lease_at_in, pools_at, after_head_in, network_in}
use Rattle.image_check.specs.declared.{ImageSummary.ImageSummary, Pass.Pass}
use Rattle.image_check.specs.ImageSummary.{summary_of}
use Rattle.image_check.specs.Inner.{prefix_in, nth_pool, fit_tests}

-- The book of a head, so many pools and so many leases.
abbrev pub summary_with : Head → ℕ → ℕ → ℕ → Option ImageSummary
summary_with x pools leases expired = Some (record {
  term = x.term;
  default_length = x.default_length;
  last = x.last;
  pools = pools;
  leases = leases;
  expired = expired;
})

abbrev pub due? : ℕ → Lease → Bool
due? time y = leb y.expires time

-- The leases that were read are as a sound table has them, from an address on, and nothing follows.
abbrev pub left? : List Prefix → ℕ → ℕ → Run Lease → Bool
left? qs last low r = and (eqb (length r.rest) 0 ∷ leases_ascend? qs last low r.items ∷ [])

-- The book, where i leases were read before these and e of them have expired.
abbrev pub ending : Head → ℕ → ℕ → List Prefix → ℕ → ℕ → ℕ → Run Lease → Option ImageSummary
ending x time n qs i e low r = cond (left? qs x.last low r) (summary_with x n (i + length r.items) (e + length (filter (due? time) r.items))) None

abbrev pub leases_from : Form → ℕ → List ℕ → Run Lease
leases_from form limit s = records (lease_at_in form) (lease_size_in form) limit s

abbrev pub pools_in : List ℕ → List Prefix
pools_in s = map pool_prefix (pools_at s).items

-- After i leases, of which some have expired and which end at `low`, up to a position: the answer for the whole is that for what is left.
abbrev pub Answered : Form → Head → List ℕ → ℕ → ℕ → ℕ → ℕ → ℕ → ℕ → Type 0
Answered form x s n time low i expired at =
    summary_of time (after_head_in form (some x) s) ≡ ending x time n (pools_in s) i expired low (leases_from form (lease_slots - i) (drop at s))

-- What is left of the bytes has the size of so many leases.
pub record Left (form : Form) (s : List ℕ) (p : Pass) : Type 0 where
  pub left : ℕ
  pub ends : p.at + lease_size_in form * left ≡ length s
  pub few : p.expired ≤ p.at

-- A pass went through the leases of the first k pools: a lease that is left, in a sound table, lies in none of these.
pub record Reached (form : Form) (x : Head) (s : List ℕ) (n time k : ℕ) (p : Pass) : Type 0 where
  pub leases : ℕ
  pub low : ℕ
  pub size : length s ≤ pool_size * n + lease_size_in form * lease_slots
  pub place : p.at ≡ pool_size * n + lease_size_in form * leases
  pub below : k < n → low ≤ (nth_pool s k).network
  pub passed : (j : ℕ) → j < k → p.at < length s → and (fit_tests form x.last (drop p.at s)) ≡ true → low ≤ network_in (drop p.at s)
      → inside? (prefix_in (drop p.at s)) (nth_pool s j) ≡ false
  pub same : Answered form x s n time low leases p.expired p.at
