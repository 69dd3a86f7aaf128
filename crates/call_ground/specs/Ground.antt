-- THE GROUND OF A CALL that carries option 118, in an image: the pool that contains its address, and the leases in it.
use Rattle.std.specs.Prelude.{ℕ, ◌+◌, ◌≤◌, ◌<◌, ◌≡◌, Bool, true, false, cond, List, [], ◌∷◌, ◌++◌, map, length, get_or, take, drop, leb, ltb, eqb}
use Rattle.std.proofs.Math.Option.{Option, none, some}
use Rattle.std.specs.Prelude.{Option as Found, Some, None, IfSome, MatchOption}
use Rattle.lists.specs.Lists.{All, and, any?, filter}
use Rattle.lists.specs.Put.{put}
use Rattle.prefix.specs.declared.Prefix.{Prefix}
use Rattle.prefix.specs.Prefixes.{end, inside?}
use Rattle.option.specs.Values.{longest_option}
use Rattle.option.specs.Reading.{four}
use Rattle.option.specs.Selection.{selection_size}
use Rattle.table.specs.declared.{Pool.Pool, Lease.Lease, LeaseTable.LeaseTable}
use Rattle.table.specs.Table.{pool_prefix, prefix_of, pools_of, no_lease, sound}
use Rattle.image.specs.Image.{used_pools, used_leases, image_of}
use Rattle.image_check.specs.declared.ImageSummary.{ImageSummary}
use Rattle.ledger.specs.Ledger.{Call, Result, outcome, acceptance, nothing?, narrowed_to, narrowed}
use Rattle.ledger.specs.declared.Answer.{Answer}
use Rattle.call_spec.specs.ImageCalls.{Lent, table_in}
use Rattle.call_rows.specs.Admission.{Admitted}
use Rattle.call_ground.specs.declared.{LeaseRange.LeaseRange, Ground.Ground}

-- An address lies in a pool.
abbrev pub in_pool? : ℕ → Pool → Bool
in_pool? address p = and (leb p.network address ∷ ltb address (end (pool_prefix p)) ∷ [])

-- The index of a pool, if there is one.
abbrev pub Index : Type 0
Index = Found ℕ

-- The pool with this index.
abbrev pub one_pool : List Pool → Index → List Prefix
one_pool ps None = []
one_pool ps (Some k) = map pool_prefix (take 1 (drop k ps))

-- The pools that the call may use are the one with this index; none, where there is no such index.
pub record PoolOf (image : List ℕ) (pools address : ℕ) (r : Index) : Type 0 where
  pub within : IfSome r (λ k. k < pools)
  pub area : (t : LeaseTable) (bytes : ℕ) → sound t ≡ true → image_of t ≡ take bytes image → pools ≡ length (used_pools t) → (s : List ℕ) → address ≡ four s 2
      → pools_of (narrowed_to (some s) t) ≡ one_pool (used_pools t) r

-- The first r leases have a network below this one, and the others not.
abbrev pub Before : ℕ → List Lease → ℕ → Type 0
Before network xs r = ((k : ℕ) → k < r → (get_or xs k no_lease).network < network) × ((k : ℕ) → r ≤ k → k < length xs → network ≤ (get_or xs k no_lease).network)

-- A lease has its network in a pool.
abbrev pub starts_in? : Prefix → Lease → Bool
starts_in? p x = and (leb p.network x.network ∷ ltb x.network (end p) ∷ [])

-- Those that have stand together.
abbrev pub LeasesIn : Prefix → List Lease → LeaseRange → Type 0
LeasesIn p xs r = take r.count (drop r.first xs) ≡ filter (starts_in? p) xs

-- THE GROUND AS A CALL LOOKS AT IT, with the option or without: some of the pools and some of the leases, which stand together.

-- A lease lies on the ground: "Re-given lines (M-101) must lie in that root as well". Without the option all is ground.
abbrev pub on_it? : Option (List ℕ) → LeaseTable → Lease → Bool
on_it? none t x = true
on_it? (some s) t x = any? (inside? (prefix_of x)) (pools_of (narrowed_to (some s) t))

abbrev pub pools_in : Ground → List Pool → List Pool
pools_in g ps = take g.pools (drop g.pool ps)

abbrev pub leases_in : Ground → List Lease → List Lease
leases_in g xs = take g.leases (drop g.first xs)

-- The leases before those, and after them.
abbrev pub leases_beside : Ground → List Lease → List Lease
leases_beside g xs = take g.first xs ++ drop (g.first + g.leases) xs

-- The call is admitted with an image.
pub record OfAdmitted (image : List ℕ) (summary : ImageSummary) : Type 0 where
  pub lent : Lent
  pub time : ℕ
  pub client : ℕ
  pub same : lent.image ≡ image
  pub admitted : Admitted true lent time client summary

-- What the ground of a call is, in an image that is lent, where row 19 does not apply.
pub record Grounds (h : Lent) (c : Call) (summary : ImageSummary) (g : Ground) : Type 0 where
  pub few-pools : g.pool + g.pools ≤ summary.pools
  pub few-leases : g.first + g.leases ≤ summary.leases
  pub row : nothing? (pools_of (narrowed (table_in h) c)) ≡ false
  pub pools-are : pools_of (narrowed (table_in h) c) ≡ map pool_prefix (pools_in g (used_pools (table_in h)))
  pub inside : All (λ x. on_it? c.selection (table_in h) x ≡ true) (leases_in g (used_leases (table_in h)))
  pub outside : All (λ x. on_it? c.selection (table_in h) x ≡ false) (leases_beside g (used_leases (table_in h)))

-- The answer is that ground, or none where row 19 applies.
abbrev pub GroundOf : Lent → Call → ImageSummary → Found Ground → Type 0
GroundOf h c summary r = MatchOption r (nothing? (pools_of (narrowed (table_in h) c)) ≡ true) (λ g. Grounds h c summary g)

-- THE OPTION IN THE REPLY: "The option follows, unaltered, after option 220 in the reply"; a refusal has none.
abbrev pub returning : {S : Type 0} → Option (List ℕ) → Result S → Result S
returning none r = r
returning (some s) r =
    cond (eqb r.answer.number 0)
    (outcome (acceptance (r.answer.bytes + length s) r.answer.count) r.state (put r.reply r.answer.bytes s)) r

-- What it takes to put it there: six bytes of it, and room for them.
abbrev pub MayReturn : Answer → Bool → List ℕ → List ℕ → Type 0
MayReturn a selected s reply = a.number ≡ 0 → selected ≡ true → (length s ≡ selection_size) × (a.bytes + selection_size ≤ length reply) × (a.bytes ≤ longest_option)
