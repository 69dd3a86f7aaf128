-- The leases that entries name, among leases that stand as records in a buffer, and what becomes of them.
use Rattle.std.specs.Prelude.{ℕ, ◌<◌, ◌≡◌, Bool, true, false, cond, ◌&&◌, List, [], ◌∷◌, map, length, get_or, set, ltb, eqb, Option, MatchOption}
use Rattle.lists.specs.Lists.{All, and, filter, concat_map}
use Rattle.lists.specs.Put.{put}
use Rattle.option.specs.Values.{Entry}
use Rattle.table.specs.declared.Lease.{Lease}
use Rattle.table.specs.Table.{no_lease}
use Rattle.image.specs.Image.{lease_record}
use Rattle.ledger.specs.Ledger.{named_by?}

-- "equals a present line of this station in network and length": `names?` of the ledger, of a lease that is present.
abbrev pub named? : ℕ → ℕ → ℕ → ℕ → Lease → Bool
named? now client network len x = ltb now x.expires && and (eqb x.client client ∷ eqb x.network network ∷ eqb x.length len ∷ [])

-- Two columns hold the networks and lengths of these entries.
abbrev pub Hold : List ℕ → List ℕ → List Entry → Type 0
Hold networks lengths es = (networks ≡ map (λ e. e.network) es) × (lengths ≡ map (λ e. e.length) es)

-- At r stands the lease that passes the test, and no other does.
pub record OneAt (g : Lease → Bool) (xs : List Lease) (r : ℕ) : Type 0 where
  pub within : r < length xs
  pub one : filter g xs ≡ get_or xs r no_lease ∷ []
  pub edited : (f : Lease → Lease) → map (λ x. cond (g x) (f x) x) xs ≡ set xs r (f (get_or xs r no_lease))

-- The place of that lease; nothing, where none passes.
abbrev pub FoundAt : (Lease → Bool) → List Lease → Option ℕ → Type 0
FoundAt g xs r = MatchOption r (All (λ x. g x ≡ false) xs) (OneAt g xs)

-- Take renews a lease so, and release ends it, by a time that has passed.
abbrev pub leased_until : ℕ → Lease → Lease
leased_until expires x = record { network = x.network; length = x.length; client = x.client; leased = true; h = x.h; d = x.d; expires = expires; name = x.name }

-- What becomes of a lease by one entry, and by several.
abbrev pub changed_if : (Lease → Bool) → ℕ → Lease → Lease
changed_if g expires x = cond (g x) (leased_until expires x) x

abbrev pub changed_by : ℕ → ℕ → ℕ → List Entry → Lease → Lease
changed_by now client expires es x = changed_if (λ y. ltb now y.expires && named_by? client es y) expires x

-- The buffer with the leases from `from` on so changed.
abbrev pub changed_in : ℕ → ℕ → ℕ → List Entry → List ℕ → ℕ → List Lease → List ℕ
changed_in now client expires es buffer from xs = put buffer from (concat_map lease_record (map (changed_by now client expires es) xs))

-- The lease that passes the test, if one does, is changed in place, and r is its place.
pub record ExpirySet (g : Lease → Bool) (expires : ℕ) (buffer : List ℕ) (from : ℕ) (xs : List Lease) (after : List ℕ) (r : Option ℕ) : Type 0 where
  pub found : FoundAt g xs r
  pub after_is : after ≡ put buffer from (concat_map lease_record (map (changed_if g expires) xs))
