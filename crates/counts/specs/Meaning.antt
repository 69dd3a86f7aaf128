-- What a count means, in document 01's terms.
use Rattle.std.specs.Prelude.{ℕ, ◌≡◌, List, length}
use Rattle.lists.specs.Lists.{All, Any, Pairwise}
use Rattle.prefix.specs.declared.Prefix.{Prefix}
use Rattle.free_space.specs.Space.{Whole}

-- "how many /26 are whole?" So many: there are n different blocks of the length that are whole and free, and every one is among them.
pub record CountsWholes (pools leases : List Prefix) (len n : ℕ) : Type 0 where
  pub blocks : List Prefix
  pub different : Pairwise (λ v w. v ≡ w → ⊥) blocks
  pub whole : All (λ w. Whole pools leases w × (w.length ≡ len)) blocks
  pub every : (w : Prefix) → Whole pools leases w → w.length ≡ len → Any (λ v. v ≡ w) blocks
  pub counted : n ≡ length blocks
