-- Free space (document 01: ground): which prefixes are free, which are whole, what an ask takes, and what a list of asks is granted.
-- `pools` are document 01's roots and `leases` the lines that are present, each as a prefix. A length is a prefix length.
use Rattle.std.specs.Prelude.{ℕ, ◌-◌, ◌*◌, ◌/◌, ◌≤◌, ◌<◌, ◌≡◌, ◌⊎◌, Bool, List}
use Rattle.lists.specs.Lists.{All, Any, all?}
use Rattle.prefix.specs.declared.Prefix.{Prefix}
use Rattle.prefix.specs.Prefixes.{size, prefix, Aligned, Inside, Apart, apart?}

-- THE RULES, as document 01 has them

-- "A block is free if it lies inside a root and shares no address with a present line." "Every block is aligned."
pub record Free (pools leases : List Prefix) (p : Prefix) : Type 0 where
  pub aligned : Aligned p
  pub pooled : Any (Inside p) pools
  pub unused : All (Apart p) leases

-- "the block twice its size around it"
abbrev pub around : Prefix → Prefix
around p = prefix (p.network / size (p.length - 1) * size (p.length - 1)) (p.length - 1)

-- "A free block is whole if it is a root or the block twice its size around it isn't free."
pub record Whole (pools leases : List Prefix) (p : Prefix) : Type 0 where
  pub free : Free pools leases p
  pub maximal : Any (λ pool. pool ≡ p) pools ⊎ (Free pools leases (around p) → ⊥)

-- v is smaller than w, or as large and not at a higher network.
abbrev pub NotWorse : Prefix → Prefix → Type 0
NotWorse v w = (w.length < v.length) ⊎ ((v.length ≡ w.length) × (v.network ≤ w.network))

-- "An ask of length p takes, among whole free blocks of length at most p, the smallest, the lowest network among equals, and of that the lowest part
-- of length p."
pub record Takes (pools leases : List Prefix) (length : ℕ) (taken : Prefix) : Type 0 where
  pub from : Prefix
  pub whole : Whole pools leases from
  pub large : from.length ≤ length
  pub best : (v : Prefix) → Whole pools leases v → v.length ≤ length → NotWorse from v
  pub part : taken ≡ prefix from.network length

-- THE SAME AS FUNCTIONS THAT COMPUTE

abbrev pub unused? : List Prefix → Prefix → Bool
unused? leases p = all? (apart? p) leases
