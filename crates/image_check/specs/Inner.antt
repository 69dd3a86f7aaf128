-- What each step of the pass over an image answers.
use Rattle.std.specs.Prelude.{ℕ, ◌*◌, ◌/◌, ◌%◌, ◌≡◌, Bool, true, not, cond, ◌&&◌, List, [], ◌∷◌, length, drop, leb, ltb, eqb, Option, Some, None}
use Rattle.lists.specs.Lists.{and}
use Rattle.prefix.specs.declared.Prefix.{Prefix}
use Rattle.prefix.specs.Prefixes.{shortest, longest, prefix, end, aligned?}
use Rattle.table.specs.declared.Pool.{Pool}
use Rattle.table.specs.Table.{pool_prefix, head_ok, pool_ok, pools_ascend?}
use Rattle.image.specs.declared.Head.{Head}
use Rattle.image.specs.declared.Form.{Form}
use Rattle.image.specs.Fields.{number32}
use Rattle.image.specs.Image.{pool_size, lease_size_in, lease_kind}
use Rattle.image.specs.Reading.{start_of, pools_at, client_in, expires_in, flags_byte_in, length_in, network_in, state_byte_in, name_test}
use Rattle.image_check.specs.declared.Fit.{Fit}

-- The end of a pool that begins at an address or after it and is as a sound table has it.
abbrev pub pool_end : Pool → ℕ → Option ℕ
pool_end p from = cond (leb from p.network && pool_ok p) (Some (end (pool_prefix p))) None

-- How many pools there are, if they are as a sound table has them.
abbrev pub pool_count : List Pool → Option ℕ
pool_count ps = cond (pools_ascend? ps) (Some (length ps)) None

-- How the records of pools and of leases begin.
abbrev pub pool_start : ℕ
pool_start = start_of pool_size 2

abbrev pub lease_start : Form → ℕ
lease_start form = start_of (lease_size_in form) (lease_kind form)

-- A pool record begins here, be it of an unused slot.
abbrev pub pool_begins? : List ℕ → Bool
pool_begins? s = and (leb pool_size (length s) ∷ eqb (number32 s 0) pool_start ∷ [])

abbrev pub prefix_in : List ℕ → Prefix
prefix_in s = prefix (network_in s) (length_in s)

-- The prefix of the k-th pool from the front of the bytes.
abbrev pub nth_pool : List ℕ → ℕ → Prefix
nth_pool s k = prefix_in (drop (pool_size * k) s)

-- State and flags, the second and third byte of a word of four, are as a lease has them.
abbrev pub state_and_flags? : ℕ → Bool
state_and_flags? word = and (leb 1 (word / 256 % 256) ∷ leb (word / 256 % 256) 2 ∷ leb (word / 65536 % 256) 3 ∷ [])

-- A lease record whose fields are as a sound table has them, wherever the lease lies.
abbrev pub fit_tests : Form → ℕ → List ℕ → List Bool
fit_tests form last s =
    eqb (number32 s 0) (lease_start form)
    ∷ leb shortest (length_in s)
    ∷ leb (length_in s) longest
    ∷ leb 1 (state_byte_in s)
    ∷ leb (state_byte_in s) 2
    ∷ leb (flags_byte_in s) 3
    ∷ not (eqb (client_in s) 0)
    ∷ ltb last (expires_in s)
    ∷ aligned? (prefix_in s)
    ∷ name_test form s
    ∷ []

abbrev pub fit_of : List ℕ → Fit
fit_of s = record { network = network_in s; end = end (prefix_in s); expires = expires_in s }

unfoldable pub fit_at : Form → ℕ → List ℕ → Option Fit
fit_at form last s = cond (and (fit_tests form last s)) (Some (fit_of s)) None

-- 1 for a lease that has expired.
abbrev pub due : ℕ → ℕ → ℕ
due expires time = cond (leb expires time) 1 0

-- The head and the pools are as a sound table has them.
pub record Begun (head : Head) (s : List ℕ) (pools : ℕ) : Type 0 where
  pub headed : head_ok head.term head.default_length head.last ≡ true
  pub ascends : pools_ascend? (pools_at s).items ≡ true
  pub counted : pools ≡ length (pools_at s).items
  pub any : pools ≡ 0 → ⊥
