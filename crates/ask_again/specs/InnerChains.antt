-- Requests with the same length and h, chained in their order.
use Rattle.std.specs.Prelude.{ℕ, ◌+◌, ◌*◌, ◌≤◌, ◌<◌, ◌≡◌, Bool, cond, List, eqb, length, get_or, set}
use Rattle.ask_again.specs.Places.{no_place}

-- How many keys there are, and no request, as in the code.
abbrev pub keys : ℕ
keys = 512

abbrev pub no_request : ℕ
no_request = 255

-- The key of a length and h, and that of the k-th request in the columns.
abbrev pub key_of : ℕ → Bool → ℕ
key_of len h = 2 * len + cond h 1 0

abbrev pub key_in : List ℕ → List ℕ → ℕ → ℕ → ℕ
key_in asked_lengths asked_h default_length k = key_of (cond (eqb (get_or asked_lengths k 0) 0) default_length (get_or asked_lengths k 0)) (eqb (get_or asked_h k 0) 1)

-- Of n requests with these keys, from the j-th on: the first of each key, and for each request the one after it with its key.
pub record Heads (key : ℕ → ℕ) (n j : ℕ) (first : List ℕ) : Type 0 where
  pub many : length first ≡ keys
  pub low : (c : ℕ) → c < keys → j ≤ get_or first c 0
  pub same : (c : ℕ) → c < keys → get_or first c 0 < n → key (get_or first c 0) ≡ c
  pub least : (k : ℕ) → k < n → j ≤ k → get_or first (key k) 0 ≤ k

pub record Linked (key : ℕ → ℕ) (n j : ℕ) (next : List ℕ) : Type 0 where
  pub later : (k : ℕ) → k < n → j ≤ k → k < get_or next k 0
  pub same : (k : ℕ) → k < n → j ≤ k → get_or next k 0 < n → key (get_or next k 0) ≡ key k
  pub least : (k : ℕ) → k < n → j ≤ k → (m : ℕ) → m < n → k < m → key m ≡ key k → get_or next k 0 ≤ m

-- The first request of each key that has no place: those before it have one, those from it on have none.
pub record Waiting (key : ℕ → ℕ) (n : ℕ) (places first : List ℕ) : Type 0 where
  pub many : length first ≡ keys
  pub same : (c : ℕ) → c < keys → get_or first c 0 < n → key (get_or first c 0) ≡ c
  pub empty : (k : ℕ) → k < n → get_or first (key k) 0 ≤ k → get_or places k 0 ≡ no_place
  pub given : (k : ℕ) → k < n → k < get_or first (key k) 0 → get_or places k 0 ≡ no_place → ⊥

-- A place given to the request j, the first of a key, if that is one of n.
pub record Gave (j n key place : ℕ) (before first next after left : List ℕ) (r : ℕ) : Type 0 where
  pub one : j < n → (after ≡ set before j place) × (left ≡ set first key (get_or next j 0)) × (r ≡ 1)
  pub none : n ≤ j → (after ≡ before) × (left ≡ first) × (r ≡ 0)
