-- Reading a number digit by digit.
-- Assumes nothing.
use Prim.Native.Nat.{ℕ, ◌+◌, ◌-◌, ◌*◌, ◌≤◌, ◌<◌}
use native.Mathlib.Omega.{arith}
use mathlib.Core.Path.{◌≡◌, refl, sym, ap, ◌∙◌}
use mathlib.Core.Bool.{Bool, true, false, cond, ◌&&◌}
use mathlib.Core.List.{List, [], ◌∷◌}
use lib.ListN.{length, drop, get_or}
use lib.Dec.{ltb}
use borrow.Author.Tests.{lt-ltb, le-ltb}
use Rattle.lists.specs.Lists.{all?}
use Rattle.lists.proofs.DropLaws.{drop_at, drop-end}
use Rattle.std.specs.Prelude.{Some, None}
use Rattle.console_words.specs.Numbers.{digit?, value_from, number_of}

-- More digits make no smaller value.
value_grows : (cs : List ℕ) (n : ℕ) → n ≤ value_from n cs
value_grows [] n = omega arith
value_grows (c ∷ cs) n = omega (arith, value_grows cs (10 * n + (c - 48)))

same : {A : Type 0} (b : Bool) (x : A) → cond b x x ≡ x
same true x = refl
same false x = refl

-- The number that a word spells, by the tests.
number-large : (s : List ℕ) → 4294967296 ≤ value_from 0 s → number_of s ≡ None
unfolding number_of
number-large [] h = refl
number-large (c ∷ cs) h = rw (le-ltb (value_from 0 (c ∷ cs)) 4294967296 h) refl

number-wrong : (s : List ℕ) → all? digit? s ≡ false → number_of s ≡ None
unfolding number_of
number-wrong [] h = refl
number-wrong (c ∷ cs) h =
    ap (λ (b : Bool). cond (ltb (value_from 0 (c ∷ cs)) 4294967296) (cond b (Some (value_from 0 (c ∷ cs))) None) None) h
    ∙ same (ltb (value_from 0 (c ∷ cs)) 4294967296) None

number-good : (s : List ℕ) → 0 < length s → value_from 0 s < 4294967296 → all? digit? s ≡ true → number_of s ≡ Some (value_from 0 s)
unfolding number_of
number-good [] some small h = absurd (omega arith)
number-good (c ∷ cs) some small h =
    ap (λ (b : Bool). cond (ltb (value_from 0 (c ∷ cs)) 4294967296) (cond b (Some (value_from 0 (c ∷ cs))) None) None) h
    ∙ ap (λ (b : Bool). cond b (Some (value_from 0 (c ∷ cs))) None) (lt-ltb (value_from 0 (c ∷ cs)) 4294967296 small)

pub number-none : (s : List ℕ) → length s ≡ 0 → None ≡ number_of s
unfolding number_of
number-none [] h = refl
number-none (c ∷ cs) h = absurd (omega arith)

-- After i digits with the value n.
pub record Reading (s : List ℕ) (n i : ℕ) : Type 0 where
  pub within : i ≤ length s
  pub small : n < 4294967296
  pub digits : all? digit? s ≡ all? digit? (drop i s)
  pub value : value_from 0 s ≡ value_from n (drop i s)

module _ (s : List ℕ) (n i : ℕ) (r : Reading s n i) where
  value-here : i < length s → value_from 0 s ≡ value_from (10 * n + (get_or s i 0 - 48)) (drop (i + 1) s)
  value-here lt = r.value ∙ ap (value_from n) (drop_at s i 0 lt)

  digits-here : i < length s → all? digit? s ≡ digit? (get_or s i 0) && all? digit? (drop (i + 1) s)
  digits-here lt = r.digits ∙ ap (all? digit?) (drop_at s i 0 lt)

  pub reading-other : i < length s → digit? (get_or s i 0) ≡ false → None ≡ number_of s
  reading-other lt other = sym (number-wrong s (digits-here lt ∙ ap (λ (b : Bool). b && all? digit? (drop (i + 1) s)) other))

  -- d is the value of the next digit.
  module _ (lt : i < length s) (d : ℕ) (e : d ≡ get_or s i 0 - 48) where
    sum : 10 * n + d ≡ 10 * n + (get_or s i 0 - 48)
    sum = ap (λ (k : ℕ). 10 * n + k) e

    pub reading-over : 4294967295 < 10 * n + d → None ≡ number_of s
    reading-over over = sym (number-large s (omega (arith, sum, value-here lt, value_grows (drop (i + 1) s) (10 * n + (get_or s i 0 - 48)))))

  pub reading-all : 0 < length s → length s ≤ i → Some n ≡ number_of s
  reading-all some past =
      let none : drop i s ≡ [] = drop-end s i past in
      let value : value_from 0 s ≡ n = r.value ∙ ap (value_from n) none in
      sym (number-good s some (omega (arith, value, r.small)) (r.digits ∙ ap (all? digit?) none) ∙ ap Some value)
