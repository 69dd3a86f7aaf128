-- Counting into a list, and the pass over the leases of a pool.
-- Assumes nothing.
use Prim.Native.Nat.{ℕ, zero, suc, ◌+◌, ◌-◌, ◌≤◌, ◌<◌}
use mathlib.Core.Path.{◌≡◌, refl, sym, ap, ap₂, subst, ◌∙◌}
use mathlib.Core.Logic.{by_cases}
use mathlib.Core.List.{List, [], ◌∷◌}
use native.Mathlib.Decide.{dec_le}
use native.Mathlib.Omega.{arith}
use lib.ListN.{length, get_or, set, replicate, length-set, length-replicate}
use lib.Seq.{get_or-set_same, get_or-set_other}
use lib.Dec.{eqb}
use Rattle.prefix.specs.declared.Prefix.{Prefix}
use Rattle.prefix.specs.Prefixes.{prefix, end}
use Rattle.free_space.specs.Serving.{one?}
use Rattle.table.specs.Table.{lease_slots}
use Rattle.counts.specs.InnerLevels.{common_bits, equal_to, up_to, openings_after, openings, lengths, frees_after, start_in, start_past}
use Rattle.counts.proofs.OneLaws.{one-eq, one-lt, one-gt, one-over, up_next}
use Rattle.counts.proofs.LevelRows.{in-first, in-none, in-empty, past_first, past-none, past-empty}
use Rattle.image_counts.specs.InnerTally.{lease_at, ahead, open_lengths, zeros, tally, both_of, Tallied, total, frees_on}
use Rattle.image_counts.proofs.PlaceLaws.{ahead-first, ahead_none}

-- ONE PLACE

pub set_at : (l : List ℕ) (k j : ℕ) → j < length l → get_or (set l k (get_or l k 0 + 1)) j 0 ≡ get_or l j 0 + one? (eqb k j)
set_at l k j h =
    by_cases (dec_le k j)
    (λ a. by_cases (dec_le j k)
    (λ b.
    let e : k ≡ j = omega arith in
    subst (λ (m : ℕ). get_or (set l m (get_or l m 0 + 1)) j 0 ≡ get_or l j 0 + one? (eqb m j)) (sym e)
    (get_or-set_same l j (get_or l j 0 + 1) 0 h ∙ omega (arith, one-eq j j refl)))
    (λ b. get_or-set_other l k j (get_or l k 0 + 1) 0 (λ e. omega arith) ∙ omega (arith, one-lt k j (omega arith))))
    (λ a. get_or-set_other l k j (get_or l k 0 + 1) 0 (λ e. omega arith) ∙ omega (arith, one-gt k j (omega arith)))

pub set-few : (l : List ℕ) (k j a m : ℕ) → a ≤ m → ((i : ℕ) → get_or l i 0 ≤ m) → get_or (set l k a) j 0 ≤ m
set-few [] k j a m h f = f j
set-few (x ∷ xs) zero zero a m h f = h
set-few (x ∷ xs) zero (suc j) a m h f = f (suc j)
set-few (x ∷ xs) (suc k) zero a m h f = f 0
set-few (x ∷ xs) (suc k) (suc j) a m h f = set-few xs k j a m h (λ i. f (suc i))

pub zero-at : (n j : ℕ) → get_or (replicate {A = ℕ} n 0) j 0 ≡ 0
zero-at zero j = refl
zero-at (suc n) zero = refl
zero-at (suc n) (suc j) = zero-at n j

-- A WHOLE LIST

tally-at : (ks l : List ℕ) (j : ℕ) → j < length l → get_or (tally l ks) j 0 ≡ get_or l j 0 + equal_to j ks
unfolding tally
tally-at [] l j h = omega arith
tally-at (k ∷ ks) l j h =
    omega (
      arith,
      tally-at ks (set l k (get_or l k 0 + 1)) j (omega (arith, length-set l k (get_or l k 0 + 1))),
      set_at l k j h,
    )

none-up : (ks : List ℕ) → equal_to 0 ks ≡ up_to 0 ks
none-up [] = refl
none-up (zero ∷ ks) = omega (arith, none-up ks)
none-up (suc k ∷ ks) = omega (arith, none-up ks, one-gt (suc k) 0 (omega arith), one-over (suc k) 0 (omega arith))

module _ (ks : List ℕ) where
  counted-at : (j : ℕ) → j < open_lengths → get_or (tally zeros ks) j 0 ≡ equal_to j ks
  counted-at j h = omega (arith, tally-at ks zeros j (omega (arith, length-replicate {A = ℕ} open_lengths 0)), zero-at open_lengths j)

  pub total-up : (j : ℕ) → j < open_lengths → total j (tally zeros ks) ≡ up_to j ks
  unfolding total
  total-up zero h = counted-at 0 h ∙ none-up ks
  total-up (suc j) h = omega (arith, total-up j (omega arith), counted-at (suc j) h, up_next j ks)

pub frees-same : (pool : ℕ) (ks ls : List ℕ) (l k : ℕ) → l + k < open_lengths → frees_on pool (tally zeros ks) (tally zeros ls) l k ≡ frees_after pool ks ls l k
unfolding frees_on frees_after
frees-same pool ks ls l zero h = refl
frees-same pool ks ls l (suc k) h =
    ap₂ (λ (m : ℕ) (ms : List ℕ). m ∷ ms)
    (omega (arith, total-up ks l (omega arith), total-up ls l (omega arith), counted-at ks (suc l) (omega arith)))
    (frees-same pool ks ls (suc l) k (omega arith))

-- THE PASS

tally-first : (l : List ℕ) (k : ℕ) (ks : List ℕ) → tally (set l k (get_or l k 0 + 1)) ks ≡ tally l (k ∷ ks)
unfolding tally
tally-first l k ks = refl

tally-none : (l : List ℕ) → tally l [] ≡ l
unfolding tally
tally-none l = refl

-- One into a list of zeros.
set-one : (k : ℕ) → set zeros k 1 ≡ set zeros k (get_or zeros k 0 + 1)
set-one k = ap (set zeros k) (sym (ap (λ (m : ℕ). m + 1) (zero-at open_lengths k)))

-- A pool in which no lease is left.
module _ (image : List ℕ) (from n stop at : ℕ) where
  pub none_end : n ≤ at → (start_in stop (ahead image from n at) ≡ []) × (start_past stop (ahead image from n at) ≡ ahead image from n at)
  none_end past =
      let none = ahead_none image from n at past in
      (ap (start_in stop) none ∙ in-empty stop, ap (start_past stop) none ∙ past-empty stop ∙ sym none)

  pub none_here : at < n → stop ≤ (lease_at image from at).network → (start_in stop (ahead image from n at) ≡ []) × (start_past stop (ahead image from n at) ≡ ahead image from n at)
  none_here lt h =
      let first = ahead-first image from n at lt in (
        ap (start_in stop) first ∙ in-none stop (lease_at image from at) (ahead image from n (at + 1)) h,
        ap (start_past stop) first ∙ past-none stop (lease_at image from at) (ahead image from n (at + 1)) h ∙ sym first,
      )

-- Of a pool it matters only where it ends and its length.
openings-top : (p : Prefix) (us : List Prefix) → openings (prefix 0 p.length) us ≡ openings p us
openings-top p [] = refl
openings-top p (x ∷ us) = refl

module _ (image : List ℕ) (from n stop top at : ℕ) where
  abbrev mine : ℕ → List Prefix
  mine i = start_in stop (ahead image from n i)

  -- Those counted, and those still to count, are all.
  pub record Counting (opened closed : List ℕ) (before i : ℕ) : Type 0 where
    pub further : at ≤ i
    pub within : i ≤ n
    pub few-opened : (k : ℕ) → get_or opened k 0 ≤ i - at
    pub few-closed : (k : ℕ) → get_or closed k 0 ≤ i - at
    pub opens : tally opened (openings_after before (mine i)) ≡ tally zeros (openings (prefix 0 top) (mine at))
    pub closes : tally closed (lengths (mine i)) ≡ tally zeros (lengths (mine at))
    pub left : start_past stop (ahead image from n i) ≡ start_past stop (ahead image from n at)

  module _ (i : ℕ) (lt : i < n) (inside : (lease_at image from i).network < stop) where
    mine-first : mine i ≡ lease_at image from i ∷ mine (i + 1)
    mine-first = ap (start_in stop) (ahead-first image from n i lt) ∙ in-first stop (lease_at image from i) (ahead image from n (i + 1)) inside

    past_same : start_past stop (ahead image from n (i + 1)) ≡ start_past stop (ahead image from n i)
    past_same = sym (ap (start_past stop) (ahead-first image from n i lt) ∙ past_first stop (lease_at image from i) (ahead image from n (i + 1)) inside)

  -- The first lease.
  pub counting-first : at < n → (lease_at image from at).network < stop → (network l : ℕ) → network ≡ (lease_at image from at).network → l ≡ (lease_at image from at).length
      → Counting (set zeros (top) 1) (set zeros l 1) network (at + 1)
  counting-first lt inside network l en el =
      let x : Prefix = lease_at image from at in
      record {
        further = omega arith;
        within = omega arith;
        few-opened = λ j. set-few zeros (top) j 1 (at + 1 - at) (omega arith) (λ m. omega (arith, zero-at open_lengths m));
        few-closed = λ j. set-few zeros l j 1 (at + 1 - at) (omega arith) (λ m. omega (arith, zero-at open_lengths m));
        opens =
            ap₂ (λ (ks : List ℕ) (m : ℕ). tally ks (openings_after m (mine (at + 1)))) (set-one (top)) en
            ∙ tally-first zeros (top) (openings_after x.network (mine (at + 1)))
            ∙ ap (λ (us : List Prefix). tally zeros (openings (prefix 0 top) us)) (sym (mine-first at lt inside));
        closes =
            ap (λ (ks : List ℕ). tally ks (lengths (mine (at + 1)))) (set-one l)
            ∙ tally-first zeros l (lengths (mine (at + 1)))
            ∙ ap (λ (m : ℕ). tally zeros (m ∷ lengths (mine (at + 1)))) el
            ∙ ap (λ (us : List Prefix). tally zeros (lengths us)) (sym (mine-first at lt inside));
        left = past_same at lt inside;
      }

  module _ (opened closed : List ℕ) (before i : ℕ) (c : Counting opened closed before i) where
    -- Each later one.
    pub counting_more : i < n → (network k l : ℕ) → network ≡ (lease_at image from i).network → k ≡ common_bits before network + 1 → l ≡ (lease_at image from i).length → network < stop
        → Counting (set opened k (get_or opened k 0 + 1)) (set closed l (get_or closed l 0 + 1)) network (i + 1)
    counting_more lt network k l en ek el h =
        let inside : (lease_at image from i).network < stop = omega arith in
        record {
          further = omega (arith, c.further);
          within = omega arith;
          few-opened = λ j. set-few opened k j (get_or opened k 0 + 1) (i + 1 - at) (omega (arith, c.few-opened k, c.further)) (λ m. omega (arith, c.few-opened m, c.further));
          few-closed = λ j. set-few closed l j (get_or closed l 0 + 1) (i + 1 - at) (omega (arith, c.few-closed l, c.further)) (λ m. omega (arith, c.few-closed m, c.further));
          opens =
              tally-first opened k (openings_after network (mine (i + 1)))
              ∙ ap (λ (m : ℕ). tally opened (m ∷ openings_after network (mine (i + 1)))) ek
              ∙ ap (λ (m : ℕ). tally opened ((common_bits before m + 1) ∷ openings_after m (mine (i + 1)))) en
              ∙ ap (λ (us : List Prefix). tally opened (openings_after before us)) (sym (mine-first i lt inside))
              ∙ c.opens;
          closes =
              tally-first closed l (lengths (mine (i + 1)))
              ∙ ap (λ (m : ℕ). tally closed (m ∷ lengths (mine (i + 1)))) el
              ∙ ap (λ (us : List Prefix). tally closed (lengths us)) (sym (mine-first i lt inside))
              ∙ c.closes;
          left = past_same i lt inside ∙ c.left;
        }

  -- No lease of the pool is left.
  module _ (opened sides : List ℕ) (before i : ℕ) (c : Counting opened (both_of sides) before i)
      (p : Prefix) (es : stop ≡ end p) (et : top ≡ p.length) (few : n ≤ lease_slots) where
    done : mine i ≡ [] → start_past stop (ahead image from n i) ≡ ahead image from n i → Tallied image from n p at (record { next = i; opened = opened; sides = sides })
    done none rest = record {
      within = c.within;
      few-opened = λ k. omega (arith, c.few-opened k, c.within);
      few-closed = λ k. omega (arith, c.few-closed k, c.within);
      opened =
          sym (tally-none opened)
          ∙ ap (λ (us : List Prefix). tally opened (openings_after before us)) (sym none)
          ∙ c.opens
          ∙ ap₂ (λ (m k : ℕ). tally zeros (openings (prefix 0 m) (start_in k (ahead image from n at)))) et es
          ∙ ap (tally zeros) (openings-top p (start_in (end p) (ahead image from n at)));
      closed =
          sym (tally-none (both_of sides))
          ∙ ap (λ (us : List Prefix). tally (both_of sides) (lengths us)) (sym none)
          ∙ c.closes
          ∙ ap (λ (k : ℕ). tally zeros (lengths (start_in k (ahead image from n at)))) es;
      left = sym rest ∙ c.left ∙ ap (λ (k : ℕ). start_past k (ahead image from n at)) es;
    }

    pub counting-stop : i < n → stop ≤ (lease_at image from i).network → Tallied image from n p at (record { next = i; opened = opened; sides = sides })
    counting-stop lt h = let none = none_here image from n stop i lt h in done none.0 none.1

    pub counting-end : n ≤ i → Tallied image from n p at (record { next = i; opened = opened; sides = sides })
    counting-end past = let none = none_end image from n stop i past in done none.0 none.1
