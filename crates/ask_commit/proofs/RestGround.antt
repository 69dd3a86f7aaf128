-- Laws of the requests of an ask that have no place, served on the ground of the call in an image that is admitted.
-- Assumes nothing.
use Prim.Native.Nat.{ℕ, zero, suc, ◌+◌, ◌-◌, ◌*◌, ◌≤◌, ◌<◌}
use native.Mathlib.Nat.{zero-add}
use native.Mathlib.Omega.{arith}
use mathlib.Core.Path.{◌≡◌, refl, sym, ap, ap₂, subst, ◌∙◌}
use mathlib.Core.Logic.{⊎_elim}
use mathlib.Core.Bool.{Bool, true, false}
use mathlib.Core.List.{List, [], ◌∷◌, map}
use mathlib.Core.Option.{Option, none, some, some-ne-none}
use lib.ListN.{length, take, drop, get_or, length-map, length-drop}
use lib.Seq.{take_all, get_or-take, get_or-drop, length-take-le}
use lib.Dec.{ltb, eqb}
use borrow.Author.Tests.{eqb-false, ne_eqb}
use Rattle.lists.specs.Lists.{All, filter}
use Rattle.lists.proofs.Tests.{bool_cases, cond-false}
use Rattle.lists.proofs.FilterLaws.{filter-yes, filter-no}
use Rattle.lists.proofs.ImageLaws.{take-map, drop-map}
use Rattle.prefix.specs.declared.Prefix.{Prefix}
use Rattle.prefix.specs.Prefixes.{longest, prefix, end}
use Rattle.names.specs.declared.Name.{Name}
use Rattle.table.specs.declared.{Lease.Lease, LeaseTable.LeaseTable}
use Rattle.table.specs.Table.{pool_slots, lease_slots, addresses, no_lease, pool_prefix, prefix_of, prefixes_of, pools_of, present}
use Rattle.image.specs.Image.{head_size, pool_size, lease_size, used_pools, used_leases}
use Rattle.image_check.specs.declared.ImageSummary.{ImageSummary}
use Rattle.image_check.specs.Inner.{nth_pool}
use Rattle.image_records.specs.Records.{Records}
use Rattle.gap_list.specs.Gaps.{gaps_of}
use Rattle.gap_list.specs.declared.Ends.{Ends}
use Rattle.gap_list.specs.Columns.{held_in}
use Rattle.ask_gaps.specs.Ground as gap-ground
use Rattle.ask_gaps.proofs.GroundLaws.{area, ground-ends, held-few}
use Rattle.option.specs.Contents.{Request}
use Rattle.ledger.specs.Ledger.{Call, narrowed, usable_leases, hold_time}
use Rattle.ask_again.specs.Places.{no_place, lease_at, given_in, others_in, flags_of}
use Rattle.ask_again.proofs.Counting.{others-all}
use Rattle.ask_serve.specs.Granting.{offers_in, Serving, Granted}
use Rattle.ask_serve.specs.Granting.{leases_in as leases_granted}
use Rattle.ask_serve.proofs.ColumnLaws.{offers-none}
use Rattle.ask_serve.proofs.RestLaws.{rest-none, rest-full}
use Rattle.call_spec.specs.ImageCalls.{Lent, table_in}
use Rattle.call_rows.specs.Admission.{leases_from, Admitted}
use Rattle.call_ground.specs.declared.Ground.{Ground}
use Rattle.call_ground.specs.Ground.{leases_in, Grounds}
use Rattle.call_ground.proofs.GroundsLaws.{grounds-present}
use Rattle.ask_commit.specs.InnerRest.{AdmittedImage}
use Rattle.ask_commit.proofs.GroundHeld.{inner-length, inner-records}
use Rattle.ask_commit.proofs.AdmittedLaws.{here, present-many, present-few, records-fit}

-- Some of a list, in place: fewer pass a test.

take-fewer : (f : Lease → Bool) (n : ℕ) (xs : List Lease) → length (filter f (take n xs)) ≤ length (filter f xs)
take-fewer f zero xs = omega arith
take-fewer f (suc n) [] = omega arith
take-fewer f (suc n) (x ∷ xs) =
    ⊎_elim
    (λ (e : f x ≡ true). omega (arith, ap length (filter-yes f x (take n xs) e), ap length (filter-yes f x xs e), take-fewer f n xs))
    (λ (e : f x ≡ false). omega (arith, ap length (filter-no f x (take n xs) e), ap length (filter-no f x xs e), take-fewer f n xs))
    (bool_cases (f x))

drop-fewer : (f : Lease → Bool) (n : ℕ) (xs : List Lease) → length (filter f (drop n xs)) ≤ length (filter f xs)
drop-fewer f zero xs = omega arith
drop-fewer f (suc n) [] = omega arith
drop-fewer f (suc n) (x ∷ xs) =
    ⊎_elim
    (λ (e : f x ≡ true). omega (arith, ap length (filter-yes f x xs e), drop-fewer f n xs))
    (λ (e : f x ≡ false). omega (arith, ap length (filter-no f x xs e), drop-fewer f n xs))
    (bool_cases (f x))

inner-fewer : (now first n : ℕ) (xs : List Lease) → length (present now (take n (drop first xs))) ≤ length (present now xs)
unfolding present
inner-fewer now first n xs =
    let f : Lease → Bool = λ x. ltb now x.expires in
    omega (arith, take-fewer f n (drop first xs), drop-fewer f first xs)

-- Requests that all have a place.
all-given : (us : List Lease) (places : List ℕ) → All (λ p. p ≡ no_place → ⊥) places → All (λ g. g ≡ none → ⊥) (given_in us places)
all-given us [] a = tt
all-given us (p ∷ places) a =
    ((λ e. some-ne-none (get_or us p no_lease) (sym (cond-false (eqb p no_place) none (some (get_or us p no_lease)) (ne_eqb p no_place a.0)) ∙ e)), all-given us places a.1)

flags-length : (rs : List Request) → length (flags_of rs) ≡ length rs
flags-length rs = length-map rs _

none_each : (rs : List Request) → ◌≡◌ {A = List (Option Lease)} (map (λ f. none) (flags_of rs)) (map (λ r. none) rs)
none_each [] = refl
none_each (r ∷ rs) = ap (λ (os : List (Option Lease)). none ∷ os) (none_each rs)

module _ (image : List ℕ) (now client : ℕ) (summary : ImageSummary) (q : AdmittedImage image now client summary) where
  abbrev h : Lent
  h = q.lent

  abbrev t : LeaseTable
  t = table_in h

  abbrev o : Admitted true q.lent now client summary
  o = q.admitted

  -- THE GAPS OF THE GROUND

  module _ (g : Ground) (few-pools : g.pool + g.pools ≤ summary.pools) (few-leases : g.first + g.leases ≤ summary.leases) where
    -- Its pools and its leases.
    abbrev pools : List Prefix
    pools = take g.pools (drop g.pool (pools_of t))

    abbrev leases : List Lease
    leases = leases_in g (used_leases t)

    abbrev from : ℕ
    from = leases_from summary + lease_size * g.first

    whole : gap-ground.Ground h.image 0 (length (used_pools t)) (head_size + pool_size * length (used_pools t)) (length (used_leases t)) (pools_of t) (used_leases t)
    whole = area t o.sound h.image h.bytes o.image

    pub pools-fit : head_size + pool_size * (g.pool + g.pools) ≤ length image
    pools-fit = omega (arith, records-fit image now client summary q)

    pub leases-fit : from + lease_size * g.leases ≤ length image
    leases-fit = omega (arith, records-fit image now client summary q)

    pools-many : g.pools ≡ length pools
    pools-many = sym (length-take-le g.pools (drop g.pool (pools_of t)) (omega (arith, length-drop g.pool (pools_of t), whole.pools-are, o.pools)))

    pool-at : (k : ℕ) → k < length pools → nth_pool (drop head_size image) (g.pool + k) ≡ get_or pools k (prefix 0 0)
    pool-at k lt =
        ap (λ (l : List ℕ). nth_pool (drop head_size l) (g.pool + k)) (sym q.same)
        ∙ ap (nth_pool (drop head_size h.image)) (sym (zero-add (g.pool + k)))
        ∙ whole.pool-at (g.pool + k) (omega (arith, pools-many, whole.pools-are, o.pools))
        ∙ sym (get_or-take g.pools (drop g.pool (pools_of t)) k (prefix 0 0) (omega (arith, pools-many)) ∙ get_or-drop g.pool (pools_of t) k (prefix 0 0))

    leases-at : Records image from leases
    leases-at =
        subst (λ (l : List ℕ). Records l from leases) q.same
        (inner-records h.image (leases_from summary) (used_leases t) o.records g.first g.leases (omega (arith, o.leases)) (omega (arith, o.size, o.within)))

    ground-is : gap-ground.Ground image g.pool g.pools from g.leases pools leases
    ground-is = record {
      pools-are = pools-many;
      pool-at = pool-at;
      leases-are = inner-length h.image (leases_from summary) (used_leases t) o.records g.first g.leases (omega (arith, o.leases));
      leases-at = leases-at;
    }

    pub pools-end : (k : ℕ) → k < g.pools → end (nth_pool (drop head_size image) (g.pool + k)) ≤ addresses
    pools-end k lt =
        subst (λ (m : List ℕ). end (nth_pool (drop head_size m) (g.pool + k)) ≤ addresses) q.same
        (ground-ends t o.sound h.image h.bytes o.image (g.pool + k) (omega (arith, o.pools)))

    module _ (es : List Ends) (n : ℕ)
        (gaps : (ps : List Prefix) (xs : List Lease) → gap-ground.Ground image g.pool g.pools from g.leases ps xs → held_in es n ≡ gaps_of ps (gap-ground.ahead now 0 xs)) where
      gaps-are : held_in es n ≡ gaps_of pools (map prefix_of (present now leases))
      gaps-are = gaps pools leases ground-is

      -- There is room for a gap more with each lease more.
      pub gaps-few : n ≤ length es → n + (lease_slots - (summary.leases - summary.expired)) ≤ lease_slots + pool_slots
      gaps-few room =
          omega (
            arith,
            held-few es n pools (map prefix_of (present now leases)) room gaps-are,
            pools-many,
            few-pools,
            o.few-pools,
            length-map (present now leases) prefix_of,
            inner-fewer now g.first g.leases (used_leases t),
            ap length o.present-used,
            present-many image now client summary q,
            present-few image now client summary q,
          )

      -- Where it is that of a call, the rest is served on it.
      pub rest-ready : (c : Call) → Grounds h c summary g → (rs : List Request) (asked_lengths : List ℕ) → asked_lengths ≡ map (λ r. r.length) rs → All (λ r. r.length ≤ longest) rs
          → Serving t c now client (here h now) rs es
          (record { default_length = summary.default_length; gaps = n; slots = lease_slots - (summary.leases - summary.expired) }) asked_lengths
      unfolding prefixes_of
      rest-ready c k rs asked_lengths asked long =
          let own : pools ≡ pools_of (narrowed t c) =
          ap (take g.pools) (drop-map pool_prefix g.pool (used_pools t)) ∙ take-map pool_prefix g.pools (drop g.pool (used_pools t)) ∙ sym k.pools-are in
          let on-it : present now leases ≡ usable_leases t c (here h now) = sym (grounds-present h c summary g k now client o) in
          record {
            sound_table = o.sound;
            present_leases = refl;
            named = eqb-false client 0 o.some-client;
            gaps = gaps-are ∙ ap₂ (λ (ps : List Prefix) (xs : List Lease). gaps_of ps (map prefix_of xs)) own on-it;
            empty = omega (arith, present-many image now client summary q);
            by_default = o.default;
            asked_lengths = asked;
            long = long;
          }

  -- NOTHING TO SERVE: each request has a place, or no slot is empty. No place of the columns has a lease.

  module _ (u : LeaseTable) (name : Name) (us : List Lease) (rs : List Request) (asked_lengths places networks lengths : List ℕ) (asked : asked_lengths ≡ map (λ r. r.length) rs) (same : length places ≡ length asked_lengths)
      (hn : length asked_lengths ≤ length networks) (hl : length asked_lengths ≤ length lengths) (none_yet : leases_granted lengths (length asked_lengths) ≡ 0) where
    many : length rs ≡ length asked_lengths
    many = sym (ap length asked ∙ length-map rs (λ (r : Request). r.length))

    given-many : length (given_in us places) ≡ length rs
    given-many = length-map places (lease_at us) ∙ omega (arith, many)

    nothing-there : offers_in client (now + hold_time) name networks lengths (flags_of rs) ≡ map (λ r. none) rs
    nothing-there =
        let long = flags-length rs in
        offers-none client (now + hold_time) name networks lengths (flags_of rs) (omega (arith, long, many)) (omega (arith, long, many)) (ap (leases_granted lengths) (long ∙ many) ∙ none_yet)
        ∙ none_each rs

    pub rest-given : others_in no_place places (length asked_lengths) ≡ length asked_lengths → Granted u now client name (here h now) (given_in us places) rs networks lengths
    rest-given all =
        let each : All (λ p. p ≡ no_place → ⊥) places =
        subst (All (λ p. p ≡ no_place → ⊥)) (take_all (length asked_lengths) places (omega arith))
        (others-all no_place (take (length asked_lengths) places) (all ∙ sym (ap length (take_all (length asked_lengths) places (omega arith)) ∙ same))) in
        record { held = nothing-there ∙ sym (rest-none u now client name (given_in us places) rs (here h now) given-many (all-given us places each)) }

    pub rest-refused : lease_slots ≤ summary.leases - summary.expired → Granted u now client name (here h now) (given_in us places) rs networks lengths
    rest-refused full = record { held = nothing-there ∙ sym (rest-full u now client name (given_in us places) rs (here h now) given-many (omega (arith, present-many image now client summary q))) }
