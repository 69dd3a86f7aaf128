-- What the pass over the leases of an image knows after each of them.
-- Assumes nothing.
use Prim.Native.Nat.{ℕ, zero, suc, ◌+◌, ◌-◌, ◌*◌, ◌/◌, ◌≤◌, ◌<◌}
use mathlib.Core.Path.{◌≡◌, refl, sym, ap, ap₂, subst, ◌∙◌}
use mathlib.Core.Logic.{⊎_elim}
use mathlib.Core.Bool.{Bool, true, false, not, true≢false}
use mathlib.Core.List.{List, [], ◌∷◌}
use mathlib.Core.Option.{none, some}
use Rattle.std.specs.Prelude.{None}
use native.Mathlib.Nat.{mul-zero}
use native.Mathlib.Omega.{arith}
use lib.ListN.{length, drop, get_or, length-map, length-drop, get_or-map}
use lib.Seq.{drop-drop}
use lib.Dec.{leb, ltb, eqb}
use borrow.Author.Tests.{ltb-true, ltb-false, eqb-true}
use Rattle.lists.specs.Lists.{and, any?}
use Rattle.lists.proofs.Tests.{bool_cases, or_left, or_right, not-of, cond-true, cond-false, and-list-to}
use Rattle.lists.proofs.ListLaws.{all_map}
use Rattle.lists.proofs.DropLaws.{drop-end, all-at}
use Rattle.lists.proofs.FilterLaws.{filter-whole}
use Rattle.prefix.specs.declared.Prefix.{Prefix}
use Rattle.prefix.specs.Prefixes.{end, inside?}
use Rattle.prefix.proofs.PrefixLaws.{size-positive, inside_of, inside-not}
use Rattle.table.specs.declared.Pool.{Pool}
use Rattle.table.specs.declared.Lease.{Lease}
use Rattle.table.specs.Table.{lease_slots, leases_ascend?, no_pool, pool_prefix, unused?, pool_ok}
use Rattle.table.proofs.Ascending.{Ascending, used, ascending-low, ascends-to}
use Rattle.table.proofs.TableLaws.{unused-to}
use Rattle.image.specs.declared.Head.{Head}
use Rattle.image.specs.declared.Form.{Form}
use Rattle.image.specs.declared.Form.TheVariants.{First, Second}
use Rattle.image.specs.Fields.{Run}
use Rattle.image.specs.Image.{lease_size_in, pool_size}
use Rattle.image.specs.Reading.{lease_fields_in, lease_at_in, pools_at, after_head_in, network_in}
use Rattle.image.proofs.FieldLaws.{Bytes, bytes_drop, records-none}
use Rattle.image_check.specs.ImageSummary.{summary_of}
use Rattle.image_check.specs.declared.{Pass.Pass, Fit.Fit}
use Rattle.image_check.specs.Inner.{prefix_in, nth_pool, fit_tests, due, Begun}
use Rattle.image_check.specs.InnerPass.{summary_with, ending, leases_from, pools_in, Answered, Reached}
use Rattle.image_check.proofs.FitLaws.{size-least, Fits, Met, fits-to, fits-of, fits_read, fits-ok}
use Rattle.image_check.proofs.RunLaws.{pools-taken, leases-taken}
use Rattle.image_check.proofs.SummaryLaws.{read-begun, ending-none, ending-unsound, ending-next, left-fits}

-- A test that some element passes, by its place; and one that none passes.
any?-at : {A : Type 0} (f : A → Bool) (xs : List A) (k : ℕ) (d : A) → k < length xs → f (get_or xs k d) ≡ true → any? f xs ≡ true
any?-at f [] k d h e = absurd (omega arith)
any?-at f (x ∷ xs) zero d h e = or_left (f x) (any? f xs) e
any?-at f (x ∷ xs) (suc k) d h e = or_right (f x) (any? f xs) (any?-at f xs k d (omega arith) e)

any?-none : {A : Type 0} (f : A → Bool) (xs : List A) (d : A) → ((k : ℕ) → k < length xs → f (get_or xs k d) ≡ false) → any? f xs ≡ false
any?-none f [] d h = refl
any?-none f (x ∷ xs) d h = rw (h 0 (omega arith), any?-none f xs d (λ k l. h (suc k) (omega arith)))

ascending-pair : {A : Type 0} (pre : A → Prefix) (from : ℕ) (xs : List A) (j k : ℕ) (d : A) → Ascending pre from xs → j < k → k < length xs
    → end (pre (get_or xs j d)) ≤ (pre (get_or xs k d)).network
ascending-pair pre from [] j k d s lt h = absurd (omega arith)
ascending-pair pre from (x ∷ xs) j zero d s lt h = absurd (omega arith)
ascending-pair pre from (x ∷ xs) zero (suc k) d s lt h = all-at (λ y. end (pre x) ≤ (pre y).network) xs (ascending-low pre (end (pre x)) xs s.1) k d (omega arith)
ascending-pair pre from (x ∷ xs) (suc j) (suc k) d s lt h = ascending-pair pre (end (pre x)) xs j k d s.1 (omega arith) (omega arith)

pub due-few : (expires time : ℕ) → due expires time ≤ 1
due-few expires time =
    ⊎_elim (λ (b : leb expires time ≡ true). omega (arith, cond-true {A = ℕ} (leb expires time) 1 0 b)) (λ (b : leb expires time ≡ false). omega (arith, cond-false {A = ℕ} (leb expires time) 1 0 b))
    (bool_cases (leb expires time))

nothing_read : (form : Form) → lease_at_in form [] ≡ none
unfolding lease_at_in
nothing_read First = refl
nothing_read Second = refl

-- SIZES, in each form: what is left has the size of so many leases, one of which may come.
module _ (at len left : ℕ) where
  pub one_left : (form : Form) → at + lease_size_in form * left ≡ len → at < len → at + lease_size_in form ≤ len
  one_left First e h = omega arith
  one_left Second e h = omega arith

  pub others-left : (form : Form) → at + lease_size_in form * left ≡ len → at < len → at + lease_size_in form + lease_size_in form * (left - 1) ≡ len
  others-left First e h = omega arith
  others-left Second e h = omega arith

module _ (len n at i : ℕ) where
  few-before : (form : Form) → len ≤ pool_size * n + lease_size_in form * lease_slots → at ≡ pool_size * n + lease_size_in form * i → at + lease_size_in form ≤ len → i < lease_slots
  few-before First size place room = omega arith
  few-before Second size place room = omega arith

  one_further : (form : Form) → at ≡ pool_size * n + lease_size_in form * i → at + lease_size_in form ≡ pool_size * n + lease_size_in form * (i + 1)
  one_further First place = omega arith
  one_further Second place = omega arith

-- The bytes after the pools, as so many leases.
module _ (len from : ℕ) (inside : from ≤ len) where
  pub count-inside : (form : Form) → from + lease_size_in form * ((len - from) / lease_size_in form) ≤ len
  count-inside First = omega arith
  count-inside Second = omega arith

  pub count-many : (form : Form) (m : ℕ) → lease_slots < (len - from) / lease_size_in form → m ≤ lease_slots → from + lease_size_in form * m ≡ len → ⊥
  count-many First m a b e = omega arith
  count-many Second m a b e = omega arith

  pub count-uneven : (form : Form) (m : ℕ) → (from + lease_size_in form * ((len - from) / lease_size_in form) ≡ len → ⊥) → from + lease_size_in form * m ≡ len → ⊥
  count-uneven First m a e = omega arith
  count-uneven Second m a e = omega arith

  pub count-few : (form : Form) → (len - from) / lease_size_in form ≤ lease_slots → from + lease_size_in form * ((len - from) / lease_size_in form) ≡ len → len ≤ from + lease_size_in form * lease_slots
  count-few First a e = omega arith
  count-few Second a e = omega arith

pub same_count : (form : Form) (from m n len : ℕ) → from + lease_size_in form * m ≡ len → from + lease_size_in form * n ≡ len → m ≡ n
same_count First from m n len a b = omega arith
same_count Second from m n len a b = omega arith

-- In pool k a pass comes to a position with `low`, where a lease may begin: the start of the pool, or the end of the lease before.
pub record Along (form : Form) (x : Head) (s : List ℕ) (n time k low : ℕ) (p : Pass) : Type 0 where
  pub leases : ℕ
  pub least : ℕ
  pub size : length s ≤ pool_size * n + lease_size_in form * lease_slots
  pub place : p.at ≡ pool_size * n + lease_size_in form * leases
  pub above : least ≤ low
  pub under : low ≤ end (nth_pool s k)
  pub begins : (nth_pool s k).network ≤ low
  pub between : (q : Prefix) → least ≤ q.network → q.network < low → inside? q (nth_pool s k) ≡ false
  pub passed : (j : ℕ) → j < k → p.at < length s → and (fit_tests form x.last (drop p.at s)) ≡ true → least ≤ network_in (drop p.at s)
      → inside? (prefix_in (drop p.at s)) (nth_pool s j) ≡ false
  pub same : Answered form x s n time least leases p.expired p.at

module _ (form : Form) (x : Head) (s : List ℕ) (n time : ℕ) (begun : Begun x s n) where
  pool-at : (k : ℕ) → k < n → get_or (pools_in s) k (pool_prefix no_pool) ≡ nth_pool s k
  pool-at k h = get_or-map pool_prefix (pools_at s).items k no_pool ∙ ap pool_prefix ((pools-taken s).at k no_pool (omega (arith, begun.counted)))

  pools-many : length (pools_in s) ≡ n
  pools-many = length-map (pools_at s).items pool_prefix ∙ sym begun.counted

  pools-apart : (j k : ℕ) → j < k → k < n → end (nth_pool s j) ≤ (nth_pool s k).network
  pools-apart j k lt h =
      let ps : List Pool = (pools_at s).items in
      let all : used unused? ps ≡ ps = filter-whole (λ p. not (unused? p)) ps (all_map (λ p (e : unused? p ≡ false). not-of (unused? p) e) ps (pools-taken s).each) in
      let up : Ascending pool_prefix 0 ps = subst (Ascending pool_prefix 0) all (ascends-to unused? pool_ok pool_prefix no_pool unused-to 0 ps begun.ascends).ascending in
      let a : end (pool_prefix (get_or ps j no_pool)) ≤ (pool_prefix (get_or ps k no_pool)).network = ascending-pair pool_prefix 0 ps j k no_pool up lt (omega (arith, begun.counted)) in
      let e : pool_prefix (get_or ps j no_pool) ≡ nth_pool s j = ap pool_prefix ((pools-taken s).at j no_pool (omega (arith, begun.counted))) in
      let f : pool_prefix (get_or ps k no_pool) ≡ nth_pool s k = ap pool_prefix ((pools-taken s).at k no_pool (omega (arith, begun.counted))) in
      subst (λ (q : Prefix). end (nth_pool s j) ≤ q.network) f (subst (λ (q : Prefix). end q ≤ (pool_prefix (get_or ps k no_pool)).network) e a)

  pub pools-inside : pool_size * n ≤ length s
  pools-inside = omega (arith, (pools-taken s).inside, begun.counted)

  in-pool : (q : Prefix) (k : ℕ) → k < n → inside? q (nth_pool s k) ≡ true → any? (inside? q) (pools_in s) ≡ true
  in-pool q k h e = any?-at (inside? q) (pools_in s) k (pool_prefix no_pool) (omega (arith, pools-many)) (ap (inside? q) (pool-at k h) ∙ e)

  -- No number of leases makes up the rest.
  pub scanned-size : ((m : ℕ) → m ≤ lease_slots → pool_size * n + lease_size_in form * m ≡ length s → ⊥) → summary_of time (after_head_in form (some x) s) ≡ None
  scanned-size h =
      read-begun form x s n begun time
      ∙ ending-unsound x time n (pools_in s) 0 0 0 (leases_from form lease_slots (drop (pool_size * n) s)) (λ e.
      let r : Run Lease = leases_from form lease_slots (drop (pool_size * n) s) in
      let t = and-list-to (eqb (length r.rest) 0 ∷ leases_ascend? (pools_in s) x.last 0 r.items ∷ []) e in
      let q = leases-taken form lease_slots (drop (pool_size * n) s) in
      h (length r.items) q.few (omega (arith, eqb-true (length r.rest) 0 t.0, ap length q.rest, length-drop (lease_size_in form * length r.items) (drop (pool_size * n) s), q.inside, length-drop (pool_size * n) s, pools-inside)))

  -- THE LEASE AT A PLACE

  module _ (low expired at i : ℕ) (place : at ≡ pool_size * n + lease_size_in form * i) (same : Answered form x s n time low i expired at) where
    abbrev here : List ℕ
    here = drop at s

    nothing_left : length s ≤ at → summary_of time (after_head_in form (some x) s) ≡ summary_with x n i expired
    unfolding lease_at_in
    nothing_left e =
        let nothing : here ≡ [] = drop-end s at e in
        let none : leases_from form (lease_slots - i) [] ≡ record { items = []; rest = [] } = records-none (lease_at_in form) (lease_size_in form) (lease_slots - i) [] (nothing_read form) in
        same
        ∙ ap (λ (u : List ℕ). ending x time n (pools_in s) i expired low (leases_from form (lease_slots - i) u)) nothing
        ∙ ap (ending x time n (pools_in s) i expired low) none
        ∙ ending-none x time n (pools_in s) i expired low

    module _ (few : i < lease_slots) (room : at + lease_size_in form ≤ length s) where
      long : lease_size_in form ≤ length here
      long = omega (arith, length-drop at s)

      less : lease_slots - i ≡ suc (lease_slots - (i + 1))
      less = omega arith

      -- No sound table has it.
      no-lease : (Fits form x.last here → low ≤ network_in here → any? (inside? (prefix_in here)) (pools_in s) ≡ true → ⊥) → summary_of time (after_head_in form (some x) s) ≡ None
      no-lease h =
          same
          ∙ ap (λ (k : ℕ). ending x time n (pools_in s) i expired low (leases_from form k here)) less
          ∙ ending-unsound x time n (pools_in s) i expired low (leases_from form (suc (lease_slots - (i + 1))) here) (λ e.
          let f = left-fits x time n (pools_in s) form low (lease_slots - (i + 1)) here long e in
          h f.0 f.1 f.2)

      -- It lies in a pool, after the one before it.
      one-lease : Bytes s → (found : Fit) → Met form x.last here found → low ≤ found.network → any? (inside? (prefix_in here)) (pools_in s) ≡ true
          → Answered form x s n time found.end (i + 1) (expired + due found.expires time) (at + lease_size_in form)
      one-lease bytes found met above a =
          let higher : low ≤ network_in here = omega (arith, met.starts) in
          same
          ∙ ap (λ (k : ℕ). ending x time n (pools_in s) i expired low (leases_from form k here)) less
          ∙ ending-next x time n (pools_in s) form low (lease_slots - (i + 1)) here (lease_fields_in form here) (fits_read form x.last here (bytes_drop at s bytes) long met.fits) i expired higher
          (fits-ok form x.last here (pools_in s) met.fits a)
          ∙ ap₂ (λ (e t : ℕ). ending x time n (pools_in s) (i + 1) (expired + due e time) t (leases_from form (lease_slots - (i + 1)) (drop (lease_size_in form) here))) (sym met.until) (sym met.ends)
          ∙ ap (λ (u : List ℕ). ending x time n (pools_in s) (i + 1) (expired + due found.expires time) found.end (leases_from form (lease_slots - (i + 1)) u))
          (drop-drop (lease_size_in form) at s)

  -- ALL POOLS

  pub reached-start : length s ≤ pool_size * n + lease_size_in form * lease_slots → Reached form x s n time 0 (record { at = pool_size * n; expired = 0 })
  reached-start size = record {
    leases = 0;
    low = 0;
    size = size;
    place = omega (arith, mul-zero (lease_size_in form));
    below = λ h. omega arith;
    passed = λ j (h : j < 0). absurd (omega arith);
    same = read-begun form x s n begun time;
  }

  pub reached-end : (k : ℕ) (p : Pass) (r : Reached form x s n time k p) → length s ≤ p.at → summary_of time (after_head_in form (some x) s) ≡ summary_with x n r.leases p.expired
  reached-end k p r e = nothing_left r.low p.expired p.at r.leases r.place r.same e

  -- A lease is left that lies in no pool.
  pub reached-none : (k : ℕ) (p : Pass) → Reached form x s n time k p → n ≤ k → p.at + lease_size_in form ≤ length s → summary_of time (after_head_in form (some x) s) ≡ None
  reached-none k p r h room =
      no-lease r.low p.expired p.at r.leases r.place r.same (few-before (length s) n p.at r.leases form r.size r.place room) room (λ f l a.
      true≢false
      (sym a
      ∙ any?-none (inside? (prefix_in (drop p.at s))) (pools_in s) (pool_prefix no_pool) (λ j (b : j < length (pools_in s)).
      let c : j < n = omega (arith, pools-many) in
      ap (inside? (prefix_in (drop p.at s))) (pool-at j c) ∙ r.passed j (omega arith) (omega (arith, size-least form)) (fits-of form x.last (drop p.at s) f) l)))

  -- ONE POOL

  module _ (k : ℕ) (lt : k < n) where
    abbrev pool : Prefix
    pool = nth_pool s k

    pub along-start : (p : Pass) → Reached form x s n time k p → Along form x s n time k pool.network p
    along-start p r = record {
      leases = r.leases;
      least = r.low;
      size = r.size;
      place = r.place;
      above = r.below lt;
      under = omega arith;
      begins = omega arith;
      between = λ q l (h : q.network < pool.network). inside-not q pool (λ w. omega (arith, w.0));
      passed = r.passed;
      same = r.same;
    }

    module _ (low : ℕ) (p : Pass) (a : Along form x s n time k low p) where
      abbrev front : List ℕ
      front = drop p.at s

      -- The lease here lies in the pool.
      pub along-lease : Bytes s → p.at + lease_size_in form ≤ length s → (found : Fit) → Met form x.last front found → low ≤ found.network → found.end ≤ end pool
          → Along form x s n time k found.end (record { at = p.at + lease_size_in form; expired = p.expired + due found.expires time })
      along-lease bytes room found met h e =
          let lease : Prefix = prefix_in front in
          let rises : low ≤ found.end = omega (arith, met.starts, met.ends) in
          let inside : inside? lease pool ≡ true = inside_of lease pool (omega (arith, a.begins, met.starts), omega (arith, met.ends)) in
          record {
            leases = a.leases + 1;
            least = found.end;
            size = a.size;
            place = one_further (length s) n p.at a.leases form a.place;
            above = omega arith;
            under = e;
            begins = omega (arith, a.begins, rises);
            between = λ q l (b : q.network < found.end). absurd (omega arith);
            passed = λ j (b : j < k) c f (l : found.end ≤ network_in (drop (p.at + lease_size_in form) s)).
                inside-not (prefix_in (drop (p.at + lease_size_in form) s)) (nth_pool s j) (λ w. omega (arith, w.1, pools-apart j k b lt, a.begins, rises, size-positive (prefix_in (drop (p.at + lease_size_in form) s)).length));
            same = one-lease a.least p.expired p.at a.leases a.place a.same (few-before (length s) n p.at a.leases form a.size a.place room) room bytes found met (omega (arith, a.above)) (in-pool lease k lt inside);
          }

      -- What is here, if anything, does not lie in the pool.
      pub along-stop : (p.at < length s → and (fit_tests form x.last front) ≡ true → a.least ≤ network_in front → inside? (prefix_in front) pool ≡ false) → Reached form x s n time (k + 1) p
      along-stop out = record {
        leases = a.leases;
        low = a.least;
        size = a.size;
        place = a.place;
        below = λ (h : k + 1 < n). omega (arith, a.above, a.under, pools-apart k (k + 1) (omega arith) h);
        passed = λ j (h : j < k + 1) c f l.
            ⊎_elim
            (λ (b : ltb j k ≡ true). a.passed j (ltb-true j k b) c f l)
            (λ (b : ltb j k ≡ false). let e : j ≡ k = omega (arith, ltb-false j k b) in ap (λ (m : ℕ). inside? (prefix_in front) (nth_pool s m)) e ∙ out c f l)
            (bool_cases (ltb j k));
        same = a.same;
      }

      -- The ways in which it does not.
      pub stop-end : length s ≤ p.at → Reached form x s n time (k + 1) p
      stop-end e = along-stop (λ c. absurd (omega arith))

      pub stop-unfit : (Fits form x.last front → ⊥) → Reached form x s n time (k + 1) p
      stop-unfit h = along-stop (λ c f l. absurd (h (fits-to form x.last front f)))

      module _ (found : Fit) (met : Met form x.last front found) where
        pub stop-low : found.network < low → Reached form x s n time (k + 1) p
        stop-low h = along-stop (λ c f l. a.between (prefix_in front) l (omega (arith, met.starts)))

        pub stop-high : end pool < found.end → Reached form x s n time (k + 1) p
        stop-high h = along-stop (λ c f l. inside-not (prefix_in front) pool (λ w. omega (arith, w.1, met.ends)))
