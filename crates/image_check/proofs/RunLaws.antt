-- Records read one after another: where each of them stands, and where they end.
-- Assumes nothing.
use Prim.Native.Nat.{ℕ, zero, suc, ◌+◌, ◌-◌, ◌*◌, ◌≤◌, ◌<◌}
use mathlib.Core.Path.{◌≡◌, refl, sym, ap, ◌∙◌}
use mathlib.Core.Bool.{false}
use mathlib.Core.List.{List, ◌∷◌}
use mathlib.Core.Option.{Option, none, some}
use native.Mathlib.Nat.{mul-zero, mul-suc}
use native.Mathlib.Omega.{arith}
use lib.ListN.{length, take, drop, get_or, length-drop}
use lib.Seq.{drop-drop, take_all}
use borrow.Author.Tests.{not-true}
use Rattle.lists.specs.Lists.{All, and}
use Rattle.lists.proofs.Tests.{and-list-to}
use Rattle.table.specs.declared.Pool.{Pool}
use Rattle.table.specs.declared.Lease.{Lease}
use Rattle.table.specs.Table.{pool_slots, unused?, empty?}
use Rattle.image.specs.declared.Form.{Form}
use Rattle.image.specs.Fields.{Run, on_item, records}
use Rattle.image.specs.Image.{pool_size, lease_size_in}
use Rattle.image.specs.Reading.{pool_in, pool_tests, pool_at, lease_fields_in, lease_tests_in, lease_at_in, pools_at}
use Rattle.image.proofs.ImageLaws.{some_same, pool-long, lease-long-in}

-- A part from a place to the end is the rest.
pub part-rest : (s : List ℕ) (at : ℕ) → take (length s - at) (drop at s) ≡ drop at s
part-rest s at = take_all (length s - at) (drop at s) (omega (arith, length-drop at s))

-- Records of one size that were read from the front of some bytes, each by `into`; P holds of each.
pub record Taken {A : Type 0} (size : ℕ) (into : List ℕ → A) (P : A → Type 0) (limit : ℕ) (s : List ℕ) (r : Run A) : Type 0 where
  pub rest : r.rest ≡ drop (size * length r.items) s
  pub inside : size * length r.items ≤ length s
  pub few : length r.items ≤ limit
  pub each : All P r.items
  pub at : (k : ℕ) (d : A) → k < length r.items → get_or r.items k d ≡ into (drop (size * k) s)

module _ {A : Type 0} (read : List ℕ → Option A) (size : ℕ) (into : List ℕ → A) (P : A → Type 0)
    (known : (b : List ℕ) (x : A) → read b ≡ some x → (size ≤ length b) × (x ≡ into b) × P x) where
  front : (s : List ℕ) → s ≡ drop (size * 0) s
  front s = ap (λ (n : ℕ). drop n s) (sym (mul-zero size))

  taken : (limit : ℕ) (s : List ℕ) → Taken size into P limit s (records read size limit s)
  unfolding records
  taken zero s = record { rest = front s; inside = omega (arith, mul-zero size); few = omega arith; each = tt; at = λ k d (h : k < 0). absurd (omega arith) }
  taken (suc limit) s = cases (taken limit (drop size s)) (read s) refl
    where
      cases : Taken size into P limit (drop size s) (records read size limit (drop size s)) → (o : Option A) → read s ≡ o
          → Taken size into P (suc limit) s (on_item o s (records read size limit (drop size s)))
      cases later none e = record { rest = front s; inside = omega (arith, mul-zero size); few = omega arith; each = tt; at = λ k d (h : k < 0). absurd (omega arith) }
      cases later (some x) e =
          let w = known s x e in
          let r : Run A = records read size limit (drop size s) in
          let more : size * suc (length r.items) ≡ size + size * length r.items = mul-suc size (length r.items) ∙ omega arith in
          record {
            rest = later.rest ∙ drop-drop (size * length r.items) size s ∙ ap (λ (n : ℕ). drop n s) (sym more);
            inside = omega (arith, more, later.inside, length-drop size s, w.0);
            few = omega (arith, later.few);
            each = (w.2, later.each);
            at = place r.items w.1 later.at;
          }
        where
          place : {x : A} (xs : List A) → x ≡ into s → ((k : ℕ) (d : A) → k < length xs → get_or xs k d ≡ into (drop (size * k) (drop size s)))
              → (k : ℕ) (d : A) → k < length (x ∷ xs) → get_or (x ∷ xs) k d ≡ into (drop (size * k) s)
          place xs same f zero d h = same ∙ ap into (front s)
          place xs same f (suc k) d h =
              let more : size + size * k ≡ size * suc k = sym (mul-suc size k ∙ omega arith) in
              f k d (omega arith) ∙ ap into (drop-drop (size * k) size s ∙ ap (λ (n : ℕ). drop n s) more)

pub pool-known : (b : List ℕ) (p : Pool) → pool_at b ≡ some p → (pool_size ≤ length b) × (p ≡ pool_in b) × (unused? p ≡ false)
unfolding pool_at
pool-known b p e =
    let q = some_same (and (pool_tests b)) (pool_in b) p e in
    let t = and-list-to (pool_tests b) q.0 in
    (pool-long b p e, sym q.1, ap unused? (sym q.1) ∙ not-true (unused? (pool_in b)) t.1.1.1.0)

pub pools-taken : (s : List ℕ) → Taken pool_size pool_in (λ p. unused? p ≡ false) pool_slots s (pools_at s)
pools-taken s = taken pool_at pool_size pool_in (λ p. unused? p ≡ false) pool-known pool_slots s

pub lease-known : (form : Form) (b : List ℕ) (x : Lease) → lease_at_in form b ≡ some x → (lease_size_in form ≤ length b) × (x ≡ lease_fields_in form b) × (empty? x ≡ false)
unfolding lease_at_in
lease-known form b x e =
    let q = some_same (and (lease_tests_in form b)) (lease_fields_in form b) x e in
    let t = and-list-to (lease_tests_in form b) q.0 in
    (lease-long-in form b x e, sym q.1, ap empty? (sym q.1) ∙ not-true (empty? (lease_fields_in form b)) t.1.1.1.1.1.1.1.0)

pub leases-taken : (form : Form) (limit : ℕ) (s : List ℕ)
    → Taken (lease_size_in form) (lease_fields_in form) (λ x. empty? x ≡ false) limit s (records (lease_at_in form) (lease_size_in form) limit s)
leases-taken form limit s = taken (lease_at_in form) (lease_size_in form) (lease_fields_in form) (λ x. empty? x ≡ false) (lease-known form) limit s
