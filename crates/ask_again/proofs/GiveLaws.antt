-- Laws of a lease given to the first request that waits for it, and of the places of leases in a column.
-- Assumes nothing.
use Prim.Native.Nat.{ℕ, zero, suc, ◌≤◌, ◌<◌}
use mathlib.Core.Path.{◌≡◌, refl, sym, ap, ap₂, subst, ◌∙◌}
use mathlib.Core.Logic.{⊎_elim}
use mathlib.Core.Bool.{Bool, true, false, cond, ◌&&◌, beq, true≢false}
use mathlib.Core.List.{List, [], ◌∷◌, map}
use mathlib.Core.Option.{Option, none, some}
use native.Mathlib.Omega.{arith}
use lib.Dec.{eqb}
use lib.ListN.{length, get_or, set, take, length-map, get_or-map}
use lib.Seq.{get_or-take, take-set-lt, length-take-le}
use borrow.Author.Tests.{ne_eqb, eqb-true}
use Rattle.lists.specs.Lists.{All, and}
use Rattle.lists.proofs.Tests.{bool_cases, cond-false, and-to}
use Rattle.table.specs.declared.{Lease.Lease, LeaseTable.LeaseTable}
use Rattle.table.specs.Table.{no_lease}
use Rattle.option.specs.Contents.{Request}
use Rattle.option_scan.specs.Scanned.{flag_of}
use Rattle.ledger.specs.Ledger.{asked_length, held_for?}
use Rattle.ledger.specs.InnerAgain.{give}
use Rattle.ledger.proofs.PassLaws.{give-past, give-here, give-later}
use Rattle.ask_again.specs.Places.{no_place, Within, lease_at, given_in, Asks}
use Rattle.ask_again.specs.InnerGiving.{HeldAt, Given}
use Rattle.ask_again.proofs.Counting.{others-stored}

-- No request.
abbrev nothing : Request
nothing = record { h = false; i = false; length = 0 }

-- THE FIRST THAT WAITS

module _ (t : LeaseTable) (client : ℕ) (x : Lease) where
  -- Whether a request that has got this waits for the lease.
  abbrev waits? : Request → Option Lease → Bool
  waits? r (some y) = false
  waits? r none = held_for? t client r x

  passed : (r : Request) (rs : List Request) (g : Option Lease) (gs : List (Option Lease)) → waits? r g ≡ false → give t client x (r ∷ rs) (g ∷ gs) ≡ g ∷ give t client x rs gs
  passed r rs (some y) gs e = give-past t client x r rs y gs
  passed r rs none gs e = give-later t client x r rs gs e

  given-here : (r : Request) (rs : List Request) (g : Option Lease) (gs : List (Option Lease)) → waits? r g ≡ true → give t client x (r ∷ rs) (g ∷ gs) ≡ some x ∷ gs
  given-here r rs (some y) gs e = absurd (true≢false (sym e))
  given-here r rs none gs e = give-here t client x r rs gs e

  give_at : (rs : List Request) (gs : List (Option Lease)) (j : ℕ) → length gs ≡ length rs → j < length rs → ((k : ℕ) → k < j → waits? (get_or rs k nothing) (get_or gs k none) ≡ false)
      → waits? (get_or rs j nothing) (get_or gs j none) ≡ true → give t client x rs gs ≡ set gs j (some x)
  give_at [] gs j e l not_yet here = absurd (omega arith)
  give_at (r ∷ rs) [] j e l not_yet here = absurd (omega arith)
  give_at (r ∷ rs) (g ∷ gs) zero e l not_yet here = given-here r rs g gs here
  give_at (r ∷ rs) (g ∷ gs) (suc j) e l not_yet here =
      passed r rs g gs (not_yet 0 (omega arith))
      ∙ ap (λ (os : List (Option Lease)). g ∷ os) (give_at rs gs j (omega arith) (omega arith) (λ k h. not_yet (suc k) (omega arith)) here)

  give-nowhere : (rs : List Request) (gs : List (Option Lease)) → length gs ≡ length rs → ((k : ℕ) → k < length rs → waits? (get_or rs k nothing) (get_or gs k none) ≡ false) → give t client x rs gs ≡ gs
  unfolding give
  give-nowhere [] gs e not_yet = refl
  give-nowhere (r ∷ rs) [] e not_yet = absurd (omega arith)
  give-nowhere (r ∷ rs) (g ∷ gs) e not_yet =
      passed r rs g gs (not_yet 0 (omega arith)) ∙ ap (λ (os : List (Option Lease)). g ∷ os) (give-nowhere rs gs (omega arith) (λ k h. not_yet (suc k) (omega arith)))

-- IN COLUMNS

flag-back : (b : Bool) → eqb (flag_of b) 1 ≡ b
flag-back true = refl
flag-back false = refl

pub get_d-image : {A B : Type 0} (f : A → B) (xs : List A) (i : ℕ) (d : A) (e : B) → i < length xs → get_or (map f xs) i e ≡ f (get_or xs i d)
get_d-image f [] i d e h = absurd (omega arith)
get_d-image f (x ∷ xs) zero d e h = refl
get_d-image f (x ∷ xs) (suc i) d e h = get_d-image f xs i d e (omega arith)

map-set : {A B : Type 0} (f : A → B) (xs : List A) (i : ℕ) (x : A) → map f (set xs i x) ≡ set (map f xs) i (f x)
map-set f [] i x = refl
map-set f (y ∷ xs) zero x = refl
map-set f (y ∷ xs) (suc i) x = ap (λ l. f y ∷ l) (map-set f xs i x)

all_set : (P : ℕ → Type 0) (xs : List ℕ) (i x : ℕ) → P x → All P xs → All P (set xs i x)
all_set P [] i x p a = tt
all_set P (y ∷ xs) zero x p a = (p, a.1)
all_set P (y ∷ xs) (suc i) x p a = (a.0, all_set P xs i x p a.1)

-- Whether the k-th request waits for a lease with this length and h.
abbrev pub waits_in : List ℕ → List ℕ → ℕ → ℕ → Bool → List ℕ → ℕ → Bool
waits_in asked_lengths asked_h default_length len h places k =
    and (eqb (get_or places k 0) no_place ∷ eqb (cond (eqb (get_or asked_lengths k 0) 0) default_length (get_or asked_lengths k 0)) len ∷ beq (eqb (get_or asked_h k 0) 1) h ∷ [])

module _ (asked_lengths asked_h : List ℕ) (default_length place len : ℕ) (h : Bool) (before : List ℕ) (room : length asked_lengths ≤ length before) (some-place : place ≡ no_place → ⊥) where
  abbrev n : ℕ
  n = length asked_lengths

  abbrev Waits : ℕ → Bool
  Waits k = waits_in asked_lengths asked_h default_length len h before k

  module _ (t : LeaseTable) (client : ℕ) (us : List Lease) (rs : List Request) (asks : Asks t rs default_length asked_lengths asked_h) (held : HeldAt client us place len h) where
    abbrev gs : List (Option Lease)
    gs = given_in us (take n before)

    requests-many : length rs ≡ n
    requests-many = sym (ap length asks.lengths ∙ length-map rs (λ (r : Request). r.length))

    gs-many : length gs ≡ length rs
    gs-many = length-map (take n before) (lease_at us) ∙ omega (arith, length-take-le n before room, requests-many)

    waits-same : (k : ℕ) → k < n → waits? t client (get_or us place no_lease) (get_or rs k nothing) (get_or gs k none) ≡ Waits k
    waits-same k l =
        let p : ℕ = get_or before k 0 in
        let r : Request = get_or rs k nothing in
        let x : Lease = get_or us place no_lease in
        let there : get_or gs k none ≡ lease_at us p = get_d-image (lease_at us) (take n before) k 0 none (omega (arith, length-take-le n before room)) ∙ ap (lease_at us) (get_or-take n before k 0 l) in
        let asked : asked_length t r ≡ cond (eqb (get_or asked_lengths k 0) 0) default_length (get_or asked_lengths k 0) =
        ap₂ (λ (d m : ℕ). cond (eqb m 0) d m) (sym asks.by_default) (sym (ap (λ (l : List ℕ). get_or l k 0) asks.lengths ∙ get_or-map (λ (q : Request). q.length) rs k nothing)) in
        let flag : r.h ≡ eqb (get_or asked_h k 0) 1 = sym (ap (λ (l : List ℕ). eqb (get_or l k 0) 1) asks.flags ∙ ap (λ (f : ℕ). eqb f 1) (get_or-map (λ (q : Request). flag_of q.h) rs k nothing) ∙ flag-back r.h) in
        ap (waits? t client x r) there
        ∙ ⊎_elim
        (λ (e : eqb p no_place ≡ true). rw e (ap₂ (λ (b : Bool) (c : Bool). b && (c && (beq r.h x.h && true))) held.held (ap₂ eqb asked held.length) ∙ ap₂ (λ (b c : Bool). true && (eqb (cond (eqb (get_or asked_lengths k 0) 0) default_length (get_or asked_lengths k 0)) len && (beq b c && true))) flag held.h))
        (λ (e : eqb p no_place ≡ false). rw e)
        (bool_cases (eqb p no_place))

  -- GIVEN: to the request in place j, or to none.

  module _ (j : ℕ) (low : j < n) (past : (k : ℕ) → k < j → Waits k ≡ false) (here : Waits j ≡ true) where
    empty-here : get_or before j 0 ≡ no_place
    empty-here =
        eqb-true (get_or before j 0) no_place
        (and-to (eqb (get_or before j 0) no_place) (eqb (cond (eqb (get_or asked_lengths j 0) 0) default_length (get_or asked_lengths j 0)) len && (beq (eqb (get_or asked_h j 0) 1) h && true)) here).0

    pub given_to : Given asked_lengths asked_h default_length place len h before (set before j place) 1
    given_to = record {
      count = others-stored no_place before n j place low (omega arith) empty-here some-place;
      within = λ m inside all. subst (All (Within m)) (sym (take-set-lt n before j place low)) (all_set (Within m) (take n before) j place (λ some_one. inside) all);
      given = λ t client us rs asks held.
          ap (map (lease_at us)) (take-set-lt n before j place low)
          ∙ map-set (lease_at us) (take n before) j place
          ∙ ap (set (gs t client us rs asks held) j) (cond-false (eqb place no_place) none (some (get_or us place no_lease)) (ne_eqb place no_place some-place))
          ∙ sym (give_at t client (get_or us place no_lease) rs (gs t client us rs asks held) j (gs-many t client us rs asks held) (omega (arith, requests-many t client us rs asks held))
          (λ k l. waits-same t client us rs asks held k (omega arith) ∙ past k l) (waits-same t client us rs asks held j low ∙ here));
    }

  pub given-nowhere : (j : ℕ) → n ≤ j → ((k : ℕ) → k < j → Waits k ≡ false) → Given asked_lengths asked_h default_length place len h before before 0
  given-nowhere j all past = record {
    count = omega arith;
    within = λ m inside a. a;
    given = λ t client us rs asks held.
        sym (give-nowhere t client (get_or us place no_lease) rs (gs t client us rs asks held) (gs-many t client us rs asks held)
        (λ k l. let low : k < n = omega (arith, requests-many t client us rs asks held) in waits-same t client us rs asks held k low ∙ past k (omega arith)));
  }
