-- The requests served one after the other: the columns hold the gaps after the ledger's leases, and what it offers the rest.
-- Assumes nothing.
use Prim.Native.Nat.{ℕ, zero, suc, ◌+◌, ◌≤◌, ◌<◌}
use mathlib.Core.Path.{◌≡◌, refl, sym, ap, ap₂, subst, ◌∙◌}
use mathlib.Core.Logic.{⊎_elim}
use mathlib.Core.Bool.{true, false, cond}
use mathlib.Core.List.{List, [], ◌∷◌, ◌++◌, map, map-append}
use mathlib.Core.Option.{Option, none, some}
use native.Mathlib.Omega.{arith}
use native.Mathlib.Numerals.{add-one}
use lib.Dec.{eqb}
use lib.ListN.{length, take, get_or, length-map, get_or-map}
use lib.Seq.{take-suc, take_all, length-take-le}
use borrow.Author.Tests.{eqb-true, eqb-false}
use Rattle.lists.specs.Lists.{All}
use Rattle.lists.proofs.Tests.{bool_cases, cond-true, cond-false}
use Rattle.lists.proofs.IndexLaws.{all-at}
use Rattle.prefix.specs.Prefixes.{longest}
use Rattle.gap_list.specs.declared.Ends.{Ends}
use Rattle.gap_list.specs.Gaps.{gaps_of, solid}
use Rattle.gap_list.proofs.SolidLaws.{gaps-solid}
use Rattle.names.specs.declared.Name.{Name}
use Rattle.table.specs.declared.{Lease.Lease, LeaseTable.LeaseTable}
use Rattle.table.specs.Table.{lease_slots, no_lease, prefix_of, pools_of}
use Rattle.table.proofs.TableLaws.{Fine, sound-fine, sound-fewer}
use Rattle.option.specs.Contents.{Request}
use Rattle.option_scan.specs.Scanned.{flag_of}
use Rattle.ledger.specs.Ledger.{Call, narrowed, usable_leases, asked_length, hold_time, offer, add, add_all, rest_of}
use Rattle.ledger.proofs.AgainLaws.{rest_all}
use Rattle.ledger.proofs.GroundLaws.{area, narrowed-default}
use Rattle.ledger.proofs.OfferLaws as offer-laws
use Rattle.ask_again.specs.Places.{no_place, lease_at, given_in, flags_of}
use Rattle.ask_serve.specs.declared.Progress.{Progress}
use Rattle.ask_serve.specs.declared.Start.{Start}
use Rattle.ask_serve.specs.Granting.{offers_in, rest_offers, Serving, Granted}
use Rattle.ask_serve.specs.InnerServing.{Columns, columns, OffersHeld, Asked, Served}
use Rattle.ask_serve.proofs.GroundLaws.{ground-ascend, ground-parted, ground-ordered, ground-leases}
use Rattle.ask_serve.proofs.RestLaws.{rest-again, rest-next, rest-added}

-- A length that is asked for is not 0, once the default stands for 0.
pub asked-long : (d l : ℕ) → 1 ≤ d → 1 ≤ cond (eqb l 0) d l
asked-long d l h =
    ⊎_elim
    (λ (e : eqb l 0 ≡ true). rw e h)
    (λ (e : eqb l 0 ≡ false). rw e (omega (arith, eqb-false l 0 e)))
    (bool_cases (eqb l 0))

-- No request.
abbrev nothing : Request
nothing = record { h = false; i = false; length = 0 }

all_take : (j : ℕ) (l : List Request) → All (λ r. r.length ≤ longest) l → All (λ r. r.length ≤ longest) (take j l)
all_take zero l b = tt
all_take (suc j) [] b = tt
all_take (suc j) (x ∷ l) b = (b.0, all_take j l b.1)

module _ (u : LeaseTable) (call : Call) (time client : ℕ) (name : Name) (xs us : List Lease) (places : List ℕ) (rs : List Request) where
  -- The table with the ground that they are served on.
  abbrev t : LeaseTable
  t = narrowed u call

  -- What the first j requests get again and are offered, and the columns after them.
  abbrev given : ℕ → List (Option Lease)
  given j = given_in us (take j places)

  abbrev offered : ℕ → List (Option Lease)
  offered j = rest_offers t time client name xs (given j) (take j rs)

  abbrev pub After : ℕ → Columns → Progress → Type 0
  After j c p = OffersHeld t time client name (add_all (offered j) xs) (flags_of (take j rs)) (offered j) c p

  module _ (es : List Ends) (start : Start) (ask-lengths : List ℕ) (ready : Serving u call time client xs rs es start ask-lengths) (same : length places ≡ length ask-lengths) where
    fine_before : Fine (pools_of u) time 0 xs
    fine_before = subst (Fine (pools_of u) time 0) (sym ready.present_leases) (sound-fine u ready.sound_table time)

    pub serve-start : (networks lengths : List ℕ) → After 0 (columns es networks lengths) (record { gaps = start.gaps; granted = 0; left = start.slots })
    unfolding rest_offers add_all
    serve-start networks lengths = record {
      gaps =
          ap solid ready.gaps
          ∙ gaps-solid (pools_of t) (map prefix_of (usable_leases u call xs))
          ∙ ap (gaps_of (pools_of t)) (ground-leases u call ready.sound_table time xs fine_before);
      left = ready.empty;
      held = refl;
    }

    pub requests-many : length rs ≡ length ask-lengths
    requests-many = sym (ap length ready.asked_lengths ∙ length-map rs (λ (r : Request). r.length))

    given-many : (j : ℕ) → j ≤ length rs → length (given j) ≡ length (take j rs)
    given-many j h = length-map (take j places) (lease_at us) ∙ length-take-le j places (omega (arith, requests-many)) ∙ sym (length-take-le j rs h)

    fine-so-far : (j : ℕ) → j ≤ length rs → Fine (pools_of u) time 0 (add_all (offered j) xs)
    fine-so-far j h =
        let g = area u call ready.sound_table in
        subst (Fine (pools_of u) time 0) (sym (rest-added t time client name (given j) (take j rs) xs xs (given-many j h)))
        (offer-laws.offers-inv t time client name g.good (pools_of u) g ready.named (rest_of (given j) (take j rs)) xs
        (rest_all (λ r. r.length ≤ longest) (given j) (take j rs) (all_take j rs ready.long))
        (record { fine = fine_before; fit = subst (λ (l : List Lease). length l ≤ lease_slots) (sym ready.present_leases) (sound-fewer u ready.sound_table time) })).fine

    asked : (j : ℕ) → j < length rs
        → Asked t (add_all (offered j) xs) (get_or rs j nothing) (cond (eqb (get_or ask-lengths j 0) 0) start.default_length (get_or ask-lengths j 0))
    asked j lt =
        let r : Request = get_or rs j nothing in
        let same_length : get_or ask-lengths j 0 ≡ r.length = ap (λ (l : List ℕ). get_or l j 0) ready.asked_lengths ∙ get_or-map (λ (q : Request). q.length) rs j nothing in
        let comes : asked_length t r ≡ cond (eqb (get_or ask-lengths j 0) 0) start.default_length (get_or ask-lengths j 0) =
        ap₂ (λ (d l : ℕ). cond (eqb l 0) d l) (narrowed-default u call ∙ sym ready.by_default) (sym same_length) in
        let so_far = fine-so-far j (omega arith) in
        record {
          ordered = ground-ordered u call ready.sound_table time (add_all (offered j) xs) so_far;
          ascend = ground-ascend u call ready.sound_table time (add_all (offered j) xs) so_far;
          parted = ground-parted u call ready.sound_table time (add_all (offered j) xs) so_far;
          asked = comes;
          block = subst (λ (l : ℕ). (1 ≤ l) × (l ≤ longest)) comes
              (offer-laws.length-bounds t (area u call ready.sound_table).default r (all-at (λ q. q.length ≤ longest) rs ready.long j nothing lt));
        }

    -- One more request.
    module _ (j : ℕ) (c d : Columns) (p q : Progress) (low : j < length ask-lengths) (holds : After j c p)
        (served : Served (get_or places j 0) (cond (eqb (get_or ask-lengths j 0) 0) start.default_length (get_or ask-lengths j 0)) j c p d q) where
      lt : j < length rs
      lt = omega (arith, requests-many)

      abbrev r : Request
      r = get_or rs j nothing

      flags-many : length (flags_of (take j rs)) ≡ j
      flags-many = length-map (take j rs) (λ (r : Request). flag_of r.h) ∙ length-take-le j rs (omega (arith, lt))

      more-requests : take (j + 1) rs ≡ take j rs ++ (r ∷ [])
      more-requests = ap (λ (m : ℕ). take m rs) (add-one j) ∙ take-suc rs j nothing lt

      more-flags : flags_of (take (j + 1) rs) ≡ flags_of (take j rs) ++ (flag_of r.h ∷ [])
      more-flags = ap flags_of more-requests ∙ map-append (λ (r : Request). flag_of r.h) (take j rs) (r ∷ [])

      more_given : given (j + 1) ≡ given j ++ (lease_at us (get_or places j 0) ∷ [])
      more_given =
          ap given (add-one j) ∙ ap (given_in us) (take-suc places j 0 (omega (arith, lt, requests-many))) ∙ map-append (lease_at us) (take j places) (get_or places j 0 ∷ [])

      next : (o : Option Lease) → offered (j + 1) ≡ offered j ++ (o ∷ []) → OffersHeld t time client name (add o (add_all (offered j) xs)) (flags_of (take j rs) ++ (flag_of r.h ∷ [])) (offered j ++ (o ∷ [])) d q
          → After (j + 1) d q
      next o e k =
          subst (λ (fs : List ℕ). OffersHeld t time client name (add_all (offered (j + 1)) xs) fs (offered (j + 1)) d q) (sym more-flags)
          (subst (λ (os : List (Option Lease)). OffersHeld t time client name (add_all os xs) (flags_of (take j rs) ++ (flag_of r.h ∷ [])) os d q) (sym e)
          (subst (λ (ls : List Lease). OffersHeld t time client name ls (flags_of (take j rs) ++ (flag_of r.h ∷ [])) (offered j ++ (o ∷ [])) d q) (sym (offer-laws.add_all-snoc (offered j) o xs)) k))

      more-offered : (g : Option Lease) → lease_at us (get_or places j 0) ≡ g → offered (j + 1) ≡ rest_offers t time client name xs (given j ++ (g ∷ [])) (take j rs ++ (r ∷ []))
      more-offered g e = ap₂ (rest_offers t time client name xs) (more_given ∙ ap (λ (o : Option Lease). given j ++ (o ∷ [])) e) more-requests

      pub serve-turn : After (j + 1) d q
      serve-turn =
          let place : ℕ = get_or places j 0 in
          let many = given-many j (omega (arith, lt)) in
          ⊎_elim
          (λ (b : eqb place no_place ≡ true).
          next (offer t time client name (add_all (offered j) xs) r)
          (more-offered none (cond-true (eqb place no_place) none (some (get_or us place no_lease)) b) ∙ rest-next t time client name (given j) (take j rs) xs r many)
          (served.offered (eqb-true place no_place b) t time client name (add_all (offered j) xs) (flags_of (take j rs)) (offered j) r flags-many (asked j lt) holds))
          (λ (b : eqb place no_place ≡ false).
          next none
          (more-offered (some (get_or us place no_lease)) (cond-false (eqb place no_place) none (some (get_or us place no_lease)) b) ∙ rest-again t time client name (given j) (take j rs) xs (get_or us place no_lease) r many)
          (served.passed (eqb-false place no_place b) t time client name (add_all (offered j) xs) (flags_of (take j rs)) (offered j) (flag_of r.h) flags-many holds))
          (bool_cases (eqb place no_place))

    pub serve-end : (j : ℕ) (c : Columns) (p : Progress) → length ask-lengths ≤ j → After j c p → Granted (narrowed u call) time client name xs (given_in us places) rs c.networks c.lengths
    serve-end j c p past holds =
        let all : take j rs ≡ rs = take_all j rs (omega (arith, requests-many)) in
        let every : take j places ≡ places = take_all j places (omega arith) in
        record {
          held =
              sym (ap (λ (qs : List Request). offers_in client (time + hold_time) name c.networks c.lengths (flags_of qs)) all)
              ∙ holds.held
              ∙ ap₂ (λ (ps : List ℕ) (qs : List Request). rest_offers t time client name xs (given_in us ps) qs) every all;
        }
