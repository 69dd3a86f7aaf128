-- One request served on the gaps in columns is what the ledger offers.
-- Assumes nothing.
use Prim.Native.Nat.{ℕ, ◌+◌, ◌-◌, ◌≤◌, ◌<◌}
use mathlib.Core.Path.{◌≡◌, refl, sym, ap, ap₂, subst, ◌∙◌}
use mathlib.Core.Logic.{by_cases}
use mathlib.Core.Bool.{Bool, true, false}
use mathlib.Core.List.{List, [], ◌∷◌, ◌++◌, map}
use mathlib.Core.Option.{Option, none, some}
use native.Mathlib.Decide.{dec_le}
use native.Mathlib.Omega.{arith}
use lib.Dec.{eqb}
use lib.ListN.{length, set, get_or, length-set}
use lib.Seq.{get_or-set_same, set-set}
use borrow.Author.Tests.{ne_eqb}
use Rattle.std.specs.Prelude.{Some, None}
use Rattle.std.specs.Prelude.{Option as Optional}
use Rattle.lists.proofs.Tests.{cond-false}
use Rattle.lists.proofs.SortingLaws.{insert_by-longer}
use Rattle.prefix.specs.declared.Prefix.{Prefix}
use Rattle.prefix.specs.Prefixes.{prefix}
use Rattle.free_space.specs.Grant.{lowest_part, grant}
use Rattle.free_space.proofs.ListTheorem.{granted-free}
use Rattle.free_space.proofs.WithinLaws.{grant-within}
use Rattle.gap_list.specs.declared.{Choice.Choice, Ends.Ends}
use Rattle.gap_list.specs.Gaps.{gaps_of, fit_in, without, LiesIn}
use Rattle.gap_list.specs.Columns.{held_in, Carved, fit_of, Fitted}
use Rattle.gap_list.proofs.FitLaws.{fit-grants}
use Rattle.gap_list.proofs.SplitLaws.{gaps-split}
use Rattle.gap_list.proofs.SolidLaws.{fit-solid, lies-solid}
use Rattle.names.specs.declared.Name.{Name}
use Rattle.table.specs.declared.Lease.{Lease}
use Rattle.table.specs.declared.LeaseTable.{LeaseTable}
use Rattle.table.specs.Table.{lease_slots, network_of, prefix_of, pools_of}
use Rattle.option.specs.Contents.{Request}
use Rattle.option_scan.specs.Scanned.{flag_of}
use Rattle.ledger.specs.Ledger.{asked_length, hold_time, offered, offer, add}
use Rattle.ledger.proofs.OfferLaws.{offer-room, offer-full}
use Rattle.ask_again.specs.Places.{no_place}
use Rattle.ask_again.proofs.Counting.{others_same, others-more}
use Rattle.ask_serve.specs.declared.Progress.{Progress}
use Rattle.ask_serve.specs.Granting.{granted_lease, offer_in, offers_in, leases_in}
use Rattle.ask_serve.specs.InnerServing.{Columns, columns, within, OffersHeld, Asked, Served}
use Rattle.ask_serve.proofs.GroundLaws.{within_more}
use Rattle.ask_serve.proofs.ColumnLaws.{offers-in-snoc, networks-behind, lengths-behind}

flag-back : (b : Bool) → eqb (flag_of b) 1 ≡ b
flag-back true = refl
flag-back false = refl

module _ (place l j : ℕ) (c : Columns) (p : Progress) (hn : j < length c.networks) (hl : j < length c.lengths) where
  -- NOTHING GRANTED: the length in its place is 0.

  abbrev cleared : Columns
  cleared = columns c.gaps c.networks (set c.lengths j 0)

  -- The request gets nothing, and the gaps are as before.
  left_out : (t : LeaseTable) (time client : ℕ) (name : Name) (ys : List Lease) (fs : List ℕ) (os : List (Option Lease)) (f : ℕ) → length fs ≡ j → OffersHeld t time client name ys fs os c p
      → OffersHeld t time client name ys (fs ++ (f ∷ [])) (os ++ (none ∷ [])) cleared p
  left_out t time client name ys fs os f e k = record {
    gaps = k.gaps;
    left = k.left;
    held =
        offers-in-snoc client (time + hold_time) name c.networks (set c.lengths j 0) fs f j e hn (omega (arith, length-set c.lengths j 0))
        ∙ ap₂ (λ (qs : List (Option Lease)) (m : ℕ). qs ++ (offer_in client (time + hold_time) name (get_or c.networks j 0) m f ∷ []))
        (lengths-behind client (time + hold_time) name c.networks c.lengths fs j 0 (omega arith) ∙ k.held) (get_or-set_same c.lengths j 0 0 hl);
  }

  nothing-granted : (place ≡ no_place
      → (t : LeaseTable) (time client : ℕ) (name : Name) (ys : List Lease) (fs : List ℕ) (os : List (Option Lease)) (r : Request) → Asked t ys r l → OffersHeld t time client name ys fs os c p → offer t time client name ys r ≡ none)
      → Served place l j c p cleared p
  nothing-granted none-offered = record {
    offered = λ e t time client name ys fs os r s a k.
        subst (λ (o : Option Lease). OffersHeld t time client name (add o ys) (fs ++ (flag_of r.h ∷ [])) (os ++ (o ∷ [])) cleared p) (sym (none-offered e t time client name ys fs os r a k))
        (left_out t time client name ys fs os (flag_of r.h) s k);
    passed = λ some-place. left_out;
    counted = λ long e. e ∙ sym (others_same 0 c.lengths j 0 hl refl);
    room = omega arith;
    few = omega arith;
    slots = omega arith;
  }

  -- The request gets a lease again.
  pub served-again : (place ≡ no_place → ⊥) → Served place l j c p cleared p
  served-again some-place = nothing-granted (λ e. absurd (some-place e))

  -- No slot is left.
  pub served-full : p.left ≡ 0 → Served place l j c p cleared p
  served-full e = nothing-granted (λ z t time client name ys fs os r a k. offer-full t time client name ys r (omega (arith, k.left)))

  module _ (r : Optional Choice) (fitted : Fitted (held_in c.gaps p.gaps) l r) where
    -- The fit is what the ledger grants.
    grant-is : (t : LeaseTable) (time client : ℕ) (name : Name) (ys : List Lease) (fs : List ℕ) (os : List (Option Lease)) (q : Request) → Asked t ys q l → OffersHeld t time client name ys fs os c p
        → grant (pools_of t) (map prefix_of ys) (asked_length t q) ≡ fit_of r l
    grant-is t time client name ys fs os q a k =
        ap (grant (pools_of t) (map prefix_of ys)) a.asked
        ∙ grant-within (pools_of t) (map prefix_of ys) a.ordered.good.lengths a.parted l
        ∙ sym (fit-grants (pools_of t) (within (pools_of t) (map prefix_of ys)) a.ordered l a.block)
        ∙ sym (fitted.best (omega (arith, a.block.1))
        ∙ ap (lowest_part l) (sym (fit-solid l none (held_in c.gaps p.gaps)) ∙ ap (fit_in l) k.gaps))

    -- Nothing fits.
    pub served-none : r ≡ None → Served place l j c p cleared p
    served-none e =
        nothing-granted (λ z t time client name ys fs os q a k.
        by_cases (dec_le lease_slots (length ys)) (λ full. offer-full t time client name ys q full)
        (λ room.
        offer-room t time client name ys q (omega arith)
        ∙ ap (offered time client name q.h) (grant-is t time client name ys fs os q a k ∙ ap (λ (o : Optional Choice). fit_of o l) e)))
    -- A REQUEST THAT IS GRANTED

  module _ (r : Choice) (fitted : Fitted (held_in c.gaps p.gaps) l (Some r)) where
    module _ (without_place : place ≡ no_place) (left : 0 < p.left) (es : List Ends) (n : ℕ) (kept : Carved p.gaps (without (prefix r.network l) r.index (held_in c.gaps p.gaps)) n es) where
      abbrev after : Columns
      after = columns es (set c.networks j r.network) (set (set c.lengths j 0) j l)

      abbrev on : Progress
      on = record { gaps = n; granted = p.granted + 1; left = p.left - 1 }

      -- The lease in its place.
      stored : (client expires : ℕ) (name : Name) (fs : List ℕ) (f : ℕ) → length fs ≡ j → 1 ≤ l
          → offers_in client expires name after.networks after.lengths (fs ++ (f ∷ [])) ≡ offers_in client expires name c.networks c.lengths fs ++ (some (granted_lease client expires name r.network l f) ∷ [])
      stored client expires name fs f s long =
          let ns : List ℕ = set c.networks j r.network in
          let there : offer_in client expires name (get_or ns j 0) (get_or (set c.lengths j l) j 0) f ≡ some (granted_lease client expires name r.network l f) =
          ap₂ (λ (m k : ℕ). offer_in client expires name m k f) (get_or-set_same c.networks j r.network 0 hn) (get_or-set_same c.lengths j l 0 hl)
          ∙ cond-false (eqb l 0) none (some (granted_lease client expires name r.network l f)) (ne_eqb l 0 (λ z. omega arith)) in
          ap (λ (ls : List ℕ). offers_in client expires name ns ls (fs ++ (f ∷ []))) (set-set c.lengths j 0 l)
          ∙ offers-in-snoc client expires name ns (set c.lengths j l) fs f j s (omega (arith, length-set c.networks j r.network)) (omega (arith, length-set c.lengths j l))
          ∙ ap₂ (λ (os : List (Option Lease)) (o : Option Lease). os ++ (o ∷ []))
          (networks-behind client expires name c.networks (set c.lengths j l) fs j r.network (omega arith) ∙ lengths-behind client expires name c.networks c.lengths fs j l (omega arith)) there

      holds_more : (t : LeaseTable) (time client : ℕ) (name : Name) (ys : List Lease) (fs : List ℕ) (os : List (Option Lease)) (q : Request) → length fs ≡ j → Asked t ys q l → OffersHeld t time client name ys fs os c p
          → OffersHeld t time client name (add (offered time client name q.h (some (prefix r.network l))) ys) (fs ++ (flag_of q.h ∷ [])) (os ++ (offered time client name q.h (some (prefix r.network l)) ∷ [])) after on
      holds_more t time client name ys fs os q s a k =
          let x : Lease = record { network = r.network; length = l; client = client; leased = false; h = q.h; d = false; expires = time + hold_time; name = name } in
          let own : List Prefix = within (pools_of t) (map prefix_of ys) in
          let granted : grant (pools_of t) (map prefix_of ys) (asked_length t q) ≡ some (prefix r.network l) =
          grant-is (Some r) fitted t time client name ys fs os q a k in
          let inside = (granted-free (pools_of t) a.ordered.good (map prefix_of ys) (asked_length t q) (prefix r.network l) granted).0.pooled in
          let there = lies-solid (prefix r.network l) r.index (held_in c.gaps p.gaps) fitted.place in
          let lies : LiesIn (prefix r.network l) there.index (gaps_of (pools_of t) own) = subst (LiesIn (prefix r.network l) there.index) k.gaps there.lies in
          record {
            gaps =
                kept.gaps
                ∙ there.split
                ∙ ap (without (prefix r.network l) there.index) k.gaps
                ∙ sym (gaps-split (prefix r.network l) (pools_of t) own a.ordered.pools_ascend a.ordered.leases_ascend there.index lies)
                ∙ ap (gaps_of (pools_of t)) (sym (within_more (pools_of t) x ys inside a.ascend));
            left = omega (arith, k.left, insert_by-longer network_of x ys);
            held =
                stored client (time + hold_time) name fs (flag_of q.h) s a.block.0
                ∙ ap₂ (λ (qs : List (Option Lease)) (b : Bool). qs ++ (some (record { network = r.network; length = l; client = client; leased = false; h = b; d = false; expires = time + hold_time; name = name }) ∷ []))
                k.held (flag-back q.h);
          }

      pub served-granted : Served place l j c p after on
      served-granted = record {
        offered = λ z t time client name ys fs os q s a k.
            subst (λ (o : Option Lease). OffersHeld t time client name (add o ys) (fs ++ (flag_of q.h ∷ [])) (os ++ (o ∷ [])) after on)
            (sym (offer-room t time client name ys q (omega (arith, k.left))
            ∙ ap (offered time client name q.h) (grant-is (Some r) fitted t time client name ys fs os q a k)))
            (holds_more t time client name ys fs os q s a k);
        passed = λ some-place. absurd (some-place without_place);
        counted = λ long e. omega (arith, e, ap (λ (ls : List ℕ). leases_in ls (j + 1)) (set-set c.lengths j 0 l), others-more 0 c.lengths j l hl (λ z. omega arith));
        room = omega (arith, kept.few);
        few = omega arith;
        slots = omega arith;
      }
