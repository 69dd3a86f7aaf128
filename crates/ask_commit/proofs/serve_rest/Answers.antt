-- `serve_rest` meets its contract: each request has a place, or no slot is empty, or the rest is served on the gaps of the ground.
use Prim.Native.Nat.{ℕ}
use mathlib.Core.Path.{◌≡◌, sym, ◌∙◌}
use mathlib.Core.Bool.{true}
use mathlib.Core.List.{List}
use native.Mathlib.Omega.{arith}
use Rattle.table.specs.Table.{present}
use Rattle.gap_list.specs.declared.Ends.{Ends}
use Rattle.image_check.specs.declared.ImageSummary.{ImageSummary}
use Rattle.ledger.specs.Ledger.{narrowed}
use Rattle.call_spec.specs.ImageCalls.{Lent, table_in}
use Rattle.call_rows.specs.Admission.{Admitted}
use Rattle.ask_commit.specs.InnerRest.{AdmittedImage}
use Rattle.ask_commit.proofs.AdmittedLaws.{fewer, default-long}
use Rattle.ask_commit.proofs.RestGround.{pools-fit, leases-fit, pools-end, gaps-few, rest-ready, rest-given, rest-refused}
use Rattle.ask_commit.proofs.serve_rest.Goals as goal
use Rattle.ask_commit.proofs.serve_rest.Goals.{After-gaps_in-n}

-- The gaps in their buffer.
abbrev gaps-of : After-gaps_in-n → List Ends
gaps-of c = c.gaps_in-n.new.gaps

-- The image of a call that is admitted.
abbrev admitted : (h : Lent) (image : List ℕ) (now client : ℕ) (summary : ImageSummary) → h.image ≡ image → Admitted true h now client summary → AdmittedImage image now client summary
admitted h image now client summary e o = record { lent = h; same = e; admitted = o }

pub returns-then-again-ask_lengths : goal.returns-then-again-ask_lengths
returns-then-again-ask_lengths c =
    let a = c.args in
    let pre = c.requires in record {
      bounds = (omega arith, omega arith, sym pre.6);
      equation = λ h call us rs e o k asked long.
          rest-given a.image.now a.asker.time a.asker.client a.site.summary (admitted h a.image.now a.asker.time a.asker.client a.site.summary e o) (narrowed (table_in h) call) a.asker.name us rs a.ask_lengths.now a.places.now a.networks.now a.lengths.now asked pre.2 pre.4 pre.5 pre.6
          (sym pre.3 ∙ c.if-again-ask_lengths.true);
    }

pub overflow_sub-present : goal.overflow_sub-present
overflow_sub-present c = fewer _ _ _ _ c.requires.0

pub returns-then-present-ge-LEASES : goal.returns-then-present-ge-LEASES
returns-then-present-ge-LEASES c =
    let a = c.args in
    let pre = c.requires in record {
      bounds = (omega arith, omega arith, sym pre.6);
      equation = λ h call us rs e o k asked long.
          rest-refused a.image.now a.asker.time a.asker.client a.site.summary (admitted h a.image.now a.asker.time a.asker.client a.site.summary e o) (narrowed (table_in h) call) a.asker.name us rs a.ask_lengths.now a.places.now a.networks.now a.lengths.now asked pre.2 pre.4 pre.5 pre.6 c.if-present-ge-LEASES.true;
    }

-- Where the leases of the ground begin is within the image.
pub overflow_mul-span : goal.overflow_mul-span
overflow_mul-span c = let o = c.requires.0.admitted in omega (arith, o.few-pools)

pub overflow_add-span : goal.overflow_add-span
overflow_add-span c = let o = c.requires.0.admitted in omega (arith, o.few-pools)

pub overflow_mul-span-2 : goal.overflow_mul-span-2
overflow_mul-span-2 c =
    let pre = c.requires in
    let o = pre.0.admitted in
    omega (arith, pre.1.1, o.few-leases)

pub overflow_add-span-2 : goal.overflow_add-span-2
overflow_add-span-2 c =
    let pre = c.requires in
    let o = pre.0.admitted in
    omega (arith, pre.1.1, o.few-pools, o.few-leases)

pub gaps_in-n-requires : goal.gaps_in-n-requires
gaps_in-n-requires c =
    let q = c.requires.0 in
    let w = c.requires.1 in
    let o = q.admitted in
    let g = c.args.site.area in (
      pools-fit _ _ _ _ q g w.0 w.1,
      leases-fit _ _ _ _ q g w.0 w.1,
      omega (arith, w.0, w.1, o.few-pools, o.few-leases),
      pools-end _ _ _ _ q g w.0 w.1,
    )

pub serve-requires : goal.serve-requires
serve-requires c =
    let pre = c.requires in
    let w = pre.1 in
    let o = pre.0.admitted in
    let few = gaps-few _ _ _ _ pre.0 c.args.site.area w.0 w.1 (gaps-of (goal.at.serve-requires c).After-gaps_in-n) c.gaps_in-n.result c.gaps_in-n.ensures.result_after
    (omega (arith, w.0, w.1, o.few-pools, o.few-leases, c.gaps_in-n.ensures.upper_bound, c.gaps_in-n.auto.gaps)) in
    (pre.2, omega (arith, few, c.gaps_in-n.auto.gaps), default-long _ _ _ _ pre.0, pre.4, pre.5)

pub returns : goal.returns
returns c =
    let a = c.args in
    let r = c.serve.ensures in record {
      bounds = (r.upper_bound, r.upper_bound_2, r.value);
      equation = λ h call us rs e o k asked long.
          r.granted (table_in h) call a.asker.time a.asker.client a.asker.name (present a.asker.time (table_in h).leases) us rs
          (rest-ready a.image.now a.asker.time a.asker.client a.site.summary (admitted h a.image.now a.asker.time a.asker.client a.site.summary e o) a.site.area k.few-pools k.few-leases (gaps-of (goal.at.returns c).After-gaps_in-n) c.gaps_in-n.result c.gaps_in-n.ensures.result_after call k rs a.ask_lengths.now asked long);
    }
