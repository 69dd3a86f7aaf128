-- `show_page` meets its contract: what was shown so far stands in the reply.
use Prim.Native.Nat.{◌+◌, ◌-◌, ◌*◌, ◌<◌}
use mathlib.Core.Path.{◌≡◌, refl, sym, ap, ◌∙◌}
use mathlib.Core.Logic.{⊎_elim}
use mathlib.Core.List.{List}
use lib.ListN.{length, get_or}
use Rattle.lists.specs.Put.{put}
use Rattle.table.specs.Table.{no_lease}
use Rattle.option_reply.proofs.ReplyLaws.{lease_bytes}
use native.Mathlib.Omega.{arith}
use Rattle.table.specs.declared.Lease.{Lease}
use Rattle.image_records.specs.Records.{Records}
use Rattle.image_records.proofs.RecordLaws.{lease-in-place}
use Rattle.call_list.specs.InnerPage.{shown?}
use Rattle.call_list.proofs.PageLaws.{showing-none, showing-skip, showing-more, page-full, page-last}
use Rattle.call_list.proofs.show_page.Goals as goal
use Rattle.call_list.proofs.show_page.Goals.{then-is_shown+else-count-eq-MOST_ENTRIES, else-is_shown}

pub loop-i-init : goal.loop-i-init
loop-i-init c = (omega arith, omega arith, refl, λ xs r e. showing-none _ _ xs _)

pub shape_of-reply-then-count-eq-MOST_ENTRIES : goal.shape_of-reply-then-count-eq-MOST_ENTRIES
shape_of-reply-then-count-eq-MOST_ENTRIES c = c.loop-i.invariant.2

pub returns-then-count-eq-MOST_ENTRIES : goal.returns-then-count-eq-MOST_ENTRIES
returns-then-count-eq-MOST_ENTRIES c =
    let here = c.loop-i in
    λ xs r e.
    let lt : here.i < length xs = omega arith in
    let x = c.lease_at-x.ensures ∙ lease-in-place _ _ xs r here.i lt in
    page-full _ _ xs _ here.reply here.count here.i (here.invariant.3 xs r e) lt
    (ap (shown? _ _) (sym x) ∙ sym c.is_shown.ensures ∙ c.if-is_shown.true) c.if-count-eq-MOST_ENTRIES.true

pub put_lease-requires : goal.put_lease-requires
put_lease-requires c = omega (arith, c.loop-i.invariant.2)

pub loop-i-preserved : goal.loop-i-preserved
loop-i-preserved c =
    let here = c.loop-i in
    let a = c.args in
    let read : (xs : List Lease) → Records a.image.now a.from xs → (lt : here.i < length xs) → c.lease_at-x.result ≡ get_or xs here.i no_lease =
    λ xs r lt. c.lease_at-x.ensures ∙ lease-in-place a.image.now a.from xs r here.i lt in
    let test : (xs : List Lease) → Records a.image.now a.from xs → (lt : here.i < length xs) → shown? a.time a.client (get_or xs here.i no_lease) ≡ c.is_shown.result =
    λ xs r lt. ap (shown? a.time a.client) (sym (read xs r lt)) ∙ sym c.is_shown.ensures in
    elim c.if-is_shown.branch [
      | then-is_shown+else-count-eq-MOST_ENTRIES w ↦ (
        omega arith,
        omega arith,
        ap length w.reply-is ∙ w.put_lease.auto.reply ∙ here.invariant.2,
        λ xs r e.
            let lt : here.i < length xs = omega arith in
            rw w.count-is
            (showing-more (shown? a.time a.client) a.first xs a.reply.now here.reply here.count here.i (here.invariant.3 xs r e) lt (test xs r lt ∙ w.if-is_shown.true) c.if-is_shown.reply
            (w.reply-is ∙ w.put_lease.ensures ∙ ap (λ (x : Lease). put here.reply (6 + 7 * here.count) (lease_bytes x)) (read xs r lt))),
      )
      | else-is_shown w ↦ (
        omega arith,
        omega arith,
        ap length w.reply-is ∙ here.invariant.2,
        λ xs r e.
            let lt : here.i < length xs = omega arith in
            rw (w.reply-is, w.count-is)
            (showing-skip (shown? a.time a.client) a.first xs a.reply.now here.reply here.count here.i (here.invariant.3 xs r e) lt (test xs r lt ∙ w.if-is_shown.false)),
      )
    ]

pub shape_of-reply : goal.shape_of-reply
shape_of-reply c = c.loop-i.invariant.2

pub returns : goal.returns
returns c =
    let here = c.loop-i in
    λ xs r e. page-last _ _ xs _ here.reply here.count here.i (here.invariant.3 xs r e) (omega arith) here.invariant.1
