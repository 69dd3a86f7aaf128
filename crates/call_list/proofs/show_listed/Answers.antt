-- `show_listed` meets its contract: row 11, or the page.
use Prim.Native.Nat.{◌≤◌}
use mathlib.Core.Path.{◌≡◌, ap, ◌∙◌}
use mathlib.Core.List.{[]}
use native.Mathlib.Omega.{arith}
use lib.ListN.{drop}
use Rattle.lists.specs.Lists.{filter}
use Rattle.lists.proofs.TakeLaws.{take_short}
use Rattle.image.specs.Image.{used_leases}
use Rattle.ledger.specs.declared.Answer.{Answer}
use Rattle.ledger.specs.Ledger.{call, outcome}
use Rattle.option_reply.specs.Reply.{most_entries}
use Rattle.option_scan.specs.Scanned.{position_of}
use Rattle.call_spec.specs.ImageCalls.{lent, table_in}
use Rattle.call_list.specs.InnerPage.{shown?, start_of, PageOf}
use Rattle.call_list.proofs.ListLaws.{list-nothing, list-empty, list-found}
use Rattle.call_list.proofs.show_listed.Goals as goal

-- No lease at all.
pub returns-then-n-eq0 : goal.returns-then-n-eq0
returns-then-n-eq0 c =
    let a = c.args in
    let h = lent a.image.now a.image_bytes [] in
    let m = call a.client a.option.now a.reply.now in
    list-empty h a.time m a.summary a.pieces c.requires c.if-n-eq0.true

-- The first lease above the position, and the page from there on.
placed : (c : goal.Then-shown-eq0) → let a = c.args in
    c.first_above-first.result ≡ start_of (position_of a.pieces) (used_leases (table_in (lent a.image.now a.image_bytes [])))
placed c =
    let a = c.args in
    let o = c.requires.admitted in
    c.first_above-first.ensures.equation (used_leases (table_in (lent a.image.now a.image_bytes []))) o.records o.leases o.ascending

-- The first lease above the position, and the page from there on.
placed-2 : (c : goal.After-slice_known-3-1) → let a = c.args in
    c.first_above-first.result ≡ start_of (position_of a.pieces) (used_leases (table_in (lent a.image.now a.image_bytes [])))
placed-2 c =
    let a = c.args in
    let o = c.requires.admitted in
    c.first_above-first.ensures.equation (used_leases (table_in (lent a.image.now a.image_bytes []))) o.records o.leases o.ascending

shown : (c : goal.Then-shown-eq0) → let a = c.args in
    PageOf (filter (shown? a.time a.client) (drop c.first_above-first.result (used_leases (table_in (lent a.image.now a.image_bytes []))))) a.reply.now c.show_page-page.new.reply c.show_page-page.result
shown c =
    let a = c.args in
    let o = c.requires.admitted in
    c.show_page-page.ensures (used_leases (table_in (lent a.image.now a.image_bytes []))) o.records o.leases

shown-2 : (c : goal.After-put_heads-arg-1) → let a = c.args in
    PageOf (filter (shown? a.time a.client) (drop c.first_above-first.result (used_leases (table_in (lent a.image.now a.image_bytes []))))) a.reply.now c.show_page-page.new.reply c.show_page-page.result
shown-2 c =
    let a = c.args in
    let o = c.requires.admitted in
    c.show_page-page.ensures (used_leases (table_in (lent a.image.now a.image_bytes []))) o.records o.leases

shown-3 : (c : goal.After-slice_known-3-1) → let a = c.args in
    PageOf (filter (shown? a.time a.client) (drop c.first_above-first.result (used_leases (table_in (lent a.image.now a.image_bytes []))))) a.reply.now c.show_page-page.new.reply c.show_page-page.result
shown-3 c =
    let a = c.args in
    let o = c.requires.admitted in
    c.show_page-page.ensures (used_leases (table_in (lent a.image.now a.image_bytes []))) o.records o.leases

shown-4 : (c : goal.After-slice_known-3-1) → let a = c.args in
    PageOf (filter (shown? a.time a.client) (drop c.first_above-first.result (used_leases (table_in (lent a.image.now a.image_bytes []))))) a.reply.now c.show_page-page.new.reply c.show_page-page.result
shown-4 c =
    let a = c.args in
    let o = c.requires.admitted in
    c.show_page-page.ensures (used_leases (table_in (lent a.image.now a.image_bytes []))) o.records o.leases

few : (c : goal.After-put_heads-arg-1) → c.show_page-page.result.count ≤ most_entries
few c =
    let a = c.args in
    omega (arith, (shown-2 c).count, take_short most_entries (filter (shown? a.time a.client) (drop c.first_above-first.result (used_leases (table_in (lent a.image.now a.image_bytes []))))))

few-2 : (c : goal.After-slice_known-3-1) → c.show_page-page.result.count ≤ most_entries
few-2 c =
    let a = c.args in
    omega (arith, (shown-3 c).count, take_short most_entries (filter (shown? a.time a.client) (drop c.first_above-first.result (used_leases (table_in (lent a.image.now a.image_bytes []))))))

pub returns-then-shown-eq0 : goal.returns-then-shown-eq0
returns-then-shown-eq0 c =
    let a = c.args in
    let h = lent a.image.now a.image_bytes [] in
    let m = call a.client a.option.now a.reply.now in
    list-nothing h a.time m a.summary a.pieces c.requires c.first_above-first.result (placed c) c.show_page-page.result _ (shown c) c.if-shown-eq0.true

pub put_heads-bytes-requires : goal.put_heads-bytes-requires
put_heads-bytes-requires c = few c

pub overflow_cast-result : goal.overflow_cast-result
overflow_cast-result c = omega (arith, c.put_heads-bytes.ensures.value, few-2 c)

pub overflow_cast-result-2 : goal.overflow_cast-result-2
overflow_cast-result-2 c = omega (arith, few-2 c)

pub returns : goal.returns
returns c =
    let a = c.args in
    let h = lent a.image.now a.image_bytes [] in
    let m = call a.client a.option.now a.reply.now in
    list-found h a.time m a.summary a.pieces c.requires c.first_above-first.result (placed-2 c) c.show_page-page.result _ (shown-4 c) c.if-shown-eq0.false _ _ c.put_heads-bytes.ensures.value c.put_heads-bytes.ensures.reply_after
