-- `renew_found` meets its contract: row 11, or what is found renewed, shown and filed.
use Prim.Native.Nat.{◌≤◌}
use native.Mathlib.Omega.{arith}
use lib.ListN.{length}
use Rattle.option_reply.specs.Reply.{most_entries}
use Rattle.ledger.specs.Ledger.{call_with}
use Rattle.call_spec.specs.ImageCalls.{lent}
use Rattle.call_take.proofs.PlaceLaws.{rows-within}
use Rattle.call_take.proofs.TakeLaws.{take-nothing, take_found}
use Rattle.call_take.proofs.renew_found.Goals as goal

pub returns-then-shown-eq0-clause-equation : goal.returns-then-shown-eq0-clause-equation
returns-then-shown-eq0-clause-equation c client time summary area selection is t =
    let a = c.args in
    let named = c.renew_named-shown in
    take-nothing (lent a.image.now a.image_bytes.now a.figures.now) time (call_with client a.option.now selection a.reply.now) summary area a.networks.now a.lengths.now t
    a.renewal is _ _ _ named.result named.ensures.equation c.if-shown-eq0.true

pub file_named-requires : goal.file_named-requires
file_named-requires c =
    let a = c.args in
    rows-within a.renewal.first a.renewal.leases (length a.figures.now) (omega (arith, c.requires.part, c.requires.rows)) _ c.renew_named-shown.ensures.on_ground

pub returns-clause-equation : goal.returns-clause-equation
returns-clause-equation c client time summary area selection is t =
    let a = c.args in
    let named = c.renew_named-shown in
    let few : named.result ≤ most_entries = omega (arith, named.ensures.in_bounds, c.requires.few) in
    take_found (lent a.image.now a.image_bytes.now a.figures.now) time (call_with client a.option.now selection a.reply.now) summary area a.networks.now a.lengths.now t
    a.renewal is _ _ _ named.result named.ensures.equation c.requires.later _ c.file_named.ensures _ _ _ c.strike_expired.ensures c.remove_expired.ensures
    c.if-shown-eq0.false few _ _ c.put_heads-reply_bytes.ensures.value c.put_heads-reply_bytes.ensures.reply_after
