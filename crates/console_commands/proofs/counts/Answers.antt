-- `counts` meets its contract: of a sound book the rows of its pools.
use Prim.Native.Nat.{ℕ, ◌≤◌}
use mathlib.Core.Path.{refl, ap, ap₂, ◌∙◌}
use mathlib.Core.List.{List, []}
use native.Mathlib.Omega.{arith}
use lib.ListN.{length, length-drop}
use Rattle.std.specs.Prelude.{Err}
use Rattle.table.specs.Table.{pool_slots}
use Rattle.image.specs.Image.{head_size}
use Rattle.ledger.specs.Answers.{answer_of, refusal_number, bad_place}
use Rattle.ledger.proofs.RefusalLaws.{number-some}
use Rattle.call_spec.specs.Books.{book_of}
use Rattle.call_spec.proofs.TableLaws.{bytes-all}
use Rattle.console_lines.specs.Lines.{refused_line}
use Rattle.console_lines.specs.CountLines.{counts_text, pools_at}
use Rattle.console_lines.proofs.TextLaws.{wrote_as}
use Rattle.console_commands.proofs.QueryLaws.{shown-text, passed, refused-text, sound-here, room-for-pools, its-counts}
use Rattle.console_commands.proofs.CommandLaws.{appended, rest_of}
use Rattle.console_commands.proofs.counts.Goals as goal

pub returns-in-Err-clause-by_index : goal.returns-in-Err-clause-by_index
returns-in-Err-clause-by_index c figures =
    let a = c.args in
    let e = c.in-Err.e in
    let said = c.refusal in
    let inside : said.result ≤ length c.args.out.now = omega (arith, said.ensures.upper_bound, c.requires) in
    record {
      text = refused_line (refusal_number e) (bad_place e);
      does = (refl, refused-text a.image.now a.image_bytes figures a.counts.now (answer_of (Err e)) c.in-Err.ensures _ (number-some e));
      wrote = appended _ _ _ _ _ inside (wrote_as _ _ _ _ _ _ (ap₂ refused_line c.number.ensures c.place.ensures) said.ensures.wrote);
    }

pub slice_bounds-counts-count : goal.slice_bounds-counts-count
slice_bounds-counts-count c = let a = c.args in let room = room-for-pools (book_of a.image.now a.image_bytes [] a.counts.now) (sound-here a.image.now a.image_bytes [] a.counts.now (answer_of c.check.result) c.check.ensures (passed c.check.result c.in_default.not-Err)) in omega (arith, room)

pub slice_bounds-counts-start : goal.slice_bounds-counts-start
slice_bounds-counts-start c = let a = c.args in let room = room-for-pools (book_of a.image.now a.image_bytes [] a.counts.now) (sound-here a.image.now a.image_bytes [] a.counts.now (answer_of c.check.result) c.check.ensures (passed c.check.result c.in_default.not-Err)) in omega (arith, room)

pub counts-requires : goal.counts-requires
counts-requires c =
    let a = c.args in
    let room = room-for-pools (book_of a.image.now a.image_bytes [] a.counts.now) (sound-here a.image.now a.image_bytes [] a.counts.now (answer_of c.check.result) c.check.ensures (passed c.check.result c.in_default.not-Err)) in
    (omega (arith, room, ap length (rest_of a.image.now head_size), length-drop head_size a.image.now), omega (arith, c.requires))

pub returns-clause-by_index : goal.returns-clause-by_index
returns-clause-by_index c figures =
    let a = c.args in
    let said = c.counts in
    let inside : said.result ≤ length c.args.out.now = omega (arith, said.ensures.upper_bound, c.requires) in
    let all = bytes-all a.image.now (λ i. omega (arith, c.type_inv.image i)) in
    let b = (book_of a.image.now a.image_bytes figures a.counts.now) in
    let s = (sound-here a.image.now a.image_bytes figures a.counts.now (answer_of c.check.result) c.check.ensures (passed c.check.result c.in_default.not-Err)) in
    record { text = _; does = (refl, ap (λ (l : List ℕ). counts_text (pools_at pool_slots l) a.counts.now) (rest_of a.image.now head_size) ∙ its-counts b s all ∙ shown-text b _ s); wrote = appended _ _ _ _ _ inside said.ensures.wrote }
