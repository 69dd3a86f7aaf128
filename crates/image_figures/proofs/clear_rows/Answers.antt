-- `image_figures::clear_rows` meets its contract: as many rows as k sheets have are cleared.
use Prim.Native.Nat.{◌+◌, ◌-◌, ◌*◌, min}
use mathlib.Core.Path.{◌≡◌, refl, sym, ap, ◌∙◌}
use native.Mathlib.Omega.{arith}
use lib.ListN.{length, drop, length-drop}
use lib.Seq.{length-take-le}
use borrow.Rule.Slice.PartMut.{put_mid}
use Rattle.lists.specs.Put.{put}
use Rattle.lists.proofs.PutLaws.{put-nothing, put_mid-put, length-put}
use Rattle.table.specs.Table.{lease_slots}
use Rattle.image_figures.specs.Sheets.{row_size}
use Rattle.image_figures.proofs.EmptyBytes.{empty_bytes, length-empty}
use Rattle.image_figures.proofs.FillLaws.{cleared_more}
use Rattle.image_figures.proofs.clear_rows.Goals as goal

pub returns-then-last-first-lt16 : goal.returns-then-last-first-lt16
returns-then-last-first-lt16 c = c.clear_each.ensures

pub loop-k-init : goal.loop-k-init
loop-k-init c =
    let a = c.args in
    let none : 0 ≡ min 0 (a.last - a.first) = omega arith in
    (sym (put-nothing a.sheet.now (row_size * a.first)) ∙ ap (λ m. put a.sheet.now (row_size * a.first) (empty_bytes m)) none, refl)

pub copy_from_slice-requires : goal.copy_from_slice-requires
copy_from_slice-requires c =
    let a = c.args in
    let loop = c.loop-k in
    let at = a.first + lease_slots * loop.k in
    let rows = c.min-rows.result in
    let many : rows ≡ min (a.last - at) lease_slots = c.min-rows.ensures in
    let part = row_size * (at + rows) - row_size * at in
    let same : part ≡ length c.empty_rows.result.now = omega (arith, ap length c.empty_rows.ensures, length-empty rows) in
    length-take-le part (drop (row_size * at) loop.sheet) (omega (arith, many, length-drop (row_size * at) loop.sheet, loop.invariant.1)) ∙ same

pub loop-k-preserved : goal.loop-k-preserved
loop-k-preserved c =
    let a = c.args in
    let loop = c.loop-k in
    let l = a.sheet.now in
    let at = a.first + lease_slots * loop.k in
    let rows = c.min-rows.result in
    let many : rows ≡ min (a.last - at) lease_slots = c.min-rows.ensures in
    let size = length-empty rows in
    let before : min (lease_slots * loop.k) (a.last - a.first) ≡ at - a.first = omega arith in
    let after : at + rows - a.first ≡ min (lease_slots * (loop.k + 1)) (a.last - a.first) = omega (arith, many) in
    let part = row_size * (at + rows) - row_size * at in
    let stored : put_mid (row_size * at) part loop.sheet c.copy_from_slice.new.self ≡ put loop.sheet (row_size * at) (empty_bytes rows) =
    ap (put_mid (row_size * at) part loop.sheet) (c.copy_from_slice.ensures.after ∙ c.empty_rows.ensures)
    ∙ put_mid-put (empty_bytes rows) loop.sheet (row_size * at) part (omega (arith, size)) (omega (arith, many, loop.invariant.1)) in (
      cleared_more l a.first loop.sheet _ at at rows (at + rows) (omega arith) (omega arith) (omega arith) (omega arith)
          (loop.invariant.0 ∙ ap (λ m. put l (row_size * a.first) (empty_bytes m)) before) stored
          ∙ ap (λ m. put l (row_size * a.first) (empty_bytes m)) after,
      ap length stored ∙ length-put (empty_bytes rows) loop.sheet (row_size * at) ∙ loop.invariant.1,
    )

pub shape_of-sheet : goal.shape_of-sheet
shape_of-sheet c = c.loop-k.invariant.1

pub returns : goal.returns
returns c =
    let a = c.args in
    let all : min (lease_slots * c.loop-k.k) (a.last - a.first) ≡ a.last - a.first = omega arith in
    c.loop-k.invariant.0 ∙ ap (λ m. put a.sheet.now (row_size * a.first) (empty_bytes m)) all
