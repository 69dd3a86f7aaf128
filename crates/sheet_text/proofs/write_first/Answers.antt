-- `sheet_text::write_first` meets its contract: the sheet of the image that the bytes are widened to.
use Prim.Native.Nat.{◌≤◌}
use mathlib.Core.Path.{◌≡◌, sym}
use mathlib.Core.List.{◌++◌}
use native.Mathlib.Omega.{arith}
use lib.ListN.{length, drop, replicate}
use lib.Seq.{length-take-le}
use Rattle.image.specs.Image.{full_image, image_of}
use Rattle.sheet_text.specs.Sheet.{sheet_text}
use Rattle.sheet_text.specs.Answers.{into}
use Rattle.sheet_text.proofs.AnswerLaws.{widened-sound, widened-sheet}
use Rattle.sheet_text.proofs.write_first.Goals as goal

-- What is known of the buffer after it is widened into.
abbrev widened : (c : goal.After-write_sheet-arg-1) → (c.widen-size.result ≡ length (image_of c.requires.table)) × (c.widen-size.new.image ≡ image_of c.requires.table ++ drop (length (image_of c.requires.table)) (replicate full_image 0))
widened c = let pre = c.requires in c.widen-size.ensures.value_2 pre.table pre.bytes pre.fitting pre.pools pre.leases

-- What is known of the buffer after it is widened into.
abbrev widened-2 : (c : goal.After-slice_known-2-1) → (c.widen-size.result ≡ length (image_of c.requires.table)) × (c.widen-size.new.image ≡ image_of c.requires.table ++ drop (length (image_of c.requires.table)) (replicate full_image 0))
widened-2 c = let pre = c.requires in c.widen-size.ensures.value_2 pre.table pre.bytes pre.fitting pre.pools pre.leases

within : (c : goal.After-image-2-1) → c.widen-size.result ≤ length c.widen-size.new.image
within c = let pre = c.requires in omega (arith, c.widen-size.ensures.value, c.widen-size.auto.image, pre.few-pools, pre.few-leases)

within-2 : (c : goal.After-image-3-1) → c.widen-size.result ≤ length c.widen-size.new.image
within-2 c = let pre = c.requires in omega (arith, c.widen-size.ensures.value, c.widen-size.auto.image, pre.few-pools, pre.few-leases)

pub widen-size-requires : goal.widen-size-requires
widen-size-requires c = let pre = c.requires in (omega (arith, pre.size), omega (arith, pre.few-pools, pre.few-leases))

pub slice_bounds-image-end : goal.slice_bounds-image-end
slice_bounds-image-end c = within c

pub slice_bounds-write_sheet-end : goal.slice_bounds-write_sheet-end
slice_bounds-write_sheet-end c = sym (length-take-le _ _ (within-2 c))

pub write_sheet-requires : goal.write_sheet-requires
write_sheet-requires c = widened-sound _ _ _ c.requires _ _ _ (widened c)

pub returns : goal.returns
returns c =
    let sheet = c.write_sheet in
    widened-sheet _ _ _ c.requires _ _ _ (widened-2 c) (λ t. (sheet.result, sheet.new.out) ≡ into (sheet_text t) c.args.out.now) sheet.ensures
