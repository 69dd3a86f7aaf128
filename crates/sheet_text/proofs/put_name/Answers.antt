-- `sheet_text::put_name` meets its contract: the first k octets are put, as they are shown.
use Prim.Native.Nat.{ℕ, ◌+◌, ◌<◌}
use mathlib.Core.Path.{◌≡◌, refl, sym, ap, ap₂, ◌∙◌}
use mathlib.Core.List.{List, map}
use native.Mathlib.Omega.{arith}
use lib.ListN.{length, take, set, length-map, length-set, get_or-map}
use lib.Seq.{take_all, length-take-le}
use Rattle.lists.proofs.ImageLaws.{take-map}
use Rattle.lists.specs.Put.{put}
use Rattle.lists.proofs.PutLaws.{put-nothing}
use Rattle.text.specs.Wrote.{Wrote}
use Rattle.text.proofs.TextLaws.{wrote_as, wrote_then}
use Rattle.names.specs.declared.Name.{Name}
use Rattle.names.specs.Names.{name_length, name_octets}
use Rattle.names.proofs.NameLaws.{length-name, name-short}
use Rattle.image_records.proofs.MoveLaws.{given-more}
use Rattle.sheet_text.specs.Sheet.{shown, name_row}
use Rattle.sheet_text.proofs.RowTexts.{shown_name, row-unnamed, row_named, length-named, length-shown, shown-octets}
use Rattle.sheet_text.proofs.put_name.Goals as goal

-- A name with n octets, where n is not 0.
row-size : (name : Name) (n : ℕ) → n ≡ name_length name → (n ≡ 0 → ⊥) → length (name_row name) ≡ 6 + n
row-size name n e h = omega (arith, length-named name (λ (z : name_length name ≡ 0). h (e ∙ z)))

-- So many octets are taken.
taken : (name : Name) (n : ℕ) (octets : List ℕ) → n ≡ name_length name → octets ≡ name_octets name → length (take n octets) ≡ n
taken name n octets e o = length-take-le n octets (omega (arith, ap length o, length-name name, name-short name))

pub returns-then-n-eq0 : goal.returns-then-n-eq0
returns-then-n-eq0 c =
    let size = c.length-n in
    wrote_as (record { bytes = sym (put-nothing _ _); place = omega arith }) (sym (row-unnamed c.args.name (sym size.ensures ∙ c.if-n-eq0.true)))

pub put-from-requires : goal.put-from-requires
put-from-requires c =
    let size = c.length-n in
    omega (arith, row-size c.args.name size.result size.ensures c.if-n-eq0.false, c.requires)

pub loop-k-init : goal.loop-k-init
loop-k-init c = (sym (put-nothing _ _), refl)

pub slice_bounds-octets-end : goal.slice_bounds-octets-end
slice_bounds-octets-end c = omega (arith, c.length-n.ensures, name-short c.args.name)

pub slice_bounds-octet-items-end : goal.slice_bounds-octet-items-end
slice_bounds-octet-items-end c = omega (arith, taken c.args.name c.length-n.result c.octets-octets.result c.length-n.ensures c.octets-octets.ensures)

-- The octet that is put next lies in the buffer.
inside : (c : goal.After-shown) → c.put-from.result + c.loop-k.k < length c.loop-k.out
inside c =
    let size = c.length-n in
    let word = c.put-from in
    omega (arith, row-size c.args.name size.result size.ensures c.if-n-eq0.false, c.requires, word.ensures.place, word.auto.out, c.loop-k.invariant.1, taken c.args.name size.result c.octets-octets.result size.ensures c.octets-octets.ensures)

pub overflow_add-out : goal.overflow_add-out
overflow_add-out c = omega (arith, inside c)

pub bounds-out-from : goal.bounds-out-from
bounds-out-from c = inside c

pub loop-k-preserved : goal.loop-k-preserved
loop-k-preserved c =
    let loop = c.loop-k in
    let word = c.put-from in
    let items : List ℕ = take c.length-n.result c.octets-octets.result in (
      ap (set loop.out (word.result + loop.k)) (c.shown.ensures ∙ sym (get_or-map shown items loop.k 0))
          ∙ given-more (shown 0) word.new.out loop.out (map shown items) word.result loop.k (omega (arith, length-map items shown)) loop.invariant.0,
      length-set loop.out (word.result + loop.k) c.shown.result ∙ loop.invariant.1,
    )

pub overflow_add-result : goal.overflow_add-result
overflow_add-result c =
    let size = c.length-n in
    let word = c.put-from in
    omega (arith, row-size c.args.name size.result size.ensures c.if-n-eq0.false, c.requires, word.ensures.place)

pub shape_of-out : goal.shape_of-out
shape_of-out c = c.loop-k.invariant.1 ∙ c.put-from.auto.out

pub returns : goal.returns
returns c =
    let name = c.args.name in
    let size = c.length-n in
    let word = c.put-from in
    let octets = c.octets-octets in
    let loop = c.loop-k in
    let items : List ℕ = take size.result octets.result in
    let written : Wrote word.new.out word.result (shown_name name) loop.out (word.result + size.result) =
    record {
      bytes =
          loop.invariant.0
          ∙ ap (put word.new.out word.result)
          (take_all loop.k (map shown items) (omega (arith, length-map items shown)) ∙ sym (take-map shown size.result octets.result)
          ∙ ap₂ (λ (m : ℕ) (l : List ℕ). take m (map shown l)) size.ensures octets.ensures
          ∙ shown-octets name);
      place = omega (arith, length-shown name, size.ensures);
    } in
    wrote_as (wrote_then word.ensures written) (sym (row_named name (λ (z : name_length name ≡ 0). c.if-n-eq0.false (size.ensures ∙ z))))
