-- `image_figures::rest_empty` meets its contract: the first 32 * k of these rows are empty, so the answer is that for the rest.
use Prim.Native.Nat.{ℕ, ◌+◌, ◌-◌, ◌*◌, ◌≤◌}
use mathlib.Core.Path.{◌≡◌, ap, ◌∙◌}
use mathlib.Core.Bool.{Bool}
use mathlib.Core.List.{List}
use native.Mathlib.Omega.{arith}
use lib.ListN.{length, take, drop, length-drop}
use lib.Seq.{take_all}
use lib.Dec.{eqb}
use lib.Pointwise.{pointwise}
use Rattle.std.proofs.lemmas.Bool.Decides.{Decides-eqb}
use Rattle.std.proofs.lemmas.Slice.Eq.{slice_eq-Decides}
use Rattle.lists.specs.Lists.{all?}
use Rattle.table.specs.Table.{lease_slots}
use Rattle.figures.specs.Inner.{empty_row?}
use Rattle.image.proofs.FieldLaws.{Bytes}
use Rattle.image_figures.specs.Sheets.{row_size, rows_in}
use Rattle.image_figures.proofs.EmptyBytes.{empty_bytes}
use Rattle.image_figures.proofs.MatchLaws.{empty-more, empty-not, empty-last, rest-told}
use Rattle.image_figures.proofs.rest_empty.Goals as goal

-- So many bytes from place n on, compared with so many empty rows: all that are left.
compared : (l : List ℕ) (n m rows : ℕ) (told : Bool) (with : List ℕ) → Bytes l → length l ≡ row_size * lease_slots → n ≤ lease_slots
    → told ≡ pointwise eqb (take m (drop (row_size * n) l)) with → with ≡ empty_bytes rows → m ≡ row_size * (lease_slots - n) → rows ≡ lease_slots - n
    → told ≡ all? empty_row? (drop n (rows_in lease_slots l))
compared l n m rows told with bytes size few e empty whole all =
    let rest = drop (row_size * n) l in
    let left : take m rest ≡ rest = take_all m rest (omega (arith, length-drop (row_size * n) l)) in
    rest-told lease_slots l bytes size n few told
    (slice_eq-Decides Decides-eqb rest (empty_bytes (lease_slots - n)) told
    (e ∙ ap (λ t. pointwise eqb t with) left ∙ ap (pointwise eqb rest) (empty ∙ ap empty_bytes all)))

pub returns-then-n-gt-LEASES : goal.returns-then-n-gt-LEASES
returns-then-n-gt-LEASES c =
    let bytes : Bytes c.args.sheet.now = λ i. omega (arith, c.type_inv.sheet i) in
    compared c.args.sheet.now c.args.n _ _ c.eq.result _ bytes c.requires.1 c.requires.0 c.eq.ensures c.empty_rows.ensures (omega arith) (omega arith)

pub loop-k-init : goal.loop-k-init
loop-k-init c =
    let here : c.args.n ≡ c.args.n + 0 = omega arith in
    ap (λ (i : ℕ). all? empty_row? (drop i (rows_in lease_slots c.args.sheet.now))) here

pub returns-then-not-thirty_two_empty : goal.returns-then-not-thirty_two_empty
returns-then-not-thirty_two_empty c =
    let s = c.args.sheet.now in
    let test = c.thirty_two_empty in
    empty-not s lease_slots (c.args.n + 32 * c.loop-k.k) 32 (omega arith) test.result test.ensures _ c.loop-k.invariant c.if-not-thirty_two_empty.true

pub loop-k-preserved : goal.loop-k-preserved
loop-k-preserved c =
    let s = c.args.sheet.now in
    let test = c.thirty_two_empty in
    let next : c.args.n + 32 * c.loop-k.k + 32 ≡ c.args.n + 32 * (c.loop-k.k + 1) = omega arith in
    empty-more s lease_slots (c.args.n + 32 * c.loop-k.k) 32 (omega arith) test.result test.ensures _ c.loop-k.invariant c.if-not-thirty_two_empty.false
    ∙ ap (λ (i : ℕ). all? empty_row? (drop i (rows_in lease_slots s))) next

pub returns : goal.returns
returns c =
    let a = c.args in
    let test = c.thirty_two_empty-2 in
    empty-last a.sheet.now lease_slots (lease_slots - 32) 32 (omega arith) test.result test.ensures (omega arith) a.n (a.n + 32 * c.loop-k.k) (omega arith) (omega arith) c.loop-k.invariant
