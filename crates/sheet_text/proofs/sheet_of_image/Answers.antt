-- `sheet_text::sheet_of_image` meets its contract: the bytes are the image of a sound table in the form that they have, or of none.
use Prim.Native.Nat.{ℕ}
use mathlib.Core.Path.{◌≡◌, ap, ◌∙◌}
use mathlib.Core.List.{List}
use native.Mathlib.Omega.{arith}
use borrow.Author.Rules.{rules}
use Rattle.image.specs.declared.Form.{Form}
use Rattle.image.specs.declared.Form.TheVariants.{First, Second}
use Rattle.std.specs.Prelude.{Some, None, Result, Err}
use Rattle.sheet_text.specs.declared.SheetFault.{SheetFault}
use Rattle.sheet_text.specs.declared.SheetFault.TheVariants.{NotSound}
use Rattle.sheet_text.specs.Sheet.{sheet_text}
use Rattle.sheet_text.specs.Answers.{into, sheet_of_image}
use Rattle.sheet_text.specs.InnerScan.{SoundSaved, OfSaved}
use Rattle.sheet_text.proofs.AnswerLaws.{told-unsound, told-sound, told-sheet}
use Rattle.sheet_text.proofs.sheet_of_image.Goals as goal

pub returns-in_err-summary : goal.returns-in_err-summary
returns-in_err-summary c =
    let is : c.from_residual.result ≡ Err NotSound = search rules in
    let nothing : c.check_in.result ≡ None = search rules in
    ap (λ (r : Result ℕ SheetFault). (r, c.args.out.now)) is ∙ told-unsound _ _ c.form_of-form.ensures _ c.check_in.ensures _ nothing

-- What is told where the bytes are sound, in each form.
sound-as : (c : goal.After-write_first-arg-1) (form : Form) → c.form_of-form.result ≡ form
    → SoundSaved form c.args.saved.now c.in_ok-summary.summary.pools c.in_ok-summary.summary.leases
sound-as c form e =
    let is : c.check_in.result ≡ Some c.in_ok-summary.summary = search rules in
    told-sound _ _ c.form_of-form.ensures _ c.check_in.ensures _ is (λ i. omega (arith, c.type_inv.saved i)) form e

-- What is told where the bytes are sound, in each form.
sound-as-2 : (c : goal.After-write_sheet-arg-1) (form : Form) → c.form_of-form.result ≡ form
    → SoundSaved form c.args.saved.now c.in_ok-summary.summary.pools c.in_ok-summary.summary.leases
sound-as-2 c form e =
    let is : c.check_in.result ≡ Some c.in_ok-summary.summary = search rules in
    told-sound _ _ c.form_of-form.ensures _ c.check_in.ensures _ is (λ i. omega (arith, c.type_inv.saved i)) form e

sheet-as : (c : goal.After-slice_known-in-First-1) (form : Form) → c.form_of-form.result ≡ form → (r : Result ℕ SheetFault) (l l' : List ℕ)
    → OfSaved form c.args.saved.now (λ t. (r, l') ≡ into (sheet_text t) l) → (r, l') ≡ sheet_of_image c.args.saved.now l
sheet-as c form e =
    let is : c.check_in.result ≡ Some c.in_ok-summary.summary = search rules in
    told-sheet _ _ c.form_of-form.ensures _ c.check_in.ensures _ is (λ i. omega (arith, c.type_inv.saved i)) form e

sheet-as-2 : (c : goal.After-slice_known-in-Second-1) (form : Form) → c.form_of-form.result ≡ form → (r : Result ℕ SheetFault) (l l' : List ℕ)
    → OfSaved form c.args.saved.now (λ t. (r, l') ≡ into (sheet_text t) l) → (r, l') ≡ sheet_of_image c.args.saved.now l
sheet-as-2 c form e =
    let is : c.check_in.result ≡ Some c.in_ok-summary.summary = search rules in
    told-sheet _ _ c.form_of-form.ensures _ c.check_in.ensures _ is (λ i. omega (arith, c.type_inv.saved i)) form e

pub write_first-requires : goal.write_first-requires
write_first-requires c = sound-as c First c.in-First.is

pub write_sheet-requires : goal.write_sheet-requires
write_sheet-requires c = sound-as-2 c Second c.in-Second.is

pub returns-in-First : goal.returns-in-First
returns-in-First c = sheet-as c First c.in-First.is _ _ _ c.write_first.ensures

pub returns-in-Second : goal.returns-in-Second
returns-in-Second c = sheet-as-2 c Second c.in-Second.is _ _ _ c.write_sheet.ensures
