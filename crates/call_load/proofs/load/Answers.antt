-- `call_load::load` meets its contract: what is checked is put in the second form.
use Prim.Native.Nat.{ℕ, ◌+◌, ◌*◌, ◌≤◌, ◌<◌}
use mathlib.Core.Path.{◌≡◌, sym, ap, ◌∙◌}
use mathlib.Core.Bool.{Bool, true}
use mathlib.Core.List.{List, [], ◌++◌}
use mathlib.Core.Option.{some}
use native.Mathlib.Omega.{arith}
use borrow.Author.Rules.{rules}
use Rattle.std.specs.Prelude.{Option, Some, None, Result, Err}
use Rattle.std.proofs.lemmas.Option.{same_Some}
use Rattle.lists.specs.Lists.{All}
use lib.ListN.{length, drop}
use Rattle.table.specs.declared.LeaseTable.{LeaseTable}
use Rattle.table.specs.Table.{lease_slots}
use Rattle.image.specs.declared.Form.{Form}
use Rattle.image.specs.Image.{full_image, head_size, pool_size, lease_size, image_of, loaded_table}
use Rattle.image.specs.Reading.{form_of, load_in, load_saved}
use Rattle.image.proofs.FieldLaws.{bytes-all}
use Rattle.image_check.specs.declared.ImageSummary.{ImageSummary}
use Rattle.image_check.specs.ImageSummary.{summary_at, summary_of}
use Rattle.image_check.proofs.SummaryLaws.{summary-some, summary-none}
use Rattle.ledger.specs.declared.{Accepted.Accepted, Refusal.Refusal}
use Rattle.ledger.specs.declared.Refusal.TheVariants.{NotSound}
use Rattle.ledger.specs.Answers.{answer_of}
use Rattle.ledger.specs.Ledger.{outcome}
use Rattle.call_spec.specs.ImageCalls.{Lent, lent}
use Rattle.call_spec.specs.Books.{Book, book_of}
use Rattle.call_load.proofs.LoadLaws.{load-unsound, load-small, load-other, read_fits, read-image, pools-are, leases-are, saved-size, read-within, read-stands, read_some, load-filled, load-accepted, load-refuses, load-accepts}
use Rattle.call_load.proofs.load.Goals as goal

-- What the check tells, in the form of the bytes.
checked : (s : List ℕ) (form : Form) (r : Option ImageSummary) → r ≡ summary_of 0 (load_in form s) → form ≡ form_of s → r ≡ summary_of 0 (load_saved s)
checked s form r e f = e ∙ ap (λ (g : Form). summary_of 0 (load_in g s)) f

abbrev table_of : List ℕ → LeaseTable
table_of s = loaded_table (load_saved s)

-- Bytes that the check takes for sound are read.
record Read (s : List ℕ) (x : ImageSummary) : Type 0 where
  bytes : All (λ b. b < 256) s
  loads : load_saved s ≡ some (table_of s)
  tells : x ≡ summary_at 0 (table_of s)

reads : (s : List ℕ) (form : Form) (r : Option ImageSummary) (x : ImageSummary) → All (λ b. b < 256) s → r ≡ summary_of 0 (load_in form s) → form ≡ form_of s → r ≡ Some x → Read s x
reads s form r x bytes e f is =
    let c : Some x ≡ summary_of 0 (load_saved s) = sym is ∙ checked s form r e f in
    let l : load_saved s ≡ some (table_of s) = summary-some 0 (load_saved s) x c in
    record { bytes = bytes; loads = l; tells = same_Some x (summary_at 0 (table_of s)) (c ∙ ap (summary_of 0) l) }

pub returns-in_err-summary : goal.returns-in_err-summary
returns-in_err-summary c =
    let s = c.args.saved.now in
    let b : Book = book_of c.args.image.now c.args.image_bytes.now c.args.figures.now c.args.counts.now in
    let is : c.from_residual.result ≡ Err NotSound = search rules in
    let nothing : c.check_in.result ≡ None = search rules in
    ap (λ (r : Result Accepted Refusal). outcome (answer_of r) b []) is
    ∙ load-refuses b s 5 (λ z. omega (arith, z)) (load-unsound b.lent s (summary-none 0 (load_saved s) (sym nothing ∙ checked s _ _ c.check_in.ensures c.form_of-form.ensures)))

pub returns-then-image-lt-FULL_IMAGE : goal.returns-then-image-lt-FULL_IMAGE
returns-then-image-lt-FULL_IMAGE c =
    let s = c.args.saved.now in
    let b : Book = book_of c.args.image.now c.args.image_bytes.now c.args.figures.now c.args.counts.now in
    let x = c.in_ok-summary.summary in
    let is : c.check_in.result ≡ Some x = search rules in
    let r : Read s x = reads s _ _ x (bytes-all s (λ i. omega (arith, c.type_inv.saved i))) c.check_in.ensures c.form_of-form.ensures is in
    load-refuses b s 14 (λ z. omega (arith, z)) (load-small b.lent s (table_of s) r.loads c.if-image-lt-FULL_IMAGE.true)

pub returns-then-figures-ne-FIGURES : goal.returns-then-figures-ne-FIGURES
returns-then-figures-ne-FIGURES c =
    let s = c.args.saved.now in
    let b : Book = book_of c.args.image.now c.args.image_bytes.now c.args.figures.now c.args.counts.now in
    let x = c.in_ok-summary.summary in
    let is : c.check_in.result ≡ Some x = search rules in
    let r : Read s x = reads s _ _ x (bytes-all s (λ i. omega (arith, c.type_inv.saved i))) c.check_in.ensures c.form_of-form.ensures is in
    load-refuses b s 14 (λ z. omega (arith, z)) (load-other b.lent s (table_of s) r.loads (omega arith) c.if-figures-ne-FIGURES.true)

pub put_image-n-requires : goal.put_image-n-requires
put_image-n-requires c =
    let s = c.args.saved.now in
    let b : Book = book_of c.args.image.now c.args.image_bytes.now c.args.figures.now c.args.counts.now in
    let x = c.in_ok-summary.summary in
    let is : c.check_in.result ≡ Some x = search rules in
    let r : Read s x = reads s _ _ x (bytes-all s (λ i. omega (arith, c.type_inv.saved i))) c.check_in.ensures c.form_of-form.ensures is in
    let w = read-within b.lent s (table_of s) r.loads r.bytes x r.tells in
    (saved-size b.lent s (table_of s) r.loads r.bytes x r.tells _ c.form_of-form.ensures, w.1, omega arith)

pub overflow_mul-summary : goal.overflow_mul-summary
overflow_mul-summary c =
    let s = c.args.saved.now in
    let b : Book = book_of c.args.image.now c.args.image_bytes.now c.args.figures.now c.args.counts.now in
    let x = c.in_ok-summary.summary in
    let is : c.check_in.result ≡ Some x = search rules in
    let r : Read s x = reads s _ _ x (bytes-all s (λ i. omega (arith, c.type_inv.saved i))) c.check_in.ensures c.form_of-form.ensures is in
    let w = read-within b.lent s (table_of s) r.loads r.bytes x r.tells in
    omega (arith, w.1)

pub overflow_add-summary : goal.overflow_add-summary
overflow_add-summary c =
    let s = c.args.saved.now in
    let b : Book = book_of c.args.image.now c.args.image_bytes.now c.args.figures.now c.args.counts.now in
    let x = c.in_ok-summary.summary in
    let is : c.check_in.result ≡ Some x = search rules in
    let r : Read s x = reads s _ _ x (bytes-all s (λ i. omega (arith, c.type_inv.saved i))) c.check_in.ensures c.form_of-form.ensures is in
    let w = read-within b.lent s (table_of s) r.loads r.bytes x r.tells in
    omega (arith, w.1)

pub fill-requires : goal.fill-requires
fill-requires c =
    let s = c.args.saved.now in
    let b : Book = book_of c.args.image.now c.args.image_bytes.now c.args.figures.now c.args.counts.now in
    let x = c.in_ok-summary.summary in
    let is : c.check_in.result ≡ Some x = search rules in
    let r : Read s x = reads s _ _ x (bytes-all s (λ i. omega (arith, c.type_inv.saved i))) c.check_in.ensures c.form_of-form.ensures is in
    let w = read-within b.lent s (table_of s) r.loads r.bytes x r.tells in
    (w.0, c.if-figures-ne-FIGURES.false, omega (arith, w.1, c.clear.auto.image, c.put_image-n.auto.image))

pub recount-requires : goal.recount-requires
recount-requires c =
    let s = c.args.saved.now in
    let b : Book = book_of c.args.image.now c.args.image_bytes.now c.args.figures.now c.args.counts.now in
    let x = c.in_ok-summary.summary in
    let is : c.check_in.result ≡ Some x = search rules in
    let r : Read s x = reads s _ _ x (bytes-all s (λ i. omega (arith, c.type_inv.saved i))) c.check_in.ensures c.form_of-form.ensures is in
    let p = c.put_image-n.ensures (table_of s) (read-image b.lent s (table_of s) r.loads r.bytes _ c.form_of-form.ensures) (read_fits b.lent s (table_of s) r.loads r.bytes _ c.form_of-form.ensures) (pools-are b.lent s (table_of s) r.loads r.bytes x r.tells) (leases-are b.lent s (table_of s) r.loads r.bytes x r.tells) in
    read_some b.lent s (table_of s) r.loads r.bytes x r.tells (omega arith) c.put_image-n.result p.0 c.put_image-n.new.image c.clear.new.image p.1 c.clear.ensures

pub returns : goal.returns
returns c =
    let s = c.args.saved.now in
    let b : Book = book_of c.args.image.now c.args.image_bytes.now c.args.figures.now c.args.counts.now in
    let x = c.in_ok-summary.summary in
    let is : c.check_in.result ≡ Some x = search rules in
    let r : Read s x = reads s _ _ x (bytes-all s (λ i. omega (arith, c.type_inv.saved i))) c.check_in.ensures c.form_of-form.ensures is in
    let p = c.put_image-n.ensures (table_of s) (read-image b.lent s (table_of s) r.loads r.bytes _ c.form_of-form.ensures) (read_fits b.lent s (table_of s) r.loads r.bytes _ c.form_of-form.ensures) (pools-are b.lent s (table_of s) r.loads r.bytes x r.tells) (leases-are b.lent s (table_of s) r.loads r.bytes x r.tells) in
    let f = c.fill.new.sheet in
    let g : Lent = lent c.clear.new.image c.put_image-n.result f in
    let counts = c.recount.new.counts in
    load-accepts b s r.bytes g (load-accepted b.lent s (table_of s) r.loads r.bytes x r.tells (omega arith) c.put_image-n.result p.0 c.put_image-n.new.image c.clear.new.image p.1 c.clear.ensures c.if-figures-ne-FIGURES.false f (load-filled b.lent s (table_of s) r.loads r.bytes x r.tells (omega arith) c.put_image-n.result p.0 c.put_image-n.new.image c.clear.new.image p.1 c.clear.ensures f c.fill.ensures)) counts (c.recount.ensures (table_of s) (read-stands b.lent s (table_of s) r.loads r.bytes x r.tells (omega arith) c.put_image-n.result p.0 c.put_image-n.new.image c.clear.new.image p.1 c.clear.ensures))
