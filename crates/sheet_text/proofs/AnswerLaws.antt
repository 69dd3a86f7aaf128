-- What the sheet of an image answers: how many rows are free, whether the buffer is too small, and what is written.
-- Assumes nothing.
use Prim.Native.Nat.{ℕ, ◌+◌, ◌*◌, ◌≤◌, ◌<◌}
use mathlib.Core.Path.{◌≡◌, refl, sym, ap, ap₂, subst, ◌∙◌}
use mathlib.Core.Logic.{inl, inr}
use mathlib.Core.Bool.{Bool, true, false}
use mathlib.Core.List.{List, ◌++◌}
use mathlib.Core.Option.{Option, some}
use native.Mathlib.Omega.{arith}
use lib.ListN.{length, take, get_or, length-append, length-map}
use lib.Seq.{take-append_seam}
use lib.Dec.{ltb}
use borrow.Author.Tests.{le-ltb, ltb-true, ltb-false}
use Rattle.text.specs.Wrote.{Wrote}
use Rattle.text.proofs.TextLaws.{wrote_as, wrote_then}
use Rattle.table.specs.declared.LeaseTable.{LeaseTable}
use Rattle.table.specs.Table.{pool_prefix, sound}
use Rattle.image.specs.declared.Form.{Form}
use Rattle.image.specs.declared.Form.TheVariants.{First}
use Rattle.image.specs.Image.{head_size, pool_size, lease_size_in, used_pools, used_leases, image_as, image_of, fits_form, loaded_table}
use Rattle.image.specs.Reading.{form_of, load_in, load_image}
use Rattle.image.proofs.FieldLaws.{bytes-all}
use Rattle.image.proofs.ImageLaws.{load-image, image-loaded-in, length-image-in, length-image}
use Rattle.image_check.specs.declared.ImageSummary.{ImageSummary}
use Rattle.image_check.specs.ImageSummary.{summary_at, summary_of}
use Rattle.image_check.proofs.SummaryLaws.{summary-some, summary-none}
use Rattle.std.specs.Prelude.{Option as Maybe, Some, None, Result, Ok, Err}
use Rattle.std.proofs.lemmas.Option.{same_Some}
use Rattle.sheet_text.specs.declared.SheetFault.{SheetFault}
use Rattle.sheet_text.specs.declared.SheetFault.TheVariants.{NotSound, TooSmall}
use Rattle.sheet_text.specs.Sheet.{free_in, rows, head_text, sheet_text}
use Rattle.sheet_text.specs.Answers.{into, sheet_of_image}
use Rattle.sheet_text.specs.SheetSizes.{used_most, free_most, head_most}
use Rattle.sheet_text.specs.InnerScan.{SoundSaved, OfSaved, SoundImage, OfTable, scan_text, ReadyAll}
use Rattle.sheet_text.proofs.ShowLaws.{scan_first}
use Rattle.sheet_text.proofs.SheetLaws.{leases-number, pools-are, pools-number, into-small, into-written, image-sound, image-unsound}
use Rattle.sheet_text.proofs.SheetHolds.{sheet-bound, sheet-fits}
use Rattle.sheet_text.proofs.ImageRows.{ready-sheet, sheet-is}

module _ (image : List ℕ) (k n : ℕ) (s : SoundImage image k n) where
  abbrev base : ℕ
  base = head_size + pool_size * k

  pub of-table : (P : LeaseTable → Type 0) → P s.table → OfTable image P
  of-table P h t e =
      let both : ◌≡◌ {A = Option LeaseTable} (some s.table) (some t) = sym s.loads ∙ e in
      let same : s.table ≡ t = cc in
      subst P same h

  -- With as many free rows as are told.
  module _ (free : ℕ) (ef : OfTable image (λ t. free ≡ length (free_in (rows t)))) where
    sheet-text : head_text n free ++ scan_text (scan_first image base n k) ≡ sheet_text s.table
    sheet-text = sheet-is image k n s free (ef s.table s.loads)

    sheet-size : length (head_text n free) + length (scan_text (scan_first image base n k)) ≡ length (sheet_text s.table)
    sheet-size = sym (length-append (head_text n free) (scan_text (scan_first image base n k))) ∙ ap length sheet-text

    -- Rows as long as rows get.
    pub surely-fits : (room : ℕ) → head_most + used_most * n + free_most * free ≤ room → OfTable image (λ t. false ≡ ltb room (length (sheet_text t)))
    surely-fits room h =
        of-table (λ t. false ≡ ltb room (length (sheet_text t)))
        (sym (le-ltb room (length (sheet_text s.table)) (omega (arith, sheet-bound s.table s.sound, s.leases, ef s.table s.loads))))

    -- After the first row, in an empty buffer or in one that has room for the sheet.
    module _ (old new : List ℕ) (head : ℕ) (w : Wrote old 0 (head_text n free) new head) where
      pub measure-ready : (out : List ℕ) → length out ≡ 0 → ReadyAll image base n k out head
      measure-ready out z =
          ready-sheet image k n s out head
          (record { small = omega (arith, w.place, sheet-size, sheet-fits s.table s.sound); fits = inl z })

      pub measured : (room : ℕ) (out out' : List ℕ) (size : ℕ) → Wrote out head (scan_text (scan_first image base n k)) out' size
          → OfTable image (λ t. ltb room size ≡ ltb room (length (sheet_text t)))
      measured room out out' size v =
          of-table (λ t. ltb room size ≡ ltb room (length (sheet_text t))) (ap (ltb room) (omega (arith, w.place, v.place, sheet-size)))

      pub write-ready : length new ≡ length old → length (sheet_text s.table) ≤ length old → ReadyAll image base n k new head
      write-ready kept enough =
          ready-sheet image k n s new head
          (record { small = omega (arith, w.place, sheet-size, sheet-fits s.table s.sound); fits = inr (omega (arith, w.place, sheet-size)) })

      pub written : length (sheet_text s.table) ≤ length old → (out : List ℕ) (size : ℕ) → Wrote new head (scan_text (scan_first image base n k)) out size
          → OfTable image (λ t. (Ok size, out) ≡ into (sheet_text t) old)
      written enough out size v =
          let all : Wrote old 0 (sheet_text s.table) out size = wrote_as (wrote_then w v) sheet-text in
          of-table (λ t. (Ok size, out) ≡ into (sheet_text t) old)
          (into-written (sheet_text s.table) old size out (omega (arith, all.place)) (omega (arith, all.place)) all.bytes)

    pub head-fits : (room : ℕ) → length (sheet_text s.table) ≤ room → length (head_text n free) ≤ room
    head-fits room enough = omega (arith, sheet-size)

  pub enough : (room : ℕ) (r : Bool) → OfTable image (λ t. r ≡ ltb room (length (sheet_text t))) → r ≡ false → length (sheet_text s.table) ≤ room
  enough room r told e = ltb-false room (length (sheet_text s.table)) (sym (told s.table s.loads) ∙ e)

  pub refused-small : (out : List ℕ) (r : Bool) → OfTable image (λ t. r ≡ ltb (length out) (length (sheet_text t))) → r ≡ true
      → OfTable image (λ t. (Err TooSmall, out) ≡ into (sheet_text t) out)
  refused-small out r told e =
      of-table (λ t. (Err TooSmall, out) ≡ into (sheet_text t) out)
      (into-small (sheet_text s.table) out (ltb-true (length out) (length (sheet_text s.table)) (sym (told s.table s.loads) ∙ e)))

-- An image of the first form, widened at the front of a buffer.
module _ (saved : List ℕ) (k n : ℕ) (s : SoundSaved First saved k n) (image rest : List ℕ) (size : ℕ)
    (widened : (size ≡ length (image_of s.table)) × (image ≡ image_of s.table ++ rest)) where
  front : take size image ≡ image_of s.table
  front = ap₂ (λ (m : ℕ) (l : List ℕ). take m l) widened.0 widened.1 ∙ take-append_seam (image_of s.table) rest

  front-loads : load_image (take size image) ≡ some s.table
  front-loads = ap load_image front ∙ load-image s.table s.sound

  pub widened-sound : SoundImage (take size image) k n
  widened-sound = record {
    table = s.table;
    loads = front-loads;
    sound = s.sound;
    fitting = refl;
    bytes = sym front;
    pools = s.pools;
    leases = s.leases;
    few-pools = s.few-pools;
    few-leases = s.few-leases;
    size = omega (arith, ap length front, length-image s.table, s.pools, s.leases);
  }

  pub widened-sheet : (P : LeaseTable → Type 0) → OfTable (take size image) P → OfSaved First saved P
  widened-sheet P h t e =
      let both : ◌≡◌ {A = Option LeaseTable} (some s.table) (some t) = sym s.loads ∙ e in
      let same : s.table ≡ t = cc in
      subst P same (h s.table front-loads)

-- What the check of the bytes tells, in the form that they have.
module _ (image : List ℕ) (form : Form) (ef : form ≡ form_of image) (o : Maybe ImageSummary) (eb : o ≡ summary_of 0 (load_in form image)) where
  as-form : {o : Option LeaseTable} → load_in form image ≡ o → load_in (form_of image) image ≡ o
  as-form e = ap (λ (f : Form). load_in f image) (sym ef) ∙ e

  pub told-unsound : (l : List ℕ) → o ≡ None → (Err NotSound, l) ≡ sheet_of_image image l
  told-unsound l e = image-unsound image l (as-form (summary-none 0 (load_in form image) (sym e ∙ eb)))

  module _ (summary : ImageSummary) (e : o ≡ Some summary) (bytes : (i : ℕ) → get_or image i 0 < 256) (told : Form) (et : form ≡ told) where
    here : SoundSaved form image summary.pools summary.leases
    here =
        let t : LeaseTable = loaded_table (load_in form image) in
        let loads : load_in form image ≡ some t = summary-some 0 (load_in form image) summary (sym e ∙ eb) in
        let is : summary ≡ summary_at 0 t = same_Some summary (summary_at 0 t) (sym e ∙ eb ∙ ap (summary_of 0) loads) in
        let loaded : (sound t ≡ true) × ((fits_form form t ≡ true) × (image_as form t ≡ image)) = image-loaded-in form image t (bytes-all image bytes) loads in
        let pools : summary.pools ≡ length (used_pools t) = ap (λ (b : ImageSummary). b.pools) is in
        let leases : summary.leases ≡ length (used_leases t) = ap (λ (b : ImageSummary). b.leases) is in
        record {
          table = t;
          loads = loads;
          sound = loaded.0;
          fitting = loaded.1.0;
          bytes = loaded.1.1;
          pools = pools;
          leases = leases;
          few-pools = omega (arith, pools-number t loaded.0, ap length (pools-are t loaded.0), length-map (used_pools t) pool_prefix);
          few-leases = omega (arith, leases-number t loaded.0);
          size =
              sym (ap length loaded.1.1)
              ∙ length-image-in form t
              ∙ sym (ap₂ (λ (k n : ℕ). head_size + pool_size * k + lease_size_in form * n) pools leases);
        }

    pub told-sound : SoundSaved told image summary.pools summary.leases
    told-sound = subst (λ (f : Form). SoundSaved f image summary.pools summary.leases) et here

    pub told-sheet : (r : Result ℕ SheetFault) (l l' : List ℕ) → OfSaved told image (λ t. (r, l') ≡ into (sheet_text t) l) → (r, l') ≡ sheet_of_image image l
    told-sheet r l l' h =
        let loads : load_in form image ≡ some here.table = here.loads in
        h here.table (ap (λ (f : Form). load_in f image) (sym et) ∙ loads) ∙ image-sound image l here.table (as-form loads)
