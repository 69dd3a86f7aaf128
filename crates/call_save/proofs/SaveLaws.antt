-- Laws of save as a call: its rows, whether a form has a place for the names, and what the check tells of an open book.
-- Assumes nothing.
use Prim.Native.Nat.{ℕ, ◌+◌, ◌*◌, ◌≤◌, ◌<◌}
use mathlib.Core.Path.{◌≡◌, refl, sym, ap, ap₂, subst, ◌∙◌}
use mathlib.Core.Logic.{⊎_elim}
use mathlib.Core.Bool.{Bool, true, false, not, cond, ◌&&◌, ◌||◌}
use mathlib.Core.List.{List, [], ◌∷◌, ◌++◌}
use mathlib.Core.Option.{Option, none, some}
use native.Mathlib.Omega.{arith}
use Rattle.std.specs.Prelude.{Some}
use Rattle.std.proofs.lemmas.Option.{same_Some}
use lib.ListN.{length, take, drop}
use lib.Dec.{ltb}
use borrow.Author.Tests.{lt-ltb, le-ltb}
use Rattle.lists.specs.Lists.{all?, any?, filter}
use Rattle.lists.proofs.Tests.{bool_cases}
use Rattle.lists.proofs.FilterLaws.{filter-yes, filter-no}
use Rattle.names.specs.Names.{unnamed?}
use Rattle.names.proofs.NameLaws.{unnamed-of}
use Rattle.table.specs.declared.Lease.{Lease}
use Rattle.table.specs.declared.LeaseTable.{LeaseTable}
use Rattle.table.specs.Table.{pool_slots, lease_slots, older_slots, empty?, sound}
use Rattle.table.proofs.TableLaws.{empty-to}
use Rattle.image.specs.declared.Form.{Form}
use Rattle.image.specs.declared.Form.TheVariants.{First}
use Rattle.image.specs.Image.{full_image, head_size, pool_size, lease_size, first_lease_size, used_pools, used_leases, image_as, image_of, fits_form}
use Rattle.image.proofs.ImageLaws.{length-image-in, longest-image}
use Rattle.image_check.specs.declared.ImageSummary.{ImageSummary}
use Rattle.image_check.specs.ImageSummary.{summary_at, summary_of}
use Rattle.image_records.specs.Records.{Records}
use Rattle.image_records.proofs.SoundLaws.{used-few, image-records}
use Rattle.ledger.specs.declared.Answer.{Answer}
use Rattle.ledger.specs.Sizes.{Bytes}
use Rattle.ledger.specs.Ledger.{Result, outcome, refusal, acceptance, first_of, or_else, refuse, accept}
use Rattle.call_spec.specs.ImageCalls.{Lent, table_in, too_many?, save_from}
use Rattle.call_spec.specs.Books.{Book, lent_in, save_book}
use Rattle.call_spec.proofs.TableLaws.{held-loads, held-within, held-image}
use Rattle.call_spec.proofs.BookLaws.{same-buffers, sound-lent}
use Rattle.call_rows.specs.InnerSummary.{SummaryIn}
use Rattle.call_rows.proofs.AdmitLaws.{book-measured}
use Rattle.call_save.specs.InnerSaving.{later_rows, saved_to}

-- NAMES: all leases have none exactly if no lease that is used has one.

abbrev pub named? : Lease → Bool
named? x = not (unnamed? x.name)

not-or : (a b : Bool) → (a && not b) ≡ not (not a || b)
not-or true b = refl
not-or false b = refl

none_named : (xs : List Lease) → all? (λ x. unnamed? x.name) xs ≡ not (any? named? (filter (λ x. not (empty? x)) xs))
none_named [] = refl
none_named (x ∷ xs) =
    let used : Lease → Bool = λ y. not (empty? y) in
    let later : all? (λ y. unnamed? y.name) xs ≡ not (any? named? (filter used xs)) = none_named xs in
    ⊎_elim
    (λ (e : empty? x ≡ true).
    let bare : unnamed? x.name ≡ true = ap (λ (y : Lease). unnamed? y.name) (empty-to x e) ∙ unnamed-of in
    ap₂ (λ (a b : Bool). a && b) bare later
    ∙ ap (λ (l : List Lease). not (any? named? l)) (sym (filter-no used x xs (ap not e))))
    (λ (e : empty? x ≡ false).
    ap (λ (b : Bool). unnamed? x.name && b) later
    ∙ not-or (unnamed? x.name) (any? named? (filter used xs))
    ∙ ap (λ (l : List Lease). not (any? named? l)) (sym (filter-yes used x xs (ap not e))))
    (bool_cases (empty? x))

pub fits_told : (t : LeaseTable) (b : Bool) → any? named? (used_leases t) ≡ b → fits_form First t ≡ not b
fits_told t b e = none_named t.leases ∙ ap not e

-- ROWS 18 AND 14, of one form

module _ (form : Form) (t : LeaseTable) (buffer : List ℕ) where
  pub names-lost : fits_form form t ≡ false → (refusal 18 0, buffer) ≡ saved_to form t buffer
  unfolding saved_to
  names-lost e = rw e

  pub no_room : fits_form form t ≡ true → length buffer < length (image_as form t) → (refusal 14 0, buffer) ≡ saved_to form t buffer
  unfolding saved_to
  no_room e small = rw (e, lt-ltb (length buffer) (length (image_as form t)) small)

  pub made : fits_form form t ≡ true → length (image_as form t) ≤ length buffer → (n : ℕ) → n ≡ length (image_as form t)
      → (l : List ℕ) → l ≡ image_as form t ++ drop (length (image_as form t)) buffer → (acceptance n 0, l) ≡ saved_to form t buffer
  unfolding saved_to
  made e fits n size l is =
      ap₂ (λ (k : ℕ) (ys : List ℕ). (acceptance k 0, ys)) size is
      ∙ rw (e, le-ltb (length buffer) (length (image_as form t)) fits)

-- The leases of an image that is the front of a buffer, and how long it is in the first form.
pub first-records : (t : LeaseTable) (l : List ℕ) (bytes : ℕ) → image_of t ≡ take bytes l → (pools : ℕ) → pools ≡ length (used_pools t) → Records l (head_size + pool_size * pools) (used_leases t)
first-records t l bytes image pools e = subst (λ (n : ℕ). Records l (head_size + pool_size * n) (used_leases t)) (sym e) (image-records t l bytes image)

pub first-size : (t : LeaseTable) (pools leases : ℕ) → pools ≡ length (used_pools t) → leases ≡ length (used_leases t) → head_size + pool_size * pools + first_lease_size * leases ≡ length (image_as First t)
first-size t pools leases p l = omega (arith, length-image-in First t, p, l)

-- A SAVE, where rows 5 and 20 do not apply

abbrev seen : Result Lent → Answer × List ℕ
seen r = (r.answer, r.reply)

module _ (h : Lent) (form : Form) (older : Bool) (buffer : List ℕ) where
  abbrev image : List ℕ
  image = image_as form (table_in h)

  abbrev served : Option ℕ → Result Lent
  served o = or_else o (λ number. refuse number 0 h buffer) (accept h image 0 buffer)

  by_rows_lem : (o : Option ℕ) → seen (served o) ≡ or_else o (λ number. (refusal number 0, buffer)) (acceptance (length image) 0, image ++ drop (length image) buffer)
  by_rows_lem none = refl
  by_rows_lem (some n) = refl

  later-only : sound (table_in h) ≡ true → too_many? (table_in h) older ≡ false → seen (save_from h form older buffer) ≡ saved_to form (table_in h) buffer
  unfolding save_from saved_to
  later-only s m =
      let later : Option ℕ = first_of (later_rows form (table_in h) buffer) in
      ap₂ (λ (b c : Bool). seen (served (cond (not b) (some 5) (cond c (some 20) later)))) s m ∙ by_rows_lem later

  save-unsound : sound (table_in h) ≡ false → (refusal 5 0, buffer) ≡ seen (save_from h form older buffer)
  unfolding save_from
  save-unsound e = rw e

  save-too-many : sound (table_in h) ≡ true → too_many? (table_in h) older ≡ true → (refusal 20 0, buffer) ≡ seen (save_from h form older buffer)
  unfolding save_from
  save-too-many s m =
      let later : Option ℕ = first_of (later_rows form (table_in h) buffer) in
      sym (ap₂ (λ (b c : Bool). seen (served (cond (not b) (some 5) (cond c (some 20) later)))) s m)

-- ON AN OPEN BOOK, which a save leaves as it was.

module _ (b : Book) (form : Form) (older : Bool) (buffer : List ℕ) where
  pub book-unsound : sound (table_in (lent_in b)) ≡ false → outcome (refusal 5 0) b buffer ≡ save_book b form older buffer
  book-unsound e = ap (λ (w : Answer × List ℕ). outcome w.0 b w.1) (save-unsound (lent_in b) form older buffer e)

  pub book-too-many : sound (table_in (lent_in b)) ≡ true → too_many? (table_in (lent_in b)) older ≡ true → outcome (refusal 20 0) b buffer ≡ save_book b form older buffer
  book-too-many s m = ap (λ (w : Answer × List ℕ). outcome w.0 b w.1) (save-too-many (lent_in b) form older buffer s m)

  pub book-saved : sound (table_in (lent_in b)) ≡ true → too_many? (table_in (lent_in b)) older ≡ false
      → (a : Answer) (l : List ℕ) → (a, l) ≡ saved_to form (table_in (lent_in b)) buffer → outcome a b l ≡ save_book b form older buffer
  book-saved s m a l e = ap (λ (w : Answer × List ℕ). outcome w.0 b w.1) (e ∙ sym (later-only (lent_in b) form older buffer s m))

-- What the check tells of it.
module _ (b : Book) (bytes : Bytes b.lent.image) (summary : ImageSummary) (i : SummaryIn (lent_in b) 0 (Some summary)) where
  abbrev t : LeaseTable
  t = table_in (lent_in b)

  pub is-sound : sound t ≡ true
  is-sound = sym i.sound

  given-bytes : Bytes (lent_in b).image
  given-bytes = subst Bytes (sym (same-buffers b).0) bytes

  summary-is : summary ≡ summary_at 0 t
  summary-is = same_Some summary (summary_at 0 t) (i.is ∙ ap (summary_of 0) (held-loads (lent_in b) is-sound))

  pub pools-are : summary.pools ≡ length (used_pools t)
  pools-are = ap (λ (x : ImageSummary). x.pools) summary-is

  pub leases-are : summary.leases ≡ length (used_leases t)
  leases-are = ap (λ (x : ImageSummary). x.leases) summary-is

  -- What row 20 tests.
  pub many-told : (older told : Bool) → told ≡ older && ltb older_slots summary.leases → too_many? t older ≡ told
  many-told older told e = ap (λ (n : ℕ). older && ltb older_slots n) (sym leases-are) ∙ sym e

  -- The image lies in its buffer, and is no longer than a full one.
  pub image-is : image_of t ≡ take b.lent.bytes b.lent.image
  image-is = held-image (lent_in b) is-sound given-bytes ∙ ap (λ (h : Lent). take h.bytes h.image) (sound-lent b is-sound)

  pub within : b.lent.bytes ≤ length b.lent.image
  within = subst (λ (h : Lent). h.bytes ≤ length h.image) (sound-lent b is-sound) (held-within (lent_in b) is-sound)

  pub few : length (take b.lent.bytes b.lent.image) ≤ full_image
  few = omega (arith, ap length image-is, longest-image t is-sound)

  pub measured : (summary.pools ≤ pool_slots) × (summary.leases ≤ lease_slots) × (head_size + pool_size * summary.pools + lease_size * summary.leases ≤ length b.lent.image)
  measured = let m = book-measured b 0 bytes summary i in (omega (arith, pools-are, (used-few t is-sound).0), m.few, m.within)
