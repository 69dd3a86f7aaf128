-- Laws of what the check of an image says: it says of the table what the table is, and where no row applies it admits the call.
-- Assumes nothing.
use Prim.Native.Nat.{ℕ, ◌+◌, ◌*◌, ◌≤◌, ◌<◌}
use native.Mathlib.Omega.{arith}
use mathlib.Core.Path.{◌≡◌, refl, sym, ap, subst, ◌∙◌}
use mathlib.Core.Logic.{⊎_elim}
use mathlib.Core.Bool.{Bool, true, false, not, cond, ◌&&◌, ◌||◌}
use mathlib.Core.List.{List, [], ◌∷◌}
use mathlib.Core.Option.{Option as Maybe, none, some}
use Rattle.std.specs.Prelude.{Option, Some, None, is_some}
use Rattle.std.proofs.lemmas.Option.{same_Some}
use lib.ListN.{length, take}
use lib.Seq.{length-take-le}
use lib.Dec.{leb, eqb}
use borrow.Author.Tests.{leb-false, lt-leb, le-leb, not-true}
use Rattle.lists.specs.Lists.{All, filter}
use Rattle.lists.proofs.Tests.{bool_cases, cond-true, cond-false}
use Rattle.lists.proofs.ListLaws.{all_map}
use Rattle.lists.proofs.FilterLaws.{filter-yes, filter-no, filter-pass}
use Rattle.table.specs.declared.Lease.{Lease}
use Rattle.table.specs.declared.LeaseTable.{LeaseTable}
use Rattle.table.specs.Table.{lease_slots, latest, empty?, present, sound}
use Rattle.table.proofs.TableLaws.{present-yes}
use Rattle.image.specs.Image.{full_image, head_size, pool_size, lease_size, used_pools, used_leases, image_of, loaded_table}
use Rattle.image.specs.Reading.{load_image}
use Rattle.image.proofs.ImageLaws.{image-loaded, length-image, longest-image, table-whole}
use Rattle.image_check.specs.declared.ImageSummary.{ImageSummary}
use Rattle.image_check.specs.ImageSummary.{summary_at, summary_of}
use Rattle.image_records.specs.Records.{Records}
use Rattle.image_records.proofs.SoundLaws.{sound-ascending, present-used, used-few, image-records}
use Rattle.figures.specs.Figures.{matches?}
use Rattle.ledger.specs.Sizes.{Byte, Bytes}
use Rattle.ledger.proofs.Counts.{up_to-all}
use Rattle.call_spec.specs.ImageCalls.{Lent, holds?, image_in, table_in, state_in}
use Rattle.call_spec.proofs.TableLaws.{holds_of, held-loads, held-room, held-within, held-image, blank-unsound, nothing-loads}
use Rattle.call_rows.specs.Admission.{leases_from, SheetIn, Admitted}
use Rattle.call_rows.specs.InnerSummary.{SummaryIn, Measured, SheetPasses}

abbrev due? : ℕ → Lease → Bool
due? now x = leb x.expires now

-- Where none has expired, all are present.
pub none-due : (now : ℕ) (xs : List Lease) → length (filter (due? now) xs) ≡ 0 → present now xs ≡ xs
unfolding present
none-due now [] z = refl
none-due now (x ∷ xs) z =
    ⊎_elim
    (λ (e : due? now x ≡ true). absurd (omega (arith, ap length (filter-yes (due? now) x xs e))))
    (λ (e : due? now x ≡ false).
    present-yes now x xs (leb-false x.expires now e)
    ∙ ap (λ (l : List Lease). x ∷ l) (none-due now xs (sym (ap length (filter-no (due? now) x xs e)) ∙ z)))
    (bool_cases (due? now x))

-- WHETHER IT IS SOUND

summary-sound : (now : ℕ) (o : Maybe LeaseTable) → ((t : LeaseTable) → o ≡ some t → sound t ≡ true) → is_some (summary_of now o) ≡ sound (loaded_table o)
summary-sound now none s = sym blank-unsound
summary-sound now (some t) s = sym (s t refl)

module _ (h : Lent) (now : ℕ) (b : Bytes h.image) (summary : Option ImageSummary) (is : summary ≡ summary_of now (load_image (image_in h))) where
  in_bytes : Bytes (image_in h)
  in_bytes = up_to-all Byte (cond (holds? h) h.bytes 0) h.image b

  pub summary-in : SummaryIn h now summary
  unfolding table_in
  summary-in = record {
    is = is;
    sound = ap is_some is ∙ summary-sound now (load_image (image_in h)) (λ t e. (image-loaded (image_in h) t in_bytes e).0);
  }

-- The two ways of a buffer.
module _ (h : Lent) (now : ℕ) (b : Bytes h.image) where
  pub summary-of-nothing : holds? h ≡ false → SummaryIn h now None
  summary-of-nothing k = summary-in h now b None (ap (summary_of now) (sym nothing-loads ∙ ap (λ (n : ℕ). load_image (take n h.image)) (sym (cond-false (holds? h) h.bytes 0 k))))

  pub summary-of-image : (summary : Option ImageSummary) → full_image ≤ length h.image → h.bytes ≤ length h.image → summary ≡ summary_of now (load_image (take h.bytes h.image)) → SummaryIn h now summary
  summary-of-image summary room within e =
      summary-in h now b summary (e ∙ ap (λ (n : ℕ). summary_of now (load_image (take n h.image))) (sym (cond-true (holds? h) h.bytes 0 (holds_of h room within))))

pub holds-not-full : (h : Lent) → length h.image < full_image → holds? h ≡ false
holds-not-full h short = ap (λ (x : Bool). x && leb h.bytes (length h.image)) (lt-leb full_image (length h.image) short)

pub holds-not-within : (h : Lent) → full_image ≤ length h.image → length h.image < h.bytes → holds? h ≡ false
holds-not-within h room short =
    ap (λ (x : Bool). x && leb h.bytes (length h.image)) (le-leb full_image (length h.image) room) ∙ lt-leb h.bytes (length h.image) short

-- WHERE THE TABLE IS SOUND

module _ (h : Lent) (now : ℕ) (b : Bytes h.image) (summary : ImageSummary) (i : SummaryIn h now (Some summary)) where
  abbrev t : LeaseTable
  t = table_in h

  s : sound t ≡ true
  s = sym i.sound

  summary-is : summary ≡ summary_at now t
  summary-is = same_Some summary (summary_at now t) (i.is ∙ ap (summary_of now) (held-loads h s))

  pub last-is : summary.last ≡ t.last
  last-is = ap (λ (x : ImageSummary). x.last) summary-is

  pools-are : summary.pools ≡ length (used_pools t)
  pools-are = ap (λ (x : ImageSummary). x.pools) summary-is

  leases-are : summary.leases ≡ length (used_leases t)
  leases-are = ap (λ (x : ImageSummary). x.leases) summary-is

  long : length (image_of t) ≡ h.bytes
  long = ap length (held-image h s b) ∙ length-take-le h.bytes h.image (held-within h s)

  size_is : leases_from summary + lease_size * summary.leases ≡ h.bytes
  size_is = omega (arith, pools-are, leases-are, long, length-image t)

  few : summary.leases ≤ lease_slots
  few = omega (arith, leases-are, (used-few t s).1)

  records-are : Records h.image (leases_from summary) (used_leases t)
  records-are = subst (λ (n : ℕ). Records h.image (head_size + pool_size * n) (used_leases t)) (sym pools-are) (image-records t h.image h.bytes (held-image h s b))

  pub measured : Measured summary h.image
  measured = record { few = few; within = omega (arith, size_is, held-within h s) }

  -- What row 15 says of the leases of the image it says of the table.
  pub passes-is : (sheet passes : Bool) → SheetPasses sheet summary h.image h.figures passes → passes ≡ (not sheet || matches? t.leases (state_in h).rows)
  passes-is sheet passes p =
      let used : All (λ x. empty? x ≡ false) (used_leases t) =
      all_map (λ (x : Lease) (e : not (empty? x) ≡ true). not-true (empty? x) e) (used_leases t) (filter-pass (λ x. not (empty? x)) t.leases) in
      p (used_leases t) records-are leases-are used
      ∙ ap (λ (u : LeaseTable). not sheet || matches? u.leases (state_in h).rows) (sym (table-whole t s))

  -- It is admitted, where the time, the client and the sheet are good.
  pub admits : (sheet : Bool) (client : ℕ) → eqb client 0 ≡ false → t.last ≤ now → now ≤ latest → (sheet ≡ true → SheetIn h) → Admitted sheet h now client summary
  admits sheet client named since early sheet-in =
      let gone : summary.expired ≡ length (filter (due? now) (used_leases t)) = ap (λ (x : ImageSummary). x.expired) summary-is in
      record {
        sound = s;
        some-client = named;
        since = since;
        early = early;
        room = held-room h s;
        within = held-within h s;
        image = held-image h s b;
        term = ap (λ (x : ImageSummary). x.term) summary-is;
        default = ap (λ (x : ImageSummary). x.default_length) summary-is;
        pools = pools-are;
        leases = leases-are;
        expired = gone;
        size = size_is;
        full = omega (arith, long, longest-image t s);
        few-pools = omega (arith, pools-are, (used-few t s).0);
        few-leases = few;
        records = records-are;
        ascending = sound-ascending t s;
        present-used = present-used t s now;
        none-expired = λ z. none-due now (used_leases t) (sym gone ∙ z);
        sheet-in = sheet-in;
      }
