-- Laws of load as a call: its rows, and that what is put is the image in the second form of the table that was read, with zeros after it.
-- Assumes nothing.
use Prim.Native.Nat.{ℕ, ◌+◌, ◌-◌, ◌*◌, ◌≤◌, ◌<◌}
use mathlib.Core.Path.{◌≡◌, refl, sym, ap, ap₂, subst, ◌∙◌}
use mathlib.Core.Bool.{true}
use mathlib.Core.List.{List, [], ◌++◌, map, append_assoc}
use mathlib.Core.Option.{none, some}
use native.Mathlib.Omega.{arith}
use lib.ListN.{length, take, drop, replicate}
use lib.Seq.{take_at}
use borrow.Author.Tests.{lt-ltb, le-ltb, eq-eqb, ne_eqb}
use Rattle.lists.specs.Lists.{All}
use Rattle.lists.specs.Put.{put}
use Rattle.lists.proofs.PutLaws.{put_front}
use Rattle.table.specs.declared.Lease.{Lease}
use Rattle.table.specs.declared.LeaseTable.{LeaseTable}
use Rattle.table.specs.Table.{lease_slots, sound, padded}
use Rattle.figures.specs.Figures.{untold_row}
use Rattle.image.specs.declared.Form.{Form}
use Rattle.image.specs.Image.{full_image, head_size, pool_size, lease_size, lease_size_in, used_pools, used_leases, image_as, image_of, fits_form, loaded_table}
use Rattle.image.specs.Reading.{form_of, load_saved}
use Rattle.image.proofs.ImageLaws.{image-loaded-in, length-image-in, length-image, longest-image, table-whole}
use Rattle.image_check.specs.declared.ImageSummary.{ImageSummary}
use Rattle.image_check.specs.ImageSummary.{summary_at}
use Rattle.image_records.specs.Records.{Records}
use Rattle.image_records.proofs.SoundLaws.{used-few, image-records}
use Rattle.image_figures.specs.Sheets.{figures_size, sheet_of}
use Rattle.ledger.specs.Ledger.{State, Result, outcome, refusal, acceptance}
use Rattle.counts.specs.Counts.{counts_of}
use Rattle.image_counts.specs.Standing.{Stands, SomeTable}
use Rattle.call_spec.specs.ImageCalls.{Lent, lent, table_in, over, stored, load_into}
use Rattle.call_spec.specs.Books.{Book, load_book}
use Rattle.call_spec.proofs.StoreLaws.{stores}
use Rattle.call_spec.proofs.OnImages.{loaded-holds}
use Rattle.call_spec.proofs.BookLaws.{refuses-book, accepts-book}

module _ (h : Lent) (saved : List ℕ) where
  pub load-unsound : load_saved saved ≡ none → outcome (refusal 5 0) h [] ≡ load_into h saved
  unfolding load_into
  load-unsound e = rw e

  module _ (t : LeaseTable) (e : load_saved saved ≡ some t) where
    pub load-small : length h.image < full_image → outcome (refusal 14 0) h [] ≡ load_into h saved
    unfolding load_into
    load-small small = rw (e, lt-ltb (length h.image) full_image small)

    pub load-other : full_image ≤ length h.image → (length h.figures ≡ figures_size → ⊥) → outcome (refusal 14 0) h [] ≡ load_into h saved
    unfolding load_into
    load-other room other = rw (e, le-ltb (length h.image) full_image room, ne_eqb (length h.figures) figures_size other)

    load-made : full_image ≤ length h.image → length h.figures ≡ figures_size
        → outcome (acceptance 0 0) (lent (stored t full_image h.image) (length (image_of t)) (sheet_of (map untold_row t.leases))) [] ≡ load_into h saved
    unfolding load_into
    load-made room size = rw (e, le-ltb (length h.image) full_image room, eq-eqb (length h.figures) figures_size size)

    module _ (bytes : All (λ b. b < 256) saved) where
      -- The saved bytes are the image in their form, in which no name is lost.
      read-sound : sound t ≡ true
      read-sound = (image-loaded-in (form_of saved) saved t bytes e).0

      module _ (form : Form) (f : form ≡ form_of saved) where
        pub read_fits : fits_form form t ≡ true
        read_fits = ap (λ (g : Form). fits_form g t) f ∙ (image-loaded-in (form_of saved) saved t bytes e).1.0

        pub read-image : image_as form t ≡ saved
        read-image = ap (λ (g : Form). image_as g t) f ∙ (image-loaded-in (form_of saved) saved t bytes e).1.1

      -- The check has counted its pools and leases.
      module _ (summary : ImageSummary) (is : summary ≡ summary_at 0 t) where
        pub leases-are : summary.leases ≡ length (used_leases t)
        leases-are = ap (λ (x : ImageSummary). x.leases) is

        pub pools-are : summary.pools ≡ length (used_pools t)
        pools-are = ap (λ (x : ImageSummary). x.pools) is

        pub saved-size : (form : Form) → form ≡ form_of saved → head_size + pool_size * summary.pools + lease_size_in form * summary.leases ≡ length saved
        saved-size form f =
            ap₂ (λ (p n : ℕ). head_size + pool_size * p + lease_size_in form * n) pools-are leases-are ∙ sym (length-image-in form t) ∙ ap length (read-image form f)

        pub read-within : (summary.leases ≤ lease_slots) × (head_size + pool_size * summary.pools + lease_size * summary.leases ≤ full_image)
        read-within = (omega (arith, leases-are, (used-few t read-sound).1), omega (arith, leases-are, pools-are, length-image t, longest-image t read-sound))

        -- The image is put and what follows is cleared.
        module _ (room : full_image ≤ length h.image) (n : ℕ) (size : n ≡ length (image_of t)) (l₁ l₂ : List ℕ) (e₁ : l₁ ≡ image_of t ++ drop (length (image_of t)) h.image)
            (e₂ : l₂ ≡ put l₁ n (replicate (full_image - n) 0)) where
          is-stored : l₂ ≡ stored t full_image h.image
          is-stored =
              stores t read-sound h.image room full_image n room size l₁ l₂ (e₁ ∙ sym (put_front (image_of t) h.image (omega (arith, longest-image t read-sound)))) e₂

          front : image_of t ≡ take (length (image_of t)) l₂
          unfolding stored
          front =
              let xs : List ℕ = image_of t in
              let zs : List ℕ = replicate (full_image - length xs) 0 in
              let rest : List ℕ = drop (length (over xs full_image)) h.image in
              sym (ap (take (length xs)) (is-stored ∙ append_assoc xs zs rest) ∙ take_at xs (zs ++ rest) (length xs) refl)

          -- So the table can be counted in it.
          pub read-stands : Stands t l₂ summary.pools summary.leases
          read-stands = record { sound-table = read-sound; image-is = front; pools-are = pools-are; leases-are = leases-are }

          pub read_some : SomeTable l₂ summary.pools summary.leases
          read_some = record { table = t; stands = read-stands }

          read-records : Records l₂ (head_size + pool_size * summary.pools) (used_leases t)
          read-records = subst (λ (k : ℕ). Records l₂ (head_size + pool_size * k) (used_leases t)) (sym pools-are) (image-records t l₂ (length (image_of t)) front)

          -- What fills the sheet is of all slots of the table.
          pub load-filled : (f : List ℕ) → ((xs : List Lease) → Records l₂ (head_size + pool_size * summary.pools) xs → summary.leases ≡ length xs → f ≡ sheet_of (map untold_row (padded xs)))
              → f ≡ sheet_of (map untold_row t.leases)
          load-filled f fills = fills (used_leases t) read-records leases-are ∙ ap (λ (u : LeaseTable). sheet_of (map untold_row u.leases)) (sym (table-whole t read-sound))

          pub load-accepted : length h.figures ≡ figures_size → (f : List ℕ) → f ≡ sheet_of (map untold_row t.leases) → outcome (acceptance 0 0) (lent l₂ n f) [] ≡ load_into h saved
          load-accepted sheet f filled =
              ap₂ (λ (l : List ℕ) (k : ℕ). outcome (acceptance 0 0) (lent l k f) []) is-stored size
              ∙ ap (λ (s : List ℕ). outcome (acceptance 0 0) (lent (stored t full_image h.image) (length (image_of t)) s) []) filled
              ∙ load-made room sheet

-- ON AN OPEN BOOK

module _ (b : Book) (saved : List ℕ) where
  pub load-refuses : (number : ℕ) → (number ≡ 0 → ⊥) → outcome (refusal number 0) b.lent [] ≡ load_into b.lent saved → outcome (refusal number 0) b [] ≡ load_book b saved
  load-refuses number k is = refuses-book b (load_into b.lent saved) (refusal number 0) b.lent [] is k

  -- What is left holds the table that was read, and these are its counts.
  pub load-accepts : All (λ x. x < 256) saved → (g : Lent) → outcome (acceptance 0 0) g [] ≡ load_into b.lent saved → (counts : List (List ℕ)) → counts ≡ counts_of (loaded_table (load_saved saved))
      → outcome (acceptance 0 0) (record { lent = g; counts = counts }) [] ≡ load_book b saved
  load-accepts bytes g is counts e =
      let accepted : (load_into b.lent saved).answer.number ≡ 0 = ap (λ (w : Result Lent). w.answer.number) (sym is) in
      let holds : table_in g ≡ loaded_table (load_saved saved) = ap (λ (w : Result Lent). table_in w.state) is ∙ ap (λ (s : State). s.table) (loaded-holds b.lent saved bytes accepted) in
      accepts-book b (load_into b.lent saved) (acceptance 0 0) g [] is refl counts (e ∙ ap counts_of (sym holds))
