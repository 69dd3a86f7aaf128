-- Laws of release in place: the rows that refuse it, and what it leaves of the leases.
-- Assumes nothing.
use Prim.Native.Nat.{ℕ, ◌≤◌}
use native.Mathlib.Omega.{arith}
use mathlib.Core.Path.{◌≡◌, refl, sym, ap, ap₂, ◌∙◌}
use mathlib.Core.Bool.{true, false, not, cond, ◌&&◌, true≢false}
use mathlib.Core.List.{List, [], map}
use lib.ListN.{length}
use lib.ListN.{take as up_to}
use lib.Dec.{eqb}
use Rattle.lists.specs.Lists.{filter}
use Rattle.option.specs.Values.{Entry}
use Rattle.option.specs.Contents.{entries_in}
use Rattle.table.specs.declared.Lease.{Lease}
use Rattle.table.specs.declared.LeaseTable.{LeaseTable}
use Rattle.table.specs.Table.{present}
use Rattle.image.specs.Image.{used_leases}
use Rattle.image_records.specs.Records.{Records, Ascending, ExpiredIn}
use Rattle.image_check.specs.declared.ImageSummary.{ImageSummary}
use Rattle.figures.specs.declared.FigureRow.{FigureRow}
use Rattle.image_figures.specs.Sheets.{sheet_of}
use Rattle.image_figures.proofs.AcceptedLaws.{strike-changed, stays-follow}
use Rattle.counts.specs.Counts.{counts_of}
use Rattle.std.specs.Prelude.{Result as Res, Ok, Err, Some, None}
use Rattle.ledger.specs.declared.{Accepted.Accepted, Refusal.Refusal}
use Rattle.ledger.specs.Answers.{answer_of}
use Rattle.ledger.proofs.RefusalLaws.{number-some}
use Rattle.ledger.specs.Ledger.{State, left, Call, Result, outcome, refusal, acceptance, accept, refusal_place, bad_selection?, for_take, named_by?, release_rows, release}
use Rattle.ledger.proofs.SoundKept.{release-sound}
use Rattle.call_spec.specs.ImageCalls.{Lent, lent, table_in, state_in, release_image}
use Rattle.call_spec.specs.Books.{Book, lent_in, release_book}
use Rattle.call_spec.proofs.StoreLaws.{row-refuses}
use Rattle.call_spec.proofs.OnImages.{follows-all}
use Rattle.call_spec.proofs.BookLaws.{refuses-book}
use Rattle.call_spec.proofs.PoolsKept.{release-pools}
use Rattle.call_rows.specs.Admission.{leases_from, Admitted, Admits, LeftIfAccepted}
use Rattle.call_rows.proofs.SettleLaws.{countable, settles}
use Rattle.call_rows.proofs.RowLaws.{RefusedBy, refused-admission, nothing-found, none_left, accepts}
use Rattle.call_entries.specs.EntryLeases.{Hold, changed_by}
use Rattle.call_entries.specs.EntryRows.{ReadsEntries}
use Rattle.call_entries.proofs.ManyLaws.{struck-left}
use Rattle.call_entries.proofs.EntriesLaws.{changed-prefix, changed-fewer}
use Rattle.call_entries.proofs.CallLaws.{EntriesCall, refused-entries, entries-passed, as_lent, on-lent, changed-many, changed-stand, changed-in-place}
use Rattle.call_release.specs.declared.Strikes.{Strikes}
use Rattle.call_release.specs.InnerStruck.{Struck, StruckBy, Removed}
use Rattle.call_release.specs.InnerReleasing.{found_by, eleven, Releasing}

-- WHAT IT LEAVES where no row applies: the leases that no entry names.
abbrev others : Lent → ℕ → Call → List Lease
others h now c = filter (λ x. not (named_by? c.client (entries_in c.option) x)) (present now (table_in h).leases)

abbrev settled_outcome : Lent → ℕ → Call → Result State
settled_outcome h now c = accept (left (state_in h) now (others h now c)) [] (length (found_by h now c)) c.reply

-- THE CALL, UP TO ROW 8

module _ (h : Lent) (now : ℕ) (c : Call) where
  -- A row that applies refuses it.
  by_row : RefusedBy (release_rows (state_in h) now c) h c (release_image h now c)
  unfolding release
  by_row = row-refuses h (release_rows (state_in h) now c) (refusal_place c.option) c.reply (settled_outcome h now c)

  pub release-refused : (e : Refusal) → Admits true false h now c.client (Err e) → outcome (answer_of (Err e)) h c.reply ≡ release_image h now c
  unfolding release_rows
  release-refused = refused-admission true false h now c for_take (eleven h now c) (release_image h now c) by_row

  module _ (summary : ImageSummary) (ad : Admits true false h now c.client (Ok summary)) (selected : bad_selection? c.selection ≡ false) where
    pub release-unread : (networks lengths : List ℕ) (e : Refusal) → ReadsEntries c.option (Err e) networks lengths → outcome (answer_of (Err e)) h c.reply ≡ release_image h now c
    unfolding release release_rows
    release-unread networks lengths e r = refused-entries false h now c (eleven h now c) summary ad selected networks lengths e r (settled_outcome h now c)

  -- Every row before 11 has passed.
  pub release-passed : (s : EntriesCall false h now c) → Releasing h now c s.summary (up_to s.count s.networks) (up_to s.count s.lengths)
  unfolding release_rows
  release-passed s = entries-passed false h now c (eleven h now c) s

-- ROW 11, AND WHAT IS FOUND

module _ (h : Lent) (now : ℕ) (c : Call) (summary : ImageSummary) (networks lengths : List ℕ) (t : Releasing h now c summary networks lengths) where
  o : Admitted true h now c.client summary
  o = t.admitted

  xs : List Lease
  xs = used_leases (table_in h)

  es : List Entry
  es = entries_in c.option

  -- Row 11: none is named, so nothing was written.
  pub release-nothing : (l₁ : List ℕ)
      → ((zs : List Lease) → Records h.image (leases_from summary) zs → summary.leases ≡ length zs → Ascending zs → (ns : List Entry) → Hold networks lengths ns
      → StruckBy h.image (leases_from summary) zs now c.client ns l₁ None)
      → outcome (refusal 11 0) (lent l₁ h.bytes h.figures) c.reply ≡ release_image h now c
  unfolding xs es o
  release-nothing l₁ strike =
      let none = strike xs o.records o.leases o.ascending es t.hold in
      let found-none : length (found_by h now c) ≡ 0 = ap (λ (l : List Lease). length (filter (named_by? c.client es) l)) o.present-used ∙ ap length none.0 in
      ap (λ (l : List ℕ). outcome (refusal 11 0) (lent l h.bytes h.figures) c.reply) none.1
      ∙ nothing-found h c (release_rows (state_in h) now c) (release_image h now c) (by_row h now c) (found_by h now c) t.left-rows found-none

  -- The leases that the entries name are struck.
  module _ (l₁ : List ℕ) (strikes : Strikes)
      (strike : (zs : List Lease) → Records h.image (leases_from summary) zs → summary.leases ≡ length zs → Ascending zs → (ns : List Entry) → Hold networks lengths ns
      → StruckBy h.image (leases_from summary) zs now c.client ns l₁ (Some strikes)) where
    done : Struck h.image (leases_from summary) xs now c.client es l₁ strikes
    unfolding xs es o
    done = strike xs o.records o.leases o.ascending es t.hold

    struck-is : strikes.count ≡ length (found_by h now c)
    unfolding xs es o
    struck-is = done.counted ∙ ap (λ (l : List Lease). length (filter (named_by? c.client es) l)) (sym o.present-used)

    -- Accepted: they are removed with the expired ones, and so are their rows.
    module _ (l₂ sheet : List ℕ) (n : ℕ)
        (finish : (zs : List Lease) → Records l₁ (leases_from summary) zs → summary.leases ≡ length zs → (summary.expired ≡ 0 → ExpiredIn now strikes.first strikes.last zs)
        → Removed l₁ h.figures (leases_from summary) zs now l₂ sheet n) where
      struck : Lease → Lease
      struck = changed_by now c.client 0 es

      ys : List Lease
      ys = map struck xs

      removed : Removed l₁ h.figures (leases_from summary) ys now l₂ sheet n
      unfolding xs es ys struck o
      removed =
          finish ys (changed-stand h now c summary o 0 es l₁ done.after_is) (changed-many h now c summary o 0 es l₁ done.after_is) (λ w. done.between (o.none-expired w))

      -- The rows are those that follow the leases that are left.
      rows_left : sheet ≡ sheet_of (left (state_in h) now (present now ys)).rows
      unfolding xs es ys struck o left
      rows_left =
          let t : LeaseTable = table_in h in
          let rows : List FigureRow = (state_in h).rows in
          let known = o.sheet-in refl in
          let same = changed-prefix now c.client 0 es in
          let fewer = changed-fewer now c.client 0 es in
          removed.rows rows known.whole
          ∙ ap sheet_of
          (strike-changed t o.sound rows known.matched now struck same fewer (length ys) (length (present now ys)) refl refl
          ∙ stays-follow t o.sound rows known.matched now struck same fewer)

      pub release-found : 1 ≤ strikes.count → outcome (acceptance 0 strikes.count) (lent l₂ n sheet) c.reply ≡ release_image h now c
      unfolding xs es ys struck o left release
      release-found k =
          let left-are : present now ys ≡ others h now c =
          struck-left now c.client 0 (omega arith) es xs ∙ ap (filter (λ (x : Lease). not (named_by? c.client es x))) (sym o.present-used) in
          let after : Result State = outcome (acceptance 0 strikes.count) (left (state_in h) now (present now ys)) c.reply in
          let after_is : after ≡ settled_outcome h now c =
          ap₂ (λ (l : List Lease) (m : ℕ). outcome (acceptance 0 m) (left (state_in h) now l) c.reply) left-are struck-is in
          accepts h (release_rows (state_in h) now c) (refusal_place c.option) c.reply (settled_outcome h now c)
          (none_left h c (release_rows (state_in h) now c) (release_image h now c) (by_row h now c) (found_by h now c) t.left-rows (λ w. omega (arith, k, struck-is, w))) after refl after_is (lent l₂ n sheet)
          (changed-in-place h now c summary o 0 es l₁ done.after_is l₂ n removed.finished (left (state_in h) now (present now ys)).rows sheet rows_left)

-- ON THE OPEN BOOK

module _ (b : Book) (now : ℕ) (c : Call) where
  -- A refusal leaves it as it was.
  refuses : (e : Refusal) → outcome (answer_of (Err e)) (lent_in b) c.reply ≡ release_image (lent_in b) now c → outcome (answer_of (Err e)) b c.reply ≡ release_book b now c
  refuses e is = refuses-book b (release_image (lent_in b) now c) (answer_of (Err e)) (lent_in b) c.reply is (number-some e)

  pub book-refused : (e : Refusal) → Admits true false (lent_in b) now c.client (Err e) → outcome (answer_of (Err e)) b c.reply ≡ release_book b now c
  book-refused e ad = refuses e (release-refused (lent_in b) now c e ad)

  pub book-unread : (summary : ImageSummary) → Admits true false (lent_in b) now c.client (Ok summary) → bad_selection? c.selection ≡ false → (networks lengths : List ℕ) (e : Refusal)
      → ReadsEntries c.option (Err e) networks lengths → outcome (answer_of (Err e)) b c.reply ≡ release_book b now c
  book-unread summary ad selected networks lengths e r = refuses e (release-unread (lent_in b) now c summary ad selected networks lengths e r)

  module _ (s : EntriesCall false (lent_in b) now c) where
    -- What it leaves, and the counts.
    module _ (a : Res Accepted Refusal) (g : Lent) (is : outcome (answer_of a) g c.reply ≡ release_image b.lent now c) where
      pub release-countable : LeftIfAccepted (answer_of a).number (lent g.image g.bytes []) s.summary.pools
      release-countable =
          countable b.lent (release (state_in b.lent) now c) (follows-all.releases b.lent now c) (release-sound (state_in b.lent) now c)
          (release-pools (state_in b.lent) now c) (answer_of a) g c.reply is s.summary.pools ((on-lent false b now c s).admits.1).pools

      pub release-settles : (counts : List (List ℕ)) → counts ≡ cond (eqb (answer_of a).number 0 && true) (counts_of (table_in (lent g.image g.bytes []))) b.counts
          → outcome (answer_of a) (record { lent = g; counts = counts }) c.reply ≡ release_book b now c
      release-settles counts left =
          settles b (as_lent false b now c s) (release (state_in b.lent) now c) (λ (h : Lent). release_image h now c) (follows-all.releases b.lent now c) (answer_of a) g c.reply is true counts left
          (λ z e. absurd (true≢false e))
