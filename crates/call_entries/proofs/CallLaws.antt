-- Laws of take and return as calls: the rows up to 8, and leases changed in place.
-- Assumes nothing.
use Prim.Native.Nat.{ℕ}
use native.Mathlib.Omega.{arith}
use mathlib.Core.Path.{◌≡◌, refl, sym, ap, subst, ◌∙◌}
use mathlib.Core.Bool.{Bool, true, false, not}
use mathlib.Core.List.{List, ◌∷◌, ◌++◌, map}
use lib.ListN.{length, take, length-map}
use Rattle.option.specs.Values.{Entry}
use Rattle.option.specs.Reading.{read_option}
use Rattle.option.specs.Contents.{suboptions, entries_in}
use Rattle.table.specs.declared.Lease.{Lease}
use Rattle.table.specs.Table.{present, store}
use Rattle.image.specs.Image.{used_leases}
use Rattle.image_check.specs.declared.ImageSummary.{ImageSummary}
use Rattle.image_records.specs.Records.{Records}
use Rattle.std.specs.Prelude.{Ok, Err}
use Rattle.ledger.specs.declared.Refusal.{Refusal}
use Rattle.ledger.specs.Answers.{refusal_number, answer_of}
use Rattle.ledger.proofs.RefusalLaws.{number-some}
use Rattle.figures.specs.declared.FigureRow.{FigureRow}
use Rattle.image_figures.specs.Sheets.{sheet_of}
use Rattle.ledger.specs.Ledger.{State, state, Call, Result, outcome, refusal, Row, first_of, by_rows, refusal_place, bad_selection?, option_rows, for_take}
use Rattle.ledger.proofs.RowLaws.{first-before}
use Rattle.call_spec.specs.ImageCalls.{Lent, lent, table_in, state_in, stored_in, settled}
use Rattle.call_spec.specs.Books.{Book, lent_in}
use Rattle.call_spec.proofs.StoreLaws.{row-refuses}
use Rattle.call_rows.specs.Admission.{admission_rows, leases_from, Admitted, Admits, Finished}
use Rattle.call_rows.proofs.RowLaws.{rows-without, admitted-rows}
use Rattle.call_rows.proofs.FinishLaws.{finished-in-place}
use Rattle.call_rows.proofs.SettleLaws.{admitted-lent}
use Rattle.call_entries.specs.EntryLeases.{changed_by, changed_in}
use Rattle.call_entries.specs.EntryRows.{entry_rows, EntriesRead, ReadsEntries}
use Rattle.call_entries.specs.EntryCalls.{Sized, Passed}
use Rattle.call_entries.proofs.EntriesLaws.{changed-holds}

-- THE ROWS UP TO 8

-- The call is admitted, its option 118 is not bad if it has one, and its entries are read.
pub record EntriesCall (short : Bool) (h : Lent) (now : ℕ) (c : Call) : Type 0 where
  pub summary : ImageSummary
  pub admits : Admits true short h now c.client (Ok summary)
  pub selected : bad_selection? c.selection ≡ false
  pub networks : List ℕ
  pub lengths : List ℕ
  pub count : ℕ
  pub reads : EntriesRead c.option networks lengths count

module _ (short : Bool) (h : Lent) (now : ℕ) (c : Call) (own : List Row) where
  abbrev rows : List Row
  rows = admission_rows true short h now c.client ++ (option_rows c ++ ((8, not (for_take (suboptions (read_option c.option)))) ∷ own))

  module _ (summary : ImageSummary) (ad : Admits true short h now c.client (Ok summary)) (selected : bad_selection? c.selection ≡ false) where
    same_rows : rows ≡ admission_rows true short h now c.client ++ (entry_rows c.option ++ own)
    same_rows =
        ap (λ (os : List Row). admission_rows true short h now c.client ++ (os ++ ((8, not (for_take (suboptions (read_option c.option)))) ∷ own))) (rows-without c selected)

    from-6 : first_of rows ≡ first_of (entry_rows c.option ++ own)
    from-6 = ap first_of same_rows ∙ admitted-rows true short h now c.client (entry_rows c.option ++ own) summary ad

    -- Rows 6, 7, 16 and 8.
    pub refused-entries : (networks lengths : List ℕ) (e : Refusal) → ReadsEntries c.option (Err e) networks lengths → (accepted : Result State)
        → outcome (answer_of (Err e)) h c.reply ≡ settled (by_rows rows (refusal_place c.option) (state_in h) c.reply accepted) h
    refused-entries networks lengths e r accepted =
        ap (λ (p : ℕ). outcome (refusal (refusal_number e) p) h c.reply) r.1
        ∙ row-refuses h rows (refusal_place c.option) c.reply accepted (refusal_number e) (number-some e) (from-6 ∙ first-before (entry_rows c.option) own (refusal_number e) r.0)

  module _ (s : EntriesCall short h now c) where
    pub entries-passed : Passed h now c (first_of rows) own s.summary (take s.count s.networks) (take s.count s.lengths)
    entries-passed = record { admitted = s.admits.1; left-rows = from-6 s.summary s.admits s.selected ∙ s.reads.passed own; hold = s.reads.hold; left = s.reads.left }

    pub entries-sized : Sized h s.summary (take s.count s.networks) (take s.count s.lengths)
    entries-sized =
        let o = s.admits.1 in
        let hold = s.reads.hold in
        let networks-many = ap length hold.0 ∙ length-map (entries_in c.option) (λ e. e.network) in
        let lengths-many = ap length hold.1 ∙ length-map (entries_in c.option) (λ e. e.length) in
        record {
          pools = o.few-pools;
          within = omega (arith, o.size, o.within);
          rows = omega (arith, (o.sheet-in refl).size, o.few-leases);
          columns = networks-many ∙ sym lengths-many;
          few = omega (arith, networks-many, s.reads.many, s.reads.few);
        }

-- ON THE OPEN BOOK: a call that is admitted is the one on what is lent.

module _ (short : Bool) (b : Book) (now : ℕ) (c : Call) (s : EntriesCall short (lent_in b) now c) where
  pub as_lent : lent_in b ≡ b.lent
  as_lent = admitted-lent true b now c.client s.summary s.admits.1

  abbrev pub on-lent : EntriesCall short b.lent now c
  on-lent = record {
    summary = s.summary;
    admits = subst (λ (h : Lent). Admits true short h now c.client (Ok s.summary)) as_lent s.admits;
    selected = s.selected;
    networks = s.networks;
    lengths = s.lengths;
    count = s.count;
    reads = s.reads;
  }

-- LEASES CHANGED IN PLACE: those that the entries name get this end.

module _ (h : Lent) (now : ℕ) (c : Call) (summary : ImageSummary) (o : Admitted true h now c.client summary) (expires : ℕ) (es : List Entry) (l : List ℕ)
    (is : l ≡ changed_in now c.client expires es h.image (leases_from summary) (used_leases (table_in h))) where
  abbrev ys : List Lease
  ys = map (changed_by now c.client expires es) (used_leases (table_in h))

  pub changed-many : summary.leases ≡ length ys
  changed-many = o.leases ∙ sym (length-map (used_leases (table_in h)) (changed_by now c.client expires es))

  pub changed-stand : Records l (leases_from summary) ys
  changed-stand = changed-holds now c.client expires h.image (leases_from summary) (used_leases (table_in h)) o.records (omega (arith, o.size, o.within, o.leases)) es l is

  -- Then the expired ones are removed, and the sheet is that of these rows.
  pub changed-in-place : (after : List ℕ) (n : ℕ) → Finished l (leases_from summary) ys now after n → (rows : List FigureRow) (sheet : List ℕ) → sheet ≡ sheet_of rows
      → lent after n sheet ≡ stored_in (state (store (table_in h) now (present now ys)) rows) h.bytes h
  changed-in-place after n finished = finished-in-place true h now c.client summary o ys (sym changed-many) l is after n finished
