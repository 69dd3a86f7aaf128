-- Laws of take in place: the rows that refuse it, and what renewing leaves.
-- Assumes nothing.
use Prim.Native.Nat.{ℕ, ◌+◌, ◌*◌, ◌≤◌, ◌<◌}
use native.Mathlib.Omega.{arith}
use mathlib.Core.Path.{◌≡◌, refl, sym, ap, ap₂, subst, ◌∙◌}
use mathlib.Core.Bool.{Bool, true, false, cond, ◌&&◌}
use mathlib.Core.List.{List, [], ◌∷◌, ◌++◌, map}
use mathlib.Core.Option.{Option, none, some}
use lib.ListN.{length, get_or, drop, length-append, take-append-drop}
use lib.ListN.{take as up_to}
use lib.Dec.{leb, ltb, eqb}
use borrow.Author.Tests.{eqb-true, eqb-false, ltb-false, not-false}
use Rattle.lists.specs.Put.{put}
use Rattle.lists.proofs.Tests.{and-to}
use Rattle.lists.proofs.PutLaws.{put-nothing, put_front, put-more}
use Rattle.option.specs.Values.{longest_option, Entry, information}
use Rattle.option.specs.Selection.{selection_size, selection?}
use Rattle.option.specs.Contents.{entries_in}
use Rattle.option.specs.Writing.{option_head, information_head, entries_bytes, option_bytes}
use Rattle.table.specs.declared.Lease.{Lease}
use Rattle.table.specs.Table.{addresses, pool_slots, lease_slots, prefix_of, pools_of, present, store}
use Rattle.table.proofs.TableLaws.{sound-term}
use Rattle.image.specs.Image.{lease_size, used_leases}
use Rattle.image_records.specs.Records.{Records, Ascending}
use Rattle.image_check.specs.declared.ImageSummary.{ImageSummary}
use Rattle.option_reply.specs.Reply.{most_entries, reply_bytes, entry_of}
use Rattle.option_reply.proofs.ReplyLaws.{entries_none, reply-length, heads-last}
use Rattle.figures.specs.declared.FigureRow.{FigureRow}
use Rattle.figures.specs.Figures.{taken}
use Rattle.figures.specs.Inner.{leases_match?, with_each, filing, struck_rows}
use Rattle.image_figures.specs.Sheets.{sheet_of}
use Rattle.image_figures.proofs.AcceptedLaws.{rows-matched, strike-filed, nothing-filed, take-follows}
use Rattle.counts.specs.Counts.{counts_of}
use Rattle.std.specs.Prelude.{Option as Maybe, Result as Res, Ok, Err, IfOk}
use Rattle.ledger.specs.declared.{Accepted.Accepted, Answer.Answer, Refusal.Refusal}
use Rattle.ledger.specs.declared.Refusal.TheVariants.{NoSuchPool}
use Rattle.ledger.specs.Answers.{answer_of}
use Rattle.ledger.proofs.RefusalLaws.{number-some}
use Rattle.ledger.specs.Ledger.{State, state, Call, Row, Result, outcome, refusal, acceptance, accept, first_of, refusal_place, least_reply, least_for, bad_selection?, ground_rows, nothing?, narrowed, returned, for_take, found, named_by?, renew, renew_named, renewed, take_rows}
use Rattle.ledger.specs.Ledger.{take as take_of}
use Rattle.ledger.proofs.RowLaws.{served-or-not}
use Rattle.ledger.proofs.GroundLaws.{returned-short}
use Rattle.ledger.proofs.SoundKept.{take-sound}
use Rattle.call_spec.specs.ImageCalls.{Lent, lent, table_in, state_in, take_image, carried_if}
use Rattle.call_spec.specs.Books.{Book, lent_in, take_book}
use Rattle.call_rows.specs.Admission.{leases_from, selection_read, Admitted, Admits, Finished, LeftIfAccepted}
use Rattle.call_rows.specs.StruckRows.{struck_if}
use Rattle.call_spec.proofs.StoreLaws.{row-refuses}
use Rattle.call_spec.proofs.OnImages.{follows-all}
use Rattle.call_spec.proofs.BookLaws.{refuses-book}
use Rattle.call_spec.proofs.PoolsKept.{take-pools}
use Rattle.call_rows.proofs.SettleLaws.{admitted-counts, unmoved, countable, settles}
use Rattle.call_rows.proofs.RowLaws.{RefusedBy, refused-admission, refused-selection, admitted-short, no-ground, ground-left, nothing-found, none_left, accepts}
use Rattle.call_rows.proofs.SelectionLaws.{selection-bad, selection-good}
use Rattle.call_rows.proofs.StruckLaws.{struck-is}
use Rattle.call_ground.specs.declared.Ground.{Ground}
use Rattle.call_ground.specs.Ground.{leases_in, Grounds, returning, MayReturn}
use Rattle.call_ground.proofs.GroundsLaws.{grounds-count, grounds-records, grounds-ascending}
use Rattle.call_ground.proofs.ReturnLaws.{returning-refused}
use Rattle.call_entries.specs.EntryLeases.{Hold, changed_by, changed_in}
use Rattle.call_entries.specs.EntryCalls.{Passed}
use Rattle.call_entries.specs.EntryRows.{EntriesRead, ReadsEntries}
use Rattle.call_entries.proofs.ManyLaws.{renewed-present, renewed-all, found_nothing}
use Rattle.call_entries.proofs.EntriesLaws.{unchanged, changed-prefix, changed-client, changed-fewer}
use Rattle.call_entries.proofs.CallLaws.{EntriesCall, refused-entries, entries-passed, entries-sized, as_lent, on-lent, changed-many, changed-stand, changed-in-place}
use Rattle.call_take.specs.declared.Renewal.{Renewal}
use Rattle.call_take.specs.InnerPlaces.{ToFile}
use Rattle.call_take.specs.InnerRenewed.{Renewed}
use Rattle.call_take.specs.InnerTaking.{renewal_of, TakeSized, usable_in, found_by, eleven, Taking}
use Rattle.call_take.proofs.OnGround.{found-on-ground, changed-on-ground, filed-on-ground, rows-on-ground, rows_before}

-- WHAT IT LEAVES where no row applies.

-- All leases after it, and with them the rows.
abbrev leases_after : Lent → ℕ → Call → List Lease
leases_after h now c = renew_named now (table_in h).term c.client (usable_in h c) (present now (table_in h).leases)

abbrev state_with : Lent → ℕ → Call → List Lease → State
state_with h now c zs = let u = store (table_in h) now zs in state u (taken now c.client (usable_in h c) (table_in h) (state_in h).rows u)

abbrev settled_outcome : Lent → ℕ → Call → Result State
settled_outcome h now c =
    let gs = found_by h now c in
    accept (renewed (state_in h) now c) (option_bytes (information false false (map entry_of gs) ∷ []) ++ returned c.selection) (length gs) c.reply

-- The bytes that the ledger writes, and how many they are.
outcome-is : (s : State) (gs : List Lease) (reply more : List ℕ) → length gs ≤ most_entries → least_reply + length more ≤ length reply
    → accept s (option_bytes (information false false (map entry_of gs) ∷ []) ++ more) (length gs) reply
    ≡ outcome (acceptance (7 * length gs + 6 + length more) (length gs)) s (put reply 0 (reply_bytes false false gs ++ more))
unfolding reply_bytes
outcome-is s gs reply more few room =
    let w : List ℕ = reply_bytes false false gs in
    let size : length (w ++ more) ≡ 7 * length gs + 6 + length more = omega (arith, length-append w more, reply-length false false gs) in
    let fits : length (w ++ more) ≤ length reply = omega (arith, size) in
    ap₂ (λ (k : ℕ) (l : List ℕ). outcome (acceptance k (length gs)) s l) size (sym (put_front (w ++ more) reply fits))

-- And those that the code writes, option 118 after option 220.
returning-accepted : (o : Option (List ℕ)) (written count : ℕ) (h : Lent) (reply : List ℕ)
    → returning o (outcome (acceptance written count) h reply) ≡ outcome (acceptance (written + length (returned o)) count) h (put reply written (returned o))
returning-accepted none written count h reply =
    let same : written ≡ written + 0 = omega arith in
    ap₂ (λ (k : ℕ) (l : List ℕ). outcome (acceptance k count) h l) same (sym (put-nothing reply written))
returning-accepted (some s) written count h reply = refl

-- Option 118 has room after option 220 where row 1 does not apply.
room_for : (o : Option (List ℕ)) → bad_selection? o ≡ false → least_reply + length (returned o) ≤ least_for o
room_for none e = omega arith
room_for (some s) e = omega (arith, returned-short (some s) e)

-- One that is not bad has six bytes.
selection-size : (s : List ℕ) → bad_selection? (some s) ≡ false → length s ≡ selection_size
unfolding selection?
selection-size s e =
    let a = (and-to (leb 2 (length s)) _ (not-false (selection? s) e)).1 in
    let b = (and-to (eqb (get_or s 0 0) 118) _ a).1 in
    let d = and-to (eqb (get_or s 1 0 + 2) (length s)) (eqb (get_or s 1 0) 4) b in
    omega (arith, eqb-true (get_or s 1 0 + 2) (length s) d.0, eqb-true (get_or s 1 0) 4 d.1)

-- THE CALL, UP TO ROW 19

module _ (h : Lent) (now : ℕ) (c : Call) where
  -- Row 1, and the call's own rows after 8.
  abbrev pub short : Bool
  short = ltb (length c.reply) (least_for c.selection)

  abbrev own : List Row
  own = ground_rows (table_in h) c ++ eleven h now c

  -- A row that applies refuses it.
  by_row : RefusedBy (take_rows (state_in h) now c) h c (take_image h now c)
  unfolding take_of
  by_row = row-refuses h (take_rows (state_in h) now c) (refusal_place c.option) c.reply (settled_outcome h now c)

  pub take-refused : (e : Refusal) → Admits true short h now c.client (Err e) → outcome (answer_of (Err e)) h c.reply ≡ take_image h now c
  unfolding take_rows
  take-refused = refused-admission true short h now c for_take own (take_image h now c) by_row

  module _ (summary : ImageSummary) (ad : Admits true short h now c.client (Ok summary)) where
    pub take-bad : (e : Refusal) → Err e ≡ selection_read c.selection → outcome (answer_of (Err e)) h c.reply ≡ take_image h now c
    unfolding take_rows
    take-bad e is =
        let bad = selection-bad c.selection e is in
        ap (λ (r : Refusal). outcome (answer_of (Err r)) h c.reply) bad.0 ∙ refused-selection true short h now c for_take own (take_image h now c) by_row summary ad bad.1

    pub take-unread : (address : Maybe ℕ) → Ok address ≡ selection_read c.selection → (networks lengths : List ℕ) (e : Refusal) → ReadsEntries c.option (Err e) networks lengths
        → outcome (answer_of (Err e)) h c.reply ≡ take_image h now c
    unfolding take_of take_rows
    take-unread address is networks lengths e r = refused-entries short h now c own summary ad (selection-good c.selection address is) networks lengths e r (settled_outcome h now c)

    -- The call whose entries are read.
    abbrev pub entries_call : (address : Maybe ℕ) → Ok address ≡ selection_read c.selection → (networks lengths : List ℕ) (count : ℕ) → EntriesRead c.option networks lengths count → EntriesCall short h now c
    entries_call address is networks lengths count reads =
        record { summary = summary; admits = ad; selected = selection-good c.selection address is; networks = networks; lengths = lengths; count = count; reads = reads }

  module _ (s : EntriesCall short h now c) where
    -- What `renewal_of` requires.
    pub take-timed : (s.summary.pools ≤ pool_slots) × (now + s.summary.term < addresses)
    take-timed =
        let o = s.admits.1 in
        let term = sound-term (table_in h) o.sound in
        (o.few-pools, omega (arith, o.early, term.1, o.term))

    take-room : least_reply + length (returned c.selection) ≤ length c.reply
    take-room =
        let least = ltb-false (length c.reply) (least_for c.selection) (admitted-short true short h now c.client [] s.summary s.admits) in
        omega (arith, least, room_for c.selection s.selected)

    -- What `return_selection` requires, of an answer that option 220 has room for.
    pub take-returns : (selected : Bool) (w : List ℕ) → c.selection ≡ carried_if selected w → (a : Answer) → a.bytes ≤ longest_option → (reply : List ℕ) → length reply ≡ length c.reply
        → MayReturn a selected w reply
    take-returns selected w is a fits reply same z carried =
        let it : c.selection ≡ some w = is ∙ ap (λ (b : Bool). carried_if b w) carried in
        let six : length w ≡ selection_size = selection-size w (ap bad_selection? (sym it) ∙ s.selected) in
        (six, omega (arith, fits, same, six, take-room, ap (λ (o : Option (List ℕ)). length (returned o)) it), fits)

    up-to-8 : Passed h now c (first_of (take_rows (state_in h) now c)) own s.summary (up_to s.count s.networks) (up_to s.count s.lengths)
    unfolding take_rows
    up-to-8 = entries-passed short h now c own s

    -- Row 19.
    pub take-groundless : nothing? (pools_of (narrowed (table_in h) c)) ≡ true → outcome (refusal 19 0) h c.reply ≡ take_image h now c
    take-groundless = no-ground h c (take_rows (state_in h) now c) (take_image h now c) by_row (eleven h now c) up-to-8.left-rows

    module _ (area : Ground) (g : Grounds h c s.summary area) where
      -- Every row before 11 has passed.
      pub take-passed : Taking h now c s.summary area (up_to s.count s.networks) (up_to s.count s.lengths)
      take-passed = record {
        passed = record {
          admitted = up-to-8.admitted;
          left-rows = ground-left h c (take_rows (state_in h) now c) (take_image h now c) by_row (eleven h now c) up-to-8.left-rows g.row;
          hold = up-to-8.hold;
          left = up-to-8.left;
        };
        grounds = g;
        room = take-room;
      }

      pub take-sized : (renewal : Renewal) → renewal ≡ renewal_of c.client now s.summary area
          → TakeSized h renewal c.reply (up_to s.count s.networks) (up_to s.count s.lengths)
      take-sized renewal is =
          let o = s.admits.1 in
          let term = sound-term (table_in h) o.sound in
          let sized = entries-sized short h now c own s in
          subst (λ (r : Renewal). TakeSized h r c.reply (up_to s.count s.networks) (up_to s.count s.lengths)) (sym is)
          (record {
            head = omega arith;
            within = sized.within;
            few-leases = o.few-leases;
            part = g.few-leases;
            rows = sized.rows;
            columns = sized.columns;
            few = sized.few;
            room = omega (arith, take-room);
            later = omega (arith, term.0, o.term);
          })

-- ROW 11, AND WHAT IS FOUND

-- What the functions that it calls ensure, by the renewal: `renew_named`, `file_named`, `strike_expired` and `remove_expired`.
abbrev Renews : Lent → Call → List ℕ → List ℕ → List ℕ → List (Maybe ℕ) → List ℕ → ℕ → Renewal → Type 0
Renews h c networks lengths image places replied shown r = (zs : List Lease) → Records h.image (r.from + lease_size * r.first) zs → r.leases ≡ length zs → Ascending zs
    → (ns : List Entry) → Hold networks lengths ns
    → Renewed h.image (r.from + lease_size * r.first) zs r.expiry.time r.expiry.client r.expiry.expires ns c.reply image places replied shown

abbrev Files : Lent → Call → List (Maybe ℕ) → List ℕ → Renewal → Type 0
Files h c places figures r = (time client : ℕ) (zs : List Lease) (ns : List Entry) (before rows : List FigureRow)
    → ToFile c.option places h.figures r.first time client zs ns before rows
    → figures ≡ sheet_of (before ++ with_each (filing time client ns) zs rows)

abbrev Strikes : List ℕ → List ℕ → List ℕ → Renewal → Type 0
Strikes image figures sheet r = (rows : List FigureRow) (zs : List Lease) → figures ≡ sheet_of rows → Records image r.from zs → r.n ≡ length zs
    → sheet ≡ sheet_of (struck_if r.expired r.expiry.time zs rows)

abbrev Finishes : List ℕ → List ℕ → ℕ → Renewal → Type 0
Finishes image after n r = (zs : List Lease) → Records image r.from zs → r.n ≡ length zs → (r.expired ≡ 0 → present r.expiry.time zs ≡ zs)
    → Finished image r.from zs r.expiry.time after n

module _ (h : Lent) (now : ℕ) (c : Call) (summary : ImageSummary) (area : Ground) (networks lengths : List ℕ) (t : Taking h now c summary area networks lengths) where
  o : Admitted true h now c.client summary
  o = t.passed.admitted

  xs : List Lease
  xs = used_leases (table_in h)

  -- The leases on the ground: all entries, and those that lie there, name the same of them.
  mid : List Lease
  mid = leases_in area (used_leases (table_in h))

  there : ℕ
  there = leases_from summary + lease_size * area.first

  es : List Entry
  es = usable_in h c

  until : ℕ
  until = now + summary.term

  rows : List FigureRow
  rows = (state_in h).rows

  rows-match : leases_match? xs rows ≡ true
  unfolding xs rows o
  rows-match = (rows-matched (table_in h) o.sound (state_in h).rows (o.sheet-in refl).matched).leases

  -- The leases that the entries name are renewed and shown.
  module _ (renewal : Renewal) (is : renewal ≡ renewal_of c.client now summary area) (l₁ : List ℕ) (places : List (Maybe ℕ)) (reply₁ : List ℕ) (shown : ℕ)
      (renew : Renews h c networks lengths l₁ places reply₁ shown renewal) where
    done : Renewed h.image there mid now c.client until (entries_in c.option) c.reply l₁ places reply₁ shown
    unfolding mid until o there
    done =
        subst (Renews h c networks lengths l₁ places reply₁ shown) is renew mid (grounds-records h c summary area t.grounds now c.client o)
        (sym (grounds-count h c summary area t.grounds now c.client o)) (grounds-ascending h c summary area t.grounds now c.client o) (entries_in c.option) t.passed.hold

    gs : List Lease
    gs = found_by h now c

    found_here : found c.client (present now mid) (entries_in c.option) ≡ found c.client (present now xs) es
    unfolding xs mid es o
    found_here = found-on-ground h now c summary area t.grounds o

    gs-are : found c.client (present now xs) es ≡ gs
    unfolding xs es gs o
    gs-are = ap (λ (l : List Lease). found c.client l es) (sym o.present-used)

    shown-is : shown ≡ length gs
    shown-is = done.counted ∙ ap length (found_here ∙ gs-are)

    entries-are : reply₁ ≡ put c.reply 6 (entries_bytes (map entry_of gs))
    entries-are = done.replied-is ∙ ap (λ (l : List Lease). put c.reply 6 (entries_bytes (map entry_of l))) (found_here ∙ gs-are)

    -- Of all leases those on the ground that are named are changed.
    after_is : l₁ ≡ changed_in now c.client until es h.image (leases_from summary) xs
    unfolding xs mid es there o
    after_is = changed-on-ground h now c summary area t.grounds o until l₁ done.after_is

    -- Row 11: there are none, so nothing was written.
    pub take-nothing : shown ≡ 0 → returning c.selection (outcome (refusal 11 0) (lent l₁ h.bytes h.figures) reply₁) ≡ take_image h now c
    unfolding xs es gs o
    take-nothing k =
        let no_one = found_nothing now c.client xs es (ap length gs-are ∙ sym shown-is ∙ k) in
        returning-refused c.selection (outcome (refusal 11 0) (lent l₁ h.bytes h.figures) reply₁) (λ e. omega arith)
        ∙ ap₂ (λ (l m : List ℕ). outcome (refusal 11 0) (lent l h.bytes h.figures) m)
        (after_is ∙ unchanged now c.client until h.image (leases_from summary) xs o.records es no_one)
        (entries-are ∙ entries_none gs c.reply (sym shown-is ∙ k))
        ∙ nothing-found h c (take_rows (state_in h) now c) (take_image h now c) (by_row h now c) gs t.passed.left-rows (sym shown-is ∙ k)

    -- Accepted: the figures are filed, the expired leases and their rows are removed, and the heads stand before the entries.
    module _ (ahead : renewal.expiry.time < renewal.expiry.expires) (figures₁ : List ℕ) (file : Files h c places figures₁ renewal)
        (l₂ sheet : List ℕ) (n : ℕ) (strike : Strikes l₁ figures₁ sheet renewal) (finish : Finishes l₁ l₂ n renewal) where
      -- The rows of the leases, filed.
      filed_rows : List FigureRow
      filed_rows = with_each (filing now c.client es) xs rows

      filed-are : figures₁ ≡ sheet_of filed_rows
      unfolding xs mid es filed_rows o rows
      filed-are =
          let first : ℕ = area.first in
          subst (Files h c places figures₁) is file now c.client mid (entries_in c.option) (up_to first rows) (drop first rows)
          (record {
            left = t.passed.left;
            places-are = done.places-are;
            ascending = grounds-ascending h c summary area t.grounds now c.client o;
            behind = rows_before h now c summary area t.grounds o rows rows-match;
            sheet-is = (o.sheet-in refl).whole ∙ ap sheet_of (sym (take-append-drop first rows));
            matched = rows-on-ground h now c summary area t.grounds o rows rows-match;
          })
          ∙ ap sheet_of (filed-on-ground h now c summary area t.grounds o rows rows-match)

      later : now < until
      unfolding until
      later = subst (λ (r : Renewal). r.expiry.time < r.expiry.expires) is ahead

      change : Lease → Lease
      change = changed_by now c.client until es

      ys : List Lease
      ys = map change xs

      stand : Records l₁ (leases_from summary) ys
      unfolding xs es ys change o until
      stand = changed-stand h now c summary o until es l₁ after_is

      many : summary.leases ≡ length ys
      unfolding xs es ys change o until
      many = changed-many h now c summary o until es l₁ after_is

      none-ended : summary.expired ≡ 0 → present now ys ≡ ys
      unfolding xs es ys change o until
      none-ended g = renewed-all now c.client until later es xs (o.none-expired g)

      finished : Finished l₁ (leases_from summary) ys now l₂ n
      finished = subst (Finishes l₁ l₂ n) is finish ys stand many none-ended

      struck : sheet ≡ sheet_of (struck_if summary.expired now ys filed_rows)
      struck = subst (Strikes l₁ figures₁ sheet) is strike filed_rows ys filed-are stand many

      rows_left : sheet ≡ sheet_of (state_with h now c (present now ys)).rows
      unfolding xs es ys change o rows filed_rows until
      rows_left =
          let is = (o.sheet-in refl).matched in
          let someone = eqb-false c.client 0 o.some-client in
          let same = changed-prefix now c.client until es in
          let fewer = changed-fewer now c.client until es in
          let keeps = changed-client now c.client until es in
          struck
          ∙ ap sheet_of
          (struck-is summary.expired now ys filed_rows (struck_rows lease_slots now ys filed_rows)
          (λ z. nothing-filed (table_in h) o.sound rows is now change same fewer c.client someone es keeps (none-ended z))
          (strike-filed (table_in h) o.sound rows is now change same fewer c.client someone es keeps (length ys) (length (present now ys)) refl refl)
          ∙ take-follows (table_in h) o.sound rows is now change same fewer c.client someone es keeps)

      pub take_found : (shown ≡ 0 → ⊥) → shown ≤ most_entries → (reply₂ : List ℕ) (written : ℕ) → written ≡ 7 * shown + 6
          → reply₂ ≡ put (put reply₁ 0 (option_head (7 * shown + 4))) 3 (information_head (7 * shown + 1) false false)
          → returning c.selection (outcome (acceptance written shown) (lent l₂ n sheet) reply₂) ≡ take_image h now c
      unfolding xs es ys change gs until o take_of renewed
      take_found k few reply₂ written size heads =
          let more : List ℕ = returned c.selection in
          let left-are : present now ys ≡ leases_after h now c =
          renewed-present now c.client until later es xs
          ∙ ap (λ (m : ℕ). renew_named now m c.client es (present now xs)) o.term
          ∙ ap (renew_named now (table_in h).term c.client es) (sym o.present-used) in
          let option-whole : reply₂ ≡ put c.reply 0 (reply_bytes false false gs) = heads-last false false gs shown shown-is c.reply reply₁ reply₂ entries-are heads in
          let whole : put reply₂ written more ≡ put c.reply 0 (reply_bytes false false gs ++ more) =
          put-more c.reply reply₂ (put reply₂ written more) 0 (reply_bytes false false gs) written more option-whole (omega (arith, size, shown-is, reply-length false false gs)) refl in
          let written_is : written + length more ≡ 7 * length gs + 6 + length more = omega (arith, size, shown-is) in
          let after : Result State = outcome (acceptance (written + length more) shown) (state_with h now c (present now ys)) (put reply₂ written more) in
          let after-are : after ≡ settled_outcome h now c =
          ap₂ (λ (l : List Lease) (m : List ℕ). outcome (acceptance (written + length more) shown) (state_with h now c l) m) left-are whole
          ∙ ap₂ (λ (x y : ℕ). outcome (acceptance x y) (state_with h now c (leases_after h now c)) (put c.reply 0 (reply_bytes false false gs ++ more))) written_is shown-is
          ∙ sym (outcome-is (renewed (state_in h) now c) gs c.reply more (omega (arith, shown-is)) t.room) in
          returning-accepted c.selection written shown (lent l₂ n sheet) reply₂
          ∙ accepts h (take_rows (state_in h) now c) (refusal_place c.option) c.reply (settled_outcome h now c)
          (none_left h c (take_rows (state_in h) now c) (take_image h now c) (by_row h now c) gs t.passed.left-rows (λ w. k (shown-is ∙ w))) after refl after-are (lent l₂ n sheet)
          (changed-in-place h now c summary o until es l₁ after_is l₂ n finished (state_with h now c (present now ys)).rows sheet rows_left)

-- ON THE OPEN BOOK

-- Renewing moves no lease, and ends none.
renew-prefix : (now term : ℕ) (named : Bool) (x : Lease) → prefix_of (cond named (renew now term x) x) ≡ prefix_of x
renew-prefix now term true x = refl
renew-prefix now term false x = refl

renew-later : (now term : ℕ) → 60 ≤ term → (named : Bool) (x : Lease) → now < x.expires → now < (cond named (renew now term x) x).expires
renew-later now term long true x k = omega (arith, long)
renew-later now term long false x k = k

-- Where none had expired the counts stay.
take-unmoved : (h : Lent) (now : ℕ) (c : Call) (summary : ImageSummary) → Admitted true h now c.client summary → summary.expired ≡ 0
    → counts_of (take_of (state_in h) now c).state.table ≡ counts_of (table_in h)
unfolding take_of renewed
take-unmoved h now c summary o none-gone =
    let term : ℕ = (table_in h).term in
    let named : Lease → Bool = named_by? c.client (usable_in h c) in
    served-or-not (λ (r : Result State). counts_of r.state.table ≡ counts_of (table_in h)) (take_rows (state_in h) now c) _ _ (λ n. refl)
    (λ e. unmoved now (λ (x : Lease). cond (named x) (renew now term x) x) (λ x. renew-prefix now term (named x) x) (λ x. renew-later now term (sound-term (table_in h) o.sound).0 (named x) x)
    true h c.client summary o none-gone)

-- OPTION 118 IN THE REPLY: with it an accepted answer has another size, and a refusal is as it was; what is lent stays.
with-option : (o : Option (List ℕ)) (a : Res Accepted Refusal) (h : Lent) (reply : List ℕ)
    → (x : Res Accepted Refusal) × (y : List ℕ) × (returning o (outcome (answer_of a) h reply) ≡ outcome (answer_of x) h y) × ((answer_of x).number ≡ (answer_of a).number)
with-option none a h reply = (a, reply, refl, refl)
with-option (some s) (Ok a) h reply = (Ok (record { bytes = a.bytes + length s; count = a.count }), put reply a.bytes s, refl, refl)
with-option (some s) (Err e) h reply = (Err e, reply, returning-refused (some s) (outcome (answer_of (Err e)) h reply) (number-some e), refl)

-- A refusal has no bytes.
pub bytes-fit : (a : Res Accepted Refusal) → IfOk a (λ x. x.bytes ≤ longest_option) → (answer_of a).bytes ≤ longest_option
bytes-fit (Ok x) few = few
bytes-fit (Err e) few = omega arith

module _ (b : Book) (now : ℕ) (c : Call) where
  -- A refusal of what is lent is one of the book.
  pub refused-on : (e : Refusal) → outcome (answer_of (Err e)) (lent_in b) c.reply ≡ take_image (lent_in b) now c → outcome (answer_of (Err e)) b c.reply ≡ take_book b now c
  refused-on e is = refuses-book b (take_image (lent_in b) now c) (answer_of (Err e)) (lent_in b) c.reply is (number-some e)

  -- Row by row, where the code's test of row 1 is the ledger's.
  module _ (sh : Bool) (sh-is : sh ≡ short (lent_in b) now c) where
    abbrev pub shorted : (r : Res ImageSummary Refusal) → Admits true sh (lent_in b) now c.client r → Admits true (short (lent_in b) now c) (lent_in b) now c.client r
    shorted r = subst (λ (t : Bool). Admits true t (lent_in b) now c.client r) sh-is

    refused-as : (e : Refusal) → outcome (answer_of (Err e)) (lent_in b) c.reply ≡ take_image (lent_in b) now c → (r : Res Accepted Refusal) → r ≡ Err e → outcome (answer_of r) b c.reply ≡ take_book b now c
    refused-as e is r err = ap (λ (x : Res Accepted Refusal). outcome (answer_of x) b c.reply) err ∙ refused-on e is

    pub book-refused : (e : Refusal) → Admits true sh (lent_in b) now c.client (Err e) → (r : Res Accepted Refusal) → r ≡ Err e → outcome (answer_of r) b c.reply ≡ take_book b now c
    book-refused e ad = refused-as e (take-refused (lent_in b) now c e (shorted (Err e) ad))

    module _ (summary : ImageSummary) (ad : Admits true sh (lent_in b) now c.client (Ok summary)) where
      pub book-bad : (e : Refusal) → Err e ≡ selection_read c.selection → (r : Res Accepted Refusal) → r ≡ Err e → outcome (answer_of r) b c.reply ≡ take_book b now c
      book-bad e is = refused-as e (take-bad (lent_in b) now c summary (shorted (Ok summary) ad) e is)

      module _ (address : Maybe ℕ) (chosen : Ok address ≡ selection_read c.selection) (networks lengths : List ℕ) where
        pub book-unread : (e : Refusal) → ReadsEntries c.option (Err e) networks lengths → (r : Res Accepted Refusal) → r ≡ Err e → outcome (answer_of r) b c.reply ≡ take_book b now c
        book-unread e read = refused-as e (take-unread (lent_in b) now c summary (shorted (Ok summary) ad) address chosen networks lengths e read)

        -- The call whose entries are read.
        abbrev pub book_call : (count : ℕ) → EntriesRead c.option networks lengths count → EntriesCall (short (lent_in b) now c) (lent_in b) now c
        book_call count reads = entries_call (lent_in b) now c summary (shorted (Ok summary) ad) address chosen networks lengths count reads

        module _ (count : ℕ) (reads : EntriesRead c.option networks lengths count) where
          pub book-groundless : nothing? (pools_of (narrowed (table_in (lent_in b)) c)) ≡ true → (r : Res Accepted Refusal) → r ≡ Err NoSuchPool → outcome (answer_of r) b c.reply ≡ take_book b now c
          book-groundless poolless = refused-as NoSuchPool (take-groundless (lent_in b) now c (book_call count reads) poolless)

  module _ (s : EntriesCall (short (lent_in b) now c) (lent_in b) now c) where
    -- The same of what is lent.
    abbrev pub lent_call : EntriesCall (short b.lent now c) b.lent now c
    lent_call = on-lent (short (lent_in b) now c) b now c s

    -- What it leaves, and the counts.
    module _ (a : Res Accepted Refusal) (g : Lent) (reply : List ℕ) (is : returning c.selection (outcome (answer_of a) g reply) ≡ take_image b.lent now c) where
      pub take-countable : LeftIfAccepted (answer_of a).number (lent g.image g.bytes []) s.summary.pools
      take-countable z =
          let w = with-option c.selection a g reply in
          countable b.lent (take_of (state_in b.lent) now c) (follows-all.takes b.lent now c) (take-sound (state_in b.lent) now c)
          (take-pools (state_in b.lent) now c) (answer_of w.0) g w.1 (sym w.2 ∙ is) s.summary.pools (on-lent (short (lent_in b) now c) b now c s).admits.1.pools (w.3 ∙ z)

      stay : s.summary.expired ≡ 0 → counts_of (table_in g) ≡ b.counts
      stay none-gone =
          ap (λ (w : Result Lent). counts_of (table_in w.state)) (sym (with-option c.selection a g reply).2 ∙ is)
          ∙ ap (λ (u : State). counts_of u.table) (follows-all.takes b.lent now c).holds
          ∙ take-unmoved b.lent now c s.summary (on-lent (short (lent_in b) now c) b now c s).admits.1 none-gone
          ∙ sym (admitted-counts true b now c.client s.summary s.admits.1)

      module _ (moved : Bool) (none-gone : moved ≡ false → s.summary.expired ≡ 0) (counts : List (List ℕ))
          (left : counts ≡ cond (eqb (answer_of a).number 0 && moved) (counts_of (table_in (lent g.image g.bytes []))) b.counts) where
        pub take-settles : (r : Res Accepted Refusal) (reply₁ : List ℕ) → outcome (answer_of r) g reply₁ ≡ returning c.selection (outcome (answer_of a) g reply)
            → outcome (answer_of r) (record { lent = g; counts = counts }) reply₁ ≡ take_book b now c
        take-settles r reply₁ put-it =
            let w = with-option c.selection a g reply in
            let same : (answer_of r).number ≡ (answer_of a).number = ap (λ (v : Result Lent). v.answer.number) (put-it ∙ w.2) ∙ w.3 in
            settles b (as_lent (short (lent_in b) now c) b now c s) (take_of (state_in b.lent) now c) (λ (h : Lent). take_image h now c) (follows-all.takes b.lent now c)
            (answer_of r) g reply₁ (put-it ∙ is) moved counts
            (left ∙ ap (λ (k : ℕ). cond (eqb k 0 && moved) (counts_of (table_in (lent g.image g.bytes []))) b.counts) (sym same))
            (λ z e. stay (none-gone e))
