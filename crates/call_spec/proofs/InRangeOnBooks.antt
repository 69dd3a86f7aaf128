-- RESULTS ON BOOKS ARE IN RANGE. A sound table is in range exactly if its image is bytes, and rows are if their sheet is; so what the ledger leaves in range
-- of the code's types, the calls leave as bytes, over every history.
-- Assumes nothing.
use Prim.Native.Nat.{ℕ, zero, suc, ◌+◌, ◌-◌, ◌/◌, ◌≤◌, ◌<◌}
use mathlib.Core.Path.{◌≡◌, refl, sym, ap, subst, ◌∙◌}
use mathlib.Core.Logic.{⊎_elim}
use mathlib.Core.Bool.{Bool, true, false, not, cond}
use mathlib.Core.List.{List, [], ◌∷◌, ◌++◌}
use mathlib.Core.Option.{Option, none, some}
use native.Mathlib.Omega.{arith}
use lib.ListN.{length, drop, replicate}
use lib.Dec.{eqb}
use borrow.Author.Tests.{eqb-true, eqb-false, not-false}
use Rattle.lists.specs.Lists.{All, concat_map}
use Rattle.lists.proofs.Tests.{bool_cases, all?-to}
use Rattle.lists.proofs.ListLaws.{all_map, all-map₂, all-every, all_append, all_left, all_right}
use Rattle.lists.proofs.DropLaws.{all_drop}
use Rattle.lists.proofs.FilterLaws.{filter-all, all_replicate}
use Rattle.names.specs.declared.Name.{Name}
use Rattle.names.specs.Names.{unnamed?, name_octets}
use Rattle.names.proofs.NameLaws.{name-reads, unnamed-to, name-short, name-bytes, name-words}
use Rattle.table.specs.declared.Pool.{Pool}
use Rattle.table.specs.declared.Lease.{Lease}
use Rattle.table.specs.declared.LeaseTable.{LeaseTable}
use Rattle.table.specs.Table.{pool_slots, lease_slots, unused?, empty?, sound}
use Rattle.table_open.specs.Open.{given, open_ok, fresh}
use Rattle.table_open.proofs.OpenLaws.{open-sound}
use Rattle.counts.specs.Counts.{counts_of}
use Rattle.counts.proofs.SmallLaws.{counts-small}
use Rattle.figures.specs.declared.FigureRow.{FigureRow}
use Rattle.image.specs.declared.Head.{Head}
use Rattle.image.specs.declared.Form.{Form}
use Rattle.image.specs.declared.Form.TheVariants.{First, Second}
use Rattle.image.specs.Fields.{number16, number32}
use Rattle.image.specs.Image.{le16, le32, head_size, pool_size, lease_size, full_image, state_byte, flags_byte, name_record, head_record_in, head_record, pool_record, lease_record_in, lease_record, used_pools, used_leases, head_of, image_as, image_of, fits_form, loaded_table}
use Rattle.image.specs.Reading.{name_length_at, load_in, form_of, load_saved}
use Rattle.image.proofs.FieldLaws.{bytes_of}
use Rattle.image.proofs.ImageLaws.{name_fits, table-whole, image-loaded-in, longest-image}
use Rattle.image_figures.specs.Sheets.{row_size, figures_size, row_bytes, row_in, rows_in, sheet_rows}
use Rattle.ledger.specs.Ledger.{State, filled, Result, Row, open_rows, ask, take, release, mark}
use Rattle.ledger.specs.Demand3.{none?}
use Rattle.ledger.specs.Sizes.{Byte, Bytes}
use Rattle.ledger.specs.declared.Answer.{Answer}
use Rattle.ledger.specs.InRange.{Word, PoolInRange, NameInRange, LeaseInRange, TableInRange, RowInRange, StateInRange, ResultInRange, OpenInRange, InRange, StaysInRange}
use Rattle.ledger.proofs.RowLaws.{first-none}
use Rattle.ledger.proofs.Counts.{up_to-all}
use Rattle.ledger.proofs.Following.{Follows}
use Rattle.ledger.proofs.SoundKept.{SoundIfAccepted, ask-sound, take-sound, release-sound, mark-sound}
use Rattle.ledger.proofs.InRange.{all-concat_map, pools-padded, leases-padded, blank-in-range, filled-in-range, fresh-in-range, rows-in-range, accepted-in-range, in-range, stays-in-range}
use Rattle.call_spec.specs.ImageCalls.{Lent, lent, holds?, image_in, table_in, state_in, over, stored, stored_in, settled, open_image, load_into, room_rows}
use Rattle.call_spec.specs.Books.{Book, counted?, lent_in, state_in_book, counted, kept, book_calls}
use Rattle.call_spec.specs.InRange.{LentInRange, BookInRange, OpensInRange, LoadsInRange}
use Rattle.call_spec.proofs.StoreLaws.{settled-refused, settled-accepted}
use Rattle.call_spec.proofs.BookLaws.{kept-refused, kept-accepted}
use Rattle.call_spec.proofs.OnImages.{follows-all, is_some, opened-sound, loaded-sound}

-- RECORDS: fields in range are written as bytes, and bytes are the record of fields in range.

two_bytes : (n : ℕ) → n < 65536 → Bytes (le16 n)
unfolding le16
two_bytes n l = (omega arith, (omega arith, tt))

four_bytes : (n : ℕ) → Word n → Bytes (le32 n)
unfolding le32
four_bytes n l = (omega arith, (omega arith, (omega arith, (omega arith, tt))))

four-word : (n : ℕ) → n / 16777216 < 256 → Word n
four-word n l = omega arith

state-byte : (leased : Bool) → Byte (state_byte leased)
state-byte true = omega arith
state-byte false = omega arith

flags-byte : (h d : Bool) → Byte (flags_byte h d)
flags-byte true true = omega arith
flags-byte true false = omega arith
flags-byte false true = omega arith
flags-byte false false = omega arith

-- Pieces that are bytes, one after the other.
pieces : (ls : List (List ℕ)) → All Bytes ls → Bytes (concat_map (λ l. l) ls)
pieces ls a = all-concat_map (λ l. l) Byte ls a

head_bytes : (x : Head) → Word x.term → Byte x.default_length → Word x.last → Bytes (head_record x)
unfolding head_record_in le16 le32
head_bytes x term len last =
    pieces (le16 (head_size - 2) ∷ le16 5 ∷ le32 x.term ∷ (x.default_length ∷ []) ∷ le32 x.last ∷ [])
    (two_bytes (head_size - 2) (omega arith), (two_bytes 5 (omega arith), (four_bytes x.term term, ((len, tt), (four_bytes x.last last, tt)))))

pool-bytes : (p : Pool) → PoolInRange p → Bytes (pool_record p)
unfolding pool_record le16 le32
pool-bytes p f =
    pieces (le16 (pool_size - 2) ∷ le16 2 ∷ le32 p.network ∷ (p.length ∷ []) ∷ [])
    (two_bytes (pool_size - 2) (omega arith), (two_bytes 2 (omega arith), (four_bytes p.network f.network, ((f.length, tt), tt))))

lease-bytes : (x : Lease) → LeaseInRange x → Bytes (lease_record x)
unfolding lease_record_in le16 le32
lease-bytes x f =
    let fields : List (List ℕ) =
    le16 (lease_size - 2) ∷ le16 4 ∷ le32 x.network ∷ (x.length ∷ state_byte x.leased ∷ flags_byte x.h x.d ∷ []) ∷ le32 x.client ∷ le32 x.expires ∷ [] in
    let n : NameInRange x.name = f.name in
    all_append Byte (concat_map (λ l. l) fields) (name_record Second x.name)
    (pieces fields (
      two_bytes (lease_size - 2) (omega arith),
      (
        two_bytes 4 (omega arith),
        (
          four_bytes x.network f.network,
          ((f.length, (state-byte x.leased, (flags-byte x.h x.d, tt))), (four_bytes x.client f.client, (four_bytes x.expires f.expires, tt))),
        ),
      ),
    ))
    (omega (arith, name-short x.name), name-bytes x.name n.first n.second n.third)

-- Of either form.
bytes-head : (form : Form) (x : Head) → Bytes (head_record_in form x) → Word x.term × Byte x.default_length × Word x.last
unfolding head_record_in le16 le32
bytes-head form x a = let b = bytes_of (head_record_in form x) a in (four-word x.term (b 7), b 8, four-word x.last (b 12))

bytes-pool : (p : Pool) → Bytes (pool_record p) → PoolInRange p
unfolding pool_record le16 le32
bytes-pool p a = let b = bytes_of (pool_record p) a in record { network = four-word p.network (b 7); length = b 8 }

bytes-name : (form : Form) (n : Name) → name_fits form n ≡ true → Bytes (name_record form n) → NameInRange n
bytes-name First n e a = subst NameInRange (sym (unnamed-to n e)) (record { first = omega arith; second = omega arith; third = omega arith })
bytes-name Second n e a =
    let w = name-words (name_octets n ++ []) (all_append Byte (name_octets n) [] a.1 tt) in
    subst NameInRange (name-reads n []) (record { first = w.0; second = w.1; third = w.2 })

bytes-lease : (form : Form) (x : Lease) → name_fits form x.name ≡ true → Bytes (lease_record_in form x) → LeaseInRange x
unfolding lease_record_in le16 le32
bytes-lease form x e a =
    let b = bytes_of (lease_record_in form x) a in
    record {
      network = four-word x.network (b 7);
      length = b 8;
      client = four-word x.client (b 14);
      expires = four-word x.expires (b 18);
      name = bytes-name form x.name e (all_drop Byte name_length_at (lease_record_in form x) a);
    }

-- TABLES AND IMAGES

concat_map-all : {A B : Type 0} (f : A → List B) (P : B → Type 0) (xs : List A) → All P (concat_map f xs) → All (λ x. All P (f x)) xs
concat_map-all f P [] a = tt
concat_map-all f P (x ∷ xs) a = (all_left P (f x) (concat_map f xs) a, concat_map-all f P xs (all_right P (f x) (concat_map f xs) a))

pub image-bytes : (t : LeaseTable) → TableInRange t → Bytes (image_of t)
unfolding image_as
image-bytes t f =
    let ps : List Pool = used_pools t in
    let xs : List Lease = used_leases t in
    all_append Byte (head_record (head_of t)) (concat_map pool_record ps ++ concat_map lease_record xs) (head_bytes (head_of t) f.term f.default f.last)
    (all_append Byte (concat_map pool_record ps) (concat_map lease_record xs)
    (all-concat_map pool_record Byte ps (all_map pool-bytes ps (filter-all (λ p. not (unused? p)) PoolInRange t.pools f.pools)))
    (all-concat_map lease_record Byte xs (all_map lease-bytes xs (filter-all (λ x. not (empty? x)) LeaseInRange t.leases f.leases))))

-- The names of the used leases fit where all do.
used-fit : (form : Form) (t : LeaseTable) → fits_form form t ≡ true → All (λ x. name_fits form x.name ≡ true) (used_leases t)
used-fit First t e = filter-all (λ x. not (empty? x)) (λ x. unnamed? x.name ≡ true) t.leases (all?-to (λ x. unnamed? x.name) (λ x f. f) t.leases e)
used-fit Second t e = all-every (λ x. refl) (used_leases t)

pub bytes-image : (form : Form) (t : LeaseTable) → sound t ≡ true → fits_form form t ≡ true → Bytes (image_as form t) → TableInRange t
unfolding image_as
bytes-image form t s fits a =
    let ps : List Pool = used_pools t in
    let xs : List Lease = used_leases t in
    let rec : Lease → List ℕ = lease_record_in form in
    let body : List ℕ = concat_map pool_record ps ++ concat_map rec xs in
    let head = bytes-head form (head_of t) (all_left Byte (head_record_in form (head_of t)) body a) in
    let b : Bytes body = all_right Byte (head_record_in form (head_of t)) body a in
    subst TableInRange (sym (table-whole t s))
    (record {
      pools = pools-padded ps (pool_slots - length ps) (all_map bytes-pool ps (concat_map-all pool_record Byte ps (all_left Byte (concat_map pool_record ps) (concat_map rec xs) b)));
      leases =
          leases-padded xs (lease_slots - length xs)
          (all-map₂ (bytes-lease form) xs (used-fit form t fits) (concat_map-all rec Byte xs (all_right Byte (concat_map pool_record ps) (concat_map rec xs) b)));
      term = head.0;
      default = head.1;
      last = head.2;
    })

-- What loads from bytes is in range, and so is what stands for bytes that do not load.
loaded-in-range : (form : Form) (s : List ℕ) → Bytes s → TableInRange (loaded_table (load_in form s))
loaded-in-range form s b = go (load_in form s) refl
  where
    go : (o : Option LeaseTable) → load_in form s ≡ o → TableInRange (loaded_table o)
    go none e = blank-in-range
    go (some t) e = let k = image-loaded-in form s t b e in bytes-image form t k.0 k.1.0 (subst Bytes (sym k.1.1) b)

-- ROWS AND SHEETS

row-bytes : (r : FigureRow) → RowInRange r → Bytes (row_bytes r)
unfolding row_bytes le16 le32
row-bytes r f =
    pieces (le32 r.network ∷ (r.length ∷ []) ∷ le16 r.high_water.0 ∷ le16 r.in_use.0 ∷ le16 r.unusable.0 ∷ []) (
      four_bytes r.network f.network,
      ((f.length, tt), (two_bytes r.high_water.0 f.high-water, (two_bytes r.in_use.0 f.in_use, (two_bytes r.unusable.0 f.unusable, tt)))),
    )

bytes-row : (s : List ℕ) → Bytes s → RowInRange (row_in s)
unfolding number16 number32
bytes-row s a =
    let b = bytes_of s a in
    record {
      network = omega (arith, b 0, b 1, b 2, b 3);
      length = b 4;
      high-water = omega (arith, b 5, b 6);
      in_use = omega (arith, b 7, b 8);
      unusable = omega (arith, b 9, b 10);
    }

bytes-rows : (n : ℕ) (s : List ℕ) → Bytes s → All RowInRange (rows_in n s)
unfolding rows_in
bytes-rows zero s a = tt
bytes-rows (suc n) s a = (bytes-row s a, bytes-rows n (drop row_size s) (all_drop Byte row_size s a))

bytes-sheet : (s : List ℕ) → Bytes s → All RowInRange (sheet_rows s)
unfolding sheet_rows
bytes-sheet s a = go (eqb (length s) figures_size)
  where
    go : (b : Bool) → All RowInRange (cond b (rows_in lease_slots s) [])
    go true = bytes-rows lease_slots s a
    go false = tt

-- WHAT IS LENT

held-in-range : (h : Lent) → LentInRange h → StateInRange (state_in h)
unfolding table_in
held-in-range h f = record {
  table = loaded-in-range Second (image_in h) (up_to-all Byte (cond (holds? h) h.bytes 0) h.image f.image);
  rows = bytes-sheet h.figures f.figures;
}

-- The image of a table in range and the sheet of rows in range, stored.
stored-in-range : (s : State) (old : ℕ) (h : Lent) → sound s.table ≡ true → StateInRange s → LentInRange h → LentInRange (stored_in s old h)
unfolding stored
stored-in-range s old h so f g =
    let t : LeaseTable = s.table in
    let new : List ℕ = over (image_of t) old in
    let zeros : List ℕ = replicate (old - length (image_of t)) 0 in
    record {
      image = all_append Byte new (drop (length new) h.image) (all_append Byte (image_of t) zeros (image-bytes t f.table) (all_replicate Byte (old - length (image_of t)) 0 (omega arith)))
          (all_drop Byte (length new) h.image g.image);
      bytes = omega (arith, longest-image t so);
      figures = all-concat_map row_bytes Byte s.rows (all_map row-bytes s.rows f.rows);
    }

-- THE CALLS

-- A call on what is lent, of the ledger's call on what it holds.
settled-in-range : (h : Lent) (r : Result State) → LentInRange h → ResultInRange StateInRange r → (r.answer.number ≡ 0 → sound r.state.table ≡ true)
    → ResultInRange LentInRange (settled r h)
settled-in-range h r f k s =
    ⊎_elim
    (λ (e : eqb r.answer.number 0 ≡ true).
    let z = eqb-true r.answer.number 0 e in
    subst (ResultInRange LentInRange) (sym (settled-accepted r h z))
    (record { answer = k.answer; left = stored-in-range r.state h.bytes h (s z) k.left f; reply = k.reply }))
    (λ (e : eqb r.answer.number 0 ≡ false).
    subst (ResultInRange LentInRange) (sym (settled-refused r h (eqb-false r.answer.number 0 e))) (record { answer = k.answer; left = f; reply = k.reply }))
    (bool_cases (eqb r.answer.number 0))

-- Lists and calls on a book whose counts differ are on what has no bytes for an image.
judged-in-range : (b : Book) → BookInRange b → LentInRange (lent_in b)
unfolding lent_in
judged-in-range b f = go (counted? b)
  where
    go : (right : Bool) → LentInRange (cond right b.lent (lent b.lent.image 0 b.lent.figures))
    go true = f.lent
    go false = record { image = f.lent.image; bytes = omega arith; figures = f.lent.figures }

-- The counts of a sound table.
counted-in-range : (h : Lent) → sound (table_in h) ≡ true → LentInRange h → BookInRange (counted h)
counted-in-range h s f = record {
  lent = f;
  counts = all_map (λ (row : List ℕ) (a : All (λ n. n ≤ lease_slots + 1) row). all_map (λ (n : ℕ) (l : n ≤ lease_slots + 1). omega arith) row a) (counts_of (table_in h)) (counts-small (table_in h) s);
}

-- A call on the book, of the call on what is lent.
kept-in-range : (b : Book) (r : Result Lent) → BookInRange b → ResultInRange LentInRange r → (r.answer.number ≡ 0 → sound (table_in r.state) ≡ true) → ResultInRange BookInRange (kept r b)
kept-in-range b r f k s =
    ⊎_elim
    (λ (e : eqb r.answer.number 0 ≡ true).
    let z = eqb-true r.answer.number 0 e in
    subst (ResultInRange BookInRange) (sym (kept-accepted b r z)) (record { answer = k.answer; left = counted-in-range r.state (s z) k.left; reply = k.reply }))
    (λ (e : eqb r.answer.number 0 ≡ false).
    subst (ResultInRange BookInRange) (sym (kept-refused b r (eqb-false r.answer.number 0 e))) (record { answer = k.answer; left = f; reply = k.reply }))
    (bool_cases (eqb r.answer.number 0))

-- What follows the ledger holds the table that the ledger leaves.
followed-sound : (h : Lent) (r : Result State) (q : Result Lent) → Follows state_in h r q → SoundIfAccepted (state_in h) r → q.answer.number ≡ 0 → sound (table_in q.state) ≡ true
followed-sound h r q f s z = ap (λ (u : State). sound u.table) f.holds ∙ (s (sym (ap (λ (a : Answer). a.number) f.answer) ∙ z)).1

module _ (b : Book) (f : BookInRange b) where
  abbrev h : Lent
  h = lent_in b

  on-book : (r : Result State) → Follows state_in h r (settled r h) → SoundIfAccepted (state_in h) r → ResultInRange StateInRange r → ResultInRange BookInRange (kept (settled r h) b)
  on-book r follows s k =
      kept-in-range b (settled r h) f (settled-in-range h r (judged-in-range b f) k (λ z. (s z).1)) (followed-sound h r (settled r h) follows s)

pub in-range-on-books : InRange BookInRange book_calls
in-range-on-books = record {
  asks = λ b now c f k. let s = state_in_book b in on-book b f (ask s now c) (follows-all.asks (lent_in b) now c) (ask-sound s now c) (in-range.asks s now c (held-in-range (lent_in b) (judged-in-range b f)) k);
  takes = λ b now c f k. let s = state_in_book b in on-book b f (take s now c) (follows-all.takes (lent_in b) now c) (take-sound s now c) (in-range.takes s now c (held-in-range (lent_in b) (judged-in-range b f)) k);
  lists = λ b now c f k. let r = in-range.lists (state_in_book b) now c (held-in-range (lent_in b) (judged-in-range b f)) k in record { answer = r.answer; left = f; reply = r.reply };
  releases = λ b now c f k. let s = state_in_book b in on-book b f (release s now c) (follows-all.releases (lent_in b) now c) (release-sound s now c) (in-range.releases s now c (held-in-range (lent_in b) (judged-in-range b f)) k);
  marks =
      λ b now network len d f. let s = state_in_book b in
      on-book b f (mark s now network len d) (follows-all.marks (lent_in b) now network len d) (mark-sound s now network len d) (in-range.marks s now network len d (held-in-range (lent_in b) (judged-in-range b f)));
}

pub stays-in-range-on-books : StaysInRange BookInRange book_calls
stays-in-range-on-books = stays-in-range BookInRange book_calls in-range-on-books

-- OPEN AND LOAD

opens-lent : (h : Lent) (networks lengths : List ℕ) (term default_length start : ℕ) → LentInRange h → OpenInRange networks lengths term default_length start
    → ResultInRange LentInRange (open_image h networks lengths term default_length start)
unfolding open_image
opens-lent h networks lengths term default_length start f o =
    let rows : List Row = open_rows networks lengths term default_length start ++ room_rows h in
    let t : LeaseTable = fresh (given networks lengths) term default_length start in
    rows-in-range LentInRange rows (λ n. 0) h [] _ refl (λ n. omega arith) f tt
    (λ e.
    let s : sound t ≡ true = open-sound networks lengths term default_length start (not-false (open_ok networks lengths term default_length start) (first-none rows e).0) in
    accepted-in-range LentInRange (stored_in (filled t) full_image h) [] 0 [] (stored-in-range (filled t) full_image h s (filled-in-range t (fresh-in-range networks lengths term default_length start o)) f) tt (omega arith) (omega arith) tt)

loads-lent : (h : Lent) (saved : List ℕ) → LentInRange h → Bytes saved → ResultInRange LentInRange (load_into h saved)
unfolding load_into
loads-lent h saved f b =
    let rows : List Row = (5, none? (load_saved saved)) ∷ room_rows h in
    let t : LeaseTable = loaded_table (load_saved saved) in
    rows-in-range LentInRange rows (λ n. 0) h [] _ refl (λ n. omega arith) f tt
    (λ e.
    let s : sound t ≡ true = (image-loaded-in (form_of saved) saved t b (is_some (load_saved saved) (first-none rows e).0)).0 in
    accepted-in-range LentInRange (stored_in (filled t) full_image h) [] 0 [] (stored-in-range (filled t) full_image h s (filled-in-range t (loaded-in-range (form_of saved) saved b)) f) tt (omega arith) (omega arith) tt)

pub opens-in-range-on-books : OpensInRange
opens-in-range-on-books b networks lengths term default_length start f o =
    kept-in-range b (open_image b.lent networks lengths term default_length start) f (opens-lent b.lent networks lengths term default_length start f.lent o)
    (opened-sound b.lent networks lengths term default_length start)

pub loads-in-range-on-books : LoadsInRange
loads-in-range-on-books b saved f bytes =
    kept-in-range b (load_into b.lent saved) f (loads-lent b.lent saved f.lent bytes) (loaded-sound b.lent saved bytes)
