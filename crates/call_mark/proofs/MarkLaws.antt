-- Laws of mark in place: the rows that refuse it, and the one record that it edits.
-- Assumes nothing.
use Prim.Native.Nat.{ℕ, ◌+◌, ◌-◌, ◌*◌, ◌%◌, ◌≤◌, ◌<◌}
use native.Mathlib.Omega.{arith}
use mathlib.Core.Path.{◌≡◌, refl, sym, ap, ap₂, subst, ◌∙◌}
use mathlib.Core.Bool.{Bool, true, false, not, cond, ◌&&◌}
use mathlib.Core.List.{List, [], ◌∷◌, ◌++◌, map}
use mathlib.Core.Option.{none, some}
use lib.ListN.{length, get_or, set, drop, length-set}
use lib.Dec.{leb, ltb, eqb}
use borrow.Author.Tests.{ltb-true, le-ltb, lt-ltb, eqb-true, eq-eqb}
use Rattle.lists.specs.Lists.{All, any?, filter}
use Rattle.lists.specs.Put.{put}
use Rattle.lists.proofs.Tests.{and-to, and-of, not-true⇒false, and-list-to, and-list-of, cond-true, cond-false, not-of, not-to}
use Rattle.lists.proofs.MapLaws.{filter_map, any?-filter}
use Rattle.lists.proofs.ListLaws.{all_map}
use Rattle.std.specs.Prelude.{Result as Res, Ok, Err}
use Rattle.prefix.specs.declared.Prefix.{Prefix}
use Rattle.prefix.specs.Prefixes.{size, prefix, checked}
use Rattle.prefix.proofs.BlockLaws.{Block, block-made, made-block}
use Rattle.table.specs.declared.Lease.{Lease}
use Rattle.table.specs.Table.{lease_slots, latest, no_lease, prefix_of, present, store, pools_of, sound}
use Rattle.table.proofs.TableLaws.{Good as GoodLease, present?, sound-fine}
use Rattle.image.specs.Image.{lease_size, lease_record, used_leases}
use Rattle.image.specs.Reading.{lease_in}
use Rattle.image_records.specs.Records.{Records, Ascending}
use Rattle.image_records.proofs.RecordLaws.{lease-in-place, edit-is, edit-holds}
use Rattle.image_records.proofs.FindLaws.{none_any, found_within, found_none, found-other, found-any, found_map}
use Rattle.figures.specs.declared.FigureRow.{FigureRow}
use Rattle.figures.specs.Figures.{matches?, followed}
use Rattle.figures.specs.Inner.{struck_rows}
use Rattle.image_figures.specs.Sheets.{sheet_of}
use Rattle.image_figures.proofs.AcceptedLaws.{strike-changed, nothing-changed, stays-follow}
use Rattle.image_check.specs.declared.ImageSummary.{ImageSummary}
use Rattle.counts.specs.Counts.{counts_of}
use Rattle.ledger.specs.declared.{Accepted.Accepted, Refusal.Refusal}
use Rattle.ledger.specs.Answers.{refusal_number, answer_of}
use Rattle.ledger.proofs.RefusalLaws.{number-some}
use Rattle.ledger.specs.Ledger.{State, left, Result, outcome, refusal, acceptance, accept, Row, first_of, at?, with_d, mark_rows, mark}
use Rattle.ledger.proofs.RowLaws.{none_first, first-after, served-or-not}
use Rattle.ledger.proofs.SoundKept.{mark-sound}
use Rattle.call_spec.specs.ImageCalls.{Lent, lent, table_in, state_in, mark_image}
use Rattle.call_spec.specs.Books.{Book, lent_in, mark_book}
use Rattle.call_spec.proofs.StoreLaws.{row-refuses}
use Rattle.call_spec.proofs.OnImages.{follows-all}
use Rattle.call_spec.proofs.BookLaws.{refuses-book}
use Rattle.call_spec.proofs.PoolsKept.{mark-pools}
use Rattle.call_rows.specs.Admission.{admission_rows, leases_from, Admitted, Admits, Finished, LeftIfAccepted}
use Rattle.call_rows.proofs.RowLaws.{not-admitted, accepts}
use Rattle.call_rows.proofs.SettleLaws.{admitted-lent, admitted-book, admitted-counts, unmoved, countable, settles}
use Rattle.call_rows.specs.StruckRows.{struck_if}
use Rattle.call_rows.proofs.FinishLaws.{finished-in-place}
use Rattle.call_rows.proofs.StruckLaws.{struck-is}

-- THE PREFIX: as the constructor answers what the call is given.

module _ (network len : ℕ) where
  -- It refuses no block.
  no_block : ((p : Prefix) → checked network (cond (ltb 255 len) 0 len) ≡ Ok p → ⊥) → Block (prefix network len) → ⊥
  no_block absent b = absent (prefix network len) (ap (checked network) (cond-false (ltb 255 len) 0 len (le-ltb 255 len (omega (arith, b.long)))) ∙ block-made network len b)

  -- What it makes has this network and length.
  block-is : (p : Prefix) → checked network (cond (ltb 255 len) 0 len) ≡ Ok p → p ≡ prefix network len
  block-is p e =
      let m = made-block network (cond (ltb 255 len) 0 len) p e in
      m.0 ∙ ap (prefix network) (held (ltb 255 len) m.1.short)
    where
      held : (t : Bool) → 1 ≤ cond t 0 len → cond t 0 len ≡ len
      held true h = omega arith
      held false h = refl

-- THE LEASE: present, with this network and length.

abbrev marked? : ℕ → ℕ → ℕ → Lease → Bool
marked? now network len x = present? now x && at? network len x

abbrev at_tests : ℕ → ℕ → Lease → List Bool
at_tests network len x = eqb x.network network ∷ eqb x.length len ∷ []

module _ (now network len : ℕ) (x : Lease) where
  marked-to : marked? now network len x ≡ true → (now < x.expires) × (x.network ≡ network) × (x.length ≡ len)
  marked-to e =
      let both = and-to (present? now x) (at? network len x) e in
      let tests = and-list-to (at_tests network len x) both.1 in
      (ltb-true now x.expires both.0, eqb-true x.network network tests.0, eqb-true x.length len tests.1.0)

  marked-of : now < x.expires → x.network ≡ network → x.length ≡ len → marked? now network len x ≡ true
  marked-of a b c =
      and-of (present? now x) (at? network len x) (lt-ltb now x.expires a)
      (and-list-of (at_tests network len x) (eq-eqb x.network network b, (eq-eqb x.length len c, tt)))

-- d set or cleared on that lease alone.
abbrev marked_with : ℕ → ℕ → ℕ → Bool → Lease → Lease
marked_with now network len d x = cond (marked? now network len x) (with_d d x) x

keeps : (now : ℕ) (d b : Bool) (x : Lease) → present? now (cond b (with_d d x) x) ≡ present? now x
keeps now d true x = refl
keeps now d false x = refl

stays_at : (d b : Bool) (x : Lease) → ((cond b (with_d d x) x).network ≡ x.network) × ((cond b (with_d d x) x).length ≡ x.length)
stays_at d true x = (refl, refl)
stays_at d false x = (refl, refl)

module _ (now network len : ℕ) (d : Bool) (xs : List Lease) where
  -- Those that are left are the present ones, each marked if it has the network and length.
  marked-present : present now (map (marked_with now network len d) xs) ≡ map (λ x. cond (at? network len x) (with_d d x) x) (present now xs)
  unfolding present
  marked-present =
      filter_map (present? now) (marked_with now network len d) (λ x. cond (at? network len x) (with_d d x) x)
      (λ x. keeps now d (marked? now network len x) x)
      (λ x (e : present? now x ≡ true). ap (λ (b : Bool). cond (b && at? network len x) (with_d d x) x) e)
      xs

  -- Where all were present all still are.
  marked_all : present now xs ≡ xs → present now (map (marked_with now network len d) xs) ≡ map (marked_with now network len d) xs
  unfolding present
  marked_all all =
      filter_map (present? now) (marked_with now network len d) (marked_with now network len d) (λ x. keeps now d (marked? now network len x) x) (λ x e. refl) xs
      ∙ ap (map (marked_with now network len d)) all

  sought : any? (at? network len) (present now xs) ≡ any? (marked? now network len) xs
  unfolding present
  sought = any?-filter (present? now) (at? network len) xs

-- THE CALL

-- The leases of the table that is lent, whether one of them is meant, and the row that is mark's own.
abbrev leases_in : Lent → List Lease
leases_in h = used_leases (table_in h)

abbrev meant? : Lent → ℕ → ℕ → ℕ → Bool
meant? h now network len = any? (at? network len) (present now (table_in h).leases)

abbrev own : Lent → ℕ → ℕ → ℕ → List Row
own h now network len = (11, not (meant? h now network len)) ∷ []

-- What it leaves where no row applies.
abbrev settled_outcome : Lent → ℕ → ℕ → ℕ → Bool → Result State
settled_outcome h now network len d = accept (left (state_in h) now (map (λ x. cond (at? network len x) (with_d d x) x) (present now (table_in h).leases))) [] 0 []

module _ (h : Lent) (now network len : ℕ) (d : Bool) where
  by_row : (n : ℕ) → (n ≡ 0 → ⊥) → first_of (admission_rows true false h now 1 ++ own h now network len) ≡ some n → outcome (refusal n 0) h [] ≡ mark_image h now network len d
  unfolding mark mark_rows
  by_row n k e = row-refuses h (mark_rows (state_in h) now network len) (λ m. 0) [] (settled_outcome h now network len d) n k e

  pub mark-refused : (e : Refusal) → Admits true false h now 1 (Err e) → outcome (answer_of (Err e)) h [] ≡ mark_image h now network len d
  mark-refused e ad =
      ap (λ (place : ℕ). outcome (refusal (refusal_number e) place) h []) ad.1
      ∙ by_row (refusal_number e) (number-some e) (not-admitted true false h now 1 (own h now network len) (refusal_number e) ad.0).0

  module _ (summary : ImageSummary) (o : Admitted true h now 1 summary) where
    -- The rows before its own have passed.
    row-left : first_of (admission_rows true false h now 1 ++ own h now network len) ≡ first_of (own h now network len)
    row-left =
        first-after (admission_rows true false h now 1) (own h now network len)
        (none_first (admission_rows true false h now 1) (
          refl,
          (
            not-to (sound (table_in h)) o.sound,
            (
              not-to (matches? (table_in h).leases (state_in h).rows) (o.sheet-in refl).matched,
              (refl, (le-ltb now (table_in h).last o.since, (le-ltb latest now o.early, tt))),
            ),
          ),
        ))

    found-is : meant? h now network len ≡ any? (marked? now network len) (leases_in h)
    found-is = ap (any? (at? network len)) o.present-used ∙ sought now network len d (leases_in h)

    not-meant : meant? h now network len ≡ false → outcome (refusal 11 0) h [] ≡ mark_image h now network len d
    not-meant b = by_row 11 (λ w. omega arith) (row-left ∙ cond-true (not (meant? h now network len)) (some 11) none (not-of (meant? h now network len) b))

    missing : All (λ x. marked? now network len x ≡ false) (leases_in h) → outcome (refusal 11 0) h [] ≡ mark_image h now network len d
    missing b = not-meant (found-is ∙ none_any (marked? now network len) (leases_in h) b)

    -- Every lease is a block.
    pub mark-no-block : ((p : Prefix) → checked network (cond (ltb 255 len) 0 len) ≡ Ok p → ⊥) → outcome (refusal 11 0) h [] ≡ mark_image h now network len d
    mark-no-block absent =
        let other : (x : Lease) → GoodLease (pools_of (table_in h)) now x → at? network len x ≡ false =
        λ x g. not-true⇒false (at? network len x) (λ t.
        let same = and-list-to (at_tests network len x) t in
        let n = eqb-true x.network network same.0 in
        let l = eqb-true x.length len same.1.0 in
        no_block network len absent (record { short = omega (arith, g.short); long = omega (arith, g.long); aligned = ap₂ (λ (a b : ℕ). a % size b) (sym n) (sym l) ∙ g.aligned })) in
        let xs : List Lease = present now (table_in h).leases in
        not-meant (none_any (at? network len) xs (all_map other xs (sound-fine (table_in h) o.sound now).0))

    -- How many leases have a network up to that of the prefix.
    module _ (p : Prefix) (made : checked network (cond (ltb 255 len) 0 len) ≡ Ok p)
        (r : ℕ) (value : (xs : List Lease) → Records h.image (leases_from summary) xs → summary.leases ≡ length xs → Ascending xs → r ≡ length (filter (λ x. leb x.network p.network) xs)) where
      is : p ≡ prefix network len
      is = block-is network len p made

      c : r ≡ length (filter (λ x. leb x.network network) (leases_in h))
      c = subst (λ (q : Prefix). r ≡ length (filter (λ x. leb x.network q.network) (leases_in h))) is (value (leases_in h) o.records o.leases o.ascending)

      only : (x : Lease) → marked? now network len x ≡ true → x.network ≡ network
      only x t = (marked-to now network len x t).1

      -- No lease has a network up to this one.
      pub mark-none : r ≡ 0 → outcome (refusal 11 0) h [] ≡ mark_image h now network len d
      mark-none e = missing (found_none network (leases_in h) o.ascending r c (marked? now network len) only e)

      -- The last of those that have.
      module _ (some-lease : r ≡ 0 → ⊥) (x : Lease) (read : x ≡ lease_in (drop (leases_from summary + lease_size * (r - 1)) h.image)) where
        above : 0 < r
        above = omega (arith, some-lease)

        inside : r - 1 < length (leases_in h)
        inside = found_within network (leases_in h) o.ascending r c above

        it-is : x ≡ get_or (leases_in h) (r - 1) no_lease
        it-is = read ∙ lease-in-place h.image (leases_from summary) (leases_in h) o.records (r - 1) inside

        -- It is another one, or has expired.
        pub mark-other : (x.network ≡ p.network → x.length ≡ p.length → now < x.expires → ⊥) → outcome (refusal 11 0) h [] ≡ mark_image h now network len d
        mark-other k =
            missing (found-other network (leases_in h) o.ascending r c (marked? now network len) only
            (ap (marked? now network len) (sym it-is) ∙ not-true⇒false (marked? now network len x) (λ t.
            let m = marked-to now network len x t in
            k (m.1 ∙ sym (ap (λ (q : Prefix). q.network) is)) (m.2 ∙ sym (ap (λ (q : Prefix). q.length) is)) m.0)))

        -- It is the one: edited in place, and what is left of the leases.
        module _ (same-network : x.network ≡ p.network) (same-length : x.length ≡ p.length) (later : now < x.expires) where
          yes-it-is : marked? now network len x ≡ true
          yes-it-is = marked-of now network len x later (same-network ∙ ap (λ (q : Prefix). q.network) is) (same-length ∙ ap (λ (q : Prefix). q.length) is)

          here : marked? now network len (get_or (leases_in h) (r - 1) no_lease) ≡ true
          here = ap (marked? now network len) (sym it-is) ∙ yes-it-is

          ys : List Lease
          ys = set (leases_in h) (r - 1) (with_d d x)

          ys-are : map (marked_with now network len d) (leases_in h) ≡ ys
          unfolding ys
          ys-are =
              found_map network (leases_in h) o.ascending r c (marked? now network len) only above here (with_d d)
              ∙ ap (λ (y : Lease). set (leases_in h) (r - 1) (with_d d y)) (sym it-is)

          -- No row applies.
          no-row-left : first_of (admission_rows true false h now 1 ++ own h now network len) ≡ none
          no-row-left =
              row-left ∙ cond-false (not (meant? h now network len)) (some 11) none
              (not-to (meant? h now network len) (found-is ∙ found-any network (leases_in h) o.ascending r c (marked? now network len) only above here))

          leases-are : map (λ y. cond (at? network len y) (with_d d y) y) (present now (table_in h).leases) ≡ present now ys
          leases-are =
              ap (map (λ (y : Lease). cond (at? network len y) (with_d d y) y)) o.present-used
              ∙ sym (marked-present now network len d (leases_in h))
              ∙ ap (present now) ys-are

          module _ (l₁ l₂ : List ℕ) (n : ℕ) (e₁ : l₁ ≡ put h.image (leases_from summary + lease_size * (r - 1)) (lease_record (with_d d x)))
              (finish : (zs : List Lease) → Records l₁ (leases_from summary) zs → summary.leases ≡ length zs → (summary.expired ≡ 0 → present now zs ≡ zs)
              → Finished l₁ (leases_from summary) zs now l₂ n) where
            counted : length ys ≡ summary.leases
            unfolding ys
            counted = length-set (leases_in h) (r - 1) (with_d d x) ∙ sym o.leases

            held : Records l₁ (leases_from summary) ys
            unfolding ys
            held = subst (λ (l : List ℕ). Records l (leases_from summary) ys) (sym e₁) (edit-holds h.image (leases_from summary) (leases_in h) o.records (r - 1) inside (with_d d x))

            finished : Finished l₁ (leases_from summary) ys now l₂ n
            unfolding ys
            finished =
                let none-gone : summary.expired ≡ 0 → present now ys ≡ ys =
                λ g. subst (λ (l : List Lease). present now l ≡ l) ys-are (marked_all now network len d (leases_in h) (o.none-expired g)) in
                finish ys held (sym counted) none-gone

            -- The rows are those that follow the leases.
            rows-follow : struck_if summary.expired now ys (state_in h).rows ≡ followed now (table_in h) (state_in h).rows (store (table_in h) now (present now ys))
            rows-follow =
                let f : Lease → Lease = marked_with now network len d in
                let is = (o.sheet-in refl).matched in
                let same : (x : Lease) → ((f x).network ≡ x.network) × ((f x).length ≡ x.length) = λ x. stays_at d (marked? now network len x) x in
                let fewer : (x : Lease) → ltb now (f x).expires ≡ true → ltb now x.expires ≡ true = λ x e. sym (keeps now d (marked? now network len x) x) ∙ e in
                subst (λ (zs : List Lease). struck_if summary.expired now zs (state_in h).rows ≡ followed now (table_in h) (state_in h).rows (store (table_in h) now (present now zs))) ys-are
                (struck-is summary.expired now (map f (leases_in h)) (state_in h).rows (struck_rows lease_slots now (map f (leases_in h)) (state_in h).rows)
                (λ g. nothing-changed (table_in h) o.sound (state_in h).rows is now f same fewer (marked_all now network len d (leases_in h) (o.none-expired g)))
                (strike-changed (table_in h) o.sound (state_in h).rows is now f same fewer _ _ refl refl)
                ∙ stays-follow (table_in h) o.sound (state_in h).rows is now f same fewer)

            pub mark-found : (s : List ℕ) → ((rows : List FigureRow) (zs : List Lease) → h.figures ≡ sheet_of rows → Records l₁ (leases_from summary) zs → summary.leases ≡ length zs
                → s ≡ sheet_of (struck_if summary.expired now zs rows)) → outcome (acceptance 0 0) (lent l₂ n s) [] ≡ mark_image h now network len d
            unfolding ys mark mark_rows left
            mark-found s strikes =
                let sheet : s ≡ sheet_of (struck_if summary.expired now ys (state_in h).rows) = strikes (state_in h).rows ys (o.sheet-in refl).whole held (sym counted) in
                accepts h (mark_rows (state_in h) now network len) (λ m. 0) [] (settled_outcome h now network len d) no-row-left (outcome (acceptance 0 0) (left (state_in h) now (present now ys)) []) refl
                (ap (λ (zs : List Lease). outcome (acceptance 0 0) (left (state_in h) now zs) []) (sym leases-are)) (lent l₂ n s)
                (finished-in-place true h now 1 summary o ys counted l₁ (e₁ ∙ edit-is h.image (leases_from summary) (leases_in h) o.records (r - 1) inside (with_d d x)) l₂ n finished
                (followed now (table_in h) (state_in h).rows (store (table_in h) now (present now ys))) s (sheet ∙ ap sheet_of rows-follow))

-- ON THE OPEN BOOK

-- A mark moves no lease, and ends none.
mark-prefix : (d it : Bool) (x : Lease) → prefix_of (cond it (with_d d x) x) ≡ prefix_of x
mark-prefix d true x = refl
mark-prefix d false x = refl

mark-later : (now : ℕ) (d it : Bool) (x : Lease) → now < x.expires → now < (cond it (with_d d x) x).expires
mark-later now d true x k = k
mark-later now d false x k = k

-- Where none had expired the counts stay.
mark-unmoved : (h : Lent) (now network len : ℕ) (d : Bool) (summary : ImageSummary) → Admitted true h now 1 summary → summary.expired ≡ 0
    → counts_of (mark (state_in h) now network len d).state.table ≡ counts_of (table_in h)
unfolding mark left
mark-unmoved h now network len d summary o none-gone =
    served-or-not (λ (r : Result State). counts_of r.state.table ≡ counts_of (table_in h)) (mark_rows (state_in h) now network len) _ _ (λ n. refl)
    (λ e. unmoved now (λ (x : Lease). cond (at? network len x) (with_d d x) x) (λ x. mark-prefix d (at? network len x) x) (λ x. mark-later now d (at? network len x) x) true h 1 summary o none-gone)

module _ (b : Book) (now network len : ℕ) (d : Bool) where
  pub book-refused : (e : Refusal) → Admits true false (lent_in b) now 1 (Err e) → outcome (answer_of (Err e)) b [] ≡ mark_book b now network len d
  book-refused e ad =
      refuses-book b (mark_image (lent_in b) now network len d) (answer_of (Err e)) (lent_in b) [] (mark-refused (lent_in b) now network len d e ad) (number-some e)

  module _ (summary : ImageSummary) (ad : Admits true false (lent_in b) now 1 (Ok summary)) where
    -- It is admitted, so it is the call on what is lent.
    pub on-lent : Admitted true b.lent now 1 summary
    on-lent = admitted-book true b now 1 summary ad.1

    -- What it leaves, and the counts.
    module _ (r : Res Accepted Refusal) (g : Lent) (is : outcome (answer_of r) g [] ≡ mark_image b.lent now network len d) where
      pub mark-countable : LeftIfAccepted (answer_of r).number (lent g.image g.bytes []) summary.pools
      mark-countable =
          countable b.lent (mark (state_in b.lent) now network len d) (follows-all.marks b.lent now network len d)
          (mark-sound (state_in b.lent) now network len d) (mark-pools (state_in b.lent) now network len d) (answer_of r) g [] is summary.pools on-lent.pools

      stay : summary.expired ≡ 0 → counts_of (table_in g) ≡ b.counts
      stay none-gone =
          ap (λ (w : Result Lent). counts_of (table_in w.state)) is
          ∙ ap (λ (u : State). counts_of u.table) (follows-all.marks b.lent now network len d).holds
          ∙ mark-unmoved b.lent now network len d summary on-lent none-gone
          ∙ sym (admitted-counts true b now 1 summary ad.1)

      pub mark-settles : (moved : Bool) → (moved ≡ false → summary.expired ≡ 0) → (counts : List (List ℕ))
          → counts ≡ cond (eqb (answer_of r).number 0 && moved) (counts_of (table_in (lent g.image g.bytes []))) b.counts
          → outcome (answer_of r) (record { lent = g; counts = counts }) [] ≡ mark_book b now network len d
      mark-settles moved none-gone counts left-are =
          settles b (admitted-lent true b now 1 summary ad.1) (mark (state_in b.lent) now network len d) (λ (h : Lent). mark_image h now network len d)
          (follows-all.marks b.lent now network len d) (answer_of r) g [] is moved counts left-are (λ y e. stay (none-gone e))
