-- What an accepted call leaves of the sheet, where the rows match the leases of the table t that it is given: what strike leaves, and spread after it, are
-- the rows that the definitions say, and these match the leases after the call.
-- Assumes nothing.
use Prim.Native.Nat.{ℕ, zero, suc, ◌-◌, ◌≤◌}
use native.Mathlib.Omega.{arith}
use mathlib.Core.Path.{◌≡◌, refl, sym, ap, ap₂, subst, ◌∙◌}
use mathlib.Core.Bool.{Bool, true, false, cond, ◌&&◌}
use mathlib.Core.List.{List, [], ◌∷◌, ◌++◌, map, append-nil}
use mathlib.Core.Option.{none}
use lib.ListN.{length, take, drop, replicate, length-map}
use lib.Dec.{ltb, eqb}
use borrow.Author.Tests.{ne_eqb}
use Rattle.lists.specs.Lists.{All, cat_maybes}
use Rattle.lists.proofs.Tests.{cond-false}
use Rattle.lists.proofs.FilterLaws.{all_replicate}
use Rattle.lists.proofs.ListLaws.{all_map, all_append}
use Rattle.lists.proofs.MapLaws.{map-append}
use Rattle.option_entry.specs.Entries.{Entry}
use Rattle.table.specs.declared.{Lease.Lease, LeaseTable.LeaseTable}
use Rattle.table.specs.Table.{lease_slots, no_lease, empty?, padded, pools_of, present, sound, store}
use Rattle.table.proofs.TableLaws.{sound-used, sound-fine, fine-long, long-not-empty}
use Rattle.image.specs.Image.{used_leases}
use Rattle.image.proofs.ImageLaws.{table-whole}
use Rattle.image_records.specs.Records.{Ascending}
use Rattle.image_records.proofs.SoundLaws.{sound-ascending, ascending-present, used-few}
use Rattle.figures.specs.declared.FigureRow.{FigureRow}
use Rattle.figures.specs.Figures.{untold_row, empty_row, of_lease?, fits?, matches?, kept_rows, found, row_for, followed, filed_by, taken}
use Rattle.figures.specs.Inner.{leases_match?, with_each, filing, struck_rows}
use Rattle.figures.proofs.FoundLaws.{row_new}
use Rattle.figures.proofs.KeptLaws.{kept-count, kept-padded}
use Rattle.figures.proofs.FollowLaws.{untold-fits, row_fits, spread_none, strike-matches}
use Rattle.figures.proofs.FollowedLaws.{empty-slots, no-empty, struck-is, struck-none, struck-first, spread-is}
use Rattle.figures.proofs.FileLaws.{filed-by-lease}
use Rattle.figures.proofs.FilingLaws.{filing-lease}
use Rattle.figures.proofs.MatchLaws.{Matched, matched, used-fits, empty-row-fits, matches-each}
use Rattle.figures.proofs.StaysLaws.{stays, each_same, each-behind, each-length, each-matches, map-matches}

-- Rows that are each one's, for leases and empty slots behind them.
padded-matches : (row : Lease → FigureRow) (ys : List Lease) → All (λ y. empty? y ≡ false) ys → ((y : Lease) → of_lease? y (row y) ≡ true) → row no_lease ≡ empty_row
    → matches? (padded ys) (map row (padded ys)) ≡ true
padded-matches row ys used own none_told =
    matches-each row (padded ys)
    (all_append (λ y. fits? y (row y) ≡ true) ys (replicate (lease_slots - length ys) no_lease)
    (all_map (λ y (u : empty? y ≡ false). used-fits y (row y) u ∙ own y) ys used)
    (all_replicate (λ y. fits? y (row y) ≡ true) (lease_slots - length ys) no_lease (ap (fits? no_lease) none_told ∙ empty-row-fits)))

-- What fill leaves matches.
pub filled-matches : (xs : List Lease) → All (λ x. empty? x ≡ false) xs → matches? (padded xs) (map untold_row (padded xs)) ≡ true
filled-matches xs used = padded-matches untold_row xs used untold-fits refl

module _ (t : LeaseTable) (ok : sound t ≡ true) (rows : List FigureRow) (m : matches? t.leases rows ≡ true) where
  whole : t.leases ≡ padded (used_leases t)
  whole = ap (λ (u : LeaseTable). u.leases) (table-whole t ok)

  few : length (used_leases t) ≤ lease_slots
  few = (used-few t ok).1

  long : All (λ x. 1 ≤ x.length) (used_leases t)
  long =
      subst (All (λ x. 1 ≤ x.length)) (sym (sound-used t ok)) (fine-long (pools_of t) t.last 0 (present t.last t.leases) (sound-fine t ok t.last))

  pub rows-matched : Matched (used_leases t) (lease_slots - length (used_leases t)) rows
  rows-matched =
      matched (used_leases t) (lease_slots - length (used_leases t)) rows (all_map (λ x (h : 1 ≤ x.length). long-not-empty x h) (used_leases t) long)
      (ap (λ (ys : List Lease). matches? ys rows) (sym whole) ∙ m)

  module _ (now : ℕ) where
    kept : List FigureRow
    kept = kept_rows now (used_leases t) rows

    kept_same : kept_rows now t.leases rows ≡ kept
    unfolding kept
    kept_same = ap (λ (ys : List Lease). kept_rows now ys rows) whole ∙ kept-padded now (used_leases t) (lease_slots - length (used_leases t)) rows

    none-empty : found kept no_lease ≡ none
    unfolding kept
    none-empty = no-empty now (used_leases t) rows long rows-matched.leases

    -- STRIKING

    pub strike-leaves : (n r : ℕ) → n ≡ length (used_leases t) → r ≡ length (present now (used_leases t))
        → kept_rows now (used_leases t) rows ++ (replicate (n - r) empty_row ++ drop n rows) ≡ struck_rows lease_slots now (used_leases t) rows
    strike-leaves n r e left = struck-is lease_slots now (used_leases t) rows few rows-matched n r e left

    pub nothing-struck : present now (used_leases t) ≡ used_leases t → rows ≡ struck_rows lease_slots now (used_leases t) rows
    nothing-struck all = struck-none lease_slots now (used_leases t) rows few rows-matched all

    -- ASK: the leases after it are those that were present, with others put among them (`spread-insert`).

    pub ask-starts : cat_maybes (map (found (kept_rows now (used_leases t) rows)) (present now (used_leases t))) ≡ kept_rows now (used_leases t) rows
    unfolding Ascending
    ask-starts =
        spread_none (present now (used_leases t)) (kept_rows now (used_leases t) rows) (ascending-present now (used_leases t) (sound-ascending t ok))
        (kept-count now (used_leases t) rows (omega (arith, rows-matched.size)))
        (ap (leases_match? (present now (used_leases t))) (sym (append-nil (kept_rows now (used_leases t) rows))) ∙ strike-matches now (used_leases t) rows [] rows-matched.leases)

    module _ (r : ℕ) (left : r ≡ length (present now (used_leases t))) (ys : List Lease) where
      first : take r (struck_rows lease_slots now (used_leases t) rows) ≡ kept_rows now (used_leases t) rows
      first = struck-first lease_slots now (used_leases t) rows few rows-matched r left

      pub spread-premise : cat_maybes (map (found (kept_rows now (used_leases t) rows)) ys) ≡ kept_rows now (used_leases t) rows
          → cat_maybes (map (found (take r (struck_rows lease_slots now (used_leases t) rows))) ys) ≡ take r (struck_rows lease_slots now (used_leases t) rows)
      spread-premise e = ap (λ (k : List FigureRow). cat_maybes (map (found k) ys)) first ∙ e ∙ sym first

      pub spread-leaves : r ≤ length ys → length ys ≤ lease_slots
          → map (row_for (take r (struck_rows lease_slots now (used_leases t) rows))) ys ++ drop (length ys) (struck_rows lease_slots now (used_leases t) rows)
          ≡ followed now t rows (store t now ys)
      unfolding followed store kept
      spread-leaves more within =
          ap (λ (k : List FigureRow). map (row_for k) ys ++ drop (length ys) (struck_rows lease_slots now (used_leases t) rows)) first
          ∙ spread-is lease_slots now (used_leases t) rows few rows-matched ys (omega (arith, left)) within none-empty
          ∙ ap (λ (k : List FigureRow). map (row_for k) (padded ys)) (sym kept_same)

    -- "Rows match lines, place for place, after every accepted call that has the sheet".
    pub followed-matches : (ys : List Lease) → All (λ y. empty? y ≡ false) ys → matches? (store t now ys).leases (followed now t rows (store t now ys)) ≡ true
    unfolding followed store
    followed-matches ys used =
        padded-matches (row_for (kept_rows now t.leases rows)) ys used (row_fits (kept_rows now t.leases rows))
        (ap (λ (k : List FigureRow). row_for k no_lease) kept_same ∙ row_new kept no_lease none-empty)

    -- TAKE, RETURN, MARK: leases are changed where they stand, some of them so that they end, and then the ended ones are struck.
    module _ (f : Lease → Lease) (same : (x : Lease) → ((f x).network ≡ x.network) × ((f x).length ≡ x.length))
        (fewer : (x : Lease) → ltb now (f x).expires ≡ true → ltb now x.expires ≡ true) where
      changed : (rs : List FigureRow) → Matched (used_leases t) (lease_slots - length (used_leases t)) rs
          → Matched (map f (used_leases t)) (lease_slots - length (map f (used_leases t))) rs
      changed rs h =
          let n : length (map f (used_leases t)) ≡ length (used_leases t) = length-map (used_leases t) f in
          record {
            size = omega (arith, h.size, n, few);
            leases = map-matches f same (used_leases t) rs ∙ h.leases;
            behind = ap (λ (k : ℕ). drop k rs) n ∙ h.behind ∙ ap (λ (k : ℕ). replicate (lease_slots - k) empty_row) (sym n);
          }

      few-changed : length (map f (used_leases t)) ≤ lease_slots
      few-changed = omega (arith, length-map (used_leases t) f, few)

      pub strike-changed : (n r : ℕ) → n ≡ length (map f (used_leases t)) → r ≡ length (present now (map f (used_leases t)))
          → kept_rows now (map f (used_leases t)) rows ++ (replicate (n - r) empty_row ++ drop n rows) ≡ struck_rows lease_slots now (map f (used_leases t)) rows
      strike-changed n r e left = struck-is lease_slots now (map f (used_leases t)) rows few-changed (changed rows rows-matched) n r e left

      pub nothing-changed : present now (map f (used_leases t)) ≡ map f (used_leases t) → rows ≡ struck_rows lease_slots now (map f (used_leases t)) rows
      nothing-changed all = struck-none lease_slots now (map f (used_leases t)) rows few-changed (changed rows rows-matched) all

      -- Return and mark.
      pub stays-follow : struck_rows lease_slots now (map f (used_leases t)) rows ≡ followed now t rows (store t now (present now (map f (used_leases t))))
      unfolding followed store kept Ascending
      stays-follow =
          let ys : List Lease = present now (map f (used_leases t)) in
          sym
          (ap (λ (k : List FigureRow). map (row_for k) (padded ys)) kept_same
          ∙ map-append (row_for kept) ys (replicate (lease_slots - length ys) no_lease)
          ∙ ap₂ (λ (a b : List FigureRow). a ++ b)
          (stays now f same fewer (λ x r. r) (λ x r. r) (λ x r p. refl) (used_leases t) rows (sound-ascending t ok) rows-matched.leases
          ∙ ap (kept_rows now (map f (used_leases t))) (each_same (used_leases t) rows))
          (empty-slots kept (lease_slots - length ys) none-empty))

      -- Take: the entries are filed one after another in the rows as they stand (`file-nothing`, `file-one`, `file-none`), and then the ended ones are struck.
      module _ (client : ℕ) (someone : client ≡ 0 → ⊥) (es : List Entry) (keeps : (x : Lease) → (f x).client ≡ x.client) where
        filed_rows : List FigureRow
        filed_rows = with_each (filing now client es) (used_leases t) rows

        filed-matched : Matched (used_leases t) (lease_slots - length (used_leases t)) filed_rows
        unfolding filed_rows
        filed-matched = record {
          size = each-length (filing now client es) (used_leases t) rows ∙ rows-matched.size;
          leases = each-matches (filing now client es) (filing-lease now client es) (used_leases t) rows ∙ rows-matched.leases;
          behind = each-behind (filing now client es) (used_leases t) rows ∙ rows-matched.behind;
        }

        pub strike-filed : (n r : ℕ) → n ≡ length (map f (used_leases t)) → r ≡ length (present now (map f (used_leases t)))
            → kept_rows now (map f (used_leases t)) (with_each (filing now client es) (used_leases t) rows)
            ++ (replicate (n - r) empty_row ++ drop n (with_each (filing now client es) (used_leases t) rows))
            ≡ struck_rows lease_slots now (map f (used_leases t)) (with_each (filing now client es) (used_leases t) rows)
        unfolding filed_rows
        strike-filed n r e left = struck-is lease_slots now (map f (used_leases t)) filed_rows few-changed (changed filed_rows filed-matched) n r e left

        pub nothing-filed : present now (map f (used_leases t)) ≡ map f (used_leases t)
            → with_each (filing now client es) (used_leases t) rows ≡ struck_rows lease_slots now (map f (used_leases t)) (with_each (filing now client es) (used_leases t) rows)
        unfolding filed_rows
        nothing-filed all = struck-none lease_slots now (map f (used_leases t)) filed_rows few-changed (changed filed_rows filed-matched) all

        -- The row of a lease after the take.
        row-after : List FigureRow → Lease → FigureRow
        row-after k x = cond (eqb x.client client) (filed_by es (row_for k x)) (row_for k x)

        empty-after : row-after kept no_lease ≡ empty_row
        unfolding row-after
        empty-after =
            cond-false (eqb 0 client) (filed_by es (row_for kept no_lease)) (row_for kept no_lease) (ne_eqb 0 client (λ z. someone (sym z)))
            ∙ row_new kept no_lease none-empty

        slots-after : (k : ℕ) → map (row-after kept) (replicate k no_lease) ≡ replicate k empty_row
        slots-after zero = refl
        slots-after (suc k) = ap₂ (λ (r : FigureRow) (l : List FigureRow). r ∷ l) empty-after (slots-after k)

        agree : (x : Lease) (r : FigureRow) → ltb now (f x).expires ≡ true → cond (eqb (f x).client client) (filed_by es r) r ≡ filing now client es x r
        agree x r p =
            ap (λ (b : Bool). cond b (filed_by es r) r) (ap (λ (n : ℕ). eqb n client) (keeps x) ∙ sym (ap (λ (b : Bool). b && eqb x.client client) (fewer x p)))

        pub take-follows : struck_rows lease_slots now (map f (used_leases t)) (with_each (filing now client es) (used_leases t) rows)
            ≡ taken now client es t rows (store t now (present now (map f (used_leases t))))
        unfolding taken store kept Ascending row-after
        take-follows =
            let ys : List Lease = present now (map f (used_leases t)) in
            sym
            (ap (λ (k : List FigureRow). map (row-after k) (padded ys)) kept_same
            ∙ map-append (row-after kept) ys (replicate (lease_slots - length ys) no_lease)
            ∙ ap₂ (λ (a b : List FigureRow). a ++ b)
            (stays now f same fewer (filing now client es) (λ x r. cond (eqb x.client client) (filed_by es r) r) agree (used_leases t) rows (sound-ascending t ok) rows-matched.leases)
            (slots-after (lease_slots - length ys)))

        pub taken-matches : (ys : List Lease) → All (λ y. empty? y ≡ false) ys → matches? (store t now ys).leases (taken now client es t rows (store t now ys)) ≡ true
        unfolding taken store kept row-after
        taken-matches ys used =
            padded-matches (row-after (kept_rows now t.leases rows)) ys used (λ y. own y (eqb y.client client))
            (ap (λ (k : List FigureRow). row-after k no_lease) kept_same ∙ empty-after)
          where
            own : (y : Lease) (b : Bool) → of_lease? y (cond b (filed_by es (row_for (kept_rows now t.leases rows) y)) (row_for (kept_rows now t.leases rows) y)) ≡ true
            own y true = filed-by-lease es (row_for (kept_rows now t.leases rows) y) y ∙ row_fits (kept_rows now t.leases rows) y
            own y false = row_fits (kept_rows now t.leases rows) y
