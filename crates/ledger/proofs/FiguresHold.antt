-- USAGE FIGURES ARE KEPT by the ledger: a lease that was present has after an accepted call the row that it had, or what a take told last; a new one is
-- untold.
-- Assumes nothing.
use Prim.Native.Nat.{ℕ, zero, suc, ◌-◌, ◌≤◌, ◌<◌}
use native.Mathlib.Omega.{arith}
use mathlib.Core.Path.{◌≡◌, refl, sym, ap, ap₂, subst, ◌∙◌}
use mathlib.Core.Logic.{◌⊎◌, inl, inr, ⊎_elim}
use mathlib.Core.Bool.{Bool, true, false, not, cond, ◌&&◌, true≢false}
use mathlib.Core.List.{List, [], ◌∷◌, map, head-eq_of_cons-eq, tail-eq_of_cons-eq}
use mathlib.Core.Option.{some}
use lib.ListN.{length, replicate}
use lib.Dec.{ltb, eqb}
use borrow.Author.Tests.{lt-ltb, eqb-true, eqb-false, eq-eqb, ne_eqb, not-false}
use Rattle.lists.specs.Lists.{All, Any, and, filter}
use Rattle.lists.proofs.Tests.{bool_cases, cond-true, cond-false, and-to}
use Rattle.lists.proofs.ListLaws.{all_map, all-every, any_append, any-all}
use Rattle.lists.proofs.FilterLaws.{filter-yes, filter-no, filter_none}
use Rattle.prefix.specs.declared.Prefix.{Prefix}
use Rattle.prefix.specs.Prefixes.{end}
use Rattle.prefix.proofs.PrefixLaws.{size-positive}
use Rattle.option.specs.Answers.{figures_of}
use Rattle.option.specs.Values.{Entry}
use Rattle.table.specs.declared.{Lease.Lease, LeaseTable.LeaseTable}
use Rattle.table.specs.Table.{lease_slots, prefix_of, no_lease, present, sound, store}
use Rattle.table.proofs.Ascending.{Ascending, ascending-low}
use Rattle.table.proofs.TableLaws.{present?, sound-fine}
use Rattle.table_open.specs.Open.{given, fresh}
use Rattle.figures.specs.declared.FigureRow.{FigureRow}
use Rattle.figures.specs.Figures as figures
use Rattle.figures.proofs.RowsMatch.{of-lease, fits-to, filled-matches}
use Rattle.figures.proofs.RowsFollow.{kept-yes, kept-no, kept-matches, found-same, found_none, own-rows, row_new, row-own}
use Rattle.figures.proofs.RowsFile.{figure_at, newest, filed-high-water, filed-in-use, filed-unusable, filed-of-lease}
use Rattle.ledger.specs.Ledger.{State, filled, left, Call, refusal_place, ask_rows, ask, names?, named_by?, usable_entries, renew, renewed, take_rows, take, release_rows, release, mark_rows, mark, ledger}
use Rattle.ledger.specs.FiguresKept.{Matched, Beside, RowOf, told, last_of, Updated, Unchanged, FiguresAfter, FiguresKept, AllUntold, OpensUntold}
use Rattle.ledger.proofs.RowLaws.{accepted-by, numbered-ask, numbered-take, numbered-release, numbered-mark}
use Rattle.ledger.proofs.LeftLaws.{renewed_table, present-long, left-matches, renewed-matches}
use Rattle.ledger.proofs.HistoriesHold.{opened-is}

-- A LEASE AND THE ROW AT ITS PLACE

beside-map : (f : Lease → FigureRow) (ys : List Lease) (y : Lease) (q : FigureRow) → Beside ys (map f ys) y q → q ≡ f y
beside-map f [] y q b = absurd b
beside-map f (x ∷ ys) y q (inl b) = sym b.1 ∙ ap f b.0
beside-map f (x ∷ ys) y q (inr b) = beside-map f ys y q b

-- What leases and rows come to place for place, a lease and its row come to.
beside-image : {B : Type 0} (f : Lease → B) (g : FigureRow → B) (ys : List Lease) (rs : List FigureRow) (x : Lease) (r : FigureRow) → map f ys ≡ map g rs → Beside ys rs x r → f x ≡ g r
beside-image f g [] rs x r e b = absurd b
beside-image f g (y ∷ ys) [] x r e b = absurd b
beside-image f g (y ∷ ys) (q ∷ rs) x r e (inl b) = ap f (sym b.0) ∙ head-eq_of_cons-eq e ∙ ap g b.1
beside-image f g (y ∷ ys) (q ∷ rs) x r e (inr b) = beside-image f g ys rs x r (tail-eq_of_cons-eq e) b

beside-member : (ys : List Lease) (rs : List FigureRow) (x : Lease) (r : FigureRow) → Beside ys rs x r → Any (λ y. y ≡ x) ys
beside-member [] rs x r b = absurd b
beside-member (y ∷ ys) [] x r b = absurd b
beside-member (y ∷ ys) (q ∷ rs) x r (inl b) = inl b.0
beside-member (y ∷ ys) (q ∷ rs) x r (inr b) = inr (beside-member ys rs x r b)

beside-of-lease : (ys : List Lease) (rs : List FigureRow) (x : Lease) (r : FigureRow) → figures.matches? ys rs ≡ true → Beside ys rs x r → figures.of_lease? x r ≡ true
beside-of-lease [] rs x r m b = absurd b
beside-of-lease (y ∷ ys) [] x r m b = absurd b
beside-of-lease (y ∷ ys) (q ∷ rs) x r m (inl b) = ap₂ figures.of_lease? (sym b.0) (sym b.1) ∙ fits-to y q (and-to (figures.fits? y q) (figures.matches? ys rs) m).0
beside-of-lease (y ∷ ys) (q ∷ rs) x r m (inr b) = beside-of-lease ys rs x r (and-to (figures.fits? y q) (figures.matches? ys rs) m).1 b

-- A lease that is present is among those present, with its row.
module _ (now : ℕ) (x : Lease) (r : FigureRow) (l : ltb now x.expires ≡ true) where
  abbrev Kept : List Lease → List FigureRow → Type 0
  Kept xs rs = Beside (present now xs) (figures.kept_rows now xs rs) x r

  kept-first : (y : Lease) (xs : List Lease) (q : FigureRow) (rs : List FigureRow) → ((y ≡ x) × (q ≡ r)) ⊎ Kept xs rs → Kept (y ∷ xs) (q ∷ rs)
  unfolding present
  kept-first y xs q rs b =
      ⊎_elim
      (λ (e : ltb now y.expires ≡ true).
      subst (λ (ys : List Lease). Beside ys (figures.kept_rows now (y ∷ xs) (q ∷ rs)) x r) (sym (filter-yes (present? now) y xs e))
      (subst (λ (qs : List FigureRow). Beside (y ∷ present now xs) qs x r) (sym (kept-yes now y xs q rs e)) b))
      (λ (e : ltb now y.expires ≡ false).
      subst (λ (ys : List Lease). Beside ys (figures.kept_rows now (y ∷ xs) (q ∷ rs)) x r) (sym (filter-no (present? now) y xs e))
      (subst (λ (qs : List FigureRow). Beside (present now xs) qs x r) (sym (kept-no now y xs q rs e)) (later e b)))
      (bool_cases (ltb now y.expires))
    where
      later : ltb now y.expires ≡ false → ((y ≡ x) × (q ≡ r)) ⊎ Kept xs rs → Kept xs rs
      later e (inl h) = absurd (true≢false (sym l ∙ ap (λ (z : Lease). ltb now z.expires) (sym h.0) ∙ e))
      later e (inr h) = h

  beside-kept : (xs : List Lease) (rs : List FigureRow) → Beside xs rs x r → Kept xs rs
  beside-kept [] rs b = absurd b
  beside-kept (y ∷ xs) [] b = absurd b
  beside-kept (y ∷ xs) (q ∷ rs) (inl b) = kept-first y xs q rs (inl b)
  beside-kept (y ∷ xs) (q ∷ rs) (inr b) = kept-first y xs q rs (inr (beside-kept xs rs b))

-- WHAT FOLLOWS A STATE

module _ (s : State) (now : ℕ) (so : sound s.table ≡ true) (m : Matched s) where
  abbrev here : List Lease
  here = present now s.table.leases

  abbrev rows : List FigureRow
  rows = figures.kept_rows now s.table.leases s.rows

  rows-match : figures.matches? here rows ≡ true
  rows-match = kept-matches now s.table.leases s.rows m

  -- A lease that was present finds the row that it had, by any lease of its prefix.
  row_stays : (x y : Lease) (r : FigureRow) → RowOf s x r → now < x.expires → prefix_of y ≡ prefix_of x → figures.row_for rows y ≡ r
  row_stays x y r b l e =
      row-own rows y r
      (found-same rows x y e
      ∙ beside-image (figures.found rows) some here rows x r (own-rows 0 here rows (sound-fine s.table so now).1 rows-match)
      (beside-kept now x r (lt-ltb now x.expires l) s.table.leases s.rows b))

  -- One whose prefix none had finds none.
  row-starts : (y : Lease) → All (λ x. prefix_of x ≡ prefix_of y → ⊥) here → figures.row_for rows y ≡ figures.untold_row y
  row-starts y a = row_new rows y (found_none y here rows rows-match a)

  pub left-figures : (xs : List Lease) → FiguresAfter Unchanged now s (left s now xs)
  unfolding left figures.followed
  left-figures xs =
      let ys : List Lease = (store s.table now xs).leases in
      record {
        matched-before = m;
        matched-after = left-matches s now so m xs;
        kept = λ x y r q b l a e. beside-map (figures.row_for rows) ys y q a ∙ row_stays x y r b l e;
        new = λ y q a others. beside-map (figures.row_for rows) ys y q a ∙ row-starts y others;
      }

-- FIGURES THAT ARE TOLD

-- One figure of a row, by its place in an entry.
module _ (get : FigureRow → ℕ) (place : ℕ) (files : (e : Entry) (r : FigureRow) → get (figures.filed (figures_of e.figures) r) ≡ newest (get r) (figure_at place e)) where
  told_more : (old new : ℕ) (ns : List ℕ) → last_of (newest old new) ns ≡ last_of old (cond (not (eqb new figures.untold)) (new ∷ ns) ns)
  told_more old new ns = go (eqb new figures.untold)
    where
      go : (b : Bool) → last_of (cond b old new) ns ≡ last_of old (cond (not b) (new ∷ ns) ns)
      go true = refl
      go false = refl

  module _ (client : ℕ) (x : Lease) where
    -- The entry comes to the row if it names the lease.
    told-one : (b : Bool) (e : Entry) (ds : List Entry) (r : FigureRow)
        → last_of (get (cond b (figures.filed (figures_of e.figures) r) r)) (filter (λ n. not (eqb n figures.untold)) (map (figure_at place) ds))
        ≡ last_of (get r) (filter (λ n. not (eqb n figures.untold)) (map (figure_at place) (cond b (e ∷ ds) ds)))
    told-one true e ds r =
        let ns : List ℕ = filter (λ n. not (eqb n figures.untold)) (map (figure_at place) ds) in
        ap (λ (n : ℕ). last_of n ns) (files e r) ∙ told_more (get r) (figure_at place e) ns
    told-one false e ds r = refl

    filed-told : x.client ≡ client → (es : List Entry) (r : FigureRow) → figures.of_lease? x r ≡ true → get (figures.filed_by es r) ≡ last_of (get r) (told client es x place)
    filed-told own [] r o = refl
    filed-told own (e ∷ es) r o =
        filed-told own es _ (stays (figures.names? r e))
        ∙ told-one (figures.names? r e) e (filter (names? client x) es) r
        ∙ ap (λ (b : Bool). last_of (get r) (filter (λ n. not (eqb n figures.untold)) (map (figure_at place) (cond b (e ∷ filter (names? client x) es) (filter (names? client x) es))))) named
      where
        stays : (b : Bool) → figures.of_lease? x (cond b (figures.filed (figures_of e.figures) r) r) ≡ true
        stays true = filed-of-lease e r x ∙ o
        stays false = o

        named : figures.names? r e ≡ names? client x e
        named =
            let at = of-lease x r o in
            ap₂ (λ (n k : ℕ). and (eqb n e.network ∷ eqb k e.length ∷ [])) at.0 at.1
            ∙ ap (λ (b : Bool). b && and (eqb x.network e.network ∷ eqb x.length e.length ∷ [])) (sym (eq-eqb x.client client own))

    -- Another client's entries tell nothing of it.
    not-told : eqb x.client client ≡ false → (es : List Entry) → told client es x place ≡ []
    not-told other es =
        ap (λ (ds : List Entry). filter (λ n. not (eqb n figures.untold)) (map (figure_at place) ds))
        (filter_none (names? client x) es (all-every (λ e. ap (λ (b : Bool). b && and (eqb x.network e.network ∷ eqb x.length e.length ∷ [])) other) es))

    taken-told : (es : List Entry) (r : FigureRow) → figures.of_lease? x r ≡ true
        → get (cond (eqb x.client client) (figures.filed_by es r) r) ≡ last_of (get r) (told client es x place)
    taken-told es r o =
        ⊎_elim
        (λ (b : eqb x.client client ≡ true). ap get (cond-true (eqb x.client client) (figures.filed_by es r) r b) ∙ filed-told (eqb-true x.client client b) es r o)
        (λ (b : eqb x.client client ≡ false). ap get (cond-false (eqb x.client client) (figures.filed_by es r) r b) ∙ ap (last_of (get r)) (sym (not-told b es)))
        (bool_cases (eqb x.client client))

updated : (client : ℕ) (es : List Entry) (x : Lease) (r : FigureRow) → figures.of_lease? x r ≡ true → Updated client es x r (cond (eqb x.client client) (figures.filed_by es r) r)
updated client es x r o = record {
  high-water = taken-told (λ q. q.high_water.0) 0 filed-high-water client x es r o;
  in_use = taken-told (λ q. q.in_use.0) 1 filed-in-use client x es r o;
  unusable = taken-told (λ q. q.unusable.0) 2 filed-unusable client x es r o;
}

-- THE LEASES AFTER A TAKE

-- Of leases that ascend only one has a prefix.
pub only_one : (x : Lease) (from : ℕ) (xs : List Lease) → Ascending prefix_of from xs → Any (λ z. z ≡ x) xs → All (λ z. prefix_of z ≡ prefix_of x → z ≡ x) xs
only_one x from [] s a = tt
only_one x from (z ∷ zs) s (inl e) =
    let other : (w : Lease) → end (prefix_of z) ≤ w.network → prefix_of w ≡ prefix_of x → w ≡ x =
    λ w h p. absurd (omega (arith, ap (λ (v : Prefix). v.network) p, ap (λ (v : Lease). v.network) e, size-positive z.length)) in
    ((λ p. e), all_map other zs (ascending-low prefix_of (end (prefix_of z)) zs s.1))
only_one x from (z ∷ zs) s (inr a) =
    let w = any-all zs a (ascending-low prefix_of (end (prefix_of z)) zs s.1) in
    ((λ p. absurd (omega (arith, w.2, ap (λ (v : Lease). v.network) w.1, ap (λ (v : Prefix). v.network) p, size-positive z.length))), only_one x (end (prefix_of z)) zs s.1 a)

any-preimage : {A B : Type 0} (f : A → B) (P : B → Type 0) (xs : List A) → Any P (map f xs) → Any (λ x. P (f x)) xs
any-preimage f P [] a = absurd a
any-preimage f P (x ∷ xs) (inl a) = inl a
any-preimage f P (x ∷ xs) (inr a) = inr (any-preimage f P xs a)

any-replicate : {A : Type 0} (P : A → Type 0) (n : ℕ) (x : A) → Any P (replicate n x) → P x
any-replicate P zero x a = absurd a
any-replicate P (suc n) x (inl a) = a
any-replicate P (suc n) x (inr a) = any-replicate P n x a

module _ (s : State) (now : ℕ) (c : Call) (so : sound s.table ≡ true) (m : Matched s) (named : c.client ≡ 0 → ⊥) where
  abbrev es : List Entry
  es = usable_entries s.table c

  abbrev renews : Lease → Lease
  renews x = cond (named_by? c.client es x) (renew now s.table.term x) x

  renews-keeps : (x : Lease) → (prefix_of (renews x) ≡ prefix_of x) × ((renews x).client ≡ x.client)
  renews-keeps x = go (named_by? c.client es x)
    where
      go : (b : Bool) → (prefix_of (cond b (renew now s.table.term x) x) ≡ prefix_of x) × ((cond b (renew now s.table.term x) x).client ≡ x.client)
      go true = (refl, refl)
      go false = (refl, refl)

  abbrev taken_row : Lease → FigureRow
  taken_row y = cond (eqb y.client c.client) (figures.filed_by es (figures.row_for (rows s now so m) y)) (figures.row_for (rows s now so m) y)

  -- Each is one that was present, or an empty slot.
  was-there : (y : Lease) (q : FigureRow) → RowOf (renewed s now c) y q → Any (λ x. renews x ≡ y) (present now s.table.leases) ⊎ (no_lease ≡ y)
  unfolding renewed store
  was-there y q b =
      let xs : List Lease = map renews (present now s.table.leases) in
      ⊎_elim (λ a. inl (any-preimage renews (λ z. z ≡ y) (present now s.table.leases) a)) (λ a. inr (any-replicate (λ z. z ≡ y) (lease_slots - length xs) no_lease a))
      (any_append (λ z. z ≡ y) xs (replicate (lease_slots - length xs) no_lease) (beside-member (renewed_table s now c).leases (renewed s now c).rows y q b))

  row_is : (y : Lease) (q : FigureRow) → RowOf (renewed s now c) y q → q ≡ taken_row y
  unfolding renewed figures.taken
  row_is y q b = beside-map taken_row (renewed_table s now c).leases y q b

  -- The lease of a prefix is the client's that had it.
  same-client : (x y : Lease) (r q : FigureRow) → RowOf s x r → now < x.expires → RowOf (renewed s now c) y q → prefix_of y ≡ prefix_of x → y.client ≡ x.client
  same-client x y r q b l a e =
      let member : Any (λ z. z ≡ x) (present now s.table.leases) =
      beside-member (present now s.table.leases) (rows s now so m) x r (beside-kept now x r (lt-ltb now x.expires l) s.table.leases s.rows b) in
      let one = only_one x 0 (present now s.table.leases) (sound-fine s.table so now).1 member in
      let long = any-all (present now s.table.leases) member (present-long s.table now so) in
      ⊎_elim
      (λ (w : Any (λ z. renews z ≡ y) (present now s.table.leases)).
      let z = any-all (present now s.table.leases) w one in
      let same : z.0 ≡ x = z.2 (sym (renews-keeps z.0).0 ∙ ap prefix_of z.1 ∙ e) in
      ap (λ (v : Lease). v.client) (sym z.1) ∙ (renews-keeps z.0).1 ∙ ap (λ (v : Lease). v.client) same)
      (λ (w : no_lease ≡ y). absurd (omega (arith, long.2, ap (λ (v : Lease). v.length) long.1, ap (λ (v : Prefix). v.length) e, ap (λ (v : Lease). v.length) w)))
      (was-there y q a)

  taken-kept : (x y : Lease) (r q : FigureRow) → RowOf s x r → now < x.expires → RowOf (renewed s now c) y q → prefix_of y ≡ prefix_of x → Updated c.client es x r q
  taken-kept x y r q b l a e =
      let is : q ≡ cond (eqb x.client c.client) (figures.filed_by es r) r =
      row_is y q a ∙ ap₂ (λ (n : ℕ) (v : FigureRow). cond (eqb n c.client) (figures.filed_by es v) v) (same-client x y r q b l a e) (row_stays s now so m x y r b l e) in
      subst (Updated c.client es x r) (sym is) (updated c.client es x r (beside-of-lease s.table.leases s.rows x r m b))

  taken-new : (y : Lease) (q : FigureRow) → RowOf (renewed s now c) y q → All (λ x. prefix_of x ≡ prefix_of y → ⊥) (present now s.table.leases) → q ≡ figures.untold_row y
  taken-new y q a others =
      ⊎_elim
      (λ (w : Any (λ x. renews x ≡ y) (present now s.table.leases)).
      let z = any-all (present now s.table.leases) w others in
      absurd (z.2 (sym (renews-keeps z.0).0 ∙ ap prefix_of z.1)))
      (λ (w : no_lease ≡ y).
      let other : eqb y.client c.client ≡ false = ne_eqb y.client c.client (λ same. named (sym same ∙ ap (λ (v : Lease). v.client) (sym w))) in
      row_is y q a ∙ cond-false (eqb y.client c.client) _ _ other ∙ row-starts s now so m y others)
      (was-there y q a)

  pub renewed-figures : FiguresAfter (Updated c.client es) now s (renewed s now c)
  renewed-figures = record { matched-before = m; matched-after = renewed-matches s now so m c named; kept = taken-kept; new = taken-new }

-- EVERY CALL

module _ (s : State) (now : ℕ) (c : Call) where
  ask-figures : (ask s now c).answer.number ≡ 0 → FiguresAfter Unchanged now s (ask s now c).state
  unfolding ask ask_rows
  ask-figures =
      accepted-by (FiguresAfter Unchanged now s) (ask_rows s now c) (refusal_place c.option) s c.reply _ (numbered-ask s now c)
      (λ r. left-figures s now (not-false (sound s.table) r.1.0) (not-false (figures.matches? s.table.leases s.rows) r.1.1.0) _)

  take-figures : (take s now c).answer.number ≡ 0 → FiguresAfter (Updated c.client (usable_entries s.table c)) now s (take s now c).state
  unfolding take take_rows
  take-figures =
      accepted-by (FiguresAfter (Updated c.client (usable_entries s.table c)) now s) (take_rows s now c) (refusal_place c.option) s c.reply _ (numbered-take s now c)
      (λ r.
      renewed-figures s now c (not-false (sound s.table) r.1.0) (not-false (figures.matches? s.table.leases s.rows) r.1.1.0)
      (eqb-false c.client 0 r.1.1.1.0))

  release-figures : (release s now c).answer.number ≡ 0 → FiguresAfter Unchanged now s (release s now c).state
  unfolding release release_rows
  release-figures =
      accepted-by (FiguresAfter Unchanged now s) (release_rows s now c) (refusal_place c.option) s c.reply _ (numbered-release s now c)
      (λ r. left-figures s now (not-false (sound s.table) r.0) (not-false (figures.matches? s.table.leases s.rows) r.1.0) _)

mark-figures : (s : State) (now network len : ℕ) (d : Bool) → (mark s now network len d).answer.number ≡ 0 → FiguresAfter Unchanged now s (mark s now network len d).state
unfolding mark mark_rows
mark-figures s now network len d =
    accepted-by (FiguresAfter Unchanged now s) (mark_rows s now network len) (λ n. 0) s [] _ (numbered-mark s now network len)
    (λ r. left-figures s now (not-false (sound s.table) r.0) (not-false (figures.matches? s.table.leases s.rows) r.1.0) _)

pub figures-kept : FiguresKept ledger
figures-kept = record { asks = ask-figures; takes = take-figures; releases = release-figures; marks = mark-figures }

-- "open and load fill it"

pub filled-untold : (t : LeaseTable) → AllUntold (filled t)
filled-untold t = (filled-matches t.leases, (λ y q b. beside-map figures.untold_row t.leases y q b))

pub opens-untold : OpensUntold
opens-untold networks lengths term default_length start e = subst AllUntold (sym (opened-is networks lengths term default_length start e).1) (filled-untold (fresh (given networks lengths) term default_length start))
