-- THE TABLE WITH LEASES HELD ANEW, before the ended ones are removed: what the rest of an ask goes by. It is sound, its rows match, and what is left of it is
-- what is left of the table before.
-- Assumes nothing.
use Prim.Native.Nat.{ℕ, ◌+◌, ◌-◌, ◌≤◌, ◌<◌}
use native.Mathlib.Omega.{arith}
use mathlib.Core.Path.{◌≡◌, refl, sym, ap, ap₂, subst, ◌∙◌}
use mathlib.Core.Logic.{⊎_elim}
use mathlib.Core.Bool.{Bool, true, false, cond, ◌&&◌, true≢false}
use mathlib.Core.List.{List, [], ◌∷◌, ◌++◌, map}
use lib.Dec.{ltb, eqb}
use lib.ListN.{length, drop, replicate, take}
use borrow.Author.Tests.{eqb-true, ltb-true, lt-ltb}
use Rattle.lists.specs.Lists.{All, any?, cat_maybes}
use Rattle.lists.proofs.Tests.{bool_cases, cond-true, cond-false, or-to}
use Rattle.lists.proofs.ListLaws.{all_map, all-map₂, all-every}
use Rattle.lists.proofs.FilterLaws.{filter-all, filter-yes, filter-no}
use Rattle.prefix.specs.declared.Prefix.{Prefix}
use Rattle.table.specs.declared.{Lease.Lease, LeaseTable.LeaseTable}
use Rattle.table.specs.Table.{lease_slots, latest, no_lease, pools_of, empty?, present, sound, padded, store}
use Rattle.table.proofs.TableLaws.{Good, Fine, sound-used, sound-fine, long-not-empty, fine-long, fine-map, store-sound}
use Rattle.option.specs.Contents.{Request}
use Rattle.image.specs.Image.{used_leases}
use Rattle.image.proofs.ImageLaws.{used-leases, table-whole}
use Rattle.image_records.specs.Records.{Ascending}
use Rattle.image_records.proofs.SoundLaws.{sound-ascending, used-few}
use Rattle.figures.specs.declared.FigureRow.{FigureRow}
use Rattle.figures.specs.Figures.{fits?, matches?, kept_rows, row_for, followed}
use Rattle.figures.proofs.RowsMatch.{of-lease-same}
use Rattle.figures.proofs.MatchLaws.{used-fits}
use Rattle.figures.proofs.KeptLaws.{kept-padded}
use Rattle.ledger.specs.Ledger.{hold_time, again, hold_again, held_again}
use Rattle.ledger.proofs.AgainLaws.{again-all, held, held_place, held-length}
use Rattle.ask_commit.proofs.GroundHeld.{present-inner}

-- LISTS

-- A change that ends no present lease and makes none present.
module _ (now : ℕ) (f : Lease → Lease) where
  Stays : Lease → Type 0
  Stays x = ltb now (f x).expires ≡ ltb now x.expires

  present-changed : (xs : List Lease) → All Stays xs → present now (map f xs) ≡ map f (present now xs)
  unfolding present Stays
  present-changed [] a = refl
  present-changed (x ∷ xs) a =
      ⊎_elim
      (λ (b : ltb now x.expires ≡ true).
      filter-yes (λ y. ltb now y.expires) (f x) (map f xs) (a.0 ∙ b)
      ∙ ap (λ (ys : List Lease). f x ∷ ys) (present-changed xs a.1)
      ∙ ap (map f) (sym (filter-yes (λ y. ltb now y.expires) x xs b)))
      (λ (b : ltb now x.expires ≡ false).
      filter-no (λ y. ltb now y.expires) (f x) (map f xs) (a.0 ∙ b)
      ∙ present-changed xs a.1
      ∙ ap (map f) (sym (filter-no (λ y. ltb now y.expires) x xs b)))
      (bool_cases (ltb now x.expires))

  kept-changed : (xs : List Lease) (rows : List FigureRow) → All Stays xs → kept_rows now (map f xs) rows ≡ kept_rows now xs rows
  unfolding Stays
  kept-changed [] rows a = refl
  kept-changed (x ∷ xs) [] a = refl
  kept-changed (x ∷ xs) (r ∷ rows) a = ap₂ (λ (b : Bool) (rest : List FigureRow). cond b (r ∷ rest) rest) a.0 (kept-changed xs rows a.1)

  matches-changed : (xs qs : List Lease) (rows : List FigureRow) → All (λ x. (r : FigureRow) → fits? (f x) r ≡ fits? x r) xs → matches? (map f xs ++ qs) rows ≡ matches? (xs ++ qs) rows
  matches-changed [] qs rows a = refl
  matches-changed (x ∷ xs) qs [] a = refl
  matches-changed (x ∷ xs) qs (r ∷ rows) a = ap₂ (λ (b c : Bool). b && c) (a.0 r) (matches-changed xs qs rows a.1)

-- A network of a present lease is that of no ended one.
pub Alone : ℕ → List Lease → Lease → Type 0
Alone now xs y = All (λ z. y.network ≡ z.network → now < z.expires) xs

present-alone : (now : ℕ) (xs : List Lease) → Ascending xs → All (Alone now xs) (present now xs)
unfolding Ascending Alone present
present-alone now [] a = tt
present-alone now (x ∷ xs) a =
    let later : All (Alone now (x ∷ xs)) (present now xs) =
    all-map₂ (λ y (l : x.network < y.network) (k : Alone now xs y). ((λ e. absurd (omega arith)), k)) (present now xs) (filter-all (λ y. ltb now y.expires) (λ y. x.network < y.network) xs a.0) (present-alone now xs a.1) in
    ⊎_elim
    (λ (b : ltb now x.expires ≡ true).
    subst (All (Alone now (x ∷ xs))) (sym (filter-yes (λ y. ltb now y.expires) x xs b))
    (((λ e. ltb-true now x.expires b), all_map {Q = λ z. x.network ≡ z.network → now < z.expires} (λ z (l : x.network < z.network) e. absurd (omega arith)) xs a.0), later))
    (λ (b : ltb now x.expires ≡ false). subst (All (Alone now (x ∷ xs))) (sym (filter-no (λ y. ltb now y.expires) x xs b)) later)
    (bool_cases (ltb now x.expires))

given-present : (now : ℕ) (xs given : List Lease) → All (Alone now xs) given → All (λ z. any? (λ y. eqb y.network z.network) given ≡ true → now < z.expires) xs
unfolding Alone
given-present now xs [] a = all-every (λ z (e : false ≡ true). absurd (true≢false (sym e))) xs
given-present now xs (y ∷ ys) a =
    all-map₂ {P = λ z. y.network ≡ z.network → now < z.expires} {Q = λ z. any? (λ w. eqb w.network z.network) ys ≡ true → now < z.expires}
    (λ z k m e. ⊎_elim (λ h. k (eqb-true y.network z.network h)) m (or-to (eqb y.network z.network) (any? (λ w. eqb w.network z.network) ys) e)) xs a.0 (given-present now xs ys a.1)

-- So is that of one given again, of the n leases from the place f on.
pub given-alone : (t : LeaseTable) → sound t ≡ true → (u : LeaseTable) (now client f n : ℕ) (rs : List Request)
    → All (Alone now (used_leases t)) (cat_maybes (again u client (present now (take n (drop f (used_leases t)))) rs))
given-alone t ok u now client f n rs =
    let us : List Lease = used_leases t in
    let ms : List Lease = present now (take n (drop f us)) in
    all_map (λ x k. k.1) (cat_maybes (again u client ms rs)) (again-all u client (Alone now us) rs ms (present-inner now f n (Alone now us) us (present-alone now us (sound-ascending t ok))))

-- THE TABLE

module _ (t : LeaseTable) (ok : sound t ≡ true) (now : ℕ) (since : t.last ≤ now) (early : now ≤ latest) (given : List Lease) (alone : All (Alone now (used_leases t)) given) where
  abbrev us : List Lease
  us = used_leases t

  abbrev zs : List Lease
  zs = held_again now given us

  pub held_table : LeaseTable
  held_table = store t t.last zs

  stays : All (Stays now (held now given)) us
  unfolding Stays
  stays =
      all_map {P = λ z. any? (λ y. eqb y.network z.network) given ≡ true → now < z.expires}
      (λ x k.
      ⊎_elim
      (λ (b : any? (λ y. eqb y.network x.network) given ≡ true).
      ap (λ (y : Lease). ltb now y.expires) (cond-true (any? (λ y. eqb y.network x.network) given) (hold_again now x) x b)
      ∙ lt-ltb now (now + hold_time) (omega arith)
      ∙ sym (lt-ltb now x.expires (k b)))
      (λ (b : any? (λ y. eqb y.network x.network) given ≡ false). ap (λ (y : Lease). ltb now y.expires) (cond-false (any? (λ y. eqb y.network x.network) given) (hold_again now x) x b))
      (bool_cases (any? (λ y. eqb y.network x.network) given)))
      us (given-present now us given alone)

  pub held-present : present now zs ≡ held_again now given (present now us)
  held-present = present-changed now (held now given) us stays

  fine-us : Fine (pools_of t) t.last 0 us
  fine-us = subst (Fine (pools_of t) t.last 0) (sym (sound-used t ok)) (sound-fine t ok t.last)

  still-good : (x : Lease) → Good (pools_of t) t.last x → Good (pools_of t) t.last (held now given x)
  still-good x g =
      either (any? (λ y. eqb y.network x.network) given)
    where
      anew : Good (pools_of t) t.last (hold_again now x)
      anew = record { short = g.short; long = g.long; aligned = g.aligned; client = g.client; later = omega arith; pooled = g.pooled }

      either : (b : Bool) → Good (pools_of t) t.last (cond b (hold_again now x) x)
      either true = anew
      either false = g

  fine-zs : Fine (pools_of t) t.last 0 zs
  fine-zs = fine-map (pools_of t) t.last 0 (held now given) (held_place now given) still-good us fine-us

  few : length zs ≤ lease_slots
  few = omega (arith, held-length now given us, (used-few t ok).1)

  not-empty : All (λ x. empty? x ≡ false) zs
  not-empty = all_map (λ x (l : 1 ≤ x.length). long-not-empty x l) zs (fine-long (pools_of t) t.last 0 zs fine-zs)

  pub held-used : used_leases held_table ≡ zs
  unfolding held_table store
  held-used = used-leases (lease_slots - length zs) zs not-empty

  pub held-sound : sound held_table ≡ true
  unfolding held_table
  held-sound = store-sound t t.last zs ok (omega arith) few fine-zs

  -- The rows match it, and those of the leases that are present follow.
  whole : t.leases ≡ padded us
  whole = ap (λ (u : LeaseTable). u.leases) (table-whole t ok)

  slots_same : padded zs ≡ zs ++ replicate (lease_slots - length us) no_lease
  slots_same = ap (λ (n : ℕ). zs ++ replicate (lease_slots - n) no_lease) (held-length now given us)

  fit_same : All (λ x. (r : FigureRow) → fits? (held now given x) r ≡ fits? x r) us
  fit_same =
      all_map {Q = λ x. (r : FigureRow) → fits? (held now given x) r ≡ fits? x r} (λ x (l : 1 ≤ x.length) r.
      used-fits (held now given x) r (long-not-empty (held now given x) (subst (λ (n : ℕ). 1 ≤ n) (sym (ap (λ (p : Prefix). p.length) (held_place now given x))) l))
      ∙ of-lease-same x (held now given x) r (held_place now given x)
      ∙ sym (used-fits x r (long-not-empty x l)))
      us (fine-long (pools_of t) t.last 0 us fine-us)

  module _ (rows : List FigureRow) where
    pub held-matched : matches? t.leases rows ≡ true → matches? held_table.leases rows ≡ true
    unfolding held_table store
    held-matched m =
        ap (λ (l : List Lease). matches? l rows) slots_same
        ∙ matches-changed now (held now given) us (replicate (lease_slots - length us) no_lease) rows fit_same
        ∙ sym (ap (λ (l : List Lease). matches? l rows) whole)
        ∙ m

    kept-held : kept_rows now held_table.leases rows ≡ kept_rows now t.leases rows
    unfolding held_table store
    kept-held =
        kept-padded now zs (lease_slots - length zs) rows
        ∙ kept-changed now (held now given) us rows stays
        ∙ sym (ap (λ (l : List Lease). kept_rows now l rows) whole ∙ kept-padded now us (lease_slots - length us) rows)

    pub held-followed : (ys : List Lease) → followed now held_table rows (store held_table now ys) ≡ followed now t rows (store t now ys)
    unfolding followed store
    held-followed ys = ap (λ (ks : List FigureRow). map (row_for ks) (padded ys)) kept-held
