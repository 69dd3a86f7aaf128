-- Laws of a take and its ground: what the entries on the ground do to all leases, and to their rows, is what all entries do to the leases that lie there
-- and to theirs. Those stand together, so the others are not looked at.
-- Assumes nothing.
use Prim.Native.Nat.{ℕ, ◌+◌, ◌*◌, ◌≤◌}
use native.Mathlib.Omega.{arith}
use mathlib.Core.Path.{◌≡◌, refl, sym, ap, ap₂, ◌∙◌}
use mathlib.Core.Logic.{⊎_elim}
use mathlib.Core.Bool.{Bool, true, false, cond, ◌&&◌, true≢false, and-false}
use mathlib.Core.List.{List, [], ◌∷◌, ◌++◌, map}
use mathlib.Core.Option.{Option, none, some}
use lib.ListN.{length, take, drop, length-map}
use lib.Seq.{length-take-le}
use lib.Dec.{ltb, eqb}
use borrow.Author.Tests.{eqb-true}
use Rattle.lists.specs.Lists.{All, filter, concat_map}
use Rattle.lists.specs.Put.{put}
use Rattle.lists.proofs.Tests.{bool_cases, not-true⇒false, and-to, cond-false}
use Rattle.lists.proofs.ListLaws.{all-every, all_left, all_right}
use Rattle.lists.proofs.FilterLaws.{filter-yes, filter-no, filter-whole}
use Rattle.lists.proofs.MapLaws.{map-append}
use Rattle.lists.proofs.ConcatMapLaws.{concat_map-append}
use Rattle.lists.proofs.PutLaws.{put-before}
use Rattle.option_entry.specs.declared.Figures.{Figures}
use Rattle.option_entry.specs.Steps.{figures_of}
use Rattle.option.specs.Values.{Entry}
use Rattle.option.specs.Contents.{entries_in}
use Rattle.table.specs.declared.{Lease.Lease, LeaseTable.LeaseTable}
use Rattle.table.specs.Table.{no_lease, present}
use Rattle.image.specs.Image.{lease_size, lease_record, used_leases}
use Rattle.image_check.specs.declared.ImageSummary.{ImageSummary}
use Rattle.image_records.specs.Records.{Records}
use Rattle.image_records.proofs.RecordLaws.{length-leases, records-drop, put-after-first, put-leases-same}
use Rattle.figures.specs.declared.FigureRow.{FigureRow}
use Rattle.figures.specs.Figures.{of_lease?, filed, filed_by}
use Rattle.figures.specs.Figures as figures
use Rattle.figures.specs.Inner.{leases_match?, with_each, filing}
use Rattle.figures.proofs.FoundLaws.{lease-network, lease-length}
use Rattle.ledger.specs.Ledger.{Call, on_ground, usable_entries, named_by?, found}
use Rattle.call_spec.specs.ImageCalls.{Lent, table_in}
use Rattle.call_rows.specs.Admission.{leases_from, Admitted}
use Rattle.call_entries.specs.EntryLeases.{leased_until, changed_by, changed_in}
use Rattle.call_ground.specs.declared.Ground.{Ground}
use Rattle.call_ground.specs.Ground.{on_it?, leases_in, Grounds}
use Rattle.call_ground.proofs.EntryLaws.{ground-found, ground-named}
use Rattle.call_ground.proofs.GroundsLaws.{grounds-split, grounds-usable, grounds-count}

contrary : {b : Bool} → b ≡ true → b ≡ false → ⊥
contrary t f = true≢false (sym t ∙ f)

-- FIGURES of the entries that pass a test of network and length.

module _ (q : ℕ → ℕ → Bool) where
  abbrev passing : List Entry → List Entry
  passing es = filter (λ e. q e.network e.length) es

  names-alike : (r : FigureRow) (e : Entry) → figures.names? r e ≡ true → q r.network r.length ≡ q e.network e.length
  names-alike r e y =
      let u = and-to (eqb r.network e.network) _ y in
      let v = and-to (eqb r.length e.length) true u.1 in
      ap₂ q (eqb-true r.network e.network u.0) (eqb-true r.length e.length v.0)

  -- Filing keeps the row's network and length.
  keeps : (b : Bool) (f : Figures) (r : FigureRow) → q (cond b (filed f r) r).network (cond b (filed f r) r).length ≡ q r.network r.length
  unfolding filed
  keeps true f r = refl
  keeps false f r = refl

  -- A row that passes is filed by those as by all,
  filed-inside : (es : List Entry) (r : FigureRow) → q r.network r.length ≡ true → filed_by (passing es) r ≡ filed_by es r
  filed-inside [] r k = refl
  filed-inside (e ∷ es) r k =
      let next : FigureRow = cond (figures.names? r e) (filed (figures_of e.figures) r) r in
      ⊎_elim
      (λ (y : q e.network e.length ≡ true).
      ap (λ (l : List Entry). filed_by l r) (filter-yes (λ (a : Entry). q a.network a.length) e es y)
      ∙ filed-inside es next (keeps (figures.names? r e) (figures_of e.figures) r ∙ k))
      (λ (y : q e.network e.length ≡ false).
      let other = not-true⇒false (figures.names? r e) (λ w. contrary (sym (names-alike r e w) ∙ k) y) in
      ap (λ (l : List Entry). filed_by l r) (filter-no (λ (a : Entry). q a.network a.length) e es y)
      ∙ filed-inside es r k
      ∙ ap (filed_by es) (sym (cond-false (figures.names? r e) (filed (figures_of e.figures) r) r other)))
      (bool_cases (q e.network e.length))

  -- and one that does not is not filed.
  filed-outside : (es : List Entry) (r : FigureRow) → q r.network r.length ≡ false → filed_by (passing es) r ≡ r
  filed-outside [] r k = refl
  filed-outside (e ∷ es) r k =
      ⊎_elim
      (λ (y : q e.network e.length ≡ true).
      let other = not-true⇒false (figures.names? r e) (λ w. contrary y (sym (names-alike r e w) ∙ k)) in
      ap (λ (l : List Entry). filed_by l r) (filter-yes (λ (a : Entry). q a.network a.length) e es y)
      ∙ ap (filed_by (passing es)) (cond-false (figures.names? r e) (filed (figures_of e.figures) r) r other)
      ∙ filed-outside es r k)
      (λ (y : q e.network e.length ≡ false).
      ap (λ (l : List Entry). filed_by l r) (filter-no (λ (a : Entry). q a.network a.length) e es y) ∙ filed-outside es r k)
      (bool_cases (q e.network e.length))

  module _ (now client : ℕ) (es : List Entry) where
    row-alike : (x : Lease) (r : FigureRow) → of_lease? x r ≡ true → q r.network r.length ≡ q x.network x.length
    row-alike x r m = ap₂ q (lease-network x r m) (lease-length x r m)

    filing-inside : (x : Lease) (r : FigureRow) → of_lease? x r ≡ true → q x.network x.length ≡ true → filing now client (passing es) x r ≡ filing now client es x r
    filing-inside x r m k =
        ap (λ (s : FigureRow). cond (ltb now x.expires && eqb x.client client) s r) (filed-inside es r (row-alike x r m ∙ k))

    filing-outside : (x : Lease) (r : FigureRow) → of_lease? x r ≡ true → q x.network x.length ≡ false → filing now client (passing es) x r ≡ r
    filing-outside x r m k =
        ap (λ (s : FigureRow). cond (ltb now x.expires && eqb x.client client) s r) (filed-outside es r (row-alike x r m ∙ k))
        ∙ either (ltb now x.expires && eqb x.client client)
      where
        either : (b : Bool) → cond b r r ≡ r
        either true = refl
        either false = refl

    -- Leases that do not pass, those that do, and others that do not.
    rows-after : (post : List Lease) (rs : List FigureRow) → leases_match? post rs ≡ true → All (λ x. q x.network x.length ≡ false) post
        → with_each (filing now client (passing es)) post rs ≡ rs
    rows-after [] rs m a = refl
    rows-after (x ∷ post) [] m a = refl
    rows-after (x ∷ post) (r ∷ rs) m a =
        let t = and-to (of_lease? x r) (leases_match? post rs) m in
        ap₂ (λ (s : FigureRow) (l : List FigureRow). s ∷ l) (filing-outside x r t.0 a.0) (rows-after post rs t.1 a.1)

    rows-among : (mid post : List Lease) (rs : List FigureRow) → leases_match? (mid ++ post) rs ≡ true → All (λ x. q x.network x.length ≡ true) mid
        → All (λ x. q x.network x.length ≡ false) post → with_each (filing now client (passing es)) (mid ++ post) rs ≡ with_each (filing now client es) mid rs
    rows-among [] post rs m a b = rows-after post rs m b
    rows-among (x ∷ mid) post [] m a b = refl
    rows-among (x ∷ mid) post (r ∷ rs) m a b =
        let t = and-to (of_lease? x r) (leases_match? (mid ++ post) rs) m in
        ap₂ (λ (s : FigureRow) (l : List FigureRow). s ∷ l) (filing-inside x r t.0 a.0) (rows-among mid post rs t.1 a.1 b)

    rows_of : (pre mid post : List Lease) (rs : List FigureRow) → leases_match? (pre ++ (mid ++ post)) rs ≡ true → All (λ x. q x.network x.length ≡ false) pre
        → All (λ x. q x.network x.length ≡ true) mid → All (λ x. q x.network x.length ≡ false) post
        → with_each (filing now client (passing es)) (pre ++ (mid ++ post)) rs ≡ take (length pre) rs ++ with_each (filing now client es) mid (drop (length pre) rs)
    rows_of [] mid post rs m c a b = rows-among mid post rs m a b
    rows_of (x ∷ pre) mid post [] m c a b = absurd (true≢false (sym m))
    rows_of (x ∷ pre) mid post (r ∷ rs) m c a b =
        let t = and-to (of_lease? x r) (leases_match? (pre ++ (mid ++ post)) rs) m in
        ap₂ (λ (s : FigureRow) (l : List FigureRow). s ∷ l) (filing-outside x r t.0 c.0) (rows_of pre mid post rs t.1 c.1 a b)

-- The rows of leases that match, from the first of the middle ones on.
match-drop : (pre mid post : List Lease) (rs : List FigureRow) → leases_match? (pre ++ (mid ++ post)) rs ≡ true → leases_match? mid (drop (length pre) rs) ≡ true
match-drop [] mid post rs m = first mid rs m
  where
    first : (zs : List Lease) (ss : List FigureRow) → leases_match? (zs ++ post) ss ≡ true → leases_match? zs ss ≡ true
    first [] ss k = refl
    first (z ∷ zs) [] k = k
    first (z ∷ zs) (s ∷ ss) k =
        let t = and-to (of_lease? z s) (leases_match? (zs ++ post) ss) k in
        ap₂ (λ (a b : Bool). a && b) t.0 (first zs ss t.1)
match-drop (x ∷ pre) mid post [] m = absurd (true≢false (sym m))
match-drop (x ∷ pre) mid post (r ∷ rs) m = match-drop pre mid post rs (and-to (of_lease? x r) (leases_match? (pre ++ (mid ++ post)) rs) m).1

match-long : (xs : List Lease) (rs : List FigureRow) → leases_match? xs rs ≡ true → length xs ≤ length rs
match-long [] rs m = omega arith
match-long (x ∷ xs) [] m = absurd (true≢false (sym m))
match-long (x ∷ xs) (r ∷ rs) m = omega (arith, match-long xs rs (and-to (of_lease? x r) (leases_match? xs rs) m).1)

-- THE TEST OF THE GROUND, of a network and a length.

abbrev lying : Option (List ℕ) → LeaseTable → ℕ → ℕ → Bool
lying o t network len =
    on_it? o t (record { network = network; length = len; client = no_lease.client; leased = no_lease.leased; h = no_lease.h; d = no_lease.d; expires = no_lease.expires; name = no_lease.name })

lying-lease : (o : Option (List ℕ)) (t : LeaseTable) (x : Lease) → on_it? o t x ≡ lying o t x.network x.length
lying-lease none t x = refl
lying-lease (some s) t x = refl

module _ (t : LeaseTable) (c : Call) where
  abbrev on? : Lease → Bool
  on? x = on_it? c.selection t x

  usable-are : usable_entries t c ≡ passing (lying c.selection t) (entries_in c.option)
  unfolding usable_entries
  usable-are = go c.selection
    where
      go : (o : Option (List ℕ)) → on_ground o t (λ e. record { network = e.network; length = e.length }) (entries_in c.option) ≡ passing (lying o t) (entries_in c.option)
      go none = sym (filter-whole (λ e. true) (entries_in c.option) (all-every (λ e. refl) (entries_in c.option)))
      go (some s) = refl

  named-on : (x : Lease) → named_by? c.client (usable_entries t c) x ≡ (on? x && named_by? c.client (entries_in c.option) x)
  unfolding usable_entries
  named-on x = go c.selection refl
    where
      go : (o : Option (List ℕ)) → c.selection ≡ o → named_by? c.client (usable_entries t c) x ≡ (on_it? c.selection t x && named_by? c.client (entries_in c.option) x)
      go none e =
          ap (λ (o : Option (List ℕ)). named_by? c.client (on_ground o t (λ (y : Entry). record { network = y.network; length = y.length }) (entries_in c.option)) x) e
          ∙ sym (ap (λ (o : Option (List ℕ)). on_it? o t x && named_by? c.client (entries_in c.option) x) e)
      go (some s) e =
          ground-named t c s e x ∙ sym (ap (λ (o : Option (List ℕ)). on_it? o t x && named_by? c.client (entries_in c.option) x) e)

  -- THE LEASES: those before, those on the ground, those after.
  module _ (pre mid post : List Lease) (low : All (λ x. on? x ≡ false) pre) (on : All (λ x. on? x ≡ true) mid) (high : All (λ x. on? x ≡ false) post) where
    -- What becomes of them.
    module _ (now expires : ℕ) where
      change : Lease → Lease
      change = changed_by now c.client expires (usable_entries t c)

      changed-as : (b : Bool) (x : Lease) → on? x ≡ b → change x ≡ cond (ltb now x.expires && (b && named_by? c.client (entries_in c.option) x)) (leased_until expires x) x
      unfolding change
      changed-as b x e =
          ap (λ (v : Bool). cond (ltb now x.expires && v) (leased_until expires x) x) (named-on x ∙ ap (λ (v : Bool). v && named_by? c.client (entries_in c.option) x) e)

      unchanged-off : (zs : List Lease) → All (λ x. on? x ≡ false) zs → map change zs ≡ zs
      unchanged-off [] a = refl
      unchanged-off (z ∷ zs) a =
          ap₂ (λ (x : Lease) (l : List Lease). x ∷ l)
          (changed-as false z a.0 ∙ ap (λ (v : Bool). cond v (leased_until expires z) z) (and-false (ltb now z.expires))) (unchanged-off zs a.1)

      changed-on : (zs : List Lease) → All (λ x. on? x ≡ true) zs → map change zs ≡ map (changed_by now c.client expires (entries_in c.option)) zs
      changed-on [] a = refl
      changed-on (z ∷ zs) a = ap₂ (λ (x : Lease) (l : List Lease). x ∷ l) (changed-as true z a.0) (changed-on zs a.1)

      changed-there : map (changed_by now c.client expires (usable_entries t c)) (pre ++ (mid ++ post)) ≡ pre ++ (map (changed_by now c.client expires (entries_in c.option)) mid ++ post)
      unfolding change
      changed-there =
          map-append change pre (mid ++ post)
          ∙ ap₂ (λ (l m : List Lease). l ++ m) (unchanged-off pre low)
          (map-append change mid post ∙ ap₂ (λ (l m : List Lease). l ++ m) (changed-on mid on) (unchanged-off post high))

    -- And of their rows.
    filed-there : (now : ℕ) (rs : List FigureRow) → leases_match? (pre ++ (mid ++ post)) rs ≡ true
        → with_each (filing now c.client (usable_entries t c)) (pre ++ (mid ++ post)) rs ≡ take (length pre) rs ++ with_each (filing now c.client (entries_in c.option)) mid (drop (length pre) rs)
    filed-there now rs m =
        ap (λ (es : List Entry). with_each (filing now c.client es) (pre ++ (mid ++ post)) rs) usable-are
        ∙ rows_of (lying c.selection t) now c.client (entries_in c.option) pre mid post rs m
        (as-lying false pre low) (as-lying true mid on) (as-lying false post high)
      where
        as-lying : (b : Bool) (zs : List Lease) → All (λ x. on_it? c.selection t x ≡ b) zs → All (λ x. lying c.selection t x.network x.length ≡ b) zs
        as-lying b [] a = tt
        as-lying b (z ∷ zs) a = (sym (lying-lease c.selection t z) ∙ a.0, as-lying b zs a.1)

-- LEASES IN A BUFFER: as many others put in the place of some of them, from the place `first` on. So all are put.

put-part : (first n : ℕ) (xs : List Lease) → first + n ≤ length xs → (l : List ℕ) (from : ℕ) → Records l from xs → (ys : List Lease) → length ys ≡ n
    → put l (from + lease_size * first) (concat_map lease_record ys) ≡ put l from (concat_map lease_record (take first xs ++ (ys ++ drop (first + n) xs)))
put-part first n xs few l from held ys many =
    let post : List Lease = drop (first + n) xs in
    let at : ℕ = from + lease_size * first in
    let new : List ℕ = concat_map lease_record ys in
    let behind : List ℕ = concat_map lease_record post in
    let place : at + length new ≡ from + lease_size * (first + n) = omega (arith, length-leases ys, many) in
    let there : put l (at + length new) behind ≡ l =
    ap (λ (k : ℕ). put l k behind) place ∙ put-leases-same l (from + lease_size * (first + n)) post (records-drop l from xs held (first + n) few) in
    sym
    (ap (put l from)
    (concat_map-append lease_record (take first xs) (ys ++ post) ∙ ap (λ (s : List ℕ). concat_map lease_record (take first xs) ++ s) (concat_map-append lease_record ys post))
    ∙ sym (put-after-first l from xs held first (omega (arith, few)) (new ++ behind))
    ∙ sym (put-before new l at behind)
    ∙ ap (λ (s : List ℕ). put s at new) there)

-- A CALL THAT HAS ITS GROUND

module _ (h : Lent) (now : ℕ) (c : Call) (summary : ImageSummary) (g : Ground) (k : Grounds h c summary g) (a : Admitted true h now c.client summary) where
  abbrev xs : List Lease
  xs = used_leases (table_in h)

  abbrev pre : List Lease
  pre = take g.first xs

  abbrev post : List Lease
  post = drop (g.first + g.leases) xs

  few : g.first + g.leases ≤ length xs
  few = omega (arith, k.few-leases, a.leases)

  low : All (λ x. on_it? c.selection (table_in h) x ≡ false) pre
  low = all_left (λ x. on_it? c.selection (table_in h) x ≡ false) pre post k.outside

  high : All (λ x. on_it? c.selection (table_in h) x ≡ false) post
  high = all_right (λ x. on_it? c.selection (table_in h) x ≡ false) pre post k.outside

  front : length pre ≡ g.first
  front = length-take-le g.first xs (omega (arith, few))

  -- What is found.
  pub found-on-ground : found c.client (present now (leases_in g (used_leases (table_in h)))) (entries_in c.option) ≡ found c.client (present now (used_leases (table_in h))) (usable_entries (table_in h) c)
  found-on-ground =
      ap (λ (l : List Lease). found c.client l (entries_in c.option)) (sym (grounds-usable h c summary g k now)) ∙ ground-found (table_in h) c (present now xs)

  -- What is changed.
  pub changed-on-ground : (expires : ℕ) (l : List ℕ)
      → l ≡ changed_in now c.client expires (entries_in c.option) h.image (leases_from summary + lease_size * g.first) (leases_in g (used_leases (table_in h)))
      → l ≡ changed_in now c.client expires (usable_entries (table_in h) c) h.image (leases_from summary) (used_leases (table_in h))
  changed-on-ground expires l is =
      let by : Lease → Lease = changed_by now c.client expires (entries_in c.option) in
      is
      ∙ put-part g.first g.leases xs few h.image (leases_from summary) a.records (map by (leases_in g xs)) (length-map (leases_in g xs) by ∙ grounds-count h c summary g k now c.client a)
      ∙ ap (λ (l : List Lease). put h.image (leases_from summary) (concat_map lease_record l))
      (sym (changed-there (table_in h) c pre (leases_in g xs) post low k.inside high now expires)
      ∙ ap (map (changed_by now c.client expires (usable_entries (table_in h) c))) (sym (grounds-split g xs)))

  -- What is filed, and in which rows.
  module _ (rs : List FigureRow) (m : leases_match? (used_leases (table_in h)) rs ≡ true) where
    in_parts : leases_match? (pre ++ (leases_in g xs ++ post)) rs ≡ true
    in_parts = ap (λ (l : List Lease). leases_match? l rs) (sym (grounds-split g xs)) ∙ m

    pub filed-on-ground : take g.first rs ++ with_each (filing now c.client (entries_in c.option)) (leases_in g (used_leases (table_in h))) (drop g.first rs)
        ≡ with_each (filing now c.client (usable_entries (table_in h) c)) (used_leases (table_in h)) rs
    filed-on-ground =
        ap (λ (i : ℕ). take i rs ++ with_each (filing now c.client (entries_in c.option)) (leases_in g xs) (drop i rs)) (sym front)
        ∙ sym (filed-there (table_in h) c pre (leases_in g xs) post low k.inside high now rs in_parts)
        ∙ ap (λ (l : List Lease). with_each (filing now c.client (usable_entries (table_in h) c)) l rs) (sym (grounds-split g xs))

    pub rows-on-ground : leases_match? (leases_in g (used_leases (table_in h))) (drop g.first rs) ≡ true
    rows-on-ground = ap (λ (i : ℕ). leases_match? (leases_in g xs) (drop i rs)) (sym front) ∙ match-drop pre (leases_in g xs) post rs in_parts

    pub rows_before : g.first ≡ length (take g.first rs)
    rows_before = sym (length-take-le g.first rs (omega (arith, few, match-long xs rs m)))
