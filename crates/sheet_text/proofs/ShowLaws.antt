-- Laws of showing rows: the room they need, rows put one after another, and what the scan of a prefix is.
-- Assumes nothing.
use Prim.Native.Nat.{ℕ, zero, suc, ◌+◌, ◌-◌, ◌≤◌, ◌<◌}
use mathlib.Core.Path.{◌≡◌, refl, sym, ap, subst, ◌∙◌}
use mathlib.Core.Logic.{inl, inr, ⊎_elim, by_cases}
use mathlib.Core.Bool.{Bool, true, false, true≢false}
use mathlib.Core.List.{List, [], ◌∷◌, ◌++◌, append-nil, append_assoc}
use native.Mathlib.Decide.{dec_le}
use native.Mathlib.Numerals.{add-one}
use native.Mathlib.Omega.{arith}
use lib.ListN.{length, length-append}
use borrow.Author.Tests.{le-leb, lt-leb, lt-ltb, le-ltb, leb-true, leb-false}
use Rattle.lists.specs.Put.{put}
use Rattle.lists.proofs.ConcatMapLaws.{concat_map-append, concat_map-one}
use Rattle.lists.proofs.PutLaws.{put-nothing, put-more, put-past}
use Rattle.text.specs.Wrote.{Wrote}
use Rattle.prefix.specs.declared.Prefix.{Prefix}
use Rattle.prefix.specs.Prefixes.{longest, end, lower, upper}
use Rattle.prefix.proofs.PrefixLaws.{lower-inside, upper-inside}
use Rattle.sheet_text.specs.declared.Used.{Used}
use Rattle.sheet_text.specs.Sheet.{Row, used_row, free_row, used_in, free_in, row_text}
use Rattle.sheet_text.specs.InnerScan.{Fits, lease_shown, pool_shown, pools_shown, Scan, clear?, both, free_scan, used_scan, scan, scan_halves, scan_of, scan_all, scan_text, Showed, ScanReady, ReadyAll}

-- ROOM

-- Room for a text is room for what does not end after it.
pub room-part : (out out' : List ℕ) (at mid : ℕ) (xs ys : List ℕ) → length out' ≡ length out → mid + length ys ≤ at + length xs → Fits out at xs → Fits out' mid ys
room-part out out' at mid xs ys e h r = record {
  small = omega (arith, r.small);
  fits = ⊎_elim (λ (z : length out ≡ 0). inl (omega arith)) (λ (f : at + length xs ≤ length out). inr (omega arith)) r.fits;
}

pub room_fits : (out : List ℕ) (at : ℕ) (xs : List ℕ) → Fits out at xs → (length out ≡ 0 → ⊥) → at + length xs ≤ length out
room_fits out at xs r n = ⊎_elim (λ (z : length out ≡ 0). absurd (n z)) (λ (f : at + length xs ≤ length out). f) r.fits

-- Nothing is put into an empty buffer.
pub wrote-empty : (l : List ℕ) (at q : ℕ) (xs : List ℕ) → length l ≡ 0 → q ≡ at + length xs → Wrote l at xs l q
wrote-empty l at q xs z e = record { bytes = sym (put-past xs l at (omega arith)); place = e }

-- ROWS AFTER ROWS

pub free-append : (xs ys : List Row) → free_in (xs ++ ys) ≡ free_in xs ++ free_in ys
free-append [] ys = refl
free-append (used_row x ∷ xs) ys = free-append xs ys
free-append (free_row p ∷ xs) ys = ap (λ (ps : List Prefix). p ∷ ps) (free-append xs ys)

pub used-append : (rs qs : List Row) → used_in (rs ++ qs) ≡ used_in rs ++ used_in qs
used-append [] qs = refl
used-append (used_row x ∷ rs) qs = ap (λ (l : List Used). x ∷ l) (used-append rs qs)
used-append (free_row p ∷ rs) qs = used-append rs qs

pub length-free : (rs qs : List Row) → length (free_in (rs ++ qs)) ≡ length (free_in rs) + length (free_in qs)
length-free rs qs = ap length (free-append rs qs) ∙ length-append (free_in rs) (free_in qs)

pub length-used : (rs qs : List Row) → length (used_in (rs ++ qs)) ≡ length (used_in rs) + length (used_in qs)
length-used rs qs = ap length (used-append rs qs) ∙ length-append (used_in rs) (used_in qs)

text-both : (a b : Scan) → scan_text (both a b) ≡ scan_text a ++ scan_text b
text-both a b = concat_map-append row_text a.rows b.rows

length_both : (a b : Scan) → length (scan_text (both a b)) ≡ length (scan_text a) + length (scan_text b)
length_both a b = ap length (text-both a b) ∙ length-append (scan_text a) (scan_text b)

-- A scan of one row: its room, and the row written.
module _ (r : Row) (i : ℕ) {s : Scan} (one : s ≡ record { rows = r ∷ []; next = i }) where
  row-text : scan_text s ≡ row_text r
  row-text = ap scan_text one ∙ concat_map-one row_text r

  pub fits-row : {l : List ℕ} {at : ℕ} → Fits l at (scan_text s) → Fits l at (row_text r)
  fits-row {l} {at} f = subst (Fits l at) row-text f

  pub showed-row : {l l' : List ℕ} {at q : ℕ} → Wrote l at (row_text r) l' q → Showed l at s l' q i
  showed-row {l} {l'} {at} {q} w = record {
    bytes = w.bytes ∙ ap (put l at) (sym row-text);
    place = w.place ∙ ap (λ (t : List ℕ). at + length t) (sym row-text);
    cursor = ap (λ (u : Scan). u.next) (sym one);
  }

pub showed-as : {l l' : List ℕ} {at q j : ℕ} {s s' : Scan} → s' ≡ s → Showed l at s l' q j → Showed l at s' l' q j
showed-as {l} {l'} {at} {q} {j} e h = subst (λ (u : Scan). Showed l at u l' q j) (sym e) h

pub showed-both : (l l₁ l₂ : List ℕ) (at mid to i j : ℕ) (a b : Scan) → Showed l at a l₁ mid i → Showed l₁ mid b l₂ to j → Showed l at (both a b) l₂ to j
showed-both l l₁ l₂ at mid to i j a b s t = record {
  bytes = put-more l l₁ l₂ at (scan_text a) mid (scan_text b) s.bytes s.place t.bytes ∙ ap (put l at) (sym (text-both a b));
  place = omega (arith, s.place, t.place, length_both a b);
  cursor = t.cursor;
}

-- WHAT THE SCAN OF A PREFIX IS

module _ (leases : ℕ → Used) (n : ℕ) (p : Prefix) (i : ℕ) where
  pub scan-clear : (left : ℕ) → clear? n (end p) i (leases i).network ≡ true → scan leases n left p i ≡ free_scan p i
  unfolding scan
  scan-clear zero e = rw e refl
  scan-clear (suc left) e = rw e refl

  module _ (e : clear? n (end p) i (leases i).network ≡ false) where
    pub scan-here : (left : ℕ) → (leases i).length ≤ p.length → scan leases n left p i ≡ used_scan (leases i) i
    unfolding scan
    scan-here zero h = rw (e, le-leb (leases i).length p.length h) refl
    scan-here (suc left) h = rw (e, le-leb (leases i).length p.length h) refl

    pub scan-split : (left : ℕ) → p.length < (leases i).length
        → scan leases n (suc left) p i ≡ both (scan leases n left (lower p) i) (scan leases n left (upper p) (scan leases n left (lower p) i).next)
    unfolding scan
    scan-split left h = rw (e, lt-leb (leases i).length p.length h) refl

    pub scan-halves : p.length < longest → p.length < (leases i).length → scan_of leases n p i ≡ scan_halves leases n p i
    scan-halves s h =
        let less : longest - p.length ≡ suc (longest - (p.length + 1)) = omega arith in
        ap (λ (left : ℕ). scan leases n left p i) less ∙ scan-split (longest - (p.length + 1)) h

-- Where a prefix is not clear, a lease is left, and it starts before the end.
pub clear-not : (n stop i network : ℕ) → clear? n stop i network ≡ false → (i < n) × (network < stop)
clear-not n stop i network e =
    by_cases (dec_le n i) (λ h. absurd (true≢false (rw (le-ltb i n h) at e)))
    (λ h. let lt : i < n = omega arith in (lt, leb-false stop network (rw (lt-ltb i n lt) at e)))

pub clear-yes : (n stop i network : ℕ) → clear? n stop i network ≡ true → i < n → stop ≤ network
clear-yes n stop i network e h = leb-true stop network (rw (lt-ltb i n h) at e)

pub clear_of : (n stop i network : ℕ) → (i < n → stop ≤ network) → clear? n stop i network ≡ true
clear_of n stop i network h =
    by_cases (dec_le n i) (λ g. rw (le-ltb i n g) refl)
    (λ g. let lt : i < n = omega arith in rw (lt-ltb i n lt) (le-leb stop network (h lt)))

-- What the code's test of a prefix tells of its scan.
module _ (leases : ℕ → Used) (n : ℕ) (p : Prefix) (i : ℕ) (r : Bool) (told : r ≡ clear? n (end p) i (leases i).network) where
  pub told_free : r ≡ true → scan_of leases n p i ≡ free_scan p i
  told_free e = scan-clear leases n p i (longest - p.length) (sym told ∙ e)

  pub told-lease : r ≡ false → i < n
  told-lease e = (clear-not n (end p) i (leases i).network (sym told ∙ e)).0

  module _ (e : r ≡ false) (x : Used) (ex : x ≡ leases i) where
    pub told-used : x.length ≤ p.length → scan_of leases n p i ≡ used_scan x i
    told-used h =
        scan-here leases n p i (sym told ∙ e) (longest - p.length) (subst (λ (y : Used). y.length ≤ p.length) ex h)
        ∙ ap (λ (y : Used). used_scan y i) (sym ex)

    pub told-halves : p.length < longest → p.length < x.length → scan_of leases n p i ≡ scan_halves leases n p i
    told-halves s h = scan-halves leases n p i (sym told ∙ e) s (subst (λ (y : Used). p.length < y.length) ex h)

-- TWO HALVES, ONE AFTER THE OTHER

pub showed-halves : (leases : ℕ → Used) (n : ℕ) (p low high : Prefix) → low ≡ lower p → high ≡ upper p → (l l₁ l₂ : List ℕ) (at mid to i j k : ℕ)
    → Showed l at (scan_of leases n low i) l₁ mid j → Showed l₁ mid (scan_of leases n high j) l₂ to k → Showed l at (scan_halves leases n p i) l₂ to k
showed-halves leases n p low high el eh l l₁ l₂ at mid to i j k s t =
    let first : Showed l at (scan_of leases n (lower p) i) l₁ mid j = subst (λ (q : Prefix). Showed l at (scan_of leases n q i) l₁ mid j) el s in
    let second : Showed l₁ mid (scan_of leases n (upper p) j) l₂ to k = subst (λ (q : Prefix). Showed l₁ mid (scan_of leases n q j) l₂ to k) eh t in
    showed-both l l₁ l₂ at mid to j k (scan_of leases n (lower p) i) (scan_of leases n (upper p) (scan_of leases n (lower p) i).next) first
    (subst (λ (m : ℕ). Showed l₁ mid (scan_of leases n (upper p) m) l₂ to k) first.cursor second)

module _ (image : List ℕ) (base n : ℕ) where
  abbrev leases : ℕ → Used
  leases = lease_shown image base

  module _ (out : List ℕ) (at i : ℕ) (p low high : Prefix) (short : p.length < longest) (el : low ≡ lower p) (eh : high ≡ upper p)
      (ready : ScanReady image base n out at p (scan_halves leases n p i)) where
    pub ready-low : ScanReady image base n out at low (scan_of leases n low i)
    ready-low =
        subst (λ (q : Prefix). ScanReady image base n out at q (scan_of leases n q i)) (sym el)
        (record {
          long = omega arith;
          within = omega (arith, (lower-inside p (omega arith)).1, ready.within);
          slots = ready.slots;
          lengths = ready.lengths;
          room =
              let a : Scan = scan_of leases n (lower p) i in
              let b : Scan = scan_of leases n (upper p) a.next in
              room-part out out at at (scan_text (both a b)) (scan_text a) refl (omega (arith, length_both a b)) ready.room;
        })

    pub ready-high : (out' : List ℕ) (mid j : ℕ) → length out' ≡ length out → Showed out at (scan_of leases n low i) out' mid j → ScanReady image base n out' mid high (scan_of leases n high j)
    ready-high out' mid j kept s =
        let a : Scan = scan_of leases n (lower p) i in
        let b : Scan = scan_of leases n (upper p) a.next in
        let first : Showed out at a out' mid j = subst (λ (q : Prefix). Showed out at (scan_of leases n q i) out' mid j) el s in
        subst (λ (q : Prefix). ScanReady image base n out' mid q (scan_of leases n q j)) (sym eh)
        (record {
          long = omega arith;
          within = omega (arith, (upper-inside p (omega arith)).1, ready.within);
          slots = ready.slots;
          lengths = ready.lengths;
          room =
              subst (λ (m : ℕ). Fits out' mid (scan_text (scan_of leases n (upper p) m))) (sym first.cursor)
              (room-part out out' at mid (scan_text (both a b)) (scan_text b) kept (omega (arith, first.place, length_both a b)) ready.room);
        })

-- POOLS, ONE AFTER ANOTHER

scan-path : (a b : List Row) (next : ℕ) → a ≡ b → ◌≡◌ {A = Scan} (record { rows = a; next = next }) (record { rows = b; next = next })
scan-path a b next e = ap (λ (rs : List Row). record { rows = rs; next = next }) e

all_snoc : (leases : ℕ → Used) (n : ℕ) (ps : List Prefix) (p : Prefix) (i : ℕ)
    → scan_all leases n (ps ++ (p ∷ [])) i ≡ both (scan_all leases n ps i) (scan_of leases n p (scan_all leases n ps i).next)
unfolding scan_all
all_snoc leases n [] p i = scan-path _ _ _ (append-nil (scan_of leases n p i).rows)
all_snoc leases n (q ∷ ps) p i =
    let first : Scan = scan_of leases n q i in
    let later : Scan = scan_all leases n ps first.next in
    ap (both first) (all_snoc leases n ps p first.next)
    ∙ scan-path _ _ _ (sym (append_assoc first.rows later.rows (scan_of leases n p later.next).rows))

module _ (image : List ℕ) (base n : ℕ) where
  -- The rows of the first j pools.
  abbrev pub scan_first : ℕ → Scan
  scan_first j = scan_all (lease_shown image base) n (pools_shown image j) 0

  abbrev next_scan : ℕ → ℕ → Scan
  next_scan j i = scan_of (lease_shown image base) n (pool_shown image j) i

  first_more : (j : ℕ) → scan_first (suc j) ≡ both (scan_first j) (next_scan j (scan_first j).next)
  unfolding pools_shown
  first_more j = all_snoc (lease_shown image base) n (pools_shown image j) (pool_shown image j) 0

  pub showed-none : (l : List ℕ) (at : ℕ) → Showed l at (scan_first 0) l at 0
  unfolding scan_all pools_shown
  showed-none l at = record { bytes = sym (put-nothing l at); place = omega arith; cursor = refl }

  pub showed-pool : (l l₁ l₂ : List ℕ) (at mid to i k j : ℕ) (p : Prefix) → p ≡ pool_shown image j → Showed l at (scan_first j) l₁ mid i
      → Showed l₁ mid (scan_of (lease_shown image base) n p i) l₂ to k → Showed l at (scan_first (j + 1)) l₂ to k
  showed-pool l l₁ l₂ at mid to i k j p e s t =
      showed-as (ap scan_first (add-one j) ∙ first_more j)
      (showed-both l l₁ l₂ at mid to i k (scan_first j) (next_scan j (scan_first j).next) s
      (subst (λ (m : ℕ). Showed l₁ mid (next_scan j m) l₂ to k) s.cursor
      (subst (λ (q : Prefix). Showed l₁ mid (scan_of (lease_shown image base) n q i) l₂ to k) e t)))

  -- All of them.
  pub wrote-pools : (l l' : List ℕ) (at to i j k : ℕ) → j ≡ k → Showed l at (scan_first j) l' to i → Wrote l at (scan_text (scan_first k)) l' to
  wrote-pools l l' at to i j k e s = subst (λ (m : ℕ). Wrote l at (scan_text (scan_first m)) l' to) e (record { bytes = s.bytes; place = s.place })

  first-longer : (j k : ℕ) → j ≤ k → length (scan_text (scan_first j)) ≤ length (scan_text (scan_first k))
  first-longer j zero h = let e : j ≡ 0 = omega arith in omega (arith, ap (λ (m : ℕ). length (scan_text (scan_first m))) e)
  first-longer j (suc k) h =
      by_cases (dec_le j k)
      (λ l. omega (arith, first-longer j k l, ap (λ (s : Scan). length (scan_text s)) (first_more k), length_both (scan_first k) (next_scan k (scan_first k).next)))
      (λ l. let e : j ≡ suc k = omega arith in omega (arith, ap (λ (m : ℕ). length (scan_text (scan_first m))) e))

  pub ready-pool : (k : ℕ) (out out' : List ℕ) (at mid i j : ℕ) (p : Prefix) → ReadyAll image base n k out at → j < k → p ≡ pool_shown image j → length out' ≡ length out
      → Showed out at (scan_first j) out' mid i → ScanReady image base n out' mid p (scan_of (lease_shown image base) n p i)
  ready-pool k out out' at mid i j p ready lt e kept s =
      let b : Scan = next_scan j (scan_first j).next in
      subst (λ (q : Prefix). ScanReady image base n out' mid q (scan_of (lease_shown image base) n q i)) (sym e)
      (record {
        long = ready.long j lt;
        within = ready.within j lt;
        slots = ready.slots;
        lengths = ready.lengths;
        room =
            subst (λ (m : ℕ). Fits out' mid (scan_text (next_scan j m))) (sym s.cursor)
            (room-part out out' at mid (scan_text (scan_first k)) (scan_text b) kept
            (omega (arith, s.place, ap (λ (u : Scan). length (scan_text u)) (first_more j), length_both (scan_first j) b, first-longer (suc j) k (omega arith)))
            ready.room);
      })
