-- Laws of open as a call: its rows, and that what is written is the image of the table that open makes, with zeros after it.
-- Assumes nothing.
use Prim.Native.Nat.{ℕ, ◌+◌, ◌-◌, ◌*◌, ◌≤◌, ◌<◌}
use mathlib.Core.Path.{◌≡◌, refl, sym, ap, ap₂, ◌∙◌}
use mathlib.Core.Bool.{true, false, cond}
use mathlib.Core.List.{List, [], ◌++◌, map, append-nil, append_assoc}
use native.Mathlib.Omega.{arith}
use lib.ListN.{length, take, drop, replicate}
use lib.Seq.{take_at}
use lib.Dec.{ltb}
use borrow.Author.Tests.{lt-ltb, le-ltb, eq-eqb, ne_eqb}
use Rattle.lists.specs.Lists.{concat_map}
use Rattle.lists.specs.Put.{put}
use Rattle.lists.proofs.Tests.{cond-false}
use Rattle.lists.proofs.ListLaws.{all_map}
use Rattle.lists.proofs.SortingLaws.{sort_by-all, sort_by-length}
use Rattle.table.specs.declared.Pool.{Pool}
use Rattle.table.specs.declared.Lease.{Lease}
use Rattle.table.specs.declared.LeaseTable.{LeaseTable}
use Rattle.table.specs.Table.{pool_slots, sound, padded}
use Rattle.table.proofs.TableLaws.{GoodPool, long-not-unused, sound-default}
use Rattle.image.specs.Image.{head_size, pool_size, full_image, head_record, pool_record, lease_record, used_pools, used_leases, head_of, image_as, image_of}
use Rattle.image.proofs.ImageLaws.{used-pools, length-head, length-image, table-whole}
use Rattle.image.proofs.WriteLaws.{then-put}
use Rattle.table_open.specs.Open.{given, pool_network, sort_pools, open_ok, fresh}
use Rattle.table_open.proofs.OpenLaws.{OpenRules, given-length, open_ok-to, open-sound, fresh-none}
use Rattle.image_records.specs.Records.{Records}
use Rattle.figures.specs.Figures.{untold_row}
use Rattle.image_figures.specs.Sheets.{figures_size, sheet_of}
use Rattle.counts.specs.Counts.{counts_of}
use Rattle.image_counts.specs.Standing.{Stands}
use Rattle.ledger.specs.Ledger.{State, Result, outcome, refusal, acceptance}
use Rattle.call_spec.specs.ImageCalls.{Lent, lent, table_in, over, stored, open_image}
use Rattle.call_spec.specs.Books.{Book, open_book}
use Rattle.call_spec.proofs.StoreLaws.{stores}
use Rattle.call_spec.proofs.OpenLength.{open-length}
use Rattle.call_spec.proofs.OnImages.{opened-holds}
use Rattle.call_spec.proofs.BookLaws.{refuses-book, accepts-book}

-- A TABLE WITH NO LEASE

module _ (t : LeaseTable) (ps : List Pool) (pools : used_pools t ≡ ps) (none : used_leases t ≡ []) where
  image-is : image_of t ≡ head_record (head_of t) ++ concat_map pool_record ps
  unfolding image_as
  image-is =
      ap₂ (λ (qs : List Pool) (xs : List Lease). head_record (head_of t) ++ (concat_map pool_record qs ++ concat_map lease_record xs)) pools none
      ∙ ap (λ (s : List ℕ). head_record (head_of t) ++ s) (append-nil (concat_map pool_record ps))

  image-size : length (image_of t) ≡ head_size + pool_size * length ps
  image-size = length-image t ∙ omega (arith, ap length pools, ap length none)

  module _ (buffer : List ℕ) (s : sound t ≡ true) (room : full_image ≤ length buffer) where
    image-stored : (n : ℕ) → n ≡ length ps → (l₁ l₂ l₃ : List ℕ) → l₁ ≡ put buffer 0 (head_record (head_of t)) → l₂ ≡ put l₁ head_size (concat_map pool_record ps)
        → l₃ ≡ put l₂ (head_size + pool_size * n) (replicate (full_image - (head_size + pool_size * n)) 0) → l₃ ≡ stored t full_image buffer
    image-stored n many l₁ l₂ l₃ e₁ e₂ e₃ =
        let written : l₂ ≡ put buffer 0 (image_of t) =
        then-put head_size buffer l₁ 0 (head_record (head_of t)) (length-head (head_of t)) e₁ l₂ (concat_map pool_record ps) e₂ ∙ ap (put buffer 0) (sym image-is) in
        stores t s buffer room full_image (head_size + pool_size * n) room (omega (arith, image-size, many)) l₂ l₃ written e₃

-- THE TABLE THAT OPEN MAKES

module _ (ns ls : List ℕ) (term len start : ℕ) (ok : open_ok ns ls term len start ≡ true) where
  abbrev sorted : List Pool
  sorted = sort_pools (given ns ls)

  rules : OpenRules ns ls term len start
  rules = open_ok-to ns ls term len start ok

  pub pools-few : length ns ≤ pool_slots
  pools-few = rules.few

  many : length sorted ≡ length ns
  many = sort_by-length pool_network (given ns ls) ∙ given-length ns ls rules.equal

  its-pools : used_pools (fresh (given ns ls) term len start) ≡ sorted
  its-pools =
      used-pools (pool_slots - length sorted) sorted
      (all_map (λ p (g : GoodPool p). long-not-unused p (omega (arith, g.short))) sorted (sort_by-all pool_network GoodPool (given ns ls) rules.good))

  its-size : length (image_of (fresh (given ns ls) term len start)) ≡ head_size + pool_size * length ns
  its-size = image-size (fresh (given ns ls) term len start) sorted its-pools (fresh-none (given ns ls) term len start) ∙ ap (λ (n : ℕ). head_size + pool_size * n) many

  its-image : (buffer : List ℕ) → full_image ≤ length buffer → (l₁ l₂ l₃ : List ℕ) → l₁ ≡ put buffer 0 (head_record (record { term = term; default_length = len; last = start }))
      → l₂ ≡ put l₁ head_size (concat_map pool_record sorted)
      → l₃ ≡ put l₂ (head_size + pool_size * length ns) (replicate (full_image - (head_size + pool_size * length ns)) 0) → l₃ ≡ stored (fresh (given ns ls) term len start) full_image buffer
  its-image buffer room l₁ l₂ l₃ e₁ e₂ e₃ =
      image-stored (fresh (given ns ls) term len start) sorted its-pools (fresh-none (given ns ls) term len start) buffer (open-sound ns ls term len start ok) room (length ns) (sym many) l₁ l₂ l₃ e₁ e₂ e₃

  -- It can be counted where it is written.
  its-standing : (buffer l : List ℕ) → l ≡ stored (fresh (given ns ls) term len start) full_image buffer → Stands (fresh (given ns ls) term len start) l (length ns) 0
  unfolding stored
  its-standing buffer l e =
      let xs : List ℕ = image_of (fresh (given ns ls) term len start) in
      let zeros : List ℕ = replicate (full_image - length xs) 0 in
      let rest : List ℕ = drop (length (over xs full_image)) buffer in
      record {
        sound-table = open-sound ns ls term len start ok;
        image-is = sym (ap (take (length xs)) (e ∙ append_assoc xs zeros rest) ∙ take_at xs (zeros ++ rest) (length xs) refl);
        pools-are = sym (ap length its-pools ∙ many);
        leases-are = sym (ap length (fresh-none (given ns ls) term len start));
      }

  -- Every slot of it is empty.
  its-rows : sheet_of (map untold_row (padded [])) ≡ sheet_of (map untold_row (fresh (given ns ls) term len start).leases)
  its-rows =
      let t : LeaseTable = fresh (given ns ls) term len start in
      ap (λ (xs : List Lease). sheet_of (map untold_row (padded xs))) (sym (fresh-none (given ns ls) term len start))
      ∙ ap (λ (u : LeaseTable). sheet_of (map untold_row u.leases)) (sym (table-whole t (open-sound ns ls term len start ok)))

-- No lease stands anywhere.
pub no-records : (l : List ℕ) (from : ℕ) → Records l from []
unfolding Records
no-records l from = let same : from ≡ from + 0 = omega arith in ap (λ (k : ℕ). drop k l) same

-- THE CALL. A default length that a byte cannot hold is taken as 0.

module _ (h : Lent) (ns ls : List ℕ) (term len start : ℕ) where
  abbrev short : ℕ
  short = cond (ltb 255 len) 0 len

  pub open-outside : open_ok ns ls term (cond (ltb 255 len) 0 len) start ≡ false → outcome (refusal 12 0) h [] ≡ open_image h ns ls term len start
  unfolding open_image
  open-outside e = rw (sym (open-length ns ls term start len) ∙ e)

  module _ (ok : open_ok ns ls term (cond (ltb 255 len) 0 len) start ≡ true) where
    is_ok : open_ok ns ls term len start ≡ true
    is_ok = sym (open-length ns ls term start len) ∙ ok

    pub open-small : length h.image < full_image → outcome (refusal 14 0) h [] ≡ open_image h ns ls term len start
    unfolding open_image
    open-small small = rw (is_ok, lt-ltb (length h.image) full_image small)

    pub open-other : full_image ≤ length h.image → (length h.figures ≡ figures_size → ⊥) → outcome (refusal 14 0) h [] ≡ open_image h ns ls term len start
    unfolding open_image
    open-other room other = rw (is_ok, le-ltb (length h.image) full_image room, ne_eqb (length h.figures) figures_size other)

    open_made : full_image ≤ length h.image → length h.figures ≡ figures_size
        → outcome (acceptance 0 0) (lent (stored (fresh (given ns ls) term len start) full_image h.image) (length (image_of (fresh (given ns ls) term len start))) (sheet_of (map untold_row (fresh (given ns ls) term len start).leases))) []
        ≡ open_image h ns ls term len start
    unfolding open_image
    open_made room size = rw (is_ok, le-ltb (length h.image) full_image room, eq-eqb (length h.figures) figures_size size)

    short-is : cond (ltb 255 len) 0 len ≡ len
    short-is = cond-false (ltb 255 len) 0 len (le-ltb 255 len (omega (arith, (sound-default (fresh (given ns ls) term len start) (open-sound ns ls term len start is_ok)).1)))

    -- What is written.
    module _ (room : full_image ≤ length h.image) (l₁ l₂ l₃ : List ℕ) (e₁ : l₁ ≡ put h.image 0 (head_record (record { term = term; default_length = cond (ltb 255 len) 0 len; last = start })))
        (e₂ : l₂ ≡ put l₁ head_size (concat_map pool_record (sort_pools (given ns ls))))
        (e₃ : l₃ ≡ put l₂ (head_size + pool_size * length ns) (replicate (full_image - (head_size + pool_size * length ns)) 0)) where
      written : l₃ ≡ stored (fresh (given ns ls) term len start) full_image h.image
      written = its-image ns ls term short start ok h.image room l₁ l₂ l₃ e₁ e₂ e₃ ∙ ap (λ (n : ℕ). stored (fresh (given ns ls) term n start) full_image h.image) short-is

      pub open-stands : Stands (fresh (given ns ls) term len start) l₃ (length ns) 0
      open-stands = its-standing ns ls term len start is_ok h.image l₃ written

      pub open-accepted : length h.figures ≡ figures_size → (f : List ℕ) → f ≡ sheet_of (map untold_row (padded []))
          → outcome (acceptance 0 0) (lent l₃ (head_size + pool_size * length ns) f) [] ≡ open_image h ns ls term len start
      open-accepted sheet f filled =
          ap₂ (λ (l : List ℕ) (n : ℕ). outcome (acceptance 0 0) (lent l n f) []) written (sym (its-size ns ls term len start is_ok))
          ∙ ap (λ (s : List ℕ). outcome (acceptance 0 0) (lent (stored (fresh (given ns ls) term len start) full_image h.image) (length (image_of (fresh (given ns ls) term len start))) s) [])
          (filled ∙ its-rows ns ls term len start is_ok)
          ∙ open_made room sheet

-- ON AN OPEN BOOK

module _ (b : Book) (ns ls : List ℕ) (term len start : ℕ) where
  pub open-refuses : (number : ℕ) → (number ≡ 0 → ⊥) → outcome (refusal number 0) b.lent [] ≡ open_image b.lent ns ls term len start → outcome (refusal number 0) b [] ≡ open_book b ns ls term len start
  open-refuses number k is = refuses-book b (open_image b.lent ns ls term len start) (refusal number 0) b.lent [] is k

  -- What is left holds the fresh table, and these are its counts.
  pub open-accepts : (g : Lent) → outcome (acceptance 0 0) g [] ≡ open_image b.lent ns ls term len start → (counts : List (List ℕ)) → counts ≡ counts_of (fresh (given ns ls) term len start)
      → outcome (acceptance 0 0) (record { lent = g; counts = counts }) [] ≡ open_book b ns ls term len start
  open-accepts g is counts e =
      let accepted : (open_image b.lent ns ls term len start).answer.number ≡ 0 = ap (λ (w : Result Lent). w.answer.number) (sym is) in
      let holds : table_in g ≡ fresh (given ns ls) term len start = ap (λ (w : Result Lent). table_in w.state) is ∙ ap (λ (s : State). s.table) (opened-holds b.lent ns ls term len start accepted) in
      accepts-book b (open_image b.lent ns ls term len start) (acceptance 0 0) g [] is refl counts (e ∙ ap counts_of (sym holds))
