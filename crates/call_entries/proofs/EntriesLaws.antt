-- Laws of leases changed in place by the entries of two columns, one entry after another.
-- Assumes nothing.
use Prim.Native.Nat.{ℕ, ◌+◌, ◌*◌, ◌≤◌, ◌<◌}
use native.Mathlib.Omega.{arith}
use native.Mathlib.Numerals.{add-one}
use mathlib.Core.Path.{◌≡◌, refl, sym, ap, ap₂, subst, ◌∙◌}
use mathlib.Core.Bool.{Bool, true, false, ◌&&◌}
use mathlib.Core.List.{List, [], ◌∷◌, ◌++◌, map}
use lib.ListN.{length, get_or, take, length-map, get_or-map}
use lib.Seq.{take-suc}
use lib.Dec.{ltb}
use Rattle.std.specs.Prelude.{Option}
use Rattle.lists.specs.Lists.{All, concat_map}
use Rattle.lists.specs.Put.{put}
use Rattle.lists.proofs.ListLaws.{pairwise_map, pairwise_image}
use Rattle.option.specs.Values.{Entry}
use Rattle.table.specs.declared.Lease.{Lease}
use Rattle.ledger.specs.Ledger.{named_by?}
use Rattle.image.specs.Image.{lease_size, lease_record}
use Rattle.image_records.specs.Records.{Records, Ascending}
use Rattle.image_records.proofs.PutForms.{put-over}
use Rattle.image_records.proofs.RecordLaws.{length-leases, put-records, put-leases-same}
use Rattle.image_records.proofs.FindLaws.{none-map}
use Rattle.call_entries.specs.EntryLeases.{named?, Hold, leased_until, changed_if, changed_by, changed_in, ExpirySet}
use Rattle.call_entries.proofs.ManyLaws.{named_by_present?, changed-none, changed-more}

-- THE ENTRIES OF TWO COLUMNS

abbrev pub no_entry : Entry
no_entry = record { network = 0; length = 0; h = false; d = false; figures = [] }

pub hold-long : (networks lengths : List ℕ) (es : List Entry) → Hold networks lengths es → length networks ≡ length es
hold-long networks lengths es p = ap length p.0 ∙ length-map es (λ e. e.network)

module _ (networks lengths : List ℕ) (es : List Entry) (p : Hold networks lengths es) (k : ℕ) where
  network-at : get_or networks k 0 ≡ (get_or es k no_entry).network
  network-at = ap (λ (l : List ℕ). get_or l k 0) p.0 ∙ get_or-map (λ (e : Entry). e.network) es k no_entry

  length_at : get_or lengths k 0 ≡ (get_or es k no_entry).length
  length_at = ap (λ (l : List ℕ). get_or l k 0) p.1 ∙ get_or-map (λ (e : Entry). e.length) es k no_entry

  pub test_at : (now client : ℕ) → named? now client (get_or networks k 0) (get_or lengths k 0) ≡ named? now client (get_or es k no_entry).network (get_or es k no_entry).length
  test_at now client = ap₂ (λ (network len : ℕ). named? now client network len) network-at length_at

pub next-entry : (es : List Entry) (k : ℕ) → k < length es → take (k + 1) es ≡ take k es ++ (get_or es k no_entry ∷ [])
next-entry es k h = rw (add-one k) (take-suc es k no_entry h)

-- LEASES CHANGED BY ENTRIES

module _ (now client expires : ℕ) where
  -- It keeps its prefix and its client, and an ended one is not changed.
  pub changed-prefix : (es : List Entry) (x : Lease) → ((changed_by now client expires es x).network ≡ x.network) × ((changed_by now client expires es x).length ≡ x.length)
  changed-prefix es x = go (named_by_present? now client es x)
    where
      go : (b : Bool) → ((changed_if (λ y. b) expires x).network ≡ x.network) × ((changed_if (λ y. b) expires x).length ≡ x.length)
      go true = (refl, refl)
      go false = (refl, refl)

  pub changed-client : (es : List Entry) (x : Lease) → (changed_by now client expires es x).client ≡ x.client
  changed-client es x = go (named_by_present? now client es x)
    where
      go : (b : Bool) → (changed_if (λ y. b) expires x).client ≡ x.client
      go true = refl
      go false = refl

  pub changed-fewer : (es : List Entry) (x : Lease) → ltb now (changed_by now client expires es x).expires ≡ true → ltb now x.expires ≡ true
  changed-fewer es x = go (ltb now x.expires) (named_by? client es x) refl
    where
      go : (p q : Bool) → ltb now x.expires ≡ p → ltb now (changed_if (λ y. p && q) expires x).expires ≡ true → p ≡ true
      go true q e k = refl
      go false q e k = sym e ∙ k

  pub changed-ascend : (es : List Entry) (xs : List Lease) → Ascending xs → Ascending (map (changed_by now client expires es) xs)
  unfolding Ascending
  changed-ascend es xs a =
      pairwise_image (changed_by now client expires es) (λ x y. x.network < y.network) xs
      (pairwise_map (λ x y (h : x.network < y.network). omega (arith, (changed-prefix es x).0, (changed-prefix es y).0)) xs a)

  module _ (l : List ℕ) (from : ℕ) (xs : List Lease) (held : Records l from xs) where
    pub changed-by-none : l ≡ changed_in now client expires [] l from xs
    changed-by-none = sym (ap (λ (ys : List Lease). put l from (concat_map lease_record ys)) (changed-none now client expires xs) ∙ put-leases-same l from xs held)

    -- Where entries name none, nothing is changed.
    pub unchanged : (es : List Entry) → All (λ x. named_by_present? now client es x ≡ false) xs → changed_in now client expires es l from xs ≡ l
    unchanged es a =
        ap (λ (ys : List Lease). put l from (concat_map lease_record ys)) (none-map (named_by_present? now client es) (leased_until expires) xs a)
        ∙ put-leases-same l from xs held

    module _ (room : from + lease_size * length xs ≤ length l) (es : List Entry) (image : List ℕ) (e : image ≡ changed_in now client expires es l from xs) where
      pub changed-holds : Records image from (map (changed_by now client expires es) xs)
      changed-holds =
          subst (λ (s : List ℕ). Records s from (map (changed_by now client expires es) xs)) (sym e)
          (put-records l from (map (changed_by now client expires es) xs) (omega (arith, length-map xs (changed_by now client expires es))))

      pub changed-by-more : (a : Entry) (after : List ℕ) (r : Option ℕ)
          → ExpirySet (named? now client a.network a.length) expires image from (map (changed_by now client expires es) xs) after r
          → after ≡ changed_in now client expires (es ++ (a ∷ [])) l from xs
      changed-by-more a after r c =
          let ys : List Lease = map (changed_by now client expires es) xs in
          let zs : List Lease = map (changed_if (named? now client a.network a.length) expires) ys in
          c.after_is
          ∙ ap (λ (s : List ℕ). put s from (concat_map lease_record zs)) e
          ∙ put-over (concat_map lease_record ys) (concat_map lease_record zs) l from (omega (arith, length-leases ys, length-leases zs, length-map ys (changed_if (named? now client a.network a.length) expires)))
          ∙ ap (λ (s : List Lease). put l from (concat_map lease_record s)) (changed-more now client expires es a xs)

-- ONE TURN of a loop over the columns: what `change` ensures, of the leases as the entries before left them.
module _ (now client expires : ℕ) (l : List ℕ) (from : ℕ) (xs : List Lease) (held : Records l from xs) (room : from + lease_size * length xs ≤ length l) (ascending : Ascending xs)
    (networks lengths : List ℕ) (es : List Entry) (p : Hold networks lengths es) (k : ℕ) (lt : k < length networks)
    (image : List ℕ) (e : image ≡ changed_in now client expires (take k es) l from xs) (after : List ℕ) (r : Option ℕ)
    (set_expiry : (ys : List Lease) → Records image from ys → length xs ≡ length ys → Ascending ys
    → ExpirySet (named? now client (get_or networks k 0) (get_or lengths k 0)) expires image from ys after r) where
  pub turn-changed : ExpirySet (named? now client (get_or es k no_entry).network (get_or es k no_entry).length) expires image from (map (changed_by now client expires (take k es)) xs) after r
  turn-changed =
      subst (λ (g : Lease → Bool). ExpirySet g expires image from (map (changed_by now client expires (take k es)) xs) after r) (test_at networks lengths es p k now client)
      (set_expiry (map (changed_by now client expires (take k es)) xs) (changed-holds now client expires l from xs held room (take k es) image e) (sym (length-map xs (changed_by now client expires (take k es))))
      (changed-ascend now client expires (take k es) xs ascending))

  pub turn-after : after ≡ changed_in now client expires (take (k + 1) es) l from xs
  turn-after =
      changed-by-more now client expires l from xs held room (take k es) image e (get_or es k no_entry) after r turn-changed
      ∙ ap (λ (s : List Entry). changed_in now client expires s l from xs) (sym (next-entry es k (omega (arith, hold-long networks lengths es p))))
