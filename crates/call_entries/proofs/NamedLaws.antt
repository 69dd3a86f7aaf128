-- Laws of finding the lease that an entry names, and of changing it in place.
-- Assumes nothing.
use Prim.Native.Nat.{ℕ, ◌+◌, ◌-◌, ◌*◌, ◌≤◌, ◌<◌}
use native.Mathlib.Omega.{arith}
use mathlib.Core.Path.{◌≡◌, refl, sym, ap, ap₂, subst, ◌∙◌}
use mathlib.Core.Bool.{Bool, true}
use mathlib.Core.List.{List, [], ◌∷◌, ◌++◌, map}
use lib.ListN.{length, set, get_or, take, drop, length-map, take-append-drop}
use lib.Seq.{get_or-set_same, length-take-le}
use lib.Dec.{leb, ltb, eqb}
use borrow.Author.Tests.{ltb-true, lt-ltb, eqb-true, eq-eqb}
use Rattle.std.specs.Prelude.{Option, Some, None}
use Rattle.lists.specs.Lists.{and, filter, concat_map}
use Rattle.lists.specs.Put.{put}
use Rattle.lists.proofs.Tests.{and-to, and-of, not-true⇒false, and-list-to, and-list-of}
use Rattle.table.specs.declared.Lease.{Lease}
use Rattle.table.specs.Table.{no_lease}
use Rattle.image.specs.Image.{le16, le32, lease_size, lease_record_in, lease_record, state_byte}
use Rattle.image.specs.Reading.{lease_in}
use Rattle.image.proofs.ImageLaws.{length-lease}
use Rattle.image_records.specs.Records.{Records, Ascending}
use Rattle.image_records.proofs.PutForms.{set-behind, put-behind, put-inside}
use Rattle.image_records.proofs.RecordLaws.{record-at, record-within, lease-in-place, records-room, put-records, put-leases-same, edit-is}
use Rattle.image_records.proofs.FindLaws.{none-map, found_within, found_none, found-other, found-filter, found_map}
use Rattle.call_entries.specs.EntryLeases.{named?, FoundAt, leased_until, changed_if, ExpirySet}

-- THE TEST

abbrev named_tests : ℕ → ℕ → ℕ → Lease → List Bool
named_tests client network len x = eqb x.client client ∷ eqb x.network network ∷ eqb x.length len ∷ []

abbrev pub Named : ℕ → ℕ → ℕ → ℕ → Lease → Type 0
Named now client network len x = (now < x.expires) × (x.client ≡ client) × (x.network ≡ network) × (x.length ≡ len)

module _ (now client network len : ℕ) (x : Lease) where
  pub named-to : named? now client network len x ≡ true → Named now client network len x
  named-to e =
      let both = and-to (ltb now x.expires) (and (named_tests client network len x)) e in
      let tests = and-list-to (named_tests client network len x) both.1 in
      (ltb-true now x.expires both.0, eqb-true x.client client tests.0, eqb-true x.network network tests.1.0, eqb-true x.length len tests.1.1.0)

  pub named-of : Named now client network len x → named? now client network len x ≡ true
  named-of p =
      and-of (ltb now x.expires) (and (named_tests client network len x)) (lt-ltb now x.expires p.0)
      (and-list-of (named_tests client network len x) (eq-eqb x.client client p.1, (eq-eqb x.network network p.2, (eq-eqb x.length len p.3, tt))))

-- FINDING IT

module _ (now client network len : ℕ) (l : List ℕ) (from n r : ℕ)
    (placed : (xs : List Lease) → Records l from xs → n ≡ length xs → Ascending xs → r ≡ length (filter (λ x. leb x.network network) xs)) where
  only : (x : Lease) → named? now client network len x ≡ true → x.network ≡ network
  only x t = (named-to now client network len x t).2

  -- No lease has a network up to this one.
  pub find_none : r ≡ 0 → (xs : List Lease) → Records l from xs → n ≡ length xs → Ascending xs → FoundAt (named? now client network len) xs None
  find_none z xs held counted a = found_none network xs a r (placed xs held counted a) (named? now client network len) only z

  -- The last of those that have.
  module _ (h : 0 < r) (x : Lease) (read : x ≡ lease_in (drop (from + lease_size * (r - 1)) l)) where
    it-is : (xs : List Lease) → Records l from xs → n ≡ length xs → Ascending xs → named? now client network len (get_or xs (r - 1) no_lease) ≡ named? now client network len x
    it-is xs held counted a =
        ap (named? now client network len)
        (sym (read ∙ lease-in-place l from xs held (r - 1) (found_within network xs a r (placed xs held counted a) h)))

    pub find-other : (Named now client network len x → ⊥) → (xs : List Lease) → Records l from xs → n ≡ length xs → Ascending xs
        → FoundAt (named? now client network len) xs None
    find-other k xs held counted a =
        found-other network xs a r (placed xs held counted a) (named? now client network len) only
        (it-is xs held counted a ∙ not-true⇒false (named? now client network len x) (λ t. k (named-to now client network len x t)))

    pub find-here : Named now client network len x → (xs : List Lease) → Records l from xs → n ≡ length xs → Ascending xs
        → FoundAt (named? now client network len) xs (Some (r - 1))
    find-here p xs held counted a =
        let place = placed xs held counted a in
        let here = it-is xs held counted a ∙ named-of now client network len x p in
        record {
          within = found_within network xs a r place h;
          one = found-filter network xs a r place (named? now client network len) only h here;
          edited = found_map network xs a r place (named? now client network len) only h here;
        }

-- CHANGING IT

written : (x : Lease) (q : List ℕ) (expires : ℕ) → put (set (lease_record x ++ q) 9 (state_byte true)) 15 (le32 expires) ≡ lease_record (leased_until expires x) ++ q
unfolding lease_record_in le16 le32 put
written x q expires = refl

leased-in-place : (l : List ℕ) (at : ℕ) (x : Lease) (q : List ℕ) (expires : ℕ) → at ≤ length l → drop at l ≡ lease_record x ++ q
    → put (set l (at + 9) (state_byte true)) (at + 15) (le32 expires) ≡ put l at (lease_record (leased_until expires x))
leased-in-place l at x q expires within e =
    let p : List ℕ = take at l in
    let size : length p ≡ at = length-take-le at l within in
    let r : List ℕ = lease_record x ++ q in
    let here : l ≡ p ++ r = sym (take-append-drop at l) ∙ ap (λ (s : List ℕ). p ++ s) e in
    ap₂ (λ (m : List ℕ) (k : ℕ). put (set m (k + 9) (state_byte true)) (k + 15) (le32 expires)) here (sym size)
    ∙ ap (λ (m : List ℕ). put m (length p + 15) (le32 expires)) (set-behind p r 9 (state_byte true))
    ∙ put-behind (le32 expires) p (set r 9 (state_byte true)) 15
    ∙ ap (λ (s : List ℕ). p ++ s) (written x q expires)
    ∙ sym (put-inside at (lease_record (leased_until expires x)) p (lease_record x) q size (length-lease x ∙ sym (length-lease (leased_until expires x))))
    ∙ ap (λ (m : List ℕ). put m at (lease_record (leased_until expires x))) (sym here)

module _ (g : Lease → Bool) (expires : ℕ) (l : List ℕ) (from : ℕ) (xs : List Lease) (held : Records l from xs) where
  -- There is none.
  pub set-expiry-none : FoundAt g xs None → ExpirySet g expires l from xs l None
  set-expiry-none f = record {
    found = f;
    after_is = sym (ap (λ (ys : List Lease). put l from (concat_map lease_record ys)) (none-map g (leased_until expires) xs f) ∙ put-leases-same l from xs held);
  }

  -- Of its record the state and the end are written.
  pub set-expiry-here : (r : ℕ) → FoundAt g xs (Some r) → (after : List ℕ) → after ≡ put (set l (from + lease_size * r + 9) (state_byte true)) (from + lease_size * r + 15) (le32 expires)
      → ExpirySet g expires l from xs after (Some r)
  set-expiry-here r f after e = record {
    found = f;
    after_is =
        e
        ∙ leased-in-place l (from + lease_size * r) (get_or xs r no_lease) (drop (from + lease_size * r + lease_size) l) expires (omega (arith, record-within l from xs held r f.within)) (record-at l from xs held r f.within)
        ∙ edit-is l from xs held r f.within (leased_until expires (get_or xs r no_lease))
        ∙ ap (λ (ys : List Lease). put l from (concat_map lease_record ys)) (sym (f.edited (leased_until expires)));
  }

  -- The leases stand there, with the changed one.
  pub set-expiry-holds : (after : List ℕ) (r : Option ℕ) → ExpirySet g expires l from xs after r → from + lease_size * length xs ≤ length l → Records after from (map (changed_if g expires) xs)
  set-expiry-holds after r c room =
      subst (λ (s : List ℕ). Records s from (map (changed_if g expires) xs)) (sym c.after_is)
      (put-records l from (map (changed_if g expires) xs) (omega (arith, length-map xs (changed_if g expires))))

  pub set-expiry-lease : (after : List ℕ) (r : ℕ) → ExpirySet g expires l from xs after (Some r) → lease_in (drop (from + lease_size * r) after) ≡ leased_until expires (get_or xs r no_lease)
  set-expiry-lease after r c =
      let within = c.found.within in
      lease-in-place after from (map (changed_if g expires) xs) (set-expiry-holds after (Some r) c (records-room l from xs held (omega arith))) r (omega (arith, length-map xs (changed_if g expires)))
      ∙ ap (λ (ys : List Lease). get_or ys r no_lease) (c.found.edited (leased_until expires))
      ∙ get_or-set_same xs r (leased_until expires (get_or xs r no_lease)) no_lease within
