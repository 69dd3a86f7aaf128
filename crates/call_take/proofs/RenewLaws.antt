-- Laws of the loop that renews leases in place and shows them: what it has left after k entries.
-- Assumes nothing.
use Prim.Native.Nat.{ℕ, ◌+◌, ◌*◌, ◌≤◌, ◌<◌}
use native.Mathlib.Omega.{arith}
use native.Mathlib.Numerals.{add-one}
use mathlib.Core.Path.{◌≡◌, refl, sym, ap, subst, ◌∙◌}
use mathlib.Core.Bool.{Bool}
use mathlib.Core.List.{List, [], ◌∷◌, ◌++◌, map, append-nil}
use lib.ListN.{length, get_or, set, take, drop, length-map, length-append}
use lib.Seq.{take_all, take-suc-set}
use Rattle.std.specs.Prelude.{Option, Some, None}
use Rattle.lists.specs.Lists.{All, filter}
use Rattle.lists.specs.Put.{put}
use Rattle.lists.proofs.PutLaws.{put-more}
use Rattle.lists.proofs.MapLaws.{map-append}
use Rattle.lists.proofs.FilterLaws.{filter_none}
use Rattle.lists.proofs.ListLaws.{all_append}
use Rattle.option.specs.Values.{Entry}
use Rattle.option.specs.Writing.{entries_bytes}
use Rattle.table.specs.declared.Lease.{Lease}
use Rattle.table.specs.Table.{present}
use Rattle.image.specs.Image.{lease_size}
use Rattle.image.specs.Reading.{lease_in}
use Rattle.image_records.specs.Records.{Records, Ascending}
use Rattle.option_reply.specs.Reply.{entry_of}
use Rattle.ledger.specs.Ledger.{found}
use Rattle.option_reply.proofs.ReplyLaws.{lease_bytes, entries-length, entries_none, entries-and-one}
use Rattle.call_entries.specs.EntryLeases.{named?, Hold, FoundAt, changed_by, changed_in, ExpirySet}
use Rattle.call_entries.proofs.NamedLaws.{set-expiry-lease}
use Rattle.call_entries.proofs.ManyLaws.{named-same, shown-same, found-more}
use Rattle.call_entries.proofs.EntriesLaws.{no_entry, hold-long, next-entry, changed-by-none, changed-holds, turn-changed, turn-after}
use Rattle.call_take.specs.InnerPlaces.{PlaceOf, PlacesOf, PlaceBelow}
use Rattle.call_take.specs.InnerRenewed.{Renewed}
use Rattle.call_take.proofs.PlaceLaws.{found-place, place_same, places-more}

-- What has become of the buffer `l` with its n leases, and of the reply, after k entries, and the places that are kept of these.
pub Renewing : List ℕ → ℕ → ℕ → ℕ → ℕ → ℕ → List ℕ → List ℕ → List ℕ → List ℕ → List (Option ℕ) → List ℕ → ℕ → ℕ → Type 0
Renewing l from n now client expires networks lengths reply image places replied shown k =
    (xs : List Lease) → Records l from xs → n ≡ length xs → Ascending xs → (es : List Entry) → Hold networks lengths es
    → Renewed l from xs now client expires (take k es) reply image (take k places) replied shown

nothing_left : {A B : Type 0} (f : A → B) (xs : List A) → map f xs ≡ [] → xs ≡ []
nothing_left f [] e = refl
nothing_left f (x ∷ xs) e = absurd (omega (arith, ap length e))

module _ (l : List ℕ) (from n now client expires : ℕ) (networks lengths reply : List ℕ) where
  pub renewing-none : (places : List (Option ℕ)) → Renewing l from n now client expires networks lengths reply l places reply 0 0
  unfolding Renewing
  renewing-none places xs held counted ascending es p = record {
    counted = refl;
    after_is = changed-by-none now client expires l from xs held;
    places-are = tt;
    replied-is = sym (entries_none [] reply refl);
  }

  module _ (room : from + lease_size * n ≤ length l) (later : now < expires) (image : List ℕ) (places : List (Option ℕ)) (replied : List ℕ) (shown k : ℕ) (s : Renewing l from n now client expires networks lengths reply image places replied shown k)
      (lt : k < length networks) (fits : k < length places) (after : List ℕ) (r : Option ℕ)
      (expiry-set : (ys : List Lease) → Records image from ys → n ≡ length ys → Ascending ys → ExpirySet (named? now client (get_or networks k 0) (get_or lengths k 0)) expires image from ys after r)
      (places₁ : List (Option ℕ)) (kept : places₁ ≡ set places k r) where
    module _ (xs : List Lease) (held : Records l from xs) (counted : n ≡ length xs) (ascending : Ascending xs) (es : List Entry) (p : Hold networks lengths es) where
      -- The test of the next entry, and the leases as the entries before left them.
      test : Lease → Bool
      test = named? now client (get_or es k no_entry).network (get_or es k no_entry).length

      ys : List Lease
      ys = map (changed_by now client expires (take k es)) xs

      -- The leases shown so far.
      fs : List Lease
      fs = found client (present now xs) (take k es)

      before : Renewed l from xs now client expires (take k es) reply image (take k places) replied shown
      unfolding Renewing
      before = s xs held counted ascending es p

      next-taken : take (k + 1) es ≡ take k es ++ (get_or es k no_entry ∷ [])
      next-taken = next-entry es k (omega (arith, hold-long networks lengths es p))

      changed : ExpirySet test expires image from ys after r
      unfolding test ys
      changed =
          turn-changed now client expires l from xs held (omega arith) ascending networks lengths es p k lt image before.after_is after r (λ zs h c a. expiry-set zs h (counted ∙ c) a)

      after_is : after ≡ changed_in now client expires (take (k + 1) es) l from xs
      after_is = turn-after now client expires l from xs held (omega arith) ascending networks lengths es p k lt image before.after_is after r (λ zs h c a. expiry-set zs h (counted ∙ c) a)

      found-next : found client (present now xs) (take (k + 1) es) ≡ fs ++ filter test xs
      unfolding fs test
      found-next = ap (found client (present now xs)) next-taken ∙ found-more now client xs (take k es) (get_or es k no_entry)

      shows : map entry_of (filter test ys) ≡ map entry_of (filter test xs)
      unfolding test ys
      shows = shown-same now client expires later (take k es) xs (get_or es k no_entry)

      stand : Records image from ys
      unfolding ys
      stand = changed-holds now client expires l from xs held (omega arith) (take k es) image before.after_is

      long : length ys ≡ length xs
      unfolding ys
      long = length-map xs (changed_by now client expires (take k es))

      -- Renewing keeps what entries name, so it is the place of the lease before the call too.
      place : PlaceOf test xs r
      unfolding test ys
      place = place_same test (changed_by now client expires (take k es)) (named-same now client expires later (take k es) (get_or es k no_entry)) xs r (found-place test ys r changed.found)

      places-are : PlacesOf now client xs (take (k + 1) es) (take (k + 1) places₁)
      unfolding test
      places-are =
          let one_more : take (k + 1) places₁ ≡ take k places ++ (r ∷ []) = ap (λ (l : List (Option ℕ)). take (k + 1) l) kept ∙ rw (add-one k) (take-suc-set places k r fits) in
          subst (λ (l : List (Option ℕ)). PlacesOf now client xs (take (k + 1) es) l) (sym one_more)
          (subst (λ (a : List Entry). PlacesOf now client xs a (take k places ++ (r ∷ []))) (sym next-taken)
          (places-more now client xs (take k es) (take k places) (get_or es k no_entry) r before.places-are place))

    -- None is named.
    pub renewing-skip : (replied₁ : List ℕ) (shown₁ : ℕ) → replied₁ ≡ replied → shown₁ ≡ shown → r ≡ None → Renewing l from n now client expires networks lengths reply after places₁ replied₁ shown₁ (k + 1)
    unfolding Renewing fs
    renewing-skip replied₁ shown₁ same same₁ z xs held counted ascending es p =
        let b = before xs held counted ascending es p in
        let t : Lease → Bool = test xs held counted ascending es p in
        let no : filter t (ys xs held counted ascending es p) ≡ [] =
        filter_none t (ys xs held counted ascending es p) (subst (FoundAt t (ys xs held counted ascending es p)) z (changed xs held counted ascending es p).found) in
        let none : filter t xs ≡ [] = nothing_left entry_of (filter t xs) (sym (shows xs held counted ascending es p) ∙ ap (map entry_of) no) in
        let all : found client (present now xs) (take (k + 1) es) ≡ found client (present now xs) (take k es) =
        found-next xs held counted ascending es p ∙ ap (λ (q : List Lease). fs xs held counted ascending es p ++ q) none ∙ append-nil (fs xs held counted ascending es p) in
        record {
          counted = same₁ ∙ b.counted ∙ ap length (sym all);
          after_is = after_is xs held counted ascending es p;
          places-are = places-are xs held counted ascending es p;
          replied-is = same ∙ b.replied-is ∙ ap (λ (q : List Lease). put reply 6 (entries_bytes (map entry_of q))) (sym all);
        }

    -- One is renewed and shown.
    pub renewing-more : (replied₁ : List ℕ) (shown₁ i : ℕ) (x : Lease) → r ≡ Some i → x ≡ lease_in (drop (from + lease_size * i) after) → replied₁ ≡ put replied (6 + 7 * shown) (lease_bytes x) → shown₁ ≡ shown + 1
        → Renewing l from n now client expires networks lengths reply after places₁ replied₁ shown₁ (k + 1)
    unfolding Renewing fs
    renewing-more replied₁ shown₁ i x is read put-it one xs held counted ascending es p =
        let b = before xs held counted ascending es p in
        let t : Lease → Bool = test xs held counted ascending es p in
        let zs : List Lease = ys xs held counted ascending es p in
        let c : ExpirySet t expires image from zs after (Some i) = subst (ExpirySet t expires image from zs after) is (changed xs held counted ascending es p) in
        let gs : List Lease = fs xs held counted ascending es p in
        let shown-one : map entry_of (filter t xs) ≡ entry_of x ∷ [] =
        sym (shows xs held counted ascending es p)
        ∙ ap (map entry_of) c.found.one
        ∙ ap (λ (y : Lease). entry_of y ∷ []) (sym (read ∙ set-expiry-lease t expires image from zs (stand xs held counted ascending es p) after i c)) in
        let all : map entry_of (found client (present now xs) (take (k + 1) es)) ≡ map entry_of gs ++ (entry_of x ∷ []) =
        ap (map entry_of) (found-next xs held counted ascending es p) ∙ map-append entry_of gs (filter t xs) ∙ ap (λ (q : List Entry). map entry_of gs ++ q) shown-one in
        let size : length (found client (present now xs) (take (k + 1) es)) ≡ length gs + 1 =
        sym (length-map (found client (present now xs) (take (k + 1) es)) entry_of) ∙ ap length all ∙ length-append (map entry_of gs) (entry_of x ∷ []) ∙ omega (arith, length-map gs entry_of) in
        record {
          counted = omega (arith, one, b.counted, size);
          after_is = after_is xs held counted ascending es p;
          places-are = places-are xs held counted ascending es p;
          replied-is =
              put-more reply replied replied₁ 6 (entries_bytes (map entry_of gs)) (6 + 7 * shown) (lease_bytes x) b.replied-is (omega (arith, entries-length gs, b.counted)) put-it
              ∙ ap (put reply 6) (sym (ap entries_bytes all ∙ entries-and-one (map entry_of gs) x));
        }

  pub renewing-all : (image : List ℕ) (places : List (Option ℕ)) (replied : List ℕ) (shown k : ℕ) → Renewing l from n now client expires networks lengths reply image places replied shown k → k ≡ length networks
      → (xs : List Lease) → Records l from xs → n ≡ length xs → Ascending xs → (es : List Entry) → Hold networks lengths es
      → Renewed l from xs now client expires es reply image (take (length networks) places) replied shown
  unfolding Renewing
  renewing-all image places replied shown k s end xs held counted ascending es p =
      subst (λ (a : List Entry). Renewed l from xs now client expires a reply image (take (length networks) places) replied shown) (take_all k es (omega (arith, hold-long networks lengths es p)))
      (subst (λ (m : ℕ). Renewed l from xs now client expires (take k es) reply image (take m places) replied shown) end (s xs held counted ascending es p))

-- The places that are kept, one more after k.
pub below-more : (n : ℕ) (places places₁ : List (Option ℕ)) (k : ℕ) (r : Option ℕ) → k < length places → places₁ ≡ set places k r → All (PlaceBelow n) (take k places) → PlaceBelow n r
    → All (PlaceBelow n) (take (k + 1) places₁)
below-more n places places₁ k r fits kept a p =
    let one_more : take (k + 1) places₁ ≡ take k places ++ (r ∷ []) = ap (λ (l : List (Option ℕ)). take (k + 1) l) kept ∙ rw (add-one k) (take-suc-set places k r fits) in
    subst (All (PlaceBelow n)) (sym one_more) (all_append (PlaceBelow n) (take k places) (r ∷ []) a (p, tt))
