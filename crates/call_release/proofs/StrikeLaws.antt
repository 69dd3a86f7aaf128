-- Laws of the loop that strikes leases in place: what it has left after k entries.
-- Assumes nothing.
use Prim.Native.Nat.{ℕ, ◌+◌, ◌*◌, ◌≤◌, ◌<◌}
use native.Mathlib.Omega.{arith}
use mathlib.Core.Path.{◌≡◌, refl, sym, ap, subst, ◌∙◌}
use mathlib.Core.Bool.{false}
use mathlib.Core.List.{List, [], ◌∷◌, ◌++◌, map}
use lib.ListN.{length, get_or, take}
use lib.Seq.{take_all}
use Rattle.std.specs.Prelude.{Option, Some, None}
use Rattle.std.proofs.lemmas.List.{nil_from_length}
use Rattle.lists.specs.Lists.{All, filter}
use Rattle.lists.proofs.ListLaws.{all-every}
use Rattle.lists.proofs.FilterLaws.{filter_none}
use Rattle.option.specs.Values.{Entry}
use Rattle.table.specs.declared.Lease.{Lease}
use Rattle.table.specs.Table.{no_lease, present}
use Rattle.image.specs.Image.{lease_size}
use Rattle.image_records.specs.Records.{Records, Ascending, ExpiredIn}
use Rattle.image_records.proofs.FindLaws.{none-map}
use Rattle.image_records.proofs.RemoveLaws.{whole-stays, expired-more}
use Rattle.ledger.specs.Ledger.{named_by?}
use Rattle.call_entries.specs.EntryLeases.{named?, Hold, leased_until, changed_if, changed_by, FoundAt, ExpirySet}
use Rattle.call_entries.proofs.ManyLaws.{named_by_present?, none_of, changed-none, changed-more, struck-more, struck-all}
use Rattle.call_entries.proofs.EntriesLaws.{no_entry, hold-long, next-entry, changed-by-none, unchanged, turn-changed, turn-after}
use Rattle.call_release.specs.declared.Strikes.{Strikes}
use Rattle.call_release.specs.InnerStruck.{Struck, StruckBy}

-- What has become of the buffer `l` with its n leases after k entries.
pub Striking : List ℕ → ℕ → ℕ → ℕ → ℕ → List ℕ → List ℕ → List ℕ → Strikes → ℕ → Type 0
Striking l from n now client networks lengths image s k =
    (xs : List Lease) → Records l from xs → n ≡ length xs → Ascending xs → (es : List Entry) → Hold networks lengths es → Struck l from xs now client (take k es) image s

module _ (l : List ℕ) (from n now client : ℕ) (networks lengths : List ℕ) where
  pub striking-none : Striking l from n now client networks lengths l (record { count = 0; first = n; last = 0 }) 0
  unfolding Striking
  striking-none xs held counted ascending es p = record {
    counted = sym (ap length (filter_none (named_by? client []) (present now xs) (all-every (λ x. refl) (present now xs))));
    after_is = changed-by-none now client 0 l from xs held;
    between = λ all. subst (ExpiredIn now n 0) (sym (changed-none now client 0 xs)) (λ k h gone. absurd (omega (arith, whole-stays now xs all k h)));
  }

  module _ (room : from + lease_size * n ≤ length l) (image : List ℕ) (before : Strikes) (k : ℕ) (s : Striking l from n now client networks lengths image before k) (lt : k < length networks) (after : List ℕ) (r : Option ℕ)
      (set_expiry : (ys : List Lease) → Records image from ys → n ≡ length ys → Ascending ys → ExpirySet (named? now client (get_or networks k 0) (get_or lengths k 0)) 0 image from ys after r) where
    module _ (xs : List Lease) (held : Records l from xs) (counted : n ≡ length xs) (ascending : Ascending xs) (es : List Entry) (p : Hold networks lengths es) where
      -- The lease that the next entry names, if there is one.
      next : List Lease
      next = filter (named? now client (get_or es k no_entry).network (get_or es k no_entry).length) (map (changed_by now client 0 (take k es)) xs)

      changed : ExpirySet (named? now client (get_or es k no_entry).network (get_or es k no_entry).length) 0 image from (map (changed_by now client 0 (take k es)) xs) after r
      unfolding Striking
      changed =
          turn-changed now client 0 l from xs held (omega arith) ascending networks lengths es p k lt image (s xs held counted ascending es p).after_is after r
          (λ ys h c a. set_expiry ys h (counted ∙ c) a)

      counted_next : length (filter (named_by? client (take (k + 1) es)) (present now xs)) ≡ before.count + length next
      unfolding Striking next
      counted_next =
          let so_far = (s xs held counted ascending es p).counted in
          ap (λ (a : List Entry). length (filter (named_by? client a) (present now xs))) (next-entry es k (omega (arith, hold-long networks lengths es p)))
          ∙ ap length (sym (struck-all now client 0 (omega arith) (take k es ++ (get_or es k no_entry ∷ [])) xs))
          ∙ struck-more now client 0 (omega arith) (take k es) (get_or es k no_entry) xs
          ∙ ap (λ (m : ℕ). m + length next) (ap length (struck-all now client 0 (omega arith) (take k es) xs) ∙ sym so_far)

      -- The leases as the next entry leaves them.
      leases-next : map (changed_by now client 0 (take (k + 1) es)) xs ≡ map (changed_if (named? now client (get_or es k no_entry).network (get_or es k no_entry).length) 0) (map (changed_by now client 0 (take k es)) xs)
      leases-next =
          ap (λ (a : List Entry). map (changed_by now client 0 a) xs) (next-entry es k (omega (arith, hold-long networks lengths es p)))
          ∙ sym (changed-more now client 0 (take k es) (get_or es k no_entry) xs)

      goes_on : (s₁ : Strikes) → s₁.count ≡ before.count + length next
          → (present now xs ≡ xs → ExpiredIn now s₁.first s₁.last (map (changed_if (named? now client (get_or es k no_entry).network (get_or es k no_entry).length) 0) (map (changed_by now client 0 (take k es)) xs)))
          → Struck l from xs now client (take (k + 1) es) after s₁
      unfolding Striking next
      goes_on s₁ e stand = record {
        counted = e ∙ sym counted_next;
        after_is =
            turn-after now client 0 l from xs held (omega arith) ascending networks lengths es p k lt image (s xs held counted ascending es p).after_is after r
            (λ ys h c a. set_expiry ys h (counted ∙ c) a);
        between = λ all. subst (ExpiredIn now s₁.first s₁.last) (sym leases-next) (stand all);
      }

    -- One is struck,
    pub striking-more : (i : ℕ) → r ≡ Some i → (s₁ : Strikes) → s₁.count ≡ before.count + 1 → s₁.first ≤ before.first → s₁.first ≤ i → before.last ≤ s₁.last → i + 1 ≤ s₁.last
        → Striking l from n now client networks lengths after s₁ (k + 1)
    unfolding Striking next
    striking-more i is s₁ q a b c d xs held counted ascending es p =
        let ys : List Lease = map (changed_by now client 0 (take k es)) xs in
        let g = named? now client (get_or es k no_entry).network (get_or es k no_entry).length in
        let found = subst (FoundAt g ys) is (changed xs held counted ascending es p).found in
        goes_on xs held counted ascending es p s₁ (omega (arith, q, ap length found.one))
        (λ all.
        subst (ExpiredIn now s₁.first s₁.last) (sym (found.edited (leased_until 0)))
        (expired-more now before.first before.last ys ((s xs held counted ascending es p).between all) s₁.first s₁.last i a c b (omega arith) (leased_until 0 (get_or ys i no_lease))))

    -- or none is.
    pub striking-skip : r ≡ None → (s₁ : Strikes) → s₁.count ≡ before.count → s₁.first ≡ before.first → s₁.last ≡ before.last → Striking l from n now client networks lengths after s₁ (k + 1)
    unfolding Striking next
    striking-skip is s₁ q a b xs held counted ascending es p =
        let ys : List Lease = map (changed_by now client 0 (take k es)) xs in
        let g = named? now client (get_or es k no_entry).network (get_or es k no_entry).length in
        let found = subst (FoundAt g ys) is (changed xs held counted ascending es p).found in
        goes_on xs held counted ascending es p s₁ (omega (arith, q, ap length (filter_none g ys found)))
        (λ all i h gone.
        let same = none-map g (leased_until 0) ys found in
        let before-it = (s xs held counted ascending es p).between all i (omega (arith, ap length same)) (omega (arith, ap (λ (zs : List Lease). (get_or zs i no_lease).expires) same)) in
        (omega (arith, a), omega (arith, b)))

  module _ (image : List ℕ) (after : Strikes) (k : ℕ) (s : Striking l from n now client networks lengths image after k) (past : length networks ≤ k)
      (xs : List Lease) (held : Records l from xs) (counted : n ≡ length xs) (ascending : Ascending xs) (es : List Entry) (p : Hold networks lengths es) where
    pub striking-all : Struck l from xs now client es image after
    unfolding Striking
    striking-all =
        subst (λ (a : List Entry). Struck l from xs now client a image after) (take_all k es (omega (arith, hold-long networks lengths es p))) (s xs held counted ascending es p)

    -- Where none was struck nothing was written.
    pub striking-nothing : after.count ≡ 0 → StruckBy l from xs now client es image None
    striking-nothing z =
        let no-one : length (filter (named_by? client es) (present now xs)) ≡ 0 = sym striking-all.counted ∙ z in
        let none-named : All (λ x. named_by_present? now client es x ≡ false) xs =
        none_of (named_by_present? now client es) xs (ap length (struck-all now client 0 (omega arith) es xs) ∙ no-one) in
        (nil_from_length (filter (named_by? client es) (present now xs)) no-one, striking-all.after_is ∙ unchanged now client 0 l from xs held es none-named)
