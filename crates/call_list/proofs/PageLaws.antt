-- Laws of the page of leases that a list shows: the loop that fills it.
-- Assumes nothing.
use Prim.Native.Nat.{ℕ, ◌+◌, ◌*◌, ◌≤◌, ◌<◌}
use mathlib.Core.Path.{◌≡◌, refl, sym, ap, ◌∙◌}
use mathlib.Core.Bool.{Bool, true, false}
use mathlib.Core.List.{List, [], ◌∷◌, ◌++◌, map, append_assoc, append-nil}
use native.Mathlib.Omega.{arith}
use lib.ListN.{length, take, drop, get_or, length-append}
use lib.Seq.{take_all, take-append-add}
use borrow.Author.Tests.{lt-ltb, le-ltb}
use Rattle.lists.specs.Lists.{filter}
use Rattle.lists.specs.Put.{put}
use Rattle.lists.proofs.DropLaws.{filter-at, filter-end}
use Rattle.lists.proofs.Tests.{cond-true, cond-false}
use Rattle.lists.proofs.PutLaws.{put-nothing, put-more}
use Rattle.option.specs.Writing.{entries_bytes}
use Rattle.table.specs.declared.Lease.{Lease}
use Rattle.table.specs.Table.{no_lease}
use Rattle.option_reply.specs.Reply.{most_entries, entry_of}
use Rattle.option_reply.proofs.ReplyLaws.{lease_bytes, entries-length, entries-snoc}
use Rattle.call_list.specs.InnerPage.{PageOf}

-- The leases from `first` up to i that pass the test stand in the reply, and so many were counted.
pub record Showing (f : Lease → Bool) (first : ℕ) (xs : List Lease) (before after : List ℕ) (count i : ℕ) : Type 0 where
  pub shown : List Lease
  pub split : filter f (drop first xs) ≡ shown ++ filter f (drop i xs)
  pub counted : count ≡ length shown
  pub stored : after ≡ put before 6 (entries_bytes (map entry_of shown))

module _ (f : Lease → Bool) (first : ℕ) (xs : List Lease) (before : List ℕ) where
  pub showing-none : Showing f first xs before before 0 first
  unfolding entries_bytes
  showing-none = record { shown = []; split = refl; counted = refl; stored = sym (put-nothing before 6) }

  module _ (after : List ℕ) (count i : ℕ) (s : Showing f first xs before after count i) where
    module _ (lt : i < length xs) where
      pub showing-skip : f (get_or xs i no_lease) ≡ false → Showing f first xs before after count (i + 1)
      showing-skip failed = record {
        shown = s.shown;
        split = s.split ∙ ap (λ (l : List Lease). s.shown ++ l) (filter-at xs i no_lease lt f ∙ cond-false (f (get_or xs i no_lease)) _ _ failed);
        counted = s.counted;
        stored = s.stored;
      }

      passes : f (get_or xs i no_lease) ≡ true → filter f (drop i xs) ≡ get_or xs i no_lease ∷ filter f (drop (i + 1) xs)
      passes passed = filter-at xs i no_lease lt f ∙ cond-true (f (get_or xs i no_lease)) _ _ passed

      pub showing-more : f (get_or xs i no_lease) ≡ true → (next : List ℕ) → next ≡ put after (6 + 7 * count) (lease_bytes (get_or xs i no_lease))
          → Showing f first xs before next (count + 1) (i + 1)
      showing-more passed next e =
          let x : Lease = get_or xs i no_lease in
          let at : 6 + 7 * count ≡ 6 + length (entries_bytes (map entry_of s.shown)) = omega (arith, entries-length s.shown, s.counted) in
          record {
            shown = s.shown ++ x ∷ [];
            split = s.split ∙ ap (λ (l : List Lease). s.shown ++ l) (passes passed) ∙ sym (append_assoc s.shown (x ∷ []) (filter f (drop (i + 1) xs)));
            counted = omega (arith, s.counted, length-append s.shown (x ∷ []));
            stored =
                put-more before after next 6 (entries_bytes (map entry_of s.shown)) (6 + 7 * count) (lease_bytes x) s.stored at e
                ∙ ap (put before 6) (sym (entries-snoc s.shown x));
          }

      -- A full page, and one more lease.
      pub page-full : f (get_or xs i no_lease) ≡ true → count ≡ most_entries → PageOf (filter f (drop first xs)) before after (record { count = count; more = true })
      page-full passed full =
          let rest : List Lease = get_or xs i no_lease ∷ filter f (drop (i + 1) xs) in
          let whole : filter f (drop first xs) ≡ s.shown ++ rest = s.split ∙ ap (λ (l : List Lease). s.shown ++ l) (passes passed) in
          let size : most_entries ≡ length s.shown + 0 = omega (arith, s.counted) in
          let front : take most_entries (filter f (drop first xs)) ≡ s.shown =
          ap (take most_entries) whole ∙ ap (λ (m : ℕ). take m (s.shown ++ rest)) size ∙ take-append-add s.shown rest 0 ∙ append-nil s.shown in
          record {
            count = s.counted ∙ ap length (sym front);
            more = sym (lt-ltb most_entries (length (filter f (drop first xs))) (omega (arith, ap length whole, length-append s.shown rest, s.counted)));
            bytes = s.stored ∙ ap (λ (l : List Lease). put before 6 (entries_bytes (map entry_of l))) (sym front);
          }

    -- All leases on the page.
    pub page-last : length xs ≤ i → count ≤ most_entries → PageOf (filter f (drop first xs)) before after (record { count = count; more = false })
    page-last past few =
        let whole : filter f (drop first xs) ≡ s.shown = s.split ∙ ap (λ (l : List Lease). s.shown ++ l) (filter-end xs i past f) ∙ append-nil s.shown in
        let front : take most_entries (filter f (drop first xs)) ≡ s.shown = ap (take most_entries) whole ∙ take_all most_entries s.shown (omega (arith, s.counted)) in
        record {
          count = s.counted ∙ ap length (sym front);
          more = sym (le-ltb most_entries (length (filter f (drop first xs))) (omega (arith, ap length whole, s.counted)));
          bytes = s.stored ∙ ap (λ (l : List Lease). put before 6 (entries_bytes (map entry_of l))) (sym front);
        }
