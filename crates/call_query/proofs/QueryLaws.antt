-- Laws of queries: what the check of the image says of the table, the rows by which a query is refused, and pools and leases at their places.
-- Assumes nothing.
use Prim.Native.Nat.{ℕ, zero, suc, ◌+◌, ◌*◌, ◌≤◌, ◌<◌}
use native.Mathlib.Omega.{arith}
use mathlib.Core.Path.{◌≡◌, refl, sym, ap, ap₂, subst, ◌∙◌}
use mathlib.Core.Bool.{Bool, true, false, cond, true≢false}
use mathlib.Core.List.{List, [], ◌∷◌, ◌++◌, append_assoc}
use mathlib.Core.Option.{Option, none, some}
use Rattle.std.specs.Prelude.{Some, None, Ok, Err, Result, is_ok}
use Rattle.std.proofs.lemmas.Option.{same_Some}
use lib.ListN.{length, get_or, take, drop, take-append-drop}
use lib.Seq.{drop-drop, drop_at}
use borrow.Author.Tests.{lt-leb, le-leb}
use Rattle.lists.specs.Lists.{concat_map}
use Rattle.table.specs.declared.Pool.{Pool}
use Rattle.table.specs.declared.Lease.{Lease}
use Rattle.table.specs.declared.LeaseTable.{LeaseTable}
use Rattle.table.specs.Table.{pool_slots, lease_slots, no_pool, no_lease, sound}
use Rattle.image.specs.Fields.{number32}
use Rattle.image.specs.Image.{le16, le32, head_size, pool_size, lease_size, head_record, pool_record, lease_record, used_pools, used_leases, head_of, image_as, image_of}
use Rattle.image.specs.Reading.{pool_in, lease_in, load_image}
use Rattle.image.proofs.FieldLaws.{spell32}
use Rattle.image.proofs.ImageLaws.{length-image, length-head, length-pool}
use Rattle.image_check.specs.declared.ImageSummary.{ImageSummary}
use Rattle.image_check.specs.ImageSummary.{summary_at, summary_of}
use Rattle.image_records.proofs.RecordLaws.{lease-in-place}
use Rattle.image_records.proofs.SoundLaws.{used-few, image-records}
use Rattle.counts.specs.Counts.{sum_at}
use Rattle.ledger.specs.Sizes.{Bytes}
use Rattle.ledger.specs.declared.{Accepted.Accepted, Answer.Answer, Refusal.Refusal}
use Rattle.ledger.specs.Answers.{answer_of}
use Rattle.ledger.proofs.RefusalLaws.{number-some}
use Rattle.ledger.specs.Ledger.{refusal, acceptance}
use Rattle.call_spec.specs.ImageCalls.{Lent, image_in, table_in}
use Rattle.call_spec.specs.Books.{Book, lent_in, whole_book}
use Rattle.call_spec.proofs.TableLaws.{held-loads, held-within, held-image, held-length}
use Rattle.call_spec.proofs.BookLaws.{same-buffers}
use Rattle.call_rows.specs.InnerSummary.{SummaryIn}
use Rattle.call_query.specs.declared.HeadAnswer.{HeadAnswer}
use Rattle.call_query.specs.Queries.{check_image, head_refusal, head_image, pool_answer, pool_image, lease_answer, lease_of, lease_image}
use Rattle.call_query.specs.Queries.{head_of as head_answer}

-- POOLS IN PLACE, at the front of the bytes after the head.

pool-read : (p : Pool) (q : List ℕ) → pool_in (pool_record p ++ q) ≡ p
unfolding pool_record le16 le32 number32
pool-read p q = ap (λ (n : ℕ). record { network = n; length = p.length }) (spell32 p.network)

pool-place : (ps : List Pool) (q : List ℕ) (k : ℕ) → k < length ps → pool_in (drop (pool_size * k) (concat_map pool_record ps ++ q)) ≡ get_or ps k no_pool
pool-place [] q k h = absurd (omega arith)
pool-place (p ∷ ps) q zero h = ap pool_in (append_assoc (pool_record p) (concat_map pool_record ps) q) ∙ pool-read p (concat_map pool_record ps ++ q)
pool-place (p ∷ ps) q (suc k) h =
    let rest : List ℕ = concat_map pool_record ps ++ q in
    let e : pool_size * suc k ≡ pool_size + pool_size * k = omega arith in
    ap (λ (s : List ℕ). pool_in (drop (pool_size * suc k) s)) (append_assoc (pool_record p) (concat_map pool_record ps) q)
    ∙ ap (λ (n : ℕ). pool_in (drop n (pool_record p ++ rest))) e
    ∙ ap pool_in (sym (drop-drop (pool_size * k) pool_size (pool_record p ++ rest)))
    ∙ ap (λ (s : List ℕ). pool_in (drop (pool_size * k) s)) (drop_at (pool_record p) rest pool_size (length-pool p))
    ∙ pool-place ps q k (omega arith)

image-pools : (t : LeaseTable) (l : List ℕ) (bytes : ℕ) → image_of t ≡ take bytes l → (k : ℕ) → k < length (used_pools t) → pool_in (drop (head_size + pool_size * k) l) ≡ get_or (used_pools t) k no_pool
unfolding image_as
image-pools t l bytes e k h =
    let head : List ℕ = head_record (head_of t) in
    let pools : List ℕ = concat_map pool_record (used_pools t) in
    let rest : List ℕ = concat_map lease_record (used_leases t) ++ drop bytes l in
    let here : l ≡ head ++ (pools ++ rest) =
    sym (take-append-drop bytes l)
    ∙ ap (λ (s : List ℕ). s ++ drop bytes l) (sym e)
    ∙ append_assoc head (pools ++ concat_map lease_record (used_leases t)) (drop bytes l)
    ∙ ap (λ (s : List ℕ). head ++ s) (append_assoc pools (concat_map lease_record (used_leases t)) (drop bytes l)) in
    ap pool_in (sym (drop-drop (pool_size * k) head_size l))
    ∙ ap (λ (s : List ℕ). pool_in (drop (pool_size * k) (drop head_size s))) here
    ∙ ap (λ (s : List ℕ). pool_in (drop (pool_size * k) s)) (drop_at head (pools ++ rest) head_size (length-head (head_of t)))
    ∙ pool-place (used_pools t) rest k h

-- WHAT THE CHECK SAYS

-- The head that it has.
abbrev pub head_from : ImageSummary → HeadAnswer
head_from s = record { number = 0; term = s.term; default_length = s.default_length; last_time = s.last; pools = s.pools; leases = s.leases }

module _ (book : Book) where
  abbrev h : Lent
  h = lent_in book

  -- ROW 5
  module _ (i : SummaryIn h 0 None) where
    pub check-refused : refusal 5 0 ≡ check_image h
    unfolding check_image
    check-refused = rw (sym i.sound)

    pub head-refused : head_refusal 5 ≡ head_image h
    unfolding head_image
    head-refused = rw (sym i.sound)

    pub pool-refused : (index : ℕ) → pool_answer 5 no_pool ≡ pool_image h index
    unfolding pool_image
    pool-refused index = rw (sym i.sound)

    pub lease-refused : (index : ℕ) → lease_answer 5 0 no_lease ≡ lease_image h index
    unfolding lease_image
    lease-refused index = rw (sym i.sound)

  -- A TABLE
  module _ (bytes : Bytes book.lent.image) (summary : ImageSummary) (i : SummaryIn h 0 (Some summary)) where
    -- Its buffer is the one that is lent.
    its : h.image ≡ book.lent.image
    its = (same-buffers book).0

    b : Bytes h.image
    b = subst Bytes (sym its) bytes

    sound-is : sound (table_in h) ≡ true
    sound-is = sym i.sound

    pub check-accepted : acceptance 0 0 ≡ check_image h
    unfolding check_image
    check-accepted = rw sound-is

    summary-is : summary ≡ summary_at 0 (table_in h)
    summary-is = same_Some summary (summary_at 0 (table_in h)) (i.is ∙ ap (summary_of 0) (held-loads h sound-is))

    pub head-found : head_from summary ≡ head_image h
    unfolding head_image
    head-found = ap head_from summary-is ∙ rw sound-is

    pools-are : summary.pools ≡ length (used_pools (table_in h))
    pools-are = ap (λ (x : ImageSummary). x.pools) summary-is

    leases-are : summary.leases ≡ length (used_leases (table_in h))
    leases-are = ap (λ (x : ImageSummary). x.leases) summary-is

    pub few : (summary.pools ≤ pool_slots) × (summary.leases ≤ lease_slots)
    few = let few-used = used-few (table_in h) sound-is in (omega (arith, pools-are, few-used.0), omega (arith, leases-are, few-used.1))

    -- Every record lies in the buffer.
    pub inside : head_size + pool_size * summary.pools + lease_size * summary.leases ≤ length book.lent.image
    inside = omega (arith, pools-are, leases-are, length-image (table_in h), held-length h sound-is b, held-within h sound-is, ap length its)

    module _ (index : ℕ) where
      pub pool-none : summary.pools ≤ index → pool_answer 11 no_pool ≡ pool_image h index
      unfolding pool_image
      pool-none past = rw (sound-is, le-leb (length (used_pools (table_in h))) index (omega (arith, pools-are)))

      pool-accepted : index < length (used_pools (table_in h)) → pool_answer 0 (get_or (used_pools (table_in h)) index no_pool) ≡ pool_image h index
      unfolding pool_image
      pool-accepted lt = rw (sound-is, lt-leb (length (used_pools (table_in h))) index lt)

      pub pool-found : index < summary.pools → (p : Pool) → p ≡ pool_in (drop (head_size + pool_size * index) book.lent.image) → pool_answer 0 p ≡ pool_image h index
      pool-found here p f =
          let lt : index < length (used_pools (table_in h)) = omega (arith, pools-are) in
          ap (pool_answer 0)
          (f
          ∙ ap (λ (l : List ℕ). pool_in (drop (head_size + pool_size * index) l)) (sym its)
          ∙ image-pools (table_in h) h.image h.bytes (held-image h sound-is b) index lt)
          ∙ pool-accepted lt

      pub lease-none : summary.leases ≤ index → lease_answer 11 0 no_lease ≡ lease_image h index
      unfolding lease_image
      lease-none past = rw (sound-is, le-leb (length (used_leases (table_in h))) index (omega (arith, leases-are)))

      lease-accepted : index < length (used_leases (table_in h)) → lease_of (get_or (used_leases (table_in h)) index no_lease) ≡ lease_image h index
      unfolding lease_image
      lease-accepted lt = rw (sound-is, lt-leb (length (used_leases (table_in h))) index lt)

      pub lease-found : index < summary.leases → (x : Lease) → x ≡ lease_in (drop (head_size + pool_size * summary.pools + lease_size * index) book.lent.image) → lease_of x ≡ lease_image h index
      lease-found here x f =
          let xs : List Lease = used_leases (table_in h) in
          let lt : index < length xs = omega (arith, leases-are) in
          let from : head_size + pool_size * summary.pools ≡ head_size + pool_size * length (used_pools (table_in h)) = omega (arith, pools-are) in
          ap lease_of
          (f
          ∙ ap₂ (λ (k : ℕ) (l : List ℕ). lease_in (drop (k + lease_size * index) l)) from (sym its)
          ∙ lease-in-place h.image (head_size + pool_size * length (used_pools (table_in h))) xs (image-records (table_in h) h.image h.bytes (held-image h sound-is b)) index lt)
          ∙ lease-accepted lt

-- HOW MUCH IS LEFT: refused where the check is.

module _ (book : Book) (len : ℕ) (r : Result Accepted Refusal) (checked : answer_of r ≡ check_image (lent_in book)) where
  pub whole-refused : (e : Refusal) → r ≡ Err e → answer_of (Err e) ≡ whole_book book len
  unfolding check_image whole_book
  whole-refused e is = by-sound (sound (table_in (lent_in book))) refl
    where
      by-sound : (s : Bool) → sound (table_in (lent_in book)) ≡ s → answer_of (Err e) ≡ whole_book book len
      by-sound true f = absurd (number-some e (ap (λ (a : Answer). a.number) (sym (ap answer_of is) ∙ checked) ∙ rw f refl))
      by-sound false f = sym (ap answer_of is) ∙ checked ∙ rw f refl

  pub whole-accepted : (a : Accepted) → r ≡ Ok a → acceptance 0 (sum_at book.counts len) ≡ whole_book book len
  unfolding check_image whole_book
  whole-accepted a is = by-sound (sound (table_in (lent_in book))) refl
    where
      by-sound : (s : Bool) → sound (table_in (lent_in book)) ≡ s → acceptance 0 (sum_at book.counts len) ≡ whole_book book len
      by-sound true f = rw f
      by-sound false f = let five : 0 ≡ 5 = ap (λ (x : Answer). x.number) (sym (ap answer_of is) ∙ checked) ∙ rw f refl in absurd (omega (arith, five))
