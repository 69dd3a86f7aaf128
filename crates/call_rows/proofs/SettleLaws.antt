-- Laws of the end of a call on an open book: its counts are those of the table that is left, counted again or as they were.
-- Assumes nothing.
use Prim.Native.Nat.{ℕ, ◌-◌, ◌<◌}
use mathlib.Core.Path.{◌≡◌, refl, sym, ap, subst, ◌∙◌}
use mathlib.Core.Logic.{⊎_elim}
use mathlib.Core.Bool.{Bool, true, false, cond, ◌&&◌}
use mathlib.Core.List.{List, [], ◌∷◌, ◌++◌, map, append_assoc}
use lib.Dec.{ltb, eqb}
use lib.ListN.{length, take, drop, replicate}
use lib.Seq.{take_at}
use borrow.Author.Tests.{eqb-true, eqb-false, eq-eqb, ne_eqb, ltb-true, lt-ltb}
use Rattle.lists.specs.Lists.{All}
use Rattle.lists.proofs.Tests.{bool_cases}
use Rattle.lists.proofs.FilterLaws.{filter-pass, filter-yes}
use Rattle.table.specs.declared.Pool.{Pool}
use Rattle.table.specs.declared.Lease.{Lease}
use Rattle.table.specs.declared.LeaseTable.{LeaseTable}
use Rattle.table.specs.Table.{lease_slots, prefix_of, present, store}
use Rattle.table.proofs.TableLaws.{sound-used, present-padded}
use Rattle.image.specs.Image.{used_pools, image_of}
use Rattle.image_check.specs.declared.ImageSummary.{ImageSummary}
use Rattle.counts.specs.Counts.{counts_of}
use Rattle.counts.proofs.CountLaws.{counts-stay}
use Rattle.std.specs.Prelude.{Result as Res, Ok, Err, is_ok}
use Rattle.ledger.specs.declared.{Answer.Answer, Accepted.Accepted, Refusal.Refusal}
use Rattle.ledger.specs.Answers.{refusal_number, answer_of}
use Rattle.ledger.proofs.RefusalLaws.{number-some}
use Rattle.ledger.specs.Ledger.{State, Result, outcome}
use Rattle.ledger.proofs.SoundKept.{SoundIfAccepted}
use Rattle.ledger.proofs.Following.{Follows}
use Rattle.call_spec.specs.ImageCalls.{Lent, lent, table_in, state_in, over, stored, stored_in, settled}
use Rattle.call_spec.specs.Books.{Book, lent_in, kept}
use Rattle.call_spec.proofs.BookLaws.{counted-to, sound-counted, sound-lent, refuses-book, accepts-book}
use Rattle.call_spec.proofs.PoolsKept.{SamePools, same-table, left-sound, left-pools}
use Rattle.call_spec.proofs.StoreLaws.{settled-accepted}
use Rattle.call_rows.specs.Admission.{Admitted, LeftIfAccepted}

-- A BOOK THAT IS ADMITTED is what is lent, and its counts are its table's.
module _ (sheet : Bool) (b : Book) (now client : ℕ) (summary : ImageSummary) (o : Admitted sheet (lent_in b) now client summary) where
  pub admitted-lent : lent_in b ≡ b.lent
  admitted-lent = sound-lent b o.sound

  pub admitted-book : Admitted sheet b.lent now client summary
  admitted-book = subst (λ (h : Lent). Admitted sheet h now client summary) admitted-lent o

  pub admitted-counts : b.counts ≡ counts_of (table_in b.lent)
  admitted-counts = counted-to b (sound-counted b o.sound)

-- NO LEASE CAME OR WENT: each keeps its place.
module _ (now : ℕ) (f : Lease → Lease) (same : (x : Lease) → prefix_of (f x) ≡ prefix_of x) where
  map-prefixes : (xs : List Lease) → map prefix_of (map f xs) ≡ map prefix_of xs
  map-prefixes [] = refl
  map-prefixes (x ∷ xs) = λ i. same x i ∷ map-prefixes xs i

  module _ (later : (x : Lease) → now < x.expires → now < (f x).expires) where
    map-present : (xs : List Lease) → All (λ x. ltb now x.expires ≡ true) xs → present now (map f xs) ≡ map f xs
    unfolding present
    map-present [] a = refl
    map-present (x ∷ xs) a =
        filter-yes (λ y. ltb now y.expires) (f x) (map f xs) (lt-ltb now (f x).expires (later x (ltb-true now x.expires a.0))) ∙ ap (λ (l : List Lease). f x ∷ l) (map-present xs a.1)

    present-all : (xs : List Lease) → All (λ x. ltb now x.expires ≡ true) (present now xs)
    unfolding present
    present-all xs = filter-pass (λ x. ltb now x.expires) xs

    module _ (sheet : Bool) (h : Lent) (client : ℕ) (summary : ImageSummary) (o : Admitted sheet h now client summary) where
      abbrev t : LeaseTable
      t = table_in h

      abbrev xs : List Lease
      xs = present now t.leases

      pub unmoved : summary.expired ≡ 0 → counts_of (store t now (map f xs)) ≡ counts_of t
      unfolding store
      unmoved none-gone =
          counts-stay (store t now (map f xs)) t refl
          (ap (map prefix_of) (present-padded now (lease_slots - length (map f xs)) (map f xs) ∙ map-present xs (present-all t.leases))
          ∙ map-prefixes xs
          ∙ ap (map prefix_of) (o.present-used ∙ o.none-expired none-gone ∙ sound-used t o.sound))

-- An image that is stored stands at the front.
stored-front : (t : LeaseTable) (old : ℕ) (l : List ℕ) → take (length (image_of t)) (stored t old l) ≡ image_of t
unfolding stored
stored-front t old l =
    let xs : List ℕ = image_of t in
    let zs : List ℕ = replicate (old - length xs) 0 in
    let rest : List ℕ = drop (length (over xs old)) l in
    ap (take (length xs)) (append_assoc xs zs rest) ∙ take_at xs (zs ++ rest) (length xs) refl

-- An answer is an acceptance exactly if it has number 0.
pub ok-number : (r : Res Accepted Refusal) → eqb (answer_of r).number 0 ≡ is_ok r
ok-number (Ok a) = refl
ok-number (Err e) = ne_eqb (refusal_number e) 0 (number-some e)

-- WHAT IS LEFT CAN BE COUNTED, after an accepted call.
module _ (h : Lent) (r : Result State) (follows : Follows state_in h r (settled r h)) (s : SoundIfAccepted (state_in h) r) (p : SamePools (state_in h) r)
    (a : Answer) (g : Lent) (reply : List ℕ) (is : outcome a g reply ≡ settled r h) (pools : ℕ) (many : pools ≡ length (used_pools (table_in h))) where
  pub countable : LeftIfAccepted a.number (lent g.image g.bytes []) pools
  unfolding table_in
  countable z =
      let zero : r.answer.number ≡ 0 = sym (ap (λ (w : Answer). w.number) (ap (λ (w : Result Lent). w.answer) is ∙ follows.answer)) ∙ z in
      let there : g ≡ stored_in r.state h.bytes h = ap (λ (w : Result Lent). w.state) (is ∙ settled-accepted r h zero) in
      let same : table_in g ≡ r.state.table = same-table h r (settled r h) follows a g reply is z in
      let size : length (image_of (table_in g)) ≡ g.bytes = ap (λ (t : LeaseTable). length (image_of t)) same ∙ ap (λ (w : Lent). w.bytes) (sym there) in
      record {
        sound = left-sound h r (settled r h) follows a g reply is z s;
        image =
            ap image_of same
            ∙ sym (stored-front r.state.table h.bytes h.image)
            ∙ ap (λ (w : Lent). take w.bytes w.image) (sym there);
        size = size;
        pools-are = many ∙ ap (λ (ps : List Pool). length (used_pools (record { pools = ps; leases = []; term = 0; default_length = 0; last = 0 }))) (sym (left-pools h r (settled r h) follows a g reply is z p));
      }

-- WHAT settle LEAVES
module _ (number : ℕ) (moved : Bool) (counts before : List (List ℕ)) where
  pub stays-refused : (number ≡ 0 → ⊥) → before ≡ cond (eqb number 0 && moved) counts before
  stays-refused k = ap (λ (t : Bool). cond (t && moved) counts before) (sym (ne_eqb number 0 k))

  pub stays-unmoved : moved ≡ false → before ≡ cond (eqb number 0 && moved) counts before
  stays-unmoved e = go (eqb number 0) moved e
    where
      go : (z m : Bool) → m ≡ false → before ≡ cond (z && m) counts before
      go true m e = ap (λ (t : Bool). cond t counts before) (sym e)
      go false m e = refl

  pub counted-again : number ≡ 0 → moved ≡ true → (left : List (List ℕ)) → left ≡ counts → left ≡ cond (eqb number 0 && moved) counts before
  counted-again z e left is = is ∙ ap (λ (t : Bool). cond t counts before) (sym e) ∙ ap (λ (t : Bool). cond (t && moved) counts before) (sym (eq-eqb number 0 z))

-- THE END OF A CALL
module _ (b : Book) (same : lent_in b ≡ b.lent) (r : Result State) (f : Lent → Result Lent) (follows : Follows state_in b.lent r (f b.lent))
    (a : Answer) (g : Lent) (reply : List ℕ) (is : outcome a g reply ≡ f b.lent) (moved : Bool) (counts : List (List ℕ))
    (left : counts ≡ cond (eqb a.number 0 && moved) (counts_of (table_in (lent g.image g.bytes []))) b.counts)
    (unmoved : a.number ≡ 0 → moved ≡ false → counts_of (table_in g) ≡ b.counts) where
  answered : a ≡ r.answer
  answered = ap (λ (w : Result Lent). w.answer) is ∙ follows.answer

  accepted : (m : Bool) → a.number ≡ 0 → moved ≡ m → counts ≡ counts_of (table_in g)
  unfolding table_in
  accepted true z e = left ∙ ap (λ (t : Bool). cond (t && moved) (counts_of (table_in g)) b.counts) (eq-eqb a.number 0 z) ∙ ap (λ (t : Bool). cond t (counts_of (table_in g)) b.counts) e
  accepted false z e =
      left ∙ ap (λ (t : Bool). cond (t && moved) (counts_of (table_in g)) b.counts) (eq-eqb a.number 0 z) ∙ ap (λ (t : Bool). cond t (counts_of (table_in g)) b.counts) e ∙ sym (unmoved z e)

  refused : eqb a.number 0 ≡ false → (counts ≡ b.counts) × (g ≡ b.lent)
  refused e = (
    left ∙ ap (λ (t : Bool). cond (t && moved) (counts_of (table_in (lent g.image g.bytes []))) b.counts) e,
    ap (λ (w : Result Lent). w.state) is ∙ follows.refused (λ z. eqb-false a.number 0 e (ap (λ (w : Answer). w.number) answered ∙ z)),
  )

  on-lent : outcome a (record { lent = g; counts = counts }) reply ≡ kept (f b.lent) b
  on-lent =
      ⊎_elim
      (λ (e : eqb a.number 0 ≡ true).
      let z = eqb-true a.number 0 e in
      accepts-book b (f b.lent) a g reply is z counts (accepted moved z refl))
      (λ (e : eqb a.number 0 ≡ false).
      let u = refused e in
      (λ i. outcome a (record { lent = u.1 i; counts = u.0 i }) reply) ∙ refuses-book b (f b.lent) a g reply is (eqb-false a.number 0 e))
      (bool_cases (eqb a.number 0))

  pub settles : outcome a (record { lent = g; counts = counts }) reply ≡ kept (f (lent_in b)) b
  settles = on-lent ∙ ap (λ (h : Lent). kept (f h) b) (sym same)
