-- The bytes of an ask's reply, put one information after the other, and the leases that they show.
-- Assumes nothing.
use Prim.Native.Nat.{ℕ, ◌+◌, ◌-◌, ◌*◌, ◌≤◌, ◌<◌}
use mathlib.Core.Path.{◌≡◌, refl, sym, ap, ap₂, subst, ◌∙◌}
use mathlib.Core.Logic.{⊎_elim}
use mathlib.Core.Bool.{true, false, cond}
use mathlib.Core.List.{List, [], ◌∷◌, ◌++◌, map, append-nil, map-append}
use mathlib.Core.Option.{Option, none, some}
use native.Mathlib.Omega.{arith}
use native.Mathlib.Numerals.{add-one}
use lib.Dec.{eqb}
use lib.ListN.{length, set, take, drop, get_or, length-append, length-map}
use lib.Seq.{take-suc, length-take-le}
use borrow.Author.Tests.{eq-eqb, ne_eqb, eqb-false}
use Rattle.lists.specs.Lists.{All, cat_maybes}
use Rattle.lists.specs.Put.{put}
use Rattle.lists.proofs.Tests.{bool_cases, cond-true, cond-false}
use Rattle.lists.proofs.IndexLaws.{all-at}
use Rattle.lists.proofs.PartLaws.{cat_maybes-append}
use Rattle.lists.proofs.PutLaws.{put-nothing, put-append, put-before}
use Rattle.option.specs.Values.{SuboptionValue}
use Rattle.option.specs.Contents.{Request}
use Rattle.option.specs.Writing.{entry_head, entry_bytes, entries_bytes, information_head, suboption_bytes, suboptions_bytes, option_head, option_bytes}
use Rattle.option.proofs.WritingLaws.{entry-head-length, entries-one, suboptions-none, suboptions-append, suboptions-one, option-length}
use Rattle.names.specs.declared.Name.{Name}
use Rattle.table.specs.declared.{Lease.Lease, LeaseTable.LeaseTable}
use Rattle.table.specs.Table.{no_lease}
use Rattle.image.specs.Image.{lease_size}
use Rattle.image.specs.Reading.{lease_in}
use Rattle.image_records.specs.Records.{Records}
use Rattle.image_records.proofs.RecordLaws.{lease-in-place}
use Rattle.option_reply.specs.Reply.{entry_of}
use Rattle.ledger.specs.Ledger.{information_for, offer, offers, add, rest_of, in_turn}
use Rattle.ledger.proofs.ReplyLaws.{ask-bytes}
use Rattle.ask_again.specs.Places.{no_place, Within, lease_at, given_in}
use Rattle.ask_serve.specs.Granting.{granted_lease, offer_in, offers_in, rest_offers}
use Rattle.ask_serve.proofs.ColumnLaws.{offers-in-snoc, offers-in-length}
use Rattle.ask_commit.specs.InnerReply.{Shown, given_or, either_of, each_of, Replied}

-- One information: three bytes, and seven of its entry.
one-information : (x : Lease) → suboption_bytes (information_for x) ≡ information_head 8 false false ++ entry_head x.network x.length x.h x.d 0
unfolding suboption_bytes entry_bytes
one-information x =
    let e : entries_bytes (entry_of x ∷ []) ≡ entry_head x.network x.length x.h x.d 0 =
    entries-one (entry_of x) ∙ append-nil (entry_head x.network x.length x.h x.d 0) in
    ap (λ (l : List ℕ). information_head (1 + length l) false false ++ l) e
    ∙ ap (λ (n : ℕ). information_head (1 + n) false false ++ entry_head x.network x.length x.h x.d 0) (entry-head-length x.network x.length x.h x.d 0)

pub offer-put : (l : List ℕ) (at : ℕ) (x : Lease)
    → put (set (set (set l at 2) (at + 1) 8) (at + 2) 0) (at + 3) (entry_head x.network x.length x.h x.d 0) ≡ put l at (suboption_bytes (information_for x))
unfolding put information_head
offer-put l at x =
    let entry : List ℕ = entry_head x.network x.length x.h x.d 0 in
    let two : at + 2 ≡ at + 1 + 1 = omega arith in
    let three : at + 3 ≡ at + 1 + 1 + 1 = omega arith in
    ap₂ (λ (m n : ℕ). put (set (set (set l at 2) (at + 1) 8) m 0) n entry) two three ∙ ap (put l at) (sym (one-information x))

informations-bytes : (xs : List Lease) → length (suboptions_bytes (map information_for xs)) ≡ 10 * length xs
informations-bytes xs = omega (arith, option-length (map information_for xs), ask-bytes xs)

pub shown-none : (l : List ℕ) → Shown l l 3 []
shown-none l = record { ends = refl; bytes = sym (ap (put l 3) suboptions-none ∙ put-nothing l 3) }

-- One more behind those before it.
pub shown-more : (l₀ l : List ℕ) (at : ℕ) (gs : List Lease) (x : Lease) → Shown l₀ l at gs → (l₁ : List ℕ) (at₁ : ℕ) → l₁ ≡ put l at (suboption_bytes (information_for x)) → at₁ ≡ at + 10
    → Shown l₀ l₁ at₁ (gs ++ (x ∷ []))
shown-more l₀ l at gs x before l₁ at₁ next on =
    let old : List ℕ = suboptions_bytes (map information_for gs) in
    let here : at ≡ 3 + length old = omega (arith, before.ends, informations-bytes gs) in
    let all : suboptions_bytes (map information_for (gs ++ (x ∷ []))) ≡ old ++ suboption_bytes (information_for x) =
    ap suboptions_bytes (map-append information_for gs (x ∷ []))
    ∙ suboptions-append (map information_for gs) (information_for x ∷ [])
    ∙ ap (λ (ys : List ℕ). old ++ ys) (suboptions-one (information_for x)) in
    record {
      ends = omega (arith, on, before.ends, length-append gs (x ∷ []));
      bytes =
          next ∙ ap₂ (λ (m : List ℕ) (n : ℕ). put m n (suboption_bytes (information_for x))) before.bytes here
          ∙ put-append old l₀ 3 (suboption_bytes (information_for x))
          ∙ ap (put l₀ 3) (sym all);
    }

-- All of them, and the head before them.
pub shown-all : (l₀ l : List ℕ) (at : ℕ) (gs : List Lease) → Shown l₀ l at gs → (l₁ : List ℕ) → l₁ ≡ put l 0 (option_head (at - 2)) → Replied l₀ l₁ at (map information_for gs)
unfolding option_bytes option_head
shown-all l₀ l at gs shown l₁ head =
    let len : at - 2 ≡ 1 + length (suboptions_bytes (map information_for gs)) = omega (arith, shown.ends, informations-bytes gs) in
    record {
      bytes-are = shown.ends ∙ sym (ask-bytes gs);
      after_is =
          head ∙ ap₂ (λ (m : List ℕ) (n : ℕ). put m 0 (option_head n)) shown.bytes len
          ∙ put-before (option_head (1 + length (suboptions_bytes (map information_for gs)))) l₀ 0 (suboptions_bytes (map information_for gs));
    }

-- WHAT ONE REQUEST GETS

module _ (place : ℕ) (old new : Lease) (before l : List ℕ) (at : ℕ) (xs : List Lease) (shown : Shown before l at xs) where
  gets : (o : Option Lease) → given_or place old new ≡ o → (l₁ : List ℕ) (at₁ : ℕ) → Shown before l₁ at₁ (xs ++ cat_maybes (o ∷ [])) → Shown before l₁ at₁ (xs ++ cat_maybes (given_or place old new ∷ []))
  gets o e l₁ at₁ k = subst (λ (p : Option Lease). Shown before l₁ at₁ (xs ++ cat_maybes (p ∷ []))) (sym e) k

  -- Its lease again,
  pub shown-again : (place ≡ no_place → ⊥) → (l₁ : List ℕ) → l₁ ≡ put l at (suboption_bytes (information_for old)) → Shown before l₁ (at + 10) (xs ++ cat_maybes (given_or place old new ∷ []))
  shown-again some-place l₁ e =
      gets (some old) (cond-false (eqb place no_place) (cond (eqb new.length 0) none (some new)) (some old) (ne_eqb place no_place some-place)) l₁ (at + 10)
      (shown-more before l at xs old shown l₁ (at + 10) e refl)

  -- or a new one, if there is one.
  module _ (without_place : place ≡ no_place) where
    new_is : given_or place old new ≡ cond (eqb new.length 0) none (some new)
    new_is = cond-true (eqb place no_place) (cond (eqb new.length 0) none (some new)) (some old) (eq-eqb place no_place without_place)

    pub shown-new : (new.length ≡ 0 → ⊥) → (l₁ : List ℕ) → l₁ ≡ put l at (suboption_bytes (information_for new)) → Shown before l₁ (at + 10) (xs ++ cat_maybes (given_or place old new ∷ []))
    shown-new long l₁ e =
        gets (some new) (new_is ∙ cond-false (eqb new.length 0) none (some new) (ne_eqb new.length 0 long)) l₁ (at + 10) (shown-more before l at xs new shown l₁ (at + 10) e refl)

    pub shown-nothing : new.length ≡ 0 → Shown before l at (xs ++ cat_maybes (given_or place old new ∷ []))
    shown-nothing z =
        gets none (new_is ∙ cond-true (eqb new.length 0) none (some new) (eq-eqb new.length 0 z)) l at (subst (Shown before l at) (sym (append-nil xs)) shown)

-- WHAT EACH REQUEST GETS

each_snoc : (gs os : List (Option Lease)) (g o : Option Lease) → length gs ≡ length os → each_of (gs ++ (g ∷ [])) (os ++ (o ∷ [])) ≡ each_of gs os ++ (either_of g o ∷ [])
each_snoc [] [] g o e = refl
each_snoc [] (p ∷ os) g o e = absurd (omega arith)
each_snoc (h ∷ gs) [] g o e = absurd (omega arith)
each_snoc (h ∷ gs) (p ∷ os) g o e = ap (λ (l : List (Option Lease)). either_of h p ∷ l) (each_snoc gs os g o (omega arith))

-- As the code tells them apart.
either_is : (us : List Lease) (place client expires : ℕ) (name : Name) (network len flag : ℕ) (old : Lease) → ((place ≡ no_place → ⊥) → old ≡ get_or us place no_lease)
    → either_of (lease_at us place) (offer_in client expires name network len flag) ≡ given_or place old (granted_lease client expires name network len flag)
either_is us place client expires name network len flag old e =
    ⊎_elim
    (λ (b : eqb place no_place ≡ true). rw b)
    (λ (b : eqb place no_place ≡ false). rw b (ap some (sym (e (eqb-false place no_place b)))))
    (bool_cases (eqb place no_place))

-- One request more.
module _ (client expires : ℕ) (name : Name) (us : List Lease) (places ns ls fs : List ℕ) (j : ℕ) (same : length places ≡ length fs) (low : j < length fs) (hn : length fs ≤ length ns) (hl : length fs ≤ length ls) where
  abbrev gives : ℕ → List (Option Lease)
  gives k = each_of (given_in us (take k places)) (offers_in client expires name ns ls (take k fs))

  gives-next : gives (j + 1) ≡ gives j ++ (either_of (lease_at us (get_or places j 0)) (offer_in client expires name (get_or ns j 0) (get_or ls j 0) (get_or fs j 0)) ∷ [])
  gives-next =
      let p : ℕ = get_or places j 0 in
      let o : Option Lease = offer_in client expires name (get_or ns j 0) (get_or ls j 0) (get_or fs j 0) in
      let first : length (take j fs) ≡ j = length-take-le j fs (omega arith) in
      let more_given : given_in us (take (j + 1) places) ≡ given_in us (take j places) ++ (lease_at us p ∷ []) =
      ap (λ (k : ℕ). given_in us (take k places)) (add-one j) ∙ ap (given_in us) (take-suc places j 0 (omega arith)) ∙ map-append (lease_at us) (take j places) (p ∷ []) in
      let more-offered : offers_in client expires name ns ls (take (j + 1) fs) ≡ offers_in client expires name ns ls (take j fs) ++ (o ∷ []) =
      ap (λ (k : ℕ). offers_in client expires name ns ls (take k fs)) (add-one j) ∙ ap (offers_in client expires name ns ls) (take-suc fs j 0 low) ∙ offers-in-snoc client expires name ns ls (take j fs) (get_or fs j 0) j first (omega arith) (omega arith) in
      ap₂ each_of more_given more-offered
      ∙ each_snoc (given_in us (take j places)) (offers_in client expires name ns ls (take j fs)) (lease_at us p) o
      (length-map (take j places) (lease_at us) ∙ length-take-le j places (omega arith) ∙ sym (offers-in-length client expires name ns ls (take j fs) (omega (arith, first)) (omega (arith, first)) ∙ first))

  pub shown-next : (image : List ℕ) (from : ℕ) → Records image from us → All (Within (length us)) places → (before l₁ : List ℕ) (at₁ : ℕ)
      → Shown before l₁ at₁ (cat_maybes (gives j) ++ cat_maybes (given_or (get_or places j 0) (lease_in (drop (from + lease_size * get_or places j 0) image)) (granted_lease client expires name (get_or ns j 0) (get_or ls j 0) (get_or fs j 0)) ∷ []))
      → Shown before l₁ at₁ (cat_maybes (gives (j + 1)))
  shown-next image from stand within before l₁ at₁ k =
      let p : ℕ = get_or places j 0 in
      let inside = all-at (Within (length us)) places within j 0 (omega arith) in
      subst (Shown before l₁ at₁)
      (sym (ap cat_maybes gives-next
      ∙ cat_maybes-append (gives j) (either_of (lease_at us p) (offer_in client expires name (get_or ns j 0) (get_or ls j 0) (get_or fs j 0)) ∷ [])
      ∙ ap (λ (o : Option Lease). cat_maybes (gives j) ++ cat_maybes (o ∷ []))
      (either_is us p client expires name (get_or ns j 0) (get_or ls j 0) (get_or fs j 0) (lease_in (drop (from + lease_size * p) image)) (λ some-place. lease-in-place image from us stand p (inside some-place)))))
      k

-- An entry shows neither the client nor the end nor the name.
module _ (client expires client₁ expires₁ : ℕ) (name name₁ : Name) where
  same-shown : (network len flag : ℕ) (g : Option Lease) (os ps : List (Option Lease)) → map information_for (cat_maybes os) ≡ map information_for (cat_maybes ps)
      → map information_for (cat_maybes (either_of g (offer_in client expires name network len flag) ∷ os)) ≡ map information_for (cat_maybes (either_of g (offer_in client₁ expires₁ name₁ network len flag) ∷ ps))
  same-shown network len flag (some x) os ps e = ap (λ (xs : List SuboptionValue). information_for x ∷ xs) e
  same-shown network len flag none os ps e =
      ⊎_elim
      (λ (z : eqb len 0 ≡ true). rw z e)
      (λ (z : eqb len 0 ≡ false). rw z (ap (λ (xs : List SuboptionValue). information_for (granted_lease client₁ expires₁ name₁ network len flag) ∷ xs) e))
      (bool_cases (eqb len 0))

  pub shown-same : (gs : List (Option Lease)) (ns ls fs : List ℕ)
      → map information_for (cat_maybes (each_of gs (offers_in client expires name ns ls fs))) ≡ map information_for (cat_maybes (each_of gs (offers_in client₁ expires₁ name₁ ns ls fs)))
  shown-same [] ns ls fs = refl
  shown-same (g ∷ gs) ns ls [] = refl
  shown-same (g ∷ gs) [] ls (f ∷ fs) = refl
  shown-same (g ∷ gs) (n ∷ ns) [] (f ∷ fs) = refl
  shown-same (g ∷ gs) (n ∷ ns) (l ∷ ls) (f ∷ fs) =
      same-shown n l f g (each_of gs (offers_in client expires name ns ls fs)) (each_of gs (offers_in client₁ expires₁ name₁ ns ls fs)) (shown-same gs ns ls fs)

-- The same is shown of what the ledger gives in turn.
turn_one : (o : Option Lease) (os ps : List (Option Lease)) → map information_for (cat_maybes os) ≡ map information_for (cat_maybes ps) → map information_for (cat_maybes (o ∷ os)) ≡ map information_for (cat_maybes (o ∷ ps))
turn_one none os ps e = e
turn_one (some x) os ps e = ap (λ (xs : List SuboptionValue). information_for x ∷ xs) e

pub turn-shown : (t : LeaseTable) (now client : ℕ) (name : Name) (gs : List (Option Lease)) (rs : List Request) (xs : List Lease) → length gs ≡ length rs
    → map information_for (cat_maybes (in_turn now gs (offers t now client name xs (rest_of gs rs)))) ≡ map information_for (cat_maybes (each_of gs (rest_offers t now client name xs gs rs)))
unfolding in_turn offers rest_of rest_offers
turn-shown t now client name [] [] xs e = refl
turn-shown t now client name [] (r ∷ rs) xs e = absurd (omega arith)
turn-shown t now client name (g ∷ gs) [] xs e = absurd (omega arith)
turn-shown t now client name (some x ∷ gs) (r ∷ rs) xs e = ap (λ (ys : List SuboptionValue). information_for x ∷ ys) (turn-shown t now client name gs rs xs (omega arith))
turn-shown t now client name (none ∷ gs) (r ∷ rs) xs e =
    let o : Option Lease = offer t now client name xs r in
    turn_one o (in_turn now gs (offers t now client name (add o xs) (rest_of gs rs))) (each_of gs (rest_offers t now client name (add o xs) gs rs)) (turn-shown t now client name gs rs (add o xs) (omega arith))
