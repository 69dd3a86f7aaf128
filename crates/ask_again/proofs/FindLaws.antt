-- Laws of the pass over the records of an image: the places so far are those of the leases that the requests get again of the records so far.
-- Assumes nothing.
use Prim.Native.Nat.{ℕ, zero, suc, ◌+◌, ◌-◌, ◌*◌, ◌≤◌, ◌<◌}
use native.Mathlib.Omega.{arith}
use native.Mathlib.Numerals.{add-one}
use mathlib.Core.Path.{◌≡◌, refl, sym, ap, subst, ◌∙◌}
use mathlib.Core.Logic.{⊎_elim}
use mathlib.Core.Bool.{Bool, true, false}
use mathlib.Core.List.{List, [], ◌∷◌, ◌++◌, append-nil, append_assoc}
use mathlib.Core.Option.{Option, none, some}
use lib.Dec.{ltb, eqb}
use lib.ListN.{length, take, drop, get_or, replicate, length-map, take-append-drop}
use lib.Seq.{take-suc, take_all, length-take-le}
use borrow.Author.Tests.{ltb-true, ltb-false, lt-ltb, ne_eqb}
use Rattle.std.specs.Prelude.{Some, None}
use Rattle.std.specs.Prelude.{Option as Optional}
use Rattle.lists.specs.Lists.{All, and}
use Rattle.lists.proofs.Tests.{bool_cases, cond-false, and-to}
use Rattle.table.specs.declared.{Lease.Lease, LeaseTable.LeaseTable}
use Rattle.table.specs.Table.{no_lease, present}
use Rattle.option.specs.Contents.{Request}
use Rattle.image.specs.Image.{lease_size}
use Rattle.image.specs.Reading.{lease_in}
use Rattle.image_records.specs.Records.{Records}
use Rattle.image_records.proofs.RecordLaws.{lease-in-place}
use Rattle.ledger.specs.Ledger.{held_by?, again}
use Rattle.ledger.specs.InnerAgain.{give}
use Rattle.ledger.proofs.AgainLaws.{none_given}
use Rattle.ledger.proofs.PassLaws.{pass-starts, pass-gives, pass-skips}
use Rattle.ask_again.specs.Places.{no_place, Within, given_in, others_in, Asks}
use Rattle.ask_again.specs.InnerGiving.{held_at?, Past, NextHeld, Given}
use Rattle.ask_again.proofs.Counting.{others-none, others-few, others-all}

-- ALL HAVE ONE: then a further lease goes to none.

Served : Option Lease → Type 0
Served none = ⊥
Served (some x) = Unit {0}

give-full : (t : LeaseTable) (client : ℕ) (x : Lease) (rs : List Request) (gs : List (Option Lease)) → All Served gs → give t client x rs gs ≡ gs
unfolding give Served
give-full t client x [] gs a = refl
give-full t client x (r ∷ rs) [] a = refl
give-full t client x (r ∷ rs) (none ∷ gs) a = absurd a.0
give-full t client x (r ∷ rs) (some y ∷ gs) a = ap (λ (os : List (Option Lease)). some y ∷ os) (give-full t client x rs gs a.1)

again-full : (t : LeaseTable) (now client : ℕ) (rs : List Request) (zs ys : List Lease) → All Served (again t client (present now ys) rs) → again t client (present now (ys ++ zs)) rs ≡ again t client (present now ys) rs
again-full t now client rs [] ys a = ap (λ (l : List Lease). again t client (present now l) rs) (append-nil ys)
again-full t now client rs (z ∷ zs) ys a =
    let one : again t client (present now (ys ++ (z ∷ []))) rs ≡ again t client (present now ys) rs =
    ⊎_elim
    (λ (b : ltb now z.expires ≡ true). pass-gives t now client ys z rs (ltb-true now z.expires b) ∙ give-full t client z rs (again t client (present now ys) rs) a)
    (λ (b : ltb now z.expires ≡ false). pass-skips t now client ys z rs (λ l. absurd (omega (arith, ltb-false now z.expires b))))
    (bool_cases (ltb now z.expires)) in
    ap (λ (l : List Lease). again t client (present now l) rs) (sym (append_assoc ys (z ∷ []) zs))
    ∙ again-full t now client rs zs (ys ++ (z ∷ [])) (subst (All Served) (sym one) a)
    ∙ one

all-served : (us : List Lease) (ps : List ℕ) → All (λ p. p ≡ no_place → ⊥) ps → All Served (given_in us ps)
unfolding Served
all-served us [] a = tt
all-served us (p ∷ ps) a = (subst Served (sym (cond-false (eqb p no_place) none (some (get_or us p no_lease)) (ne_eqb p no_place a.0))) tt, all-served us ps a.1)

none-given : (us : List Lease) (k : ℕ) (rs : List Request) → length rs ≤ k → given_in us (take (length rs) (replicate k no_place)) ≡ none_given rs
none-given us k [] h = refl
none-given us zero (r ∷ rs) h = absurd (omega arith)
none-given us (suc k) (r ∷ rs) h = ap (λ (os : List (Option Lease)). none ∷ os) (none-given us k rs (omega arith))

none_within : (n k m : ℕ) → All (Within n) (take m (replicate k no_place))
none_within n k zero = tt
none_within n zero (suc m) = tt
none_within n (suc k) (suc m) = ((λ some-place. absurd (some-place refl)), none_within n k m)

-- THE PASS

module _ (image : List ℕ) (from n client now default_length : ℕ) (asked_lengths asked_h : List ℕ) where
  -- After the first i records.
  pub Found : ℕ → List ℕ → Type 0
  Found i places = (t : LeaseTable) (us : List Lease) (rs : List Request) → Records image from us → n ≡ length us → Asks t rs default_length asked_lengths asked_h
      → given_in us (take (length asked_lengths) places) ≡ again t client (present now (take i us)) rs

  found_none : (k : ℕ) → length asked_lengths ≤ k → Found 0 (replicate k no_place)
  unfolding Found
  found_none k h t us rs stand many asks =
      let same : length asked_lengths ≡ length rs = ap length asks.lengths ∙ length-map rs (λ (r : Request). r.length) in
      ap (λ (m : ℕ). given_in us (take m (replicate k no_place))) same
      ∙ none-given us k rs (omega arith)
      ∙ sym (pass-starts t now client rs)

  module _ (i : ℕ) (low : i < n) (places : List ℕ) (so_far : Found i places) where
    abbrev x : Lease
    x = lease_in (drop (from + lease_size * i) image)

    it-is : (us : List Lease) → Records image from us → n ≡ length us → x ≡ get_or us i no_lease
    it-is us stand many = lease-in-place image from us stand i (omega arith)

    next : (us : List Lease) → n ≡ length us → take (i + 1) us ≡ take i us ++ (get_or us i no_lease ∷ [])
    next us many = ap (λ (k : ℕ). take k us) (add-one i) ∙ take-suc us i no_lease (omega arith)

    -- A lease that the client holds goes to the first request that waits for it.
    found-more : held_at? image (from + lease_size * i) client now ≡ true → (len : ℕ) → len ≡ x.length → (h : Bool) → h ≡ x.h → (after : List ℕ) (r : ℕ)
        → Given asked_lengths asked_h default_length i len h places after r → Found (i + 1) after
    unfolding Found
    found-more held len len_is h h-is after r given t us rs stand many asks =
        let y : Lease = get_or us i no_lease in
        let here = it-is us stand many in
        let tests = and-to (held_by? client x) (and (ltb now x.expires ∷ [])) held in
        let later : now < y.expires = ltb-true now y.expires (subst (λ (z : Lease). ltb now z.expires ≡ true) here (and-to (ltb now x.expires) true tests.1).0) in
        given.given t client us rs asks (record {
          held = subst (λ (z : Lease). held_by? client z ≡ true) here tests.0;
          length = sym (len_is ∙ ap (λ (z : Lease). z.length) here);
          h = sym (h-is ∙ ap (λ (z : Lease). z.h) here);
        })
        ∙ ap (give t client y rs) (so_far t us rs stand many asks)
        ∙ sym (pass-gives t now client (take i us) y rs later)
        ∙ ap (λ (l : List Lease). again t client (present now l) rs) (sym (next us many))

    -- Another is passed over.
    found-skip : held_at? image (from + lease_size * i) client now ≡ false → Found (i + 1) places
    unfolding Found
    found-skip not-held t us rs stand many asks =
        let y : Lease = get_or us i no_lease in
        let here = it-is us stand many in
        so_far t us rs stand many asks
        ∙ sym (pass-skips t now client (take i us) y rs (λ l. missing (held_by? client y) (ltb now y.expires) (lt-ltb now y.expires l) (subst (λ (z : Lease). and (held_by? client z ∷ ltb now z.expires ∷ []) ≡ false) here not-held)))
        ∙ ap (λ (l : List Lease). again t client (present now l) rs) (sym (next us many))
      where
        missing : (b c : Bool) → c ≡ true → and (b ∷ c ∷ []) ≡ false → b ≡ false
        missing true c e f = sym (and-true c e) ∙ f
          where
            and-true : (c : Bool) → c ≡ true → and (c ∷ []) ≡ true
            and-true true e = refl
            and-true false e = e
        missing false c e f = refl

  -- The last record, or as soon as each request has its place.
  found_all : (i : ℕ) (places : List ℕ) → n ≤ i → Found i places → Found n places
  unfolding Found
  found_all i places past so_far t us rs stand many asks =
      so_far t us rs stand many asks
      ∙ ap (λ (l : List Lease). again t client (present now l) rs) (take_all i us (omega arith) ∙ sym (take_all n us (omega arith)))

  found-full : (i : ℕ) (places : List ℕ) → length asked_lengths ≤ length places → others_in no_place places (length asked_lengths) ≡ length asked_lengths → Found i places → Found n places
  unfolding Found
  found-full i places room full so_far t us rs stand many asks =
      let ps : List ℕ = take (length asked_lengths) places in
      let each : All (λ p. p ≡ no_place → ⊥) ps = others-all no_place ps (full ∙ sym (length-take-le (length asked_lengths) places room)) in
      let served = subst (All Served) (so_far t us rs stand many asks) (all-served us ps each) in
      so_far t us rs stand many asks
      ∙ sym (again-full t now client rs (drop i us) (take i us) served)
      ∙ ap (λ (l : List Lease). again t client (present now l) rs) (take-append-drop i us ∙ sym (take_all n us (omega arith)))

  found-is : (places : List ℕ) → Found n places → (t : LeaseTable) (us : List Lease) (rs : List Request) → Records image from us → n ≡ length us → Asks t rs default_length asked_lengths asked_h
      → given_in us (take (length asked_lengths) places) ≡ again t client (present now us) rs
  unfolding Found
  found-is places found t us rs stand many asks =
      found t us rs stand many asks ∙ ap (λ (l : List Lease). again t client (present now l) rs) (take_all n us (omega arith))

  found-skips : (d i r : ℕ) → r ≡ i + d → r ≤ n → (places : List ℕ) → Found i places → ((k : ℕ) → k < r → i ≤ k → held_at? image (from + lease_size * k) client now ≡ false) → Found r places
  found-skips zero i r e within places so_far past = subst (λ (k : ℕ). Found k places) (sym (e ∙ omega arith)) so_far
  found-skips (suc d) i r e within places so_far past =
      found-skips d (i + 1) r (omega arith) within places (found-skip i (omega arith) places so_far (past i (omega arith) (omega arith))) (λ k l h. past k l (omega arith))

  -- After the first i records: how many requests have a place, which records these are, and that they are the right ones.
  pub record Going (i : ℕ) (places : List ℕ) (given : ℕ) : Type 0 where
    pub counted : given ≡ others_in no_place places (length asked_lengths)
    pub inside : All (Within n) (take (length asked_lengths) places)
    pub found : Found i places

  pub going-none : (k : ℕ) → length asked_lengths ≤ k → Going 0 (replicate k no_place) 0
  going-none k h = record { counted = sym (others-none no_place k (length asked_lengths)); inside = none_within n k (length asked_lengths); found = found_none k h }

  pub going_on : (i : ℕ) (places : List ℕ) (given r : ℕ) → r ≤ n → Past image from client now i r → Going i places given → Going r places given
  going_on i places given r within next g = record { counted = g.counted; inside = g.inside; found = found-skips (r - i) i r (omega (arith, next.on)) within places g.found next.past }

  -- At the next lease that the client holds, or past the last.
  abbrev pub Reached : Optional ℕ → List ℕ → ℕ → Type 0
  Reached (Some i) places given = (i < n) × (held_at? image (from + lease_size * i) client now ≡ true) × Going i places given
  Reached None places given = Going n places given

  pub going_to : (i : ℕ) → i ≤ n → (places : List ℕ) (given : ℕ) (o : Optional ℕ) → NextHeld image from client now i n o → Going i places given → Reached o places given
  going_to i low places given (Some r) next g = (next.1, next.2, going_on i places given r (omega (arith, next.1)) next.0 g)
  going_to i low places given None next g = going_on i places given n (omega arith) next g

  -- How much is left of the pass, from there.
  abbrev pub left : Optional ℕ → ℕ
  left (Some i) = suc n - i
  left None = 0

  pub left-less : (i : ℕ) → i < n → (o : Optional ℕ) → NextHeld image from client now (i + 1) n o → left o < suc n - i
  left-less i low (Some r) next = omega (arith, next.0.on, next.1)
  left-less i low None next = omega arith

  pub going_more : (i : ℕ) → i < n → (places : List ℕ) (given : ℕ) → Going i places given → held_at? image (from + lease_size * i) client now ≡ true
      → (len : ℕ) → len ≡ (lease_in (drop (from + lease_size * i) image)).length → (h : Bool) → h ≡ (lease_in (drop (from + lease_size * i) image)).h
      → (after : List ℕ) (r : ℕ) → Given asked_lengths asked_h default_length i len h places after r → Going (i + 1) after (given + r)
  going_more i low places given g held len len_is h h-is after r gave = record {
    counted = omega (arith, g.counted, gave.count);
    inside = gave.within n low g.inside;
    found = found-more i low places g.found held len len_is h h-is after r gave;
  }

  pub going-few : (i : ℕ) (places : List ℕ) (given : ℕ) → Going i places given → length asked_lengths ≤ length places → given ≤ length asked_lengths
  going-few i places given g room = omega (arith, g.counted, others-few no_place places (length asked_lengths), length-take-le (length asked_lengths) places room)

  -- What the requests get again.
  abbrev pub Gets : List ℕ → Type 0
  Gets places = (t : LeaseTable) (us : List Lease) (rs : List Request) → Records image from us → n ≡ length us → Asks t rs default_length asked_lengths asked_h
      → given_in us (take (length asked_lengths) places) ≡ again t client (present now us) rs

  pub going-all : (i : ℕ) (places : List ℕ) (given : ℕ) → Going i places given → n ≤ i → Gets places
  going-all i places given g past = found-is places (found_all i places past g.found)

  pub going-full : (i : ℕ) (places : List ℕ) (given : ℕ) → Going i places given → length asked_lengths ≤ length places → given ≡ length asked_lengths → Gets places
  going-full i places given g room full = found-is places (found-full i places room (sym g.counted ∙ full) g.found)
