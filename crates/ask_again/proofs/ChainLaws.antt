-- Laws of the chains of requests: how they are made, and that a lease goes to the first request that waits for it.
-- Assumes nothing.
use Prim.Native.Nat.{ℕ, ◌+◌, ◌≤◌, ◌<◌}
use native.Mathlib.Omega.{arith}
use mathlib.Core.Path.{◌≡◌, refl, sym, ap, ap₂, subst, ◌∙◌}
use mathlib.Core.Logic.{⊎_elim}
use mathlib.Core.Bool.{Bool, true, false, cond, ◌&&◌, beq}
use mathlib.Core.List.{List, [], ◌∷◌}
use lib.Dec.{ltb, eqb}
use lib.ListN.{length, get_or, set, replicate, length-set, length-replicate, get_or-replicate}
use lib.Seq.{get_or-set_same, get_or-set_other}
use borrow.Author.Tests.{eq-eqb, ne_eqb, eqb-true, eqb-false, ltb-true, ltb-false}
use Rattle.lists.specs.Lists.{and}
use Rattle.lists.proofs.Tests.{bool_cases, and-to}
use Rattle.ask_again.specs.Places.{no_place}
use Rattle.ask_again.specs.InnerGiving.{Given}
use Rattle.ask_again.specs.InnerChains.{keys, no_request, key_of, key_in, Heads, Linked, Waiting, Gave}
use Rattle.ask_again.proofs.GiveLaws.{waits_in, given_to, given-nowhere}

-- A number stored in a column, at another place or at this one.
stored : (P : ℕ → Type 0) (l : List ℕ) (i v k : ℕ) → i < length l → (k ≡ i → P v) → ((k ≡ i → ⊥) → P (get_or l k 0)) → P (get_or (set l i v) k 0)
stored P l i v k within here there =
    ⊎_elim
    (λ (b : eqb k i ≡ true). let e = eqb-true k i b in subst (λ (m : ℕ). P (get_or (set l i v) m 0)) (sym e) (subst P (sym (get_or-set_same l i v 0 within)) (here e)))
    (λ (b : eqb k i ≡ false). let e = eqb-false k i b in subst P (sym (get_or-set_other l i k v 0 e)) (there e))
    (bool_cases (eqb k i))

-- MAKING THEM

module _ (key : ℕ → ℕ) (n : ℕ) where
  pub heads-none : n ≤ no_request → Heads key n n (replicate keys no_request)
  heads-none few = record {
    many = length-replicate keys no_request;
    low = λ c h. omega (arith, get_or-replicate keys c no_request 0 h);
    same = λ c h l. absurd (omega (arith, get_or-replicate keys c no_request 0 h));
    least = λ k h l. absurd (omega arith);
  }

  pub linked-none : (next : List ℕ) → Linked key n n next
  linked-none next = record {
    later = λ k h l. absurd (omega arith);
    same = λ k h l. absurd (omega arith);
    least = λ k h l. absurd (omega arith);
  }

  module _ (j : ℕ) (inside : j < n) (first : List ℕ) (heads : Heads key n (j + 1) first) (here : key j < keys) where
    pub heads-one : Heads key n j (set first (key j) j)
    heads-one = record {
      many = length-set first (key j) j ∙ heads.many;
      low = λ c h. stored (λ m. j ≤ m) first (key j) j c room (λ e. omega arith) (λ e. omega (arith, heads.low c h));
      same = λ c h. stored (λ m. m < n → key m ≡ c) first (key j) j c room (λ e l. sym e) (λ e. heads.same c h);
      least = λ k h l. stored (λ m. m ≤ k) first (key j) j (key k) room (λ e. l) (λ e. heads.least k h (above k l e));
    }
      where
        room : key j < length first
        room = omega (arith, heads.many)

        above : (k : ℕ) → j ≤ k → (key k ≡ key j → ⊥) → j + 1 ≤ k
        above k l e =
            ⊎_elim
            (λ (b : eqb k j ≡ true). absurd (e (ap key (eqb-true k j b))))
            (λ (b : eqb k j ≡ false). let d = eqb-false k j b in omega arith)
            (bool_cases (eqb k j))

    pub linked-one : (next : List ℕ) → j < length next → Linked key n (j + 1) next → Linked key n j (set next j (get_or first (key j) 0))
    linked-one next within linked = record {
      later = λ k h l. stored (λ m. k < m) next j (get_or first (key j) 0) k within (λ e. omega (arith, heads.low (key j) here)) (λ e. linked.later k h (omega arith));
      same = λ k h l. stored (λ m. m < n → key m ≡ key k) next j (get_or first (key j) 0) k within (λ e low. heads.same (key j) here low ∙ ap key (sym e)) (λ e. linked.same k h (omega arith));
      least = λ k h l m g o s. stored (λ i. i ≤ m) next j (get_or first (key j) 0) k within (λ e. subst (λ (c : ℕ). get_or first c 0 ≤ m) (s ∙ ap key e) (heads.least m g (omega arith)))
          (λ e. linked.least k h (omega arith) m g o s);
    }

  pub waiting-start : (first places : List ℕ) → Heads key n 0 first → ((k : ℕ) → k < n → get_or places k 0 ≡ no_place) → Waiting key n places first
  waiting-start first places heads none = record {
    many = heads.many;
    same = heads.same;
    empty = λ k h l. none k h;
    given = λ k h l e. omega (arith, heads.least k h (omega arith));
  }

  -- The first of a key gets a place.
  module _ (places first next : List ℕ) (waiting : Waiting key n places first) (linked : Linked key n 0 next) (c : ℕ) (small : c < keys) (place : ℕ) (some-place : place ≡ no_place → ⊥) where
    abbrev j : ℕ
    j = get_or first c 0

    before : j < n → (k : ℕ) → k < n → key k ≡ c → (k ≡ j → ⊥) → k < get_or next j 0 → k < j
    before inside k h e i l =
        ⊎_elim
        (λ (b : ltb k j ≡ true). ltb-true k j b)
        (λ (b : ltb k j ≡ false).
        let above : j ≤ k = ltb-false k j b in
        absurd (omega (arith, linked.least j inside (omega arith) k h (omega arith) (e ∙ sym (waiting.same c small inside)))))
        (bool_cases (ltb k j))

    pub waiting-given : n ≤ length places → j < n → Waiting key n (set places j place) (set first c (get_or next j 0))
    waiting-given room inside =
        let it : key j ≡ c = waiting.same c small inside in
        let there : c < length first = omega (arith, waiting.many) in record {
          many = length-set first c (get_or next j 0) ∙ waiting.many;
          same = λ d h. stored (λ m. m < n → key m ≡ d) first c (get_or next j 0) d there (λ e low. linked.same j inside (omega arith) low ∙ it ∙ sym e) (λ e. waiting.same d h);
          empty = λ k h. stored (λ m. m ≤ k → get_or (set places j place) k 0 ≡ no_place) first c (get_or next j 0) (key k) there
              (λ e l. get_or-set_other places j k place 0 (λ i. omega (arith, linked.later j inside (omega arith))) ∙ waiting.empty k h (subst (λ (d : ℕ). get_or first d 0 ≤ k) (sym e) (omega (arith, linked.later j inside (omega arith)))))
              (λ e l. get_or-set_other places j k place 0 (λ i. e (ap key i ∙ it)) ∙ waiting.empty k h l);
          given = λ k h. stored (λ m. k < m → get_or (set places j place) k 0 ≡ no_place → ⊥) first c (get_or next j 0) (key k) there
              (λ e l. stored (λ p. p ≡ no_place → ⊥) places j place k (omega arith) (λ i. some-place)
              (λ i. waiting.given k h (subst (λ (d : ℕ). k < get_or first d 0) (sym e) (before inside k h e i l))))
              (λ e l. stored (λ p. p ≡ no_place → ⊥) places j place k (omega arith) (λ i. some-place) (λ i. waiting.given k h l));
        }

-- THE FIRST THAT WAITS

key_back : (a b : ℕ) (g h : Bool) → key_of a g ≡ key_of b h → (a ≡ b) × (g ≡ h)
key_back a b true true e = (omega arith, refl)
key_back a b true false e = absurd (omega arith)
key_back a b false true e = absurd (omega arith)
key_back a b false false e = (omega arith, refl)

beq_same : (h : Bool) → beq h h ≡ true
beq_same true = refl
beq_same false = refl

beq-back : (g h : Bool) → beq g h ≡ true → g ≡ h
beq-back true true e = refl
beq-back true false e = sym e
beq-back false true e = e
beq-back false false e = refl

-- A request waits for a lease if it has no place, and the lease's key.
tests-hold : (p a len : ℕ) (g h : Bool) → p ≡ no_place → key_of a g ≡ key_of len h → and (eqb p no_place ∷ eqb a len ∷ beq g h ∷ []) ≡ true
tests-hold p a len g h e same =
    let k = key_back a len g h same in
    rw (eq-eqb p no_place e, eq-eqb a len k.0, k.1, beq_same h)

placed : (p a len : ℕ) (g h : Bool) → (p ≡ no_place → ⊥) → and (eqb p no_place ∷ eqb a len ∷ beq g h ∷ []) ≡ false
placed p a len g h e = rw (ne_eqb p no_place e)

other_key : (p a len : ℕ) (g h : Bool) → (key_of a g ≡ key_of len h → ⊥) → and (eqb p no_place ∷ eqb a len ∷ beq g h ∷ []) ≡ false
other_key p a len g h e =
    ⊎_elim
    (λ (b : and (eqb p no_place ∷ eqb a len ∷ beq g h ∷ []) ≡ true).
    let rest = (and-to (eqb p no_place) (eqb a len && (beq g h && true)) b).1 in
    let two = and-to (eqb a len) (beq g h && true) rest in
    absurd (e (ap₂ key_of (eqb-true a len two.0) (beq-back g h (and-to (beq g h) true two.1).0))))
    (λ b. b)
    (bool_cases (and (eqb p no_place ∷ eqb a len ∷ beq g h ∷ [])))

module _ (asked_lengths asked_h : List ℕ) (default_length : ℕ) (places first next : List ℕ) (waiting : Waiting (key_in asked_lengths asked_h default_length) (length asked_lengths) places first)
    (linked : Linked (key_in asked_lengths asked_h default_length) (length asked_lengths) 0 next) (room : length asked_lengths ≤ length places)
    (c : ℕ) (small : c < keys) (len : ℕ) (h : Bool) (is : c ≡ key_of len h) (place : ℕ) (some-place : place ≡ no_place → ⊥) (after left : List ℕ) (r : ℕ)
    (gave : Gave (get_or first c 0) (length asked_lengths) c place places first next after left r) where
  abbrev n : ℕ
  n = length asked_lengths

  abbrev key : ℕ → ℕ
  key = key_in asked_lengths asked_h default_length

  abbrev asked : ℕ → ℕ
  asked k = cond (eqb (get_or asked_lengths k 0) 0) default_length (get_or asked_lengths k 0)

  -- Those before the first of the key do not wait for the lease.
  not_yet : (k : ℕ) → k < n → k < get_or first c 0 → waits_in asked_lengths asked_h default_length len h places k ≡ false
  not_yet k inside low =
      ⊎_elim
      (λ (b : eqb (key k) c ≡ true). placed (get_or places k 0) (asked k) len (eqb (get_or asked_h k 0) 1) h (waiting.given k inside (subst (λ (d : ℕ). k < get_or first d 0) (sym (eqb-true (key k) c b)) low)))
      (λ (b : eqb (key k) c ≡ false). other_key (get_or places k 0) (asked k) len (eqb (get_or asked_h k 0) 1) h (λ e. eqb-false (key k) c b (e ∙ sym is)))
      (bool_cases (eqb (key k) c))

  here : get_or first c 0 < n → waits_in asked_lengths asked_h default_length len h places (get_or first c 0) ≡ true
  here inside =
      let j : ℕ = get_or first c 0 in
      let it : key j ≡ c = waiting.same c small inside in
      tests-hold (get_or places j 0) (asked j) len (eqb (get_or asked_h j 0) 1) h (waiting.empty j inside (subst (λ (d : ℕ). get_or first d 0 ≤ j) (sym it) (omega arith))) (it ∙ is)

  pub chained-given : Given asked_lengths asked_h default_length place len h places after r
  chained-given =
      ⊎_elim
      (λ (b : ltb (get_or first c 0) n ≡ true).
      let inside = ltb-true (get_or first c 0) n b in
      let g = gave.one inside in
      subst (λ (ps : List ℕ). Given asked_lengths asked_h default_length place len h places ps r) (sym g.0)
      (subst (Given asked_lengths asked_h default_length place len h places (set places (get_or first c 0) place)) (sym g.2)
      (given_to asked_lengths asked_h default_length place len h places room some-place (get_or first c 0) inside (λ k l. not_yet k (omega arith) l) (here inside))))
      (λ (b : ltb (get_or first c 0) n ≡ false).
      let past = ltb-false (get_or first c 0) n b in
      let g = gave.none past in
      subst (λ (ps : List ℕ). Given asked_lengths asked_h default_length place len h places ps r) (sym g.0)
      (subst (Given asked_lengths asked_h default_length place len h places places) (sym g.2)
      (given-nowhere asked_lengths asked_h default_length place len h places room some-place n (omega arith) (λ k l. not_yet k l (omega arith)))))
      (bool_cases (ltb (get_or first c 0) n))

  pub chained-waiting : Waiting key n after left
  chained-waiting =
      ⊎_elim
      (λ (b : ltb (get_or first c 0) n ≡ true).
      let inside = ltb-true (get_or first c 0) n b in
      let g = gave.one inside in
      subst (λ (ps : List ℕ). Waiting key n ps left) (sym g.0) (subst (Waiting key n (set places (get_or first c 0) place)) (sym g.1) (waiting-given key n places first next waiting linked c small place some-place room inside)))
      (λ (b : ltb (get_or first c 0) n ≡ false).
      let g = gave.none (ltb-false (get_or first c 0) n b) in
      subst (λ (ps : List ℕ). Waiting key n ps left) (sym g.0) (subst (Waiting key n places) (sym g.1) waiting))
      (bool_cases (ltb (get_or first c 0) n))
