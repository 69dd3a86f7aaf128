-- Laws of the rows: what it means that none applies, the two ways that a call goes, and an ask whose rows before 9 do not apply.
-- Assumes nothing.
use Prim.Native.Nat.{ℕ}
use mathlib.Core.Path.{◌≡◌, refl, sym, ap, subst, ◌∙◌}
use mathlib.Core.Logic.{⊎_elim}
use mathlib.Core.Bool.{Bool, true, false, cond, ◌&&◌, true≢false, false≢true}
use mathlib.Core.List.{List, [], ◌∷◌, ◌++◌, map}
use mathlib.Core.Option.{Option, none, some, some-ne-none}
use native.Mathlib.Omega.{arith}
use lib.ListN.{length}
use lib.Dec.{eqb}
use borrow.Author.Tests.{eqb-false}
use Rattle.lists.specs.Lists.{All, cat_maybes}
use Rattle.lists.proofs.Tests.{bool_cases, cond-true, cond-false}
use Rattle.option.specs.Writing.{option_bytes}
use Rattle.table.specs.declared.Lease.{Lease}
use Rattle.table.specs.Table.{present}
use Rattle.ledger.specs.Ledger.{State, left, Call, by_rows, Result, refuse, accept, Row, first_of, or_else, before, nothing?, refusal_place, full, information_for, returned, gives_in, leases_in, ask_rows, ask, take_rows, list_rows, release_rows, mark_rows}
use Rattle.ledger.specs.Demand3.{none?}

pub first-none : (rows : List Row) → first_of rows ≡ none → All (λ (r : Row). r.1 ≡ false) rows
first-none [] e = tt
first-none (r ∷ rows) e =
    ⊎_elim
    (λ (b : r.1 ≡ true). absurd (some-ne-none r.0 (sym (cond-true r.1 (some r.0) (first_of rows) b) ∙ e)))
    (λ (b : r.1 ≡ false). (b, first-none rows (sym (cond-false r.1 (some r.0) (first_of rows) b) ∙ e)))
    (bool_cases r.1)

pub none_first : (rows : List Row) → All (λ (r : Row). r.1 ≡ false) rows → first_of rows ≡ none
none_first [] a = refl
none_first (r ∷ rows) a = cond-false r.1 (some r.0) (first_of rows) a.0 ∙ none_first rows a.1

-- Rows before a row that applies do not matter if none of them does; rows after one do not matter.
pub first-after : (rows more : List Row) → first_of rows ≡ none → first_of (rows ++ more) ≡ first_of more
first-after [] more e = refl
first-after (r ∷ rows) more e =
    let a = first-none (r ∷ rows) e in
    cond-false r.1 (some r.0) (first_of (rows ++ more)) a.0 ∙ first-after rows more (none_first rows a.1)

pub first-before : (rows more : List Row) (n : ℕ) → first_of rows ≡ some n → first_of (rows ++ more) ≡ some n
first-before [] more n e = absurd (some-ne-none n (sym e))
first-before (r ∷ rows) more n e =
    ⊎_elim
    (λ (b : r.1 ≡ true). cond-true r.1 (some r.0) (first_of (rows ++ more)) b ∙ sym (cond-true r.1 (some r.0) (first_of rows) b) ∙ e)
    (λ (b : r.1 ≡ false).
    cond-false r.1 (some r.0) (first_of (rows ++ more)) b ∙ first-before rows more n (sym (cond-false r.1 (some r.0) (first_of rows) b) ∙ e))
    (bool_cases r.1)

pub none-to : {A : Type 0} (o : Option A) → none? o ≡ true → o ≡ none
none-to none e = refl
none-to (some x) e = absurd (false≢true e)

pub none-not : {A : Type 0} (o : Option A) → none? o ≡ false → (x : A) × (o ≡ some x)
none-not none e = absurd (true≢false e)
none-not (some x) e = (x, refl)

-- A call is refused or served.
pub served-or-not : {R : Type 0} (P : R → Type 0) (rows : List Row) (refusing : ℕ → R) (accepting : R)
    → ((n : ℕ) → P (refusing n)) → (first_of rows ≡ none → P accepting) → P (or_else (first_of rows) refusing accepting)
served-or-not P rows refusing accepting a b = go (first_of rows) b
  where
    go : (o : Option ℕ) → (o ≡ none → P accepting) → P (or_else o refusing accepting)
    go none k = k refl
    go (some n) k = a n

-- A row whose list has nothing, by the length of the list.
pub nothing-none : {A : Type 0} (xs : List A) → length xs ≡ 0 → nothing? xs ≡ true
nothing-none [] e = refl
nothing-none (x ∷ xs) e = absurd (omega arith)

pub nothing-some : {A : Type 0} (xs : List A) → (length xs ≡ 0 → ⊥) → nothing? xs ≡ false
nothing-some [] e = absurd (e refl)
nothing-some (x ∷ xs) e = refl

-- The rows have no number 0, so a refusal is not accepted.
abbrev pub Numbered : List Row → Type 0
Numbered rows = All (λ (r : Row). eqb r.0 0 ≡ false) rows

-- What holds of the numbers of all rows holds of the first that applies.
pub first-number : (P : ℕ → Type 0) (rows : List Row) → All (λ (r : Row). P r.0) rows → (n : ℕ) → first_of rows ≡ some n → P n
first-number P [] a n e = absurd (some-ne-none n (sym e))
first-number P (r ∷ rows) a n e =
    ⊎_elim
    (λ (b : r.1 ≡ true). let q : some r.0 ≡ some n = sym (cond-true r.1 (some r.0) (first_of rows) b) ∙ e in let z : r.0 ≡ n = cc in subst P z a.0)
    (λ (b : r.1 ≡ false). first-number P rows a.1 n (sym (cond-false r.1 (some r.0) (first_of rows) b) ∙ e))
    (bool_cases r.1)

pub by-numbers : {R : Type 0} (Q : ℕ → Type 0) (P : R → Type 0) (rows : List Row) (refusing : ℕ → R) (accepting : R) → All (λ (r : Row). Q r.0) rows
    → ((n : ℕ) → Q n → P (refusing n)) → (first_of rows ≡ none → P accepting) → P (or_else (first_of rows) refusing accepting)
by-numbers Q P rows refusing accepting k a b = go (first_of rows) refl
  where
    go : (o : Option ℕ) → first_of rows ≡ o → P (or_else o refusing accepting)
    go none e = b e
    go (some n) e = a n (first-number Q rows k n e)

pub by_rows_lem : {R : Type 0} (P : R → Type 0) (rows : List Row) (refusing : ℕ → R) (accepting : R) → Numbered rows
    → ((n : ℕ) → eqb n 0 ≡ false → P (refusing n)) → (first_of rows ≡ none → P accepting) → P (or_else (first_of rows) refusing accepting)
by_rows_lem P rows refusing accepting k a b = by-numbers (λ m. eqb m 0 ≡ false) P rows refusing accepting k a b

-- A call that is accepted has no row that applies.
pub accepted-none : {S : Type 0} (rows : List Row) (place : ℕ → ℕ) (s : S) (reply : List ℕ) (accepted : Result S) → Numbered rows
    → (by_rows rows place s reply accepted).answer.number ≡ 0 → first_of rows ≡ none
accepted-none rows place s reply accepted k z = go (first_of rows) refl z
  where
    go : (o : Option ℕ) → first_of rows ≡ o → (or_else o (λ number. refuse number (place number) s reply) accepted).answer.number ≡ 0 → first_of rows ≡ none
    go none e q = e
    go (some n) e q = absurd (eqb-false n 0 (first-number (λ m. eqb m 0 ≡ false) rows k n e) q)

-- What is so of what it leaves if it is accepted.
pub accepted-by : {S : Type 0} (P : S → Type 0) (rows : List Row) (place : ℕ → ℕ) (s : S) (reply : List ℕ) (accepted : Result S) → Numbered rows
    → (All (λ (r : Row). r.1 ≡ false) rows → P accepted.state) → (by_rows rows place s reply accepted).answer.number ≡ 0 → P (by_rows rows place s reply accepted).state
accepted-by {S} P rows place s reply accepted k f =
    by_rows_lem (λ (r : Result S). r.answer.number ≡ 0 → P r.state) rows _ _ k (λ n e z. absurd (eqb-false n 0 e z)) (λ e _. f (first-none rows e))

pub numbered-ask : (s : State) (now : ℕ) (c : Call) → Numbered (ask_rows s now c)
unfolding ask_rows
numbered-ask s now c = (refl, (refl, (refl, (refl, (refl, (refl, (refl, (refl, (refl, (refl, (refl, (refl, (refl, (refl, tt))))))))))))))

pub numbered-take : (s : State) (now : ℕ) (c : Call) → Numbered (take_rows s now c)
unfolding take_rows
numbered-take s now c = (refl, (refl, (refl, (refl, (refl, (refl, (refl, (refl, (refl, (refl, (refl, (refl, tt))))))))))))

pub numbered-list : (s : State) (now : ℕ) (c : Call) → Numbered (list_rows s now c)
unfolding list_rows
numbered-list s now c = (refl, (refl, (refl, (refl, (refl, (refl, (refl, (refl, (refl, (refl, tt))))))))))

pub numbered-release : (s : State) (now : ℕ) (c : Call) → Numbered (release_rows s now c)
unfolding release_rows
numbered-release s now c = (refl, (refl, (refl, (refl, (refl, (refl, (refl, (refl, (refl, (refl, tt))))))))))

pub numbered-mark : (s : State) (now network len : ℕ) → Numbered (mark_rows s now network len)
unfolding mark_rows
numbered-mark s now network len = (refl, (refl, (refl, (refl, (refl, tt)))))

-- ASK: the rows before 9, and rows 9 and 10.

-- What an ask answers whose rows before 9 do not apply, on the leases xs: `gs` are the leases granted, given again or new, and ys those that it leaves.
-- `back` is the option that follows in the reply.
abbrev pub answer_ask : State → ℕ → List ℕ → List ℕ → List Lease → List Lease → List Lease → Result State
answer_ask s now back reply xs ys [] = refuse (cond (full xs) 9 10) 0 s reply
answer_ask s now back reply xs ys (g ∷ gs) = accept (left s now ys) (option_bytes (map information_for (g ∷ gs)) ++ back) (length (g ∷ gs)) reply

module _ (s : State) (now : ℕ) (c : Call) where
  xs : List Lease
  xs = present now s.table.leases

  ys : List Lease
  ys = leases_in s.table now c

  abbrev back : List ℕ
  back = returned c.selection

  granted : List Lease
  granted = cat_maybes (gives_in s.table now c)

  -- Rows 9 and 10.
  abbrev own_rows : List Lease → List Row
  own_rows gs = (9, nothing? gs && full xs) ∷ (10, nothing? gs) ∷ []

  rows_split : ask_rows s now c ≡ before 9 (ask_rows s now c) ++ own_rows granted
  unfolding ask_rows xs granted
  rows_split = refl

  own : (gs : List Lease)
      → or_else (first_of (own_rows gs)) (λ number. refuse number (refusal_place c.option number) s c.reply)
      (accept (left s now ys) (option_bytes (map information_for gs) ++ back) (length gs) c.reply)
      ≡ answer_ask s now back c.reply xs ys gs
  own (g ∷ gs) = refl
  own [] = go (full xs)
    where
      go : (b : Bool)
          → or_else (cond b (some 9) (some 10)) (λ number. refuse number (refusal_place c.option number) s c.reply)
          (accept (left s now ys) (option_bytes (map information_for []) ++ back) (length (map information_for [])) c.reply)
          ≡ refuse (cond b 9 10) 0 s c.reply
      go true = refl
      go false = refl

  -- An ask by the row that applies to it.
  abbrev goes : Option ℕ → Result State
  goes o = or_else o (λ number. refuse number (refusal_place c.option number) s c.reply) (accept (left s now ys) (option_bytes (map information_for granted) ++ back) (length granted) c.reply)

  pub ask-served : first_of (before 9 (ask_rows s now c)) ≡ none
      → ask s now c ≡ answer_ask s now (returned c.selection) c.reply (present now s.table.leases) (leases_in s.table now c) (cat_maybes (gives_in s.table now c))
  unfolding ask xs ys granted
  ask-served e = ap goes (ap first_of rows_split ∙ first-after (before 9 (ask_rows s now c)) (own_rows granted) e) ∙ own granted

  pub ask-refused : (n : ℕ) → first_of (before 9 (ask_rows s now c)) ≡ some n → ask s now c ≡ refuse n (refusal_place c.option n) s c.reply
  unfolding ask xs ys granted
  ask-refused n e = ap goes (ap first_of rows_split ∙ first-before (before 9 (ask_rows s now c)) (own_rows granted) n e)
