-- Laws of the entries of an information, and what an answer of the entry cursor tells.
-- Assumes nothing.
use Prim.Native.Nat.{ℕ, zero, suc, ◌+◌, ◌*◌, ◌%◌, ◌≤◌, ◌<◌}
use native.Mathlib.Omega.{arith}
use mathlib.Core.Path.{◌≡◌, refl, sym, ap, ap₂, ◌∙◌}
use mathlib.Core.List.{List, [], ◌∷◌}
use mathlib.Core.Bool.{Bool, true, false, cond}
use lib.ListN.{length, get_or}
use lib.Dec.{eqb, leb}
use borrow.Author.Tests.{leb-true, eqb-true}
use Rattle.lists.specs.Walk.{Turn, more, stop, on_turn, walk}
use Rattle.lists.proofs.Tests.{and-to}
use Rattle.lists.proofs.WalkLaws.{unroll-more, unroll-stop}
use Rattle.option.specs.Values.{Entry}
use Rattle.prefix.specs.Prefixes.{checked}
use Rattle.option.specs.Rules.{block?, entry_fields?}
use Rattle.option.specs.Reading.{entry_framed?, entry_at, entry_end, read_entry, read_entries}
use Rattle.option.specs.Answers.{fields_of, entries_from, entry_step_of}
use Rattle.option_entry.specs.declared.EntryFields.{EntryFields}
use Rattle.option_entry.specs.declared.EntryCursor.{EntryCursor}
use Rattle.option_entry.specs.declared.CutEntry.{CutEntry}
use Rattle.std.specs.declared.option.Option.TheVariants.{None, Some}
use Rattle.std.specs.declared.result.Result.TheVariants.{Ok, Err}

-- What the framing test of an entry decides.
pub record EntryFramed (s : List ℕ) (end at : ℕ) : Type 0 where
  pub inside : end ≤ length s
  pub head : at + 7 ≤ end
  pub even : get_or s (at + 6) 0 % 2 ≡ 0
  pub whole : entry_end s at ≤ end

pub entry-framed-to : (s : List ℕ) (end at : ℕ) → entry_framed? s end at ≡ true → EntryFramed s end at
unfolding entry_framed?
entry-framed-to s end at h =
    let a = and-to (leb end (length s)) _ h in
    let b = and-to (leb (at + 7) end) _ a.1 in
    let e = and-to (eqb (get_or s (at + 6) 0 % 2) 0) (leb (entry_end s at) end) b.1 in
    record { inside = leb-true _ _ a.0; head = leb-true _ _ b.0; even = eqb-true _ _ e.0; whole = leb-true _ _ e.1 }

-- A turn that gives an entry: it is framed, and is the entry that stands there.
chosen : (p q : Bool) (x : Entry) (n : ℕ) (e : Entry) (next : ℕ)
    → ◌≡◌ {A = Turn Entry Bool} (cond p (stop true) (cond q (more x n) (stop false))) (more e next) → (q ≡ true) × (x ≡ e) × (n ≡ next)
chosen true q x n e next h = let z : ◌≡◌ {A = ℕ} 0 1 = cc in absurd (omega arith)
chosen false true x n e next h = (refl, cc, cc)
chosen false false x n e next h = let z : ◌≡◌ {A = ℕ} 0 1 = cc in absurd (omega arith)

-- A turn that finds the end is at the end.
finished : (p q : Bool) (x : Entry) (n : ℕ) → ◌≡◌ {A = Turn Entry Bool} (cond p (stop true) (cond q (more x n) (stop false))) (stop true) → p ≡ true
finished true q x n h = refl
finished false true x n h = let z : ◌≡◌ {A = ℕ} 0 1 = cc in absurd (omega arith)
finished false false x n h = let z : ◌≡◌ {A = Bool} false true = cc in cc

module _ (s : List ℕ) (end at : ℕ) where
  pub entry_read : (e : Entry) (next : ℕ) → read_entry s end at ≡ more e next → EntryFramed s end at × (entry_at s at ≡ e) × (entry_end s at ≡ next)
  unfolding read_entry
  entry_read e next h =
      let c = chosen (leb end at) (entry_framed? s end at) (entry_at s at) (entry_end s at) e next h in
      (entry-framed-to s end at c.0, c.1, c.2)

  pub entry-end : read_entry s end at ≡ stop true → end ≤ at
  unfolding read_entry
  entry-end h = leb-true end at (finished (leb end at) (entry_framed? s end at) (entry_at s at) (entry_end s at) h)

  pub entry-moves : (e : Entry) (next : ℕ) → read_entry s end at ≡ more e next → (at < next) × (next ≤ end)
  entry-moves e next h = let r = entry_read e next h in omega (arith, r.0.whole, r.2)

module _ (s : List ℕ) (end at : ℕ) (le : at ≤ end) where
  pub entries-more : (e : Entry) (next : ℕ) → read_entry s end at ≡ more e next
      → read_entries s end at ≡ (e ∷ (read_entries s end next).0, (read_entries s end next).1)
  unfolding read_entries
  entries-more e next h = unroll-more (read_entry s end) false end (entry-moves s end) at e next le h

  pub entries-stop : (b : Bool) → read_entry s end at ≡ stop b → read_entries s end at ≡ ([], b)
  unfolding read_entries
  entries-stop b h = unroll-stop (read_entry s end) false end (entry-moves s end) at b le h

-- What an answer of the entry cursor tells.
pub told-entry : (end : ℕ) (t : Turn Entry Bool) (f : EntryFields) (c : EntryCursor) → entry_step_of end t ≡ Ok (Some (f, c))
    → (e : Entry) × (t ≡ more e c.at) × (f ≡ fields_of e) × (c.end ≡ end)
told-entry end (more e n) f c h =
    let both : ◌≡◌ {A = EntryFields × EntryCursor} (fields_of e, entries_from n end) (f, c) = cc in
    (e, ap (λ p. more e p.1.at) both, sym (ap (λ p. p.0) both), sym (ap (λ p. p.1.end) both))
told-entry end (stop true) f c h = absurd cc
told-entry end (stop false) f c h = absurd cc

pub told-cut : (end : ℕ) (t : Turn Entry Bool) (x : CutEntry) → entry_step_of end t ≡ Err x → t ≡ stop false
told-cut end (more e n) x h = absurd cc
told-cut end (stop true) x h = absurd cc
told-cut end (stop false) x h = refl

pub told-entries-end : (end : ℕ) (t : Turn Entry Bool) → entry_step_of end t ≡ Ok None → t ≡ stop true
told-entries-end end (more e n) h = absurd cc
told-entries-end end (stop true) h = refl
told-entries-end end (stop false) h = absurd cc

-- The field test of an entry, from its fields as the code holds them.
pub entry-fields : (e : Entry) (f : EntryFields) → f ≡ fields_of e → block? (checked f.network f.length) ≡ entry_fields? e
unfolding entry_fields?
entry-fields e f h = ap₂ (λ (n l : ℕ). block? (checked n l)) (ap (λ (f : EntryFields). f.network) h) (ap (λ (f : EntryFields). f.length) h)

-- HOW MANY

-- Pieces that each need so many positions.
abbrev pub weigh : {A : Type 0} → (A → ℕ) → List A → ℕ
weigh w [] = 0
weigh w (a ∷ rest) = w a + weigh w rest

module _ {A B : Type 0} (w : A → ℕ) (turn : ℕ → Turn A B) (out : B) (N : ℕ) (p : (at : ℕ) (a : A) (next : ℕ) → turn at ≡ more a next → (at + w a ≤ next) × (next ≤ N)) where
  turn-weight : (at : ℕ) (t : Turn A B) (k : ℕ → List A × B) → at ≤ N → turn at ≡ t → ((next : ℕ) → next ≤ N → next + weigh w (k next).0 ≤ N) → at + weigh w (on_turn t k).0 ≤ N
  turn-weight at (more a next) k l e h = let q = p at a next e in omega (arith, h next q.1, q)
  turn-weight at (stop b) k l e h = omega arith

  pub walk-weight : (fuel at : ℕ) → at ≤ N → at + weigh w (walk turn out fuel at).0 ≤ N
  unfolding walk
  walk-weight zero at l = omega arith
  walk-weight (suc fuel) at l = turn-weight at (turn at) (λ next. walk turn out fuel next) l refl (λ next h. walk-weight fuel next h)

-- An entry has seven bytes or more.
pub entries-weight : (s : List ℕ) (end at : ℕ) → at ≤ end → at + 7 * length (read_entries s end at).0 ≤ end
unfolding read_entries
entries-weight s end at l =
    omega (arith, walk-weight (λ (e : Entry). 7) (read_entry s end) false end (λ at e next h. let r = entry_read s end at e next h in omega (arith, r.0.whole, r.2)) (suc end) at l, sevens (read_entries s end at).0)
  where
    sevens : (es : List Entry) → weigh (λ (e : Entry). 7) es ≡ 7 * length es
    sevens [] = refl
    sevens (e ∷ es) = omega (arith, sevens es)

-- Entries that are all framed, where there is a byte, are one or more.
pub entries-some : (s : List ℕ) (end at : ℕ) → at < end → (read_entries s end at).1 ≡ true → 0 < length (read_entries s end at).0
entries-some s end at lt h = go (read_entry s end at) refl
  where
    go : (t : Turn Entry Bool) → read_entry s end at ≡ t → 0 < length (read_entries s end at).0
    go (more e next) k = omega (arith, ap (λ (q : List Entry × Bool). length q.0) (entries-more s end at (omega arith) e next k))
    go (stop b) k =
        let last : b ≡ true = sym (ap (λ (q : List Entry × Bool). q.1) (entries-stop s end at (omega arith) b k)) ∙ h in
        absurd (omega (arith, entry-end s end at (k ∙ ap stop last)))
