-- Where the first name stands, as one suboption after another is taken in.
-- Assumes nothing.
use Prim.Native.Nat.{ℕ, ◌+◌, ◌-◌, ◌<◌}
use native.Mathlib.Omega.{arith}
use mathlib.Core.Path.{◌≡◌, refl, sym, ap, subst, ◌∙◌}
use mathlib.Core.Bool.{Bool, true, false, cond}
use mathlib.Core.List.{List, [], ◌∷◌, ◌++◌}
use lib.ListN.{length, take, drop, length-take, length-drop}
use lib.Dec.{eqb}
use borrow.Author.Tests.{eqb-true, eqb-false}
use Rattle.lists.specs.Lists.{All}
use Rattle.lists.specs.Walk.{more}
use Rattle.option.specs.Values.{SuboptionValue, request, information, name, unknown, accepted}
use Rattle.option.specs.Reading.{read_option, read_suboption}
use Rattle.option.specs.Contents.{suboptions, first_name, first_name_in}
use Rattle.option.specs.Answers.{suboption_of}
use Rattle.option.proofs.SuboptionLaws.{suboption-moves, name-octets}
use Rattle.option_scan.specs.declared.Contents.{Contents}
use Rattle.std.specs.Prelude.{Ok}
use Rattle.option_scan.specs.Scanned.{Columns, Stands, Reads}
use Rattle.option_scan.specs.Inner.{with_suboption}
use Rattle.option_scan.proofs.Adding.{Filled}

-- The first of two lists that has an element.
abbrev first_of : List ℕ → List ℕ → List ℕ
first_of [] ys = ys
first_of (x ∷ xs) ys = x ∷ xs

first_some : (xs ys : List ℕ) → 0 < length xs → first_of xs ys ≡ xs
first_some [] ys h = absurd (omega arith)
first_some (x ∷ xs) ys h = refl

first-none : (xs : List ℕ) → first_of xs [] ≡ xs
first-none [] = refl
first-none (x ∷ xs) = refl

name-append : (xs ys : List SuboptionValue) → All Filled xs → first_name (xs ++ ys) ≡ first_of (first_name xs) (first_name ys)
name-append [] ys h = refl
name-append (request a i l ∷ xs) ys h = name-append xs ys h.1
name-append (information c s es ∷ xs) ys h = name-append xs ys h.1
name-append (name o ∷ xs) ys h = sym (first_some o (first_name ys) h.0)
name-append (unknown ∷ xs) ys h = name-append xs ys h.1

-- A part has as many octets as it says.
pub stands-length : {s : List ℕ} {at n : ℕ} {xs : List ℕ} → Stands s at n xs → n ≡ length xs
stands-length {s} {at} {n} {xs} h =
    let size : length (take n (drop at s)) ≡ n = simp (length-take, length-drop) (omega (arith, h.within)) in
    sym size ∙ ap length h.part

-- A name that is read.
pub name-stands : (s : List ℕ) (at : ℕ) (o : List ℕ) (next : ℕ) → read_suboption s at ≡ more (name o) next → Stands s (at + 2) (next - (at + 2)) o
name-stands s at o next t =
    let q = name-octets s at o next t in
    record { within = omega (arith, q.0, (suboption-moves s at (name o) next t).1); part = q.1 }

-- Of two parts, the first that is not empty.
module _ (s : List ℕ) (at n : ℕ) (xs : List ℕ) (start k : ℕ) (ys : List ℕ) (h : Stands s at n xs) (j : Stands s start k ys) where
  filed : (b : Bool) → eqb n 0 ≡ b → Stands s (cond b start at) (cond b k n) (first_of xs ys)
  filed true e =
      let zero : n ≡ 0 = eqb-true n 0 e in
      let empty : xs ≡ [] = sym h.part ∙ ap (λ (m : ℕ). take m (drop at s)) zero in
      subst (λ (xs : List ℕ). Stands s start k (first_of xs ys)) (sym empty) j
  filed false e =
      let some : n ≡ 0 → ⊥ = eqb-false n 0 e in
      subst (Stands s at n) (sym (first_some xs ys (omega (arith, stands-length h, some)))) h

-- One suboption more.
module _ (s : List ℕ) (m : Contents) (subs : List SuboptionValue) (h : Stands s m.name m.name_bytes (first_name subs)) (filled : All Filled subs) (at : ℕ) where
  same : (x : SuboptionValue) → first_name (x ∷ []) ≡ [] → Stands s m.name m.name_bytes (first_name (subs ++ x ∷ []))
  same x e =
      subst (Stands s m.name m.name_bytes)
      (sym (name-append subs (x ∷ []) filled ∙ ap (first_of (first_name subs)) e ∙ first-none (first_name subs))) h

  pub named_more : (x : SuboptionValue) (next : ℕ) → read_suboption s at ≡ more x next
      → Stands s (with_suboption m (suboption_of x at next)).name (with_suboption m (suboption_of x at next)).name_bytes (first_name (subs ++ x ∷ []))
  named_more (request a i l) next t = same (request a i l) refl
  named_more (information c f es) next t = same (information c f es) refl
  named_more (name o) next t =
      subst (Stands s _ _) (sym (name-append subs (name o ∷ []) filled))
      (filed s m.name m.name_bytes (first_name subs) (at + 2) (next - (at + 2)) o h (name-stands s at o next t) _ refl)
  named_more unknown next t = same unknown refl

-- What a caller tests: the octets of the first name of an option that is accepted are this many.
module _ {option : List ℕ} {m : Contents} {c : Columns} (reads : Reads option (Ok m) c) {subs : List SuboptionValue} (e : read_option option ≡ accepted subs) where
  pub name-length : m.name_bytes ≡ length (first_name subs)
  name-length = stands-length (reads.named m refl subs e)

  pub name_in : Stands option m.name m.name_bytes (first_name_in option)
  name_in = subst (Stands option _ _) (sym (ap (λ o. first_name (suboptions o)) e)) (reads.named m refl subs e)

  pub name-length-in : m.name_bytes ≡ length (first_name_in option)
  name-length-in = stands-length name_in
