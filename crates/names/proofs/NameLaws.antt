-- Laws of names: their octets and words, what is read of what is written, and the name itself without the zeros after it.
-- Assumes nothing.
use Prim.Native.Nat.{ℕ, zero, suc, ◌+◌, ◌-◌, ◌*◌, ◌/◌, ◌%◌, ◌^◌, ◌≤◌, ◌<◌}
use mathlib.Core.Path.{◌≡◌, refl, sym, ap, ap₂, ◌∙◌}
use mathlib.Core.Bool.{Bool, true, false, cond}
use mathlib.Core.List.{List, [], ◌∷◌, ◌++◌}
use native.Mathlib.Omega.{arith}
use native.Mathlib.Nat.{pow-suc, one-le-pow}
use lib.ListN.{length, take, drop, get_or, replicate, length-append, length-drop, length-replicate, take-append-drop}
use lib.Seq.{length-take-le, take_all, take-add, drop-drop}
use lib.Dec.{eqb}
use borrow.Author.Tests.{eqb-true, eqb-false, eq-eqb, ne_eqb}
use Rattle.lists.specs.Lists.{All}
use Rattle.lists.proofs.Tests.{bool-ext, cond-false, and-list-to}
use Rattle.lists.proofs.ListLaws.{all_left, all_append}
use Rattle.lists.proofs.TakeLaws.{take_short}
use Rattle.lists.proofs.DropLaws.{all_drop}
use Rattle.names.specs.declared.Name.{Name}
use Rattle.names.specs.Names.{no_name, unnamed?, octets, spells, name_octets, name_in, name_of, behind, without_zeros, name_text, name_length}

-- OCTETS OF A NUMBER

pub length-octets : (k n : ℕ) → length (octets k n) ≡ k
unfolding octets
length-octets zero n = refl
length-octets (suc zero) n = refl
length-octets (suc (suc k)) n = ap suc (length-octets (suc k) (n / 256))

pub spells-octets : (k n : ℕ) → spells (octets (suc k) n) ≡ n
unfolding octets spells
spells-octets zero n = omega arith
spells-octets (suc k) n = omega (arith, spells-octets k (n / 256))

pub octets-spells : (xs : List ℕ) (k : ℕ) → length xs ≡ suc k → All (λ b. b < 256) xs → octets (suc k) (spells xs) ≡ xs
unfolding octets spells
octets-spells [] k e a = absurd (omega arith)
octets-spells (x ∷ []) zero e a = let same : x + 256 * 0 ≡ x = omega arith in ap (λ (y : ℕ). y ∷ []) same
octets-spells (x ∷ []) (suc k) e a = absurd (omega arith)
octets-spells (x ∷ y ∷ ys) zero e a = absurd (omega arith)
octets-spells (x ∷ y ∷ ys) (suc k) e a =
    let r : ℕ = spells (y ∷ ys) in
    let h : x < 256 = a.0 in
    let low : (x + 256 * r) % 256 ≡ x = omega arith in
    let high : (x + 256 * r) / 256 ≡ r = omega arith in
    ap₂ (λ (u v : ℕ). u ∷ octets (suc k) v) low high ∙ ap (λ (l : List ℕ). x ∷ l) (octets-spells (y ∷ ys) k (omega arith) a.1)

-- A NAME AS OCTETS

pub length-name : (n : Name) → length (name_octets n) ≡ 24
unfolding octets name_octets
length-name n = refl

-- By its words.
pub words : {x y z : ℕ} (a b c : ℕ) → x ≡ a → y ≡ b → z ≡ c → ◌≡◌ {A = Name} (record { first = x; second = y; third = z }) (record { first = a; second = b; third = c })
words a b c e f g = rw (e, f, g)

-- What is written is read.
pub name-reads : (n : Name) (q : List ℕ) → name_in (name_octets n ++ q) ≡ n
unfolding octets name_octets name_in
name-reads n q = words n.first n.second n.third (spells-octets 7 n.first) (spells-octets 7 n.second) (spells-octets 7 n.third)

all_take : (n : ℕ) (s : List ℕ) → All (λ b. b < 256) s → All (λ b. b < 256) (take n s)
all_take n s a = all_left (λ b. b < 256) (take n s) (drop n s) (rw (take-append-drop n s) a)

-- What is read stood there.
pub name-written : (s : List ℕ) → 24 ≤ length s → All (λ b. b < 256) s → name_octets (name_in s) ≡ take 24 s
unfolding name_octets name_in
name-written s h a =
    let word : (i : ℕ) → i + 8 ≤ length s → octets 8 (spells (take 8 (drop i s))) ≡ take 8 (drop i s) =
    λ i le. octets-spells (take 8 (drop i s)) 7 (length-take-le 8 (drop i s) (omega (arith, length-drop i s))) (all_take 8 (drop i s) (all_drop (λ b. b < 256) i s a)) in
    ap₂ (λ (x y : List ℕ). x ++ y) (word 0 (omega arith))
    (ap₂ (λ (x y : List ℕ). x ++ y) (word 8 (omega arith)) (word 16 (omega arith)))
    ∙ ap (λ (l : List ℕ). take 8 s ++ l) (sym (take-add 8 8 (drop 8 s) ∙ ap (λ (l : List ℕ). take 8 (drop 8 s) ++ take 8 l) (drop-drop 8 8 s)))
    ∙ sym (take-add 8 16 s)

-- OCTETS WITHOUT THE ZEROS THAT THEY END IN

module _ (x : ℕ) where
  behind-zeros : (xs w : List ℕ) → xs ≡ w ++ replicate (length xs - length w) 0 → x ∷ xs ≡ behind x w ++ replicate (length (x ∷ xs) - length (behind x w)) 0
  behind-zeros xs [] e = cases (eqb x 0) refl
    where
      cases : (t : Bool) → eqb x 0 ≡ t → x ∷ xs ≡ cond t [] (x ∷ []) ++ replicate (length (x ∷ xs) - length (cond t [] (x ∷ []))) 0
      cases true t =
          let size : suc (length xs) - 0 ≡ suc (length xs) = omega arith in
          let all : length xs - 0 ≡ length xs = omega arith in
          ap₂ (λ (y : ℕ) (l : List ℕ). y ∷ l) (eqb-true x 0 t) (e ∙ ap (λ (m : ℕ). replicate m 0) all) ∙ ap (λ (m : ℕ). replicate m 0) (sym size)
      cases false t =
          let size : suc (length xs) - 1 ≡ length xs - 0 = omega arith in
          ap (λ (l : List ℕ). x ∷ l) (e ∙ ap (λ (m : ℕ). replicate m 0) (sym size))
  behind-zeros xs (y ∷ ys) e =
      let size : suc (length xs) - suc (suc (length ys)) ≡ length xs - suc (length ys) = omega arith in
      ap (λ (l : List ℕ). x ∷ l) (e ∙ ap (λ (m : ℕ). y ∷ ys ++ replicate m 0) (sym size))

  behind-short : (w : List ℕ) → length (behind x w) ≤ suc (length w)
  behind-short [] = cases (eqb x 0)
    where
      cases : (t : Bool) → length (cond t [] (x ∷ [])) ≤ 1
      cases true = omega arith
      cases false = omega arith
  behind-short (y ∷ ys) = omega arith

-- They are these, and zeros after them.
pub zeros-after : (xs : List ℕ) → xs ≡ without_zeros xs ++ replicate (length xs - length (without_zeros xs)) 0
unfolding without_zeros
zeros-after [] = let none : 0 - 0 ≡ 0 = omega arith in ap (λ (m : ℕ). replicate m 0) (sym none)
zeros-after (x ∷ xs) = behind-zeros x xs (without_zeros xs) (zeros-after xs)

pub without-short : (xs : List ℕ) → length (without_zeros xs) ≤ length xs
unfolding without_zeros
without-short [] = omega arith
without-short (x ∷ xs) = omega (arith, behind-short x (without_zeros xs), without-short xs)

spells-zeros : (m : ℕ) → spells (replicate m 0) ≡ 0
unfolding spells
spells-zeros zero = refl
spells-zeros (suc m) = omega (arith, spells-zeros m)

-- Octets that are all zero.
none_left : (xs : List ℕ) → length (without_zeros xs) ≡ 0 → xs ≡ replicate (length xs) 0
none_left xs e = step (without_zeros xs) (zeros-after xs) e
  where
    step : (w : List ℕ) → xs ≡ w ++ replicate (length xs - length w) 0 → length w ≡ 0 → xs ≡ replicate (length xs) 0
    step [] z e = let all : length xs - 0 ≡ length xs = omega arith in z ∙ ap (λ (m : ℕ). replicate m 0) all
    step (y ∷ ys) z e = absurd (omega arith)

pub zero_word : (n : ℕ) → length (without_zeros (octets 8 n)) ≡ 0 → n ≡ 0
zero_word n e = sym (spells-octets 7 n) ∙ ap spells (none_left (octets 8 n) e) ∙ spells-zeros (length (octets 8 n))

-- Further octets after these: all zero, or not.
behind_more : (x : ℕ) (l : List ℕ) → 0 < length l → behind x l ≡ x ∷ l
behind_more x [] p = absurd (omega arith)
behind_more x (y ∷ ys) p = refl

length_none : (l : List ℕ) → length l ≡ 0 → l ≡ []
length_none [] e = refl
length_none (x ∷ l) e = absurd (omega arith)

pub without-zeros : (xs ys : List ℕ) → length (without_zeros ys) ≡ 0 → without_zeros (xs ++ ys) ≡ without_zeros xs
unfolding without_zeros
without-zeros [] ys e = length_none (without_zeros ys) e
without-zeros (x ∷ xs) ys e = ap (behind x) (without-zeros xs ys e)

pub without-behind : (xs ys : List ℕ) → 0 < length (without_zeros ys) → without_zeros (xs ++ ys) ≡ xs ++ without_zeros ys
unfolding without_zeros
without-behind [] ys p = refl
without-behind (x ∷ xs) ys p =
    ap (behind x) (without-behind xs ys p) ∙ behind_more x (xs ++ without_zeros ys) (omega (arith, length-append xs (without_zeros ys)))

zeros-only : (m : ℕ) → length (without_zeros (replicate m 0)) ≡ 0
unfolding without_zeros
zeros-only zero = refl
zeros-only (suc m) = rw (length_none (without_zeros (replicate m 0)) (zeros-only m))

-- The last is not zero.
abbrev pub LastNotZero : List ℕ → Type 0
LastNotZero xs = (k : ℕ) → length xs ≡ suc k → get_or xs k 0 ≡ 0 → ⊥

behind-last : (x : ℕ) (w : List ℕ) → LastNotZero w → LastNotZero (behind x w)
behind-last x [] h k e z = cases (eqb x 0) refl k e z
  where
    cases : (t : Bool) → eqb x 0 ≡ t → LastNotZero (cond t [] (x ∷ []))
    cases true t k e z = omega arith
    cases false t zero e z = eqb-false x 0 t z
    cases false t (suc k) e z = omega arith
behind-last x (y ∷ ys) h zero e z = omega arith
behind-last x (y ∷ ys) h (suc k) e z = h k (omega arith) z

pub without-last : (xs : List ℕ) → LastNotZero (without_zeros xs)
unfolding without_zeros
without-last [] k e z = omega arith
without-last (x ∷ xs) k e z = behind-last x (without_zeros xs) (without-last xs) k e z

-- Where the last is not zero, all stay.
pub without-none : (xs : List ℕ) → LastNotZero xs → without_zeros xs ≡ xs
unfolding without_zeros
without-none [] h = refl
without-none (x ∷ []) h = cond-false (eqb x 0) [] (x ∷ []) (ne_eqb x 0 (h 0 refl))
without-none (x ∷ y ∷ ys) h = ap (behind x) (without-none (y ∷ ys) (λ k e z. h (suc k) (ap suc e) z))

-- NO NAME

pub unnamed-to : (n : Name) → unnamed? n ≡ true → n ≡ no_name
unfolding unnamed?
unnamed-to n e =
    let t = and-list-to (eqb n.first 0 ∷ eqb n.second 0 ∷ eqb n.third 0 ∷ []) e in
    words 0 0 0 (eqb-true n.first 0 t.0) (eqb-true n.second 0 t.1.0) (eqb-true n.third 0 t.1.1.0)

pub unnamed-of : unnamed? no_name ≡ true
unfolding unnamed?
unnamed-of = refl

empty-text : name_length no_name ≡ 0
unfolding name_octets octets without_zeros
empty-text = refl

-- A name of length 0 is no name.
text-empty : (n : Name) → name_length n ≡ 0 → n ≡ no_name
unfolding name_in spells
text-empty n e =
    let zeros : name_octets n ≡ replicate 24 0 = none_left (name_octets n) e ∙ ap (λ (m : ℕ). replicate m 0) (length-name n) in
    sym (name-reads n []) ∙ ap (λ (l : List ℕ). name_in (l ++ [])) zeros

pub unnamed-length : (n : Name) → unnamed? n ≡ eqb (name_length n) 0
unnamed-length n =
    bool-ext (unnamed? n) (eqb (name_length n) 0)
    (λ (e : unnamed? n ≡ true). eq-eqb (name_length n) 0 (ap name_length (unnamed-to n e) ∙ empty-text))
    (λ (e : eqb (name_length n) 0 ≡ true). ap unnamed? (text-empty n (eqb-true (name_length n) 0 e)) ∙ unnamed-of)

-- THE NAME ITSELF

pub name-short : (n : Name) → name_length n ≤ 24
name-short n = omega (arith, without-short (name_octets n), length-name n)

-- "zero after the name"
pub text-octets : (n : Name) → name_octets n ≡ name_text n ++ replicate (24 - name_length n) 0
text-octets n = zeros-after (name_octets n) ∙ ap (λ (m : ℕ). name_text n ++ replicate (m - name_length n) 0) (length-name n)

-- "the last not zero"
pub name-rules : (n : Name) (k : ℕ) → name_length n ≡ suc k → get_or (name_text n) k 0 ≡ 0 → ⊥
name-rules n = without-last (name_octets n)

all-zeros : (m : ℕ) → All (λ b. b < 256) (replicate m 0)
all-zeros zero = tt
all-zeros (suc m) = (omega arith, all-zeros m)

-- What was given is what is kept.
pub name-of-octets : (xs : List ℕ) → length xs ≤ 24 → All (λ b. b < 256) xs → name_octets (name_of xs) ≡ xs ++ replicate (24 - length xs) 0
name-of-octets xs h a =
    let zeros : List ℕ = replicate (24 - length xs) 0 in
    let size : length (xs ++ zeros) ≡ 24 = omega (arith, length-append xs zeros, length-replicate {A = ℕ} (24 - length xs) 0) in
    name-written (xs ++ zeros) (omega arith) (all_append (λ b. b < 256) xs zeros a (all-zeros (24 - length xs))) ∙ take_all 24 (xs ++ zeros) (omega arith)

pub name-of-text : (xs : List ℕ) → length xs ≤ 24 → All (λ b. b < 256) xs → ((k : ℕ) → length xs ≡ suc k → get_or xs k 0 ≡ 0 → ⊥) → name_text (name_of xs) ≡ xs
name-of-text xs h a last =
    ap without_zeros (name-of-octets xs h a) ∙ without-zeros xs (replicate (24 - length xs) 0) (zeros-only (24 - length xs)) ∙ without-none xs last

-- BYTES AND WORDS

octets-bytes : (k n : ℕ) → n < 256 ^ suc k → All (λ b. b < 256) (octets (suc k) n)
unfolding octets
octets-bytes zero n h = (omega (arith, pow-suc 256 0), tt)
octets-bytes (suc k) n h = (omega arith, octets-bytes k (n / 256) (omega (arith, pow-suc 256 (suc k))))

pub name-bytes : (n : Name) → n.first < 18446744073709551616 → n.second < 18446744073709551616 → n.third < 18446744073709551616 → All (λ b. b < 256) (name_octets n)
unfolding name_octets
name-bytes n a b c =
    all_append (λ x. x < 256) (octets 8 n.first) (octets 8 n.second ++ octets 8 n.third) (octets-bytes 7 n.first a)
    (all_append (λ x. x < 256) (octets 8 n.second) (octets 8 n.third) (octets-bytes 7 n.second b) (octets-bytes 7 n.third c))

spells-below : (k : ℕ) (xs : List ℕ) → length xs ≤ k → All (λ b. b < 256) xs → spells xs < 256 ^ k
unfolding spells
spells-below k [] h a = one-le-pow k 256 (omega arith)
spells-below zero (x ∷ xs) h a = absurd (omega arith)
spells-below (suc k) (x ∷ xs) h a = let b : x < 256 = a.0 in omega (arith, spells-below k xs (omega arith) a.1, pow-suc 256 k)

pub name-words : (s : List ℕ) → All (λ b. b < 256) s
    → ((name_in s).first < 18446744073709551616) × ((name_in s).second < 18446744073709551616) × ((name_in s).third < 18446744073709551616)
unfolding name_in
name-words s a =
    let word : (i : ℕ) → spells (take 8 (drop i s)) < 18446744073709551616 =
    λ i. spells-below 8 (take 8 (drop i s)) (take_short 8 (drop i s)) (all_take 8 (drop i s) (all_drop (λ b. b < 256) i s a)) in
    (word 0, word 8, word 16)
