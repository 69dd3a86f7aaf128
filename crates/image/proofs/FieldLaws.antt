-- Laws of fields and of records read one after another.
-- Assumes nothing.
use Prim.Native.Nat.{ℕ, zero, suc, ◌+◌, ◌*◌, ◌/◌, ◌%◌, ◌≤◌, ◌<◌}
use mathlib.Core.Path.{◌≡◌, refl, sym, ap, ap₂, subst, ◌∙◌}
use mathlib.Core.Bool.{Bool}
use mathlib.Core.List.{List, [], ◌∷◌, ◌++◌, append_assoc}
use mathlib.Core.Option.{Option, none, some}
use native.Mathlib.Omega.{arith}
use lib.ListN.{length, take, drop, get_or, take-append-drop}
use lib.Seq.{get_or-drop, get_or-take}
use lib.Dec.{eqb}
use borrow.Author.Tests.{eqb-true, eq-eqb}
use mir.Syntax.{w32}
use Rattle.std.specs.Int.{from_le_bytes, to_le_bytes}
use Rattle.lists.specs.Lists.{All, and, concat_map}
use Rattle.lists.proofs.Tests.{bool-ext, and-list-to, and-list-of}
use Rattle.lists.proofs.DropLaws.{drop_at}
use Rattle.image.specs.Fields.{number16, number32, Run, before, on_item, records}
use Rattle.image.specs.Image.{le16, le32}

-- NUMBERS

-- Each element is a byte.
abbrev pub Bytes : List ℕ → Type 0
Bytes s = (i : ℕ) → get_or s i 0 < 256

pub bytes_of : (s : List ℕ) → All (λ b. b < 256) s → Bytes s
bytes_of [] a i = omega arith
bytes_of (x ∷ s) a zero = a.0
bytes_of (x ∷ s) a (suc i) = bytes_of s a.1 i

pub bytes-all : (s : List ℕ) → Bytes s → All (λ b. b < 256) s
bytes-all [] b = tt
bytes-all (x ∷ s) b = (b 0, bytes-all s (λ i. b (suc i)))

pub bytes_drop : (n : ℕ) (s : List ℕ) → Bytes s → Bytes (drop n s)
bytes_drop n s b i = subst (λ (x : ℕ). x < 256) (sym (get_or-drop n s i 0)) (b (n + i))

pub spell32 : (n : ℕ) → n % 256 + 256 * (n / 256 % 256) + 65536 * (n / 65536 % 256) + 16777216 * (n / 16777216) ≡ n
spell32 n = omega arith

two : (a b : ℕ) → a < 256 → le16 (a + 256 * b) ≡ a ∷ b ∷ []
unfolding le16
two a b h =
    let low : (a + 256 * b) % 256 ≡ a = omega arith in
    let high : (a + 256 * b) / 256 ≡ b = omega arith in
    ap₂ (λ (x y : ℕ). x ∷ y ∷ []) low high

four : (a b c d : ℕ) → a < 256 → b < 256 → c < 256 → le32 (a + 256 * b + 65536 * c + 16777216 * d) ≡ a ∷ b ∷ c ∷ d ∷ []
unfolding le32
four a b c d ha hb hc =
    let n : ℕ = a + 256 * b + 65536 * c + 16777216 * d in
    let e₀ : n % 256 ≡ a = omega arith in
    let q₁ : n / 256 ≡ b + 256 * c + 65536 * d = omega arith in
    let q₂ : n / 65536 ≡ c + 256 * d = omega arith in
    let r₁ : (b + 256 * c + 65536 * d) % 256 ≡ b = omega arith in
    let r₂ : (c + 256 * d) % 256 ≡ c = omega arith in
    let e₁ : n / 256 % 256 ≡ b = ap (λ (m : ℕ). m % 256) q₁ ∙ r₁ in
    let e₂ : n / 65536 % 256 ≡ c = ap (λ (m : ℕ). m % 256) q₂ ∙ r₂ in
    let e₃ : n / 16777216 ≡ d = omega arith in
    ap₂ (λ (x y : ℕ). x ∷ y ∷ n / 65536 % 256 ∷ n / 16777216 ∷ []) e₀ e₁ ∙ ap₂ (λ (x y : ℕ). a ∷ b ∷ x ∷ y ∷ []) e₂ e₃

module _ (s : List ℕ) (bytes : Bytes s) (at : ℕ) where
  pub le16-number : le16 (number16 s at) ≡ get_or s at 0 ∷ get_or s (at + 1) 0 ∷ []
  unfolding number16
  le16-number = two (get_or s at 0) (get_or s (at + 1) 0) (bytes at)

  pub le32-number : le32 (number32 s at) ≡ get_or s at 0 ∷ get_or s (at + 1) 0 ∷ get_or s (at + 2) 0 ∷ get_or s (at + 3) 0 ∷ []
  unfolding number32
  le32-number = four (get_or s at 0) (get_or s (at + 1) 0) (get_or s (at + 2) 0) (get_or s (at + 3) 0) (bytes at) (bytes (at + 1)) (bytes (at + 2))

-- The library's conversions say the same.
pub le-number32 : (bs s : List ℕ) (at : ℕ) → bs ≡ take 4 (drop at s) → from_le_bytes w32 bs ≡ number32 s at
unfolding number32
le-number32 bs s at e =
    let byte : (i : ℕ) → i < 4 → get_or bs i 0 ≡ get_or s (at + i) 0 = λ i h. ap (λ (l : List ℕ). get_or l i 0) e ∙ get_or-take 4 (drop at s) i 0 h ∙ get_or-drop at s i 0 in
    let first : get_or s (at + 0) 0 ≡ get_or s at 0 = ap (λ (i : ℕ). get_or s i 0) (omega arith) in
    omega (arith, byte 0 (omega arith), first, byte 1 (omega arith), byte 2 (omega arith), byte 3 (omega arith))

pub le-le32 : (n : ℕ) → n < 4294967296 → to_le_bytes w32 n ≡ le32 n
unfolding le32
le-le32 n h = let last : n / 16777216 % 256 ≡ n / 16777216 = omega arith in rw last refl

-- A byte and a number at a place, and from there on.
module _ (s : List ℕ) (at : ℕ) where
  pub byte-from : (k : ℕ) → get_or s (at + k) 0 ≡ get_or (drop at s) k 0
  byte-from k = sym (get_or-drop at s k 0)

  pub number-from : (k : ℕ) → number32 s (at + k) ≡ number32 (drop at s) k
  unfolding number32
  number-from k =
      let digit : (i : ℕ) → get_or (drop at s) (k + i) 0 ≡ get_or s (at + k + i) 0 = λ i. get_or-drop at s (k + i) 0 ∙ ap (λ (j : ℕ). get_or s j 0) (omega arith) in
      omega (arith, get_or-drop at s k 0, digit 1, digit 2, digit 3)

-- The first four bytes of a record: its length, and its kind.
module _ (s : List ℕ) (bytes : Bytes s) (len kind : ℕ) (small : len < 65536) where
  pub start-of : number32 s 0 ≡ len + 65536 * kind → (number16 s 0 ≡ len) × (number16 s 2 ≡ kind)
  unfolding number16 number32
  start-of e = (omega (arith, bytes 0, bytes 1, bytes 2, bytes 3), omega (arith, bytes 0, bytes 1, bytes 2, bytes 3))

  pub start-to : number16 s 0 ≡ len → number16 s 2 ≡ kind → number32 s 0 ≡ len + 65536 * kind
  unfolding number16 number32
  start-to a b = omega arith

  pub start-tells : eqb (number32 s 0) (len + 65536 * kind) ≡ and (eqb (number16 s 0) len ∷ eqb (number16 s 2) kind ∷ [])
  start-tells =
      let halves : List Bool = eqb (number16 s 0) len ∷ eqb (number16 s 2) kind ∷ [] in
      bool-ext (eqb (number32 s 0) (len + 65536 * kind)) (and halves)
      (λ e. let t = start-of (eqb-true (number32 s 0) (len + 65536 * kind) e) in and-list-of halves (eq-eqb (number16 s 0) len t.0, (eq-eqb (number16 s 2) kind t.1, tt)))
      (λ e. let t = and-list-to halves e in eq-eqb (number32 s 0) (len + 65536 * kind) (start-to (eqb-true (number16 s 0) len t.0) (eqb-true (number16 s 2) kind t.1.0)))

-- n elements from i on, one by one.
abbrev pub spelled : ℕ → ℕ → List ℕ → List ℕ
spelled i zero s = []
spelled i (suc n) s = get_or s i 0 ∷ spelled (i + 1) n s

pub take-spelled : (i n : ℕ) (s : List ℕ) → i + n ≤ length s → take n (drop i s) ≡ spelled i n s
take-spelled i zero s h = refl
take-spelled i (suc n) s h =
    ap (take (suc n)) (drop_at s i 0 (omega arith)) ∙ ap (λ (l : List ℕ). get_or s i 0 ∷ l) (take-spelled (i + 1) n s (omega arith))

pub front-spelled : (n : ℕ) (s : List ℕ) → n ≤ length s → s ≡ spelled 0 n s ++ drop n s
front-spelled n s h = sym (take-append-drop n s) ∙ ap (λ (l : List ℕ). l ++ drop n s) (take-spelled 0 n s (omega arith))

-- RECORDS

module _ {A : Type 0} (read : List ℕ → Option A) (size : ℕ) where
  pub records-none : (limit : ℕ) (s : List ℕ) → read s ≡ none → records read size limit s ≡ record { items = []; rest = s }
  unfolding records
  records-none zero s e = refl
  records-none (suc limit) s e = rw e

  pub records-some : (limit : ℕ) (s : List ℕ) (x : A) → read s ≡ some x → records read size (suc limit) s ≡ before x (records read size limit (drop size s))
  unfolding records
  records-some limit s x e = rw e

  -- What is written is read, up to what is no such record.
  pub records-concat_map : (rec : A → List ℕ) (P : A → Type 0) → ((x : A) (q : List ℕ) → P x → read (rec x ++ q) ≡ some x) → ((x : A) (q : List ℕ) → drop size (rec x ++ q) ≡ q)
      → (limit : ℕ) (xs : List A) (q : List ℕ) → All P xs → length xs ≤ limit → read q ≡ none → records read size limit (concat_map rec xs ++ q) ≡ record { items = xs; rest = q }
  records-concat_map rec P reads skips limit [] q a h e = records-none limit q e
  records-concat_map rec P reads skips zero (x ∷ xs) q a h e = absurd (omega arith)
  records-concat_map rec P reads skips (suc limit) (x ∷ xs) q a h e =
      let rest : List ℕ = concat_map rec xs ++ q in
      ap (records read size (suc limit)) (append_assoc (rec x) (concat_map rec xs) q)
      ∙ records-some limit (rec x ++ rest) x (reads x rest a.0)
      ∙ ap (λ (l : List ℕ). before x (records read size limit l)) (skips x rest)
      ∙ ap (before x) (records-concat_map rec P reads skips limit xs q a.1 (omega arith) e)

  -- What is read stood there as it is written.
  pub record Readings (rec : A → List ℕ) (P : A → Type 0) (limit : ℕ) (s : List ℕ) (r : Run A) : Type 0 where
    pub same : s ≡ concat_map rec r.items ++ r.rest
    pub each : All P r.items
    pub few : length r.items ≤ limit

  pub readings : (rec : A → List ℕ) (P : A → Type 0) → ((s : List ℕ) (x : A) → Bytes s → read s ≡ some x → (s ≡ rec x ++ drop size s) × P x)
      → (limit : ℕ) (s : List ℕ) → Bytes s → Readings rec P limit s (records read size limit s)
  unfolding records
  readings rec P written zero s b = record { same = refl; each = tt; few = omega arith }
  readings rec P written (suc limit) s b = cases (readings rec P written limit (drop size s) (bytes_drop size s b)) (read s) refl
    where
      cases : Readings rec P limit (drop size s) (records read size limit (drop size s)) → (o : Option A) → read s ≡ o
          → Readings rec P (suc limit) s (on_item o s (records read size limit (drop size s)))
      cases later none e = record { same = refl; each = tt; few = omega arith }
      cases later (some x) e =
          let w = written s x b e in
          let r : Run A = records read size limit (drop size s) in
          record {
            same = w.0 ∙ ap (λ (l : List ℕ). rec x ++ l) later.same ∙ sym (append_assoc (rec x) (concat_map rec r.items) r.rest);
            each = (w.1, later.each);
            few = omega (arith, later.few);
          }
