-- What loops that write text have done after one turn more.
-- Assumes nothing.
use Prim.Native.Nat.{ℕ, zero, suc, ◌+◌, ◌-◌, ◌*◌, ◌/◌, ◌%◌, ◌≤◌, ◌<◌}
use native.Mathlib.Omega.{arith}
use native.Mathlib.Numerals.{add-one}
use mathlib.Core.Path.{◌≡◌, refl, sym, ap, subst, ◌∙◌}
use mathlib.Core.Bool.{Bool, true, false}
use mathlib.Core.List.{List, [], ◌∷◌, ◌++◌, append-nil, append_assoc}
use lib.ListN.{length, take, drop, get_or, set, length-append}
use lib.Seq.{length-take-le, take-suc}
use lib.Dec.{eqb}
use borrow.Author.Tests.{lt-ltb, eqb-true, eq-eqb}
use Rattle.lists.specs.Lists.{All, concat_map}
use Rattle.lists.specs.Put.{put}
use Rattle.lists.proofs.PutLaws.{put-more, set_more}
use Rattle.lists.proofs.DropLaws.{drop_at, drop-end}
use Rattle.lists.proofs.ConcatMapLaws.{concat_map-append, length-concat_map}
use Rattle.text.specs.Decimal.{digit}
use Rattle.text.specs.Wrote.{lowest_digits, WroteNumber}
use Rattle.text.proofs.TextLaws.{length_last}
use Rattle.io.specs.Digits.{hex_digit_ascii, last_digits}
use Rattle.console_text.specs.Text.{hex_of, Decimal, Piece, Spells, Filled}

sized : (s : List ℕ) → All (λ x. length (hex_of x) ≡ 2) s
sized [] = tt
sized (x ∷ xs) = (refl, sized xs)

-- One octet more, as two digits.
pub octets-more : (l l₁ : List ℕ) (at i : ℕ) (s : List ℕ) (high low : ℕ) → i < length s → (high ∷ low ∷ [] ≡ hex_of (get_or s i 0)) → l₁ ≡ put l at (concat_map hex_of (take i s)) → set (set l₁ (at + 2 * i) high) (at + 2 * i + 1) low ≡ put l at (concat_map hex_of (take (i + 1) s))
unfolding put
octets-more l l₁ at i s high low lt last_digits e =
    let done : List ℕ = concat_map hex_of (take i s) in
    let more : concat_map hex_of (take (i + 1) s) ≡ done ++ hex_of (get_or s i 0) = ap (λ (k : ℕ). concat_map hex_of (take k s)) (add-one i) ∙ ap (concat_map hex_of) (take-suc s i 0 lt) ∙ concat_map-append hex_of (take i s) (get_or s i 0 ∷ []) in
    let size : at + 2 * i ≡ at + length done = omega (arith, length-concat_map hex_of 2 (take i s) (sized (take i s)), length-take-le i s (omega arith)) in
    put-more l l₁ _ at done (at + 2 * i) (high ∷ low ∷ []) e size refl ∙ ap (λ (r : List ℕ). put l at (done ++ r)) last_digits ∙ ap (put l at) (sym more)

length_digits : (b k n : ℕ) → length (last_digits b k n) ≡ k
length_digits b zero n = refl
length_digits b (suc k) n = omega (arith, length-append (last_digits b k (n / b)) (hex_digit_ascii (n % b) ∷ []), length_digits b k (n / b))

-- The digits of a number, as they are spelled elsewhere.
spelled : (k n : ℕ) → lowest_digits k n ≡ last_digits 10 k n
spelled zero n = refl
spelled (suc k) n = rw (lt-ltb (n % 10) 10 (omega arith)) (ap (λ (front : List ℕ). front ++ (digit n ∷ [])) (spelled k (n / 10)))

pub decimal-put : (n at r : ℕ) (before after : List ℕ) → WroteNumber n before at after r → Decimal n before at after (r - at)
decimal-put n at r before after w =
    let e : w.size ≡ r - at = omega (arith, w.wrote.place, length_last w.size n) in
    subst (Decimal n before at after) e
    (record {
      fewest = (w.width.0, w.width.1, λ h. omega (arith, w.width.2));
      bytes = w.wrote.bytes ∙ ap (put before at) (spelled w.size n);
    })

-- What a loop that fills a pattern has done: what it wrote, and how the text may go on from there.
pub record Filling (pattern numbers before : List ℕ) (at i : ℕ) (left now : List ℕ) (end : ℕ) : Type 0 where
  pub text : List ℕ
  pub goes_on : (rest : List ℕ) → Spells (drop i pattern) left rest → Spells pattern numbers (text ++ rest)
  pub bytes : now ≡ put before at text
  pub ends : end ≡ at + length text

pub filling-none : (pattern numbers before : List ℕ) (at : ℕ) → Filling pattern numbers before at 0 numbers before at
unfolding put
filling-none pattern numbers before at = record { text = []; goes_on = λ rest h. h; bytes = refl; ends = omega arith }

-- A byte that stands as it is.
byte_of : (c : ℕ) (cs ns rest : List ℕ) (b : Bool) → (b ≡ true → ns ≡ []) → Spells cs ns rest → Piece b c ns (Spells cs) (c ∷ rest)
byte_of c cs [] rest true e h = record { rest = rest; same = refl; goes_on = h }
byte_of c cs (n ∷ ns) rest true e h = absurd (omega (arith, ap length (e refl)))
byte_of c cs ns rest false e h = record { rest = rest; same = refl; goes_on = h }

module _ (pattern numbers before : List ℕ) (at i : ℕ) (left now : List ℕ) (end : ℕ) (f : Filling pattern numbers before at i left now end) (lt : i < length pattern) where
  pub filling-byte : (get_or pattern i 0 ≡ 37 → left ≡ []) → Filling pattern numbers before at (i + 1) left (set now end (get_or pattern i 0)) (end + 1)
  filling-byte none =
      let c : ℕ = get_or pattern i 0 in
      record {
        text = f.text ++ (c ∷ []);
        goes_on = λ rest h.
            subst (Spells pattern numbers) (sym (append_assoc f.text (c ∷ []) rest))
            (f.goes_on (c ∷ rest)
            (subst (λ (p : List ℕ). Spells p left (c ∷ rest)) (sym (drop_at pattern i 0 lt))
            (byte_of c (drop (i + 1) pattern) left rest (eqb c 37) (λ e. none (eqb-true c 37 e)) h)));
        bytes = set_more before now _ at f.text end c f.bytes f.ends refl;
        ends = omega (arith, f.ends, length-append f.text (c ∷ []));
      }

  -- A number in the place of a `%`.
  pub filling-number : (n : ℕ) (more after : List ℕ) (r : ℕ) → get_or pattern i 0 ≡ 37 → left ≡ n ∷ more → end ≤ r → Decimal n now end after (r - end)
      → Filling pattern numbers before at (i + 1) more after r
  filling-number n more after r hole is le d =
      let k : ℕ = r - end in
      let xs : List ℕ = last_digits 10 k n in
      record {
        text = f.text ++ xs;
        goes_on = λ rest h.
            subst (Spells pattern numbers) (sym (append_assoc f.text xs rest))
            (f.goes_on (xs ++ rest)
            (subst (λ (p : List ℕ). Spells p left (xs ++ rest)) (sym (drop_at pattern i 0 lt))
            (subst (λ (ns : List ℕ). Piece (eqb (get_or pattern i 0) 37) (get_or pattern i 0) ns (Spells (drop (i + 1) pattern)) (xs ++ rest)) (sym is)
            (subst (λ (b : Bool). Piece b (get_or pattern i 0) (n ∷ more) (Spells (drop (i + 1) pattern)) (xs ++ rest)) (sym (eq-eqb (get_or pattern i 0) 37 hole))
            (record { k = k; fewest = d.fewest; rest = rest; same = refl; goes_on = h })))));
        bytes = put-more before now after at f.text end xs f.bytes f.ends d.bytes;
        ends = omega (arith, f.ends, length-append f.text xs, length_digits 10 k n);
      }

pub filling-all : (pattern numbers before : List ℕ) (at i : ℕ) (left now : List ℕ) (end : ℕ) → Filling pattern numbers before at i left now end → length pattern ≤ i → Filled pattern numbers before at now end
filling-all pattern numbers before at i left now end f past =
    record {
      text = f.text;
      spells = subst (Spells pattern numbers) (append-nil f.text) (f.goes_on [] (subst (λ (p : List ℕ). Spells p left []) (sym (drop-end pattern i past)) refl));
      bytes = f.bytes;
      ends = f.ends;
    }
