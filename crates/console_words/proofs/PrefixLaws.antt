-- Prefixes read from the dots and the slash of a word, and from all words of a line.
-- Assumes nothing.
use Prim.Native.Nat.{ℕ, zero, suc, ◌+◌, ◌-◌, ◌*◌, ◌^◌, ◌≤◌, ◌<◌}
use native.Mathlib.Omega.{arith}
use native.Mathlib.Nat.{pow-le-pow_right, pow-suc}
use native.Mathlib.Numerals.{add-one}
use mathlib.Core.Path.{◌≡◌, refl, sym, ap, ap₂, ◌∙◌}
use mathlib.Core.Bool.{Bool, true, false, cond}
use mathlib.Core.Option.{none, some}
use mathlib.Core.Option as math
use mathlib.Core.List.{List, [], ◌∷◌, ◌++◌, append-nil, append_assoc}
use lib.ListN.{length, take, drop, set, length-drop, length-set}
use lib.Seq.{take-suc-set, take_all}
use lib.Dec.{ltb}
use borrow.Author.Tests.{ltb-true}
use Rattle.lists.proofs.DropLaws.{drop_at, drop-end}
use Rattle.std.specs.Prelude.{Option, Some, None}
use Rattle.console_words.specs.declared.Spelled.{Spelled}
use Rattle.console_words.specs.declared.PrefixWord.{PrefixWord}
use Rattle.console_words.specs.Words.{up_to, from_on, first_word, after_word, empty?}
use Rattle.console_words.specs.Numbers.{number_of, octet_of}
use Rattle.console_words.specs.Prefixes.{with_octet, past_dot, dotted, network_of, with_length, with_network, past_slash, prefix_of, Columns, before, prefixes_of, prefixes_in}
use Rattle.console_words.specs.InnerPrefixes.{NextOctet}

-- What is lent from a place to the end is all that is left.
pub whole : (s : List ℕ) (at : ℕ) → octet_of (number_of (take (length s - at) (drop at s))) ≡ octet_of (number_of (drop at s))
whole s at = ap (λ (l : List ℕ). octet_of (number_of l)) (take_all (length s - at) (drop at s) (omega (arith, length-drop at s)))

-- An octet is below 256.
below : (b : Bool) (n x : ℕ) → ltb n 256 ≡ b → cond b (Some n) None ≡ Some x → x < 256
below true n x h e = let same : n ≡ x = cc e in omega (arith, ltb-true n 256 h)
below false n x h e = let no : ⊥ = cc e in absurd no

octet-below : (o : Option ℕ) (x : ℕ) → octet_of o ≡ Some x → x < 256
octet-below None x e = let no : ⊥ = cc e in absurd no
octet-below (Some n) x e = below (ltb n 256) n x refl e

-- NETWORKS

dotted-more : (i n : ℕ) (xs : List ℕ) → i < 3 → dotted (3 - i) n xs ≡ with_octet (octet_of (number_of (up_to 46 xs))) (λ x. past_dot (from_on 46 xs) (λ r. dotted (3 - (i + 1)) (n * 256 + x) r))
unfolding dotted
dotted-more i n xs lt = let e : 3 - i ≡ suc (3 - (i + 1)) = omega arith in ap (λ (k : ℕ). dotted k n xs) e

-- After i octets that make n, at a place.
pub record Networks (s : List ℕ) (at n i : ℕ) : Type 0 where
  pub inside : at ≤ length s
  pub few : i ≤ 3
  pub small : n < 256 ^ i
  pub same : network_of s ≡ dotted (3 - i) n (drop at s)

pub networks-none : (s : List ℕ) → Networks s 0 0 0
networks-none s = record { inside = omega arith; few = omega arith; small = omega arith; same = refl }

pub networks-small : (s : List ℕ) (at n i : ℕ) → Networks s at n i → n < 16777216
networks-small s at n i p = omega (arith, p.small, pow-le-pow_right {n = 256} (omega arith) {i = i} {j = 3} p.few)

module _ (s : List ℕ) (at n i : ℕ) (p : Networks s at n i) where
  pub networks-low : i < 3 → n < 65536
  networks-low lt = omega (arith, p.small, pow-le-pow_right {n = 256} (omega arith) {i = i} {j = 2} (omega arith))

  module _ (lt : i < 3) (a : Spelled ℕ) (next : NextOctet s at a) where
    pub networks-bad : a.value ≡ None → None ≡ network_of s
    networks-bad e = sym (p.same ∙ dotted-more i n (drop at s) lt ∙ ap (λ (o : Option ℕ). with_octet o (λ x. past_dot (from_on 46 (drop at s)) (λ r. dotted (3 - (i + 1)) (n * 256 + x) r))) (sym next.spelt ∙ e))

    here : (x : ℕ) → a.value ≡ Some x → network_of s ≡ past_dot (drop a.end s) (λ r. dotted (3 - (i + 1)) (n * 256 + x) r)
    here x e =
        p.same ∙ dotted-more i n (drop at s) lt
        ∙ ap₂ (λ (o : Option ℕ) (l : List ℕ). with_octet o (λ y. past_dot l (λ r. dotted (3 - (i + 1)) (n * 256 + y) r))) (sym next.spelt ∙ e) (sym next.rest)

    pub networks-cut : (x : ℕ) → a.value ≡ Some x → a.end ≡ length s → None ≡ network_of s
    networks-cut x e end = sym (here x e ∙ ap (λ (l : List ℕ). past_dot l (λ r. dotted (3 - (i + 1)) (n * 256 + x) r)) (drop-end s a.end (omega arith)))

    pub networks-more : (x w : ℕ) → a.value ≡ Some x → a.end < length s → w ≡ x → Networks s (a.end + 1) (n * 256 + w) (i + 1)
    networks-more x w e inner same =
        let octet : x < 256 = octet-below (number_of (up_to 46 (drop at s))) x (sym next.spelt ∙ e) in
        record {
          inside = omega arith;
          few = omega arith;
          small = omega (arith, p.small, pow-suc 256 i, ap (λ (k : ℕ). 256 ^ k) (add-one i));
          same = here x e ∙ ap (λ (l : List ℕ). past_dot l (λ r. dotted (3 - (i + 1)) (n * 256 + x) r)) (drop_at s a.end 0 inner) ∙ ap (λ (k : ℕ). dotted (3 - (i + 1)) (n * 256 + k) (drop (a.end + 1) s)) (sym same);
        }

  last : 3 ≤ i → network_of s ≡ with_octet (octet_of (number_of (drop at s))) (λ x. Some (n * 256 + x))
  unfolding dotted
  last le = let e : 3 - i ≡ 0 = omega arith in p.same ∙ ap (λ (k : ℕ). dotted k n (drop at s)) e

  pub networks-last : 3 ≤ i → (o : Option ℕ) (x w : ℕ) → o ≡ octet_of (number_of (drop at s)) → o ≡ Some x → w ≡ x → Some (n * 256 + w) ≡ network_of s
  networks-last le o x w e of same = ap (λ (k : ℕ). Some (n * 256 + k)) same ∙ sym (last le ∙ ap (λ (o : Option ℕ). with_octet o (λ y. Some (n * 256 + y))) (sym e ∙ of))

  pub networks-last-bad : 3 ≤ i → (o : Option ℕ) → o ≡ octet_of (number_of (drop at s)) → o ≡ None → None ≡ network_of s
  networks-last-bad le o e of = sym (last le ∙ ap (λ (o : Option ℕ). with_octet o (λ y. Some (n * 256 + y))) (sym e ∙ of))

-- PREFIXES

-- By where the slash stands.
module _ (s : List ℕ) (at : ℕ) (rest : drop at s ≡ from_on 47 s) where
  pub no_slash : at ≡ length s → None ≡ prefix_of s
  unfolding prefix_of
  no_slash e = sym (ap (λ (l : List ℕ). past_slash l (network_of (up_to 47 s))) (sym rest ∙ drop-end s at (omega arith)))

  module _ (inner : at < length s) (n : Option ℕ) (same : n ≡ network_of (up_to 47 s)) where
    slash : prefix_of s ≡ with_network n (octet_of (number_of (drop (at + 1) s)))
    unfolding prefix_of
    slash = ap₂ (λ (l : List ℕ) (m : Option ℕ). past_slash l m) (sym rest ∙ drop_at s at 0 inner) (sym same)

    pub prefix-no-network : n ≡ None → None ≡ prefix_of s
    prefix-no-network e = sym (slash ∙ ap (λ (m : Option ℕ). with_network m (octet_of (number_of (drop (at + 1) s)))) e)

    module _ (network : ℕ) (of : n ≡ Some network) (o : Option ℕ) (length : o ≡ octet_of (number_of (drop (at + 1) s))) where
      both : prefix_of s ≡ with_length network o
      both = slash ∙ ap₂ (λ (m : Option ℕ) (l : Option ℕ). with_network m l) of (sym length)

      pub prefix-no-length : o ≡ None → None ≡ prefix_of s
      prefix-no-length e = sym (both ∙ ap (with_length network) e)

      pub prefix-of : (l : ℕ) → o ≡ Some l → Some (record { network = network; length = l }) ≡ prefix_of s
      prefix-of l e = sym (both ∙ ap (with_length network) e)

-- ALL WORDS

abbrev behind : List ℕ → List ℕ → math.Option Columns → math.Option Columns
behind ns ls none = none
behind ns ls (some p) = some (ns ++ p.0, ls ++ p.1)

-- After n prefixes, at a place.
pub record Reading (s : List ℕ) (from : ℕ) (networks lengths : List ℕ) (most at n : ℕ) : Type 0 where
  pub inside : at ≤ length s
  pub few : n ≤ most
  pub wide : length networks ≡ most
  pub other : length lengths ≡ most
  pub same : prefixes_of most (drop from s) ≡ behind (take n networks) (take n lengths) (prefixes_of (most - n) (drop at s))

last_word : (most : ℕ) (xs : List ℕ) → empty? (first_word xs) ≡ true → prefixes_of most xs ≡ some ([], [])
unfolding prefixes_of
last_word zero xs e = ap (λ (b : Bool). cond b (some ([], [])) none) e
last_word (suc m) xs e = ap (λ (b : Bool). cond b (some ([], [])) (before (prefix_of (first_word xs)) (prefixes_of m (after_word xs)))) e

too_many : (xs : List ℕ) → empty? (first_word xs) ≡ false → prefixes_of 0 xs ≡ none
unfolding prefixes_of
too_many xs e = ap (λ (b : Bool). cond b (some ([], [])) none) e

one_more : (m : ℕ) (xs : List ℕ) → empty? (first_word xs) ≡ false → prefixes_of (suc m) xs ≡ before (prefix_of (first_word xs)) (prefixes_of m (after_word xs))
unfolding prefixes_of
one_more m xs e = ap (λ (b : Bool). cond b (some ([], [])) (before (prefix_of (first_word xs)) (prefixes_of m (after_word xs)))) e

behind-before : (ns ls : List ℕ) (w : PrefixWord) (o : math.Option Columns) → behind ns ls (before (Some w) o) ≡ behind (ns ++ (w.network ∷ [])) (ls ++ (w.length ∷ [])) o
behind-before ns ls w none = refl
behind-before ns ls w (some p) = ap₂ (λ (a b : List ℕ). some (a, b)) (sym (append_assoc ns (w.network ∷ []) p.0)) (sym (append_assoc ls (w.length ∷ []) p.1))

module _ (s : List ℕ) (from : ℕ) (networks lengths : List ℕ) (most at n : ℕ) (r : Reading s from networks lengths most at n) where
  pub reading-all : empty? (first_word (drop at s)) ≡ true → prefixes_in (Some n) networks lengths ≡ prefixes_of most (drop from s)
  reading-all e =
      sym (r.same ∙ ap (behind (take n networks) (take n lengths)) (last_word (most - n) (drop at s) e)
      ∙ ap₂ (λ (a b : List ℕ). some (a, b)) (append-nil (take n networks)) (append-nil (take n lengths)))

  module _ (e : empty? (first_word (drop at s)) ≡ false) where
    pub reading-over : n ≡ most → none ≡ prefixes_of most (drop from s)
    reading-over full = let z : most - n ≡ 0 = omega arith in sym (r.same ∙ ap (λ (k : ℕ). behind (take n networks) (take n lengths) (prefixes_of k (drop at s))) z ∙ ap (behind (take n networks) (take n lengths)) (too_many (drop at s) e))

    module _ (lt : n < most) where
      next : prefixes_of most (drop from s) ≡ behind (take n networks) (take n lengths) (before (prefix_of (first_word (drop at s))) (prefixes_of (most - (n + 1)) (after_word (drop at s))))
      next = let z : most - n ≡ suc (most - (n + 1)) = omega arith in r.same ∙ ap (λ (k : ℕ). behind (take n networks) (take n lengths) (prefixes_of k (drop at s))) z ∙ ap (behind (take n networks) (take n lengths)) (one_more (most - (n + 1)) (drop at s) e)

      pub reading-wrong : prefix_of (first_word (drop at s)) ≡ None → none ≡ prefixes_of most (drop from s)
      reading-wrong is = sym (next ∙ ap (λ (p : Option PrefixWord). behind (take n networks) (take n lengths) (before p (prefixes_of (most - (n + 1)) (after_word (drop at s))))) is)

      pub reading-more : (w : PrefixWord) (end : ℕ) → prefix_of (first_word (drop at s)) ≡ Some w → end ≤ length s → drop end s ≡ after_word (drop at s)
          → Reading s from (set networks n w.network) (set lengths n w.length) most end (n + 1)
      reading-more w end is inside rest =
          record {
            inside = inside;
            few = omega arith;
            wide = length-set networks n w.network ∙ r.wide;
            other = length-set lengths n w.length ∙ r.other;
            same =
                next
                ∙ ap₂ (λ (p : Option PrefixWord) (l : List ℕ). behind (take n networks) (take n lengths) (before p (prefixes_of (most - (n + 1)) l))) is (sym rest)
                ∙ behind-before (take n networks) (take n lengths) w (prefixes_of (most - (n + 1)) (drop end s))
                ∙ ap₂ (λ (a b : List ℕ). behind a b (prefixes_of (most - (n + 1)) (drop end s)))
                (sym (ap (λ (k : ℕ). take k (set networks n w.network)) (add-one n) ∙ take-suc-set networks n w.network (omega (arith, r.wide))))
                (sym (ap (λ (k : ℕ). take k (set lengths n w.length)) (add-one n) ∙ take-suc-set lengths n w.length (omega (arith, r.other))));
          }
