-- What words spell as prefixes: "PREFIX is A.B.C.D/L, A to D 0 to 255 and L below 256, in decimal, whatever its alignment."
use Rattle.std.specs.Prelude.{ℕ, zero, suc, ◌+◌, ◌*◌, ◌≤◌, ◌≡◌, cond, Option, Some, None, List, [], ◌∷◌, length, take, drop}
use Rattle.std.proofs.Math.Option.{none, some}
use Rattle.std.proofs.Math.Option as math
use Rattle.console_words.specs.Words.{up_to, from_on, first_word, after_word, empty?}
use Rattle.console_words.specs.Numbers.{number_of, octet_of}
use Rattle.console_words.specs.declared.{Spelled.Spelled, PrefixWord.PrefixWord}

-- A number of four octets, the high one first: n stands for those that were read, and `more` dots (46) are left.
abbrev pub with_octet : Option ℕ → (ℕ → Option ℕ) → Option ℕ
with_octet (Some x) f = f x
with_octet None f = None

abbrev pub past_dot : List ℕ → (List ℕ → Option ℕ) → Option ℕ
past_dot [] f = None
past_dot (c ∷ cs) f = f cs

unfoldable pub dotted : ℕ → ℕ → List ℕ → Option ℕ
dotted zero n xs = with_octet (octet_of (number_of xs)) (λ x. Some (n * 256 + x))
dotted (suc more) n xs = with_octet (octet_of (number_of (up_to 46 xs))) (λ x. past_dot (from_on 46 xs) (λ r. dotted more (n * 256 + x) r))

-- A.B.C.D
abbrev pub network_of : List ℕ → Option ℕ
network_of xs = dotted 3 0 xs

-- A network, and a length behind the slash (47).
abbrev pub with_length : ℕ → Option ℕ → Option PrefixWord
with_length n (Some l) = Some (record { network = n; length = l })
with_length n None = None

abbrev pub with_network : Option ℕ → Option ℕ → Option PrefixWord
with_network (Some n) l = with_length n l
with_network None l = None

abbrev pub past_slash : List ℕ → Option ℕ → Option PrefixWord
past_slash [] n = None
past_slash (c ∷ cs) n = with_network n (octet_of (number_of cs))

unfoldable pub prefix_of : List ℕ → Option PrefixWord
prefix_of w = past_slash (from_on 47 w) (network_of (up_to 47 w))

-- Networks and lengths of the prefixes that all words of what is left of a line spell, at most so many.
abbrev pub Columns : Type 0
Columns = List ℕ × List ℕ

abbrev pub before : Option PrefixWord → math.Option Columns → math.Option Columns
before (Some w) (some p) = some (w.network ∷ p.0, w.length ∷ p.1)
before (Some w) none = none
before None p = none

unfoldable pub prefixes_of : ℕ → List ℕ → math.Option Columns
prefixes_of zero xs = cond (empty? (first_word xs)) (some ([], [])) none
prefixes_of (suc most) xs = cond (empty? (first_word xs)) (some ([], [])) (before (prefix_of (first_word xs)) (prefixes_of most (after_word xs)))

-- The prefix that the next word spells, and the place behind it.
pub record NextPrefix (s : List ℕ) (from : ℕ) (r : Spelled PrefixWord) : Type 0 where
  pub inside : r.end ≤ length s
  pub value : r.value ≡ prefix_of (first_word (drop from s))
  pub rest : drop r.end s ≡ after_word (drop from s)

-- What two columns hold of the prefixes that were read into them.
abbrev pub prefixes_in : Option ℕ → List ℕ → List ℕ → math.Option Columns
prefixes_in (Some n) networks lengths = some (take n networks, take n lengths)
prefixes_in None networks lengths = none
