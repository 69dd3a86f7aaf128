-- An option and the option 118 behind it, at their places in a line.
-- Assumes nothing.
use Prim.Native.Nat.{ℕ, ◌+◌, ◌-◌, ◌≤◌}
use native.Mathlib.Omega.{arith}
use mathlib.Core.Path.{◌≡◌, refl, sym, ap, ap₂, ◌∙◌}
use mathlib.Core.Bool.{Bool, true, false, cond}
use mathlib.Core.Option.{none, some}
use mathlib.Core.Option as math
use mathlib.Core.List.{List, ◌++◌}
use lib.ListN.{length, take, drop, length-drop, take-append-drop}
use lib.Seq.{take_all, length-take-le, take_at, drop_at, take-append-le, drop-append-le, drop-append-add}
use Rattle.console_words.specs.Words.{between, first_word, after_word, last?}
use Rattle.console_words.specs.Octets.{octets_of, last_octets}
use Rattle.console_script.specs.declared.OptionCall.{OptionCall}
use Rattle.console_words.specs.declared.Octets.{Octets}
use Rattle.console_script.specs.Commands.{Message}
use Rattle.console_script.specs.Parsing.{carries?, alone, both_octets, message_of}

-- OPTION [HEX]
module _ (c : OptionCall) (xs : List ℕ) where
  abbrev with-tests : Bool → Bool → math.Option Message
  with-tests ends has = cond ends (alone (octets_of (first_word xs))) (cond has (both_octets (octets_of (first_word xs)) (last_octets (after_word xs))) none)

  pub message-alone : (o : math.Option (List ℕ)) → last? (after_word xs) ≡ true → o ≡ octets_of (first_word xs) → alone o ≡ message_of c xs
  unfolding message_of
  message-alone o e h = ap alone h ∙ sym (ap (λ (b : Bool). with-tests b (carries? c)) e)

  module _ (more : last? (after_word xs) ≡ false) where
    pub message-surplus : carries? c ≡ false → none ≡ message_of c xs
    unfolding message_of
    message-surplus e = sym (ap₂ (λ (a b : Bool). with-tests a b) more e)

    pub message-both : (o : math.Option Message) → carries? c ≡ true → o ≡ both_octets (octets_of (first_word xs)) (last_octets (after_word xs)) → o ≡ message_of c xs
    unfolding message_of
    message-both o e h = h ∙ sym (ap₂ (λ (a b : Bool). with-tests a b) more e)

-- OCTETS OF BOTH

front_of : (xs ys : List ℕ) (from to : ℕ) → from ≤ to → to ≤ length xs → between from to (xs ++ ys) ≡ between from to xs
front_of xs ys from to le inside =
    ap (λ (l : List ℕ). take (to - from) l) (drop-append-le from xs ys (omega arith)) ∙ take-append-le (to - from) (drop from xs) ys (omega (arith, length-drop from xs))

back-of : (xs ys : List ℕ) (at from to : ℕ) → length xs ≡ at → between (at + from) (at + to) (xs ++ ys) ≡ between from to ys
back-of xs ys at from to size =
    let e : at + to - (at + from) ≡ to - from = omega arith in
    ap₂ (λ (k : ℕ) (l : List ℕ). take k l) e (ap (λ (k : ℕ). drop (k + from) (xs ++ ys)) (sym size) ∙ drop-append-add xs ys from)

both-none : (o : math.Option (List ℕ)) → both_octets o none ≡ none
both-none none = refl
both-none (some xs) = refl

-- What stands behind the option is lent first, and then what stands up to its end.
module _ (s : List ℕ) (begin end : ℕ) (le : begin ≤ end) (inside : end ≤ length s) where
  rest : take (length s - end) (drop end s) ≡ drop end s
  rest = take_all (length s - end) (drop end s) (omega (arith, length-drop end s))

  pub rest-size : length (take (length s - end) (drop end s)) ≡ length s - end
  rest-size = ap length rest ∙ length-drop end s

  size : length (take end s) ≡ end
  size = length-take-le end s inside

  the_word : between begin end (take end s) ≡ between begin end s
  the_word = sym (front_of (take end s) (drop end s) begin end le (omega (arith, size))) ∙ ap (λ (l : List ℕ). between begin end l) (take-append-drop end s)

  pub no_second : none ≡ last_octets (take (length s - end) (drop end s)) → none ≡ both_octets (octets_of (between begin end s)) (last_octets (drop end s))
  no_second second = sym (ap (both_octets (octets_of (between begin end s))) (ap last_octets (sym rest) ∙ sym second) ∙ both-none (octets_of (between begin end s)))

  module _ (ys post : List ℕ) where
    abbrev lent : List ℕ
    lent = take end s ++ (ys ++ post)

    word-lent : between begin end (take end lent) ≡ between begin end s
    word-lent = ap (λ (l : List ℕ). between begin end l) (take_at (take end s) (ys ++ post) end (omega (arith, size))) ∙ the_word

    pub both-bad : none ≡ octets_of (between begin end (take end lent)) → none ≡ both_octets (octets_of (between begin end s)) (last_octets (drop end s))
    both-bad e = ap (λ (o : math.Option (List ℕ)). both_octets o (last_octets (drop end s))) (e ∙ ap octets_of word-lent)

    module _ (o : Octets) (few : o.end ≤ length ys) (ordered : o.start ≤ o.end) (second : some (between o.start o.end ys) ≡ last_octets (take (length s - end) (drop end s))) where
      pub both-lent : (zs : List ℕ) (p : Octets) → length zs ≡ length (take end lent) → p.start ≤ p.end → p.end ≤ length zs → some (between p.start p.end zs) ≡ octets_of (between begin end (take end lent))
          → some (between p.start p.end (zs ++ drop end lent), some (between (end + o.start) (end + o.end) (zs ++ drop end lent))) ≡ both_octets (octets_of (between begin end s)) (last_octets (drop end s))
      both-lent zs p same ordered₁ few₁ first =
          let at-end : length zs ≡ end = same ∙ ap length (take_at (take end s) (ys ++ post) end (omega (arith, size))) ∙ size in
          let back : drop end lent ≡ ys ++ post = drop_at (take end s) (ys ++ post) end (omega (arith, size)) in
          let a : between p.start p.end (zs ++ drop end lent) ≡ between p.start p.end zs = front_of zs (drop end lent) p.start p.end ordered₁ few₁ in
          let b : between (end + o.start) (end + o.end) (zs ++ drop end lent) ≡ between o.start o.end ys = back-of zs (drop end lent) end o.start o.end at-end ∙ ap (λ (l : List ℕ). between o.start o.end l) back ∙ front_of ys post o.start o.end ordered few in
          ap₂ (λ (x y : List ℕ). some (x, some y)) a b
          ∙ ap₂ (λ (x y : math.Option (List ℕ)). both_octets x y) (first ∙ ap octets_of word-lent) (second ∙ ap last_octets rest)
