-- What the words after a name come to, by what each of them spells.
-- Assumes nothing.
use Prim.Native.Nat.{ℕ, ◌-◌, ◌≤◌, ◌<◌}
use native.Mathlib.Omega.{arith}
use mathlib.Core.Path.{◌≡◌, refl, sym, ap, ap₂, ◌∙◌}
use mathlib.Core.Bool.{Bool, true, false, cond, ◌&&◌}
use mathlib.Core.Option.{none, some}
use mathlib.Core.Option as math
use mathlib.Core.List.{List, [], ◌∷◌}
use lib.ListN.{length, drop, get_or}
use lib.Dec.{eqb, ltb}
use borrow.Author.Tests.{lt-ltb, le-ltb, eq-eqb, ne_eqb}
use Rattle.lists.proofs.Tests.{cond-true, cond-false}
use Rattle.text.specs.Ascii.{ascii}
use Rattle.std.specs.Prelude.{Option, Some, None}
use Rattle.console_words.specs.declared.Spelled.{Spelled}
use Rattle.console_words.specs.declared.PrefixWord.{PrefixWord}
use Rattle.console_words.specs.Words.{first_word, after_word, last?, empty?}
use Rattle.console_words.specs.Numbers.{number_of, flag_of, NextNumber}
use Rattle.console_words.specs.Prefixes.{prefix_of, prefixes_of, NextPrefix}
use Rattle.console_words.specs.Octets.{last_octets}
use Rattle.console_script.specs.declared.OptionCall.{OptionCall}
use Rattle.console_script.specs.declared.Name.{Name}
use Rattle.console_script.specs.Commands.{CommandValue, call, mark, «open», load, save, sheet, read, whole, buffer, selection, nothing, bad, Message, longest_line, longest_reply, most_prefixes, with_prefixes}
use Rattle.console_script.specs.InnerParsing.{last_number}
use Rattle.console_script.specs.Parsing.{same?, with_number, with_octets, with_message, message_of, switch_of, of_size, alone_or, at_end, name_of, parse_call, parse_mark, parse_open, form_of, parse_load, older_alone?, save_as, parse_save, parse_read, parse_whole, parse_buffer, parse_selection, parse_sheet, parse_words, with_name, parse_line, unreturned}

-- What the next word spells, where xs is left of the line.
pub spells : (spelt : List ℕ → Option ℕ) (s : List ℕ) (from : ℕ) (r : Spelled ℕ) (xs : List ℕ) (n : Option ℕ) → NextNumber spelt s from r → drop from s ≡ xs → r.value ≡ n → spelt (first_word xs) ≡ n
spells spelt s from r xs n next here e = ap (λ (l : List ℕ). spelt (first_word l)) (sym here) ∙ sym next.value ∙ e

pub spells-prefix : (s : List ℕ) (from : ℕ) (r : Spelled PrefixWord) (xs : List ℕ) (p : Option PrefixWord) → NextPrefix s from r → drop from s ≡ xs → r.value ≡ p → prefix_of (first_word xs) ≡ p
spells-prefix s from r xs p next here e = ap (λ (l : List ℕ). prefix_of (first_word l)) (sym here) ∙ sym next.value ∙ e

pub further : (s : List ℕ) (from end : ℕ) (xs : List ℕ) → drop end s ≡ after_word (drop from s) → drop from s ≡ xs → drop end s ≡ after_word xs
further s from end xs rest here = rest ∙ ap after_word here

-- STATION NOW OPTION [HEX]
module _ (c : OptionCall) (xs : List ℕ) where
  pub call-no-client : number_of (first_word xs) ≡ None → bad ≡ parse_call c xs
  unfolding parse_call
  call-no-client e = rw e refl

  module _ (client : ℕ) (e₁ : number_of (first_word xs) ≡ Some client) where
    pub call-no-time : number_of (first_word (after_word xs)) ≡ None → bad ≡ parse_call c xs
    unfolding parse_call
    call-no-time e = rw (e₁, e) refl

    module _ (time : ℕ) (e₂ : number_of (first_word (after_word xs)) ≡ Some time) where
      pub call-no-message : message_of c (after_word (after_word xs)) ≡ none → bad ≡ parse_call c xs
      unfolding parse_call
      call-no-message e = rw (e₁, e₂) (sym (ap (λ (o : math.Option Message). with_message o (λ option carried. call c client time option carried)) e))

      pub call-of : (option : List ℕ) (carried : math.Option (List ℕ)) → message_of c (after_word (after_word xs)) ≡ some (option, carried) → call c client time option carried ≡ parse_call c xs
      unfolding parse_call
      call-of option carried e = rw (e₁, e₂) (sym (ap (λ (o : math.Option Message). with_message o (λ l m. call c client time l m)) e))

-- NOW PREFIX D
module _ (xs : List ℕ) where
  pub mark-no-time : number_of (first_word xs) ≡ None → bad ≡ parse_mark xs
  unfolding parse_mark
  mark-no-time e = rw e refl

  module _ (time : ℕ) (e₁ : number_of (first_word xs) ≡ Some time) where
    pub mark-no-prefix : prefix_of (first_word (after_word xs)) ≡ None → bad ≡ parse_mark xs
    unfolding parse_mark
    mark-no-prefix e = rw (e₁, e) refl

    module _ (p : PrefixWord) (e₂ : prefix_of (first_word (after_word xs)) ≡ Some p) where
      pub mark-no-flag : flag_of (first_word (after_word (after_word xs))) ≡ None → bad ≡ parse_mark xs
      unfolding parse_mark
      mark-no-flag e = rw (e₁, e₂) (sym (ap (λ (n : Option ℕ). with_number n (λ d. at_end (after_word (after_word (after_word xs))) (mark time p.network p.length d))) e))

      module _ (d : ℕ) (e₃ : flag_of (first_word (after_word (after_word xs))) ≡ Some d) where
        ending : at_end (after_word (after_word (after_word xs))) (mark time p.network p.length d) ≡ parse_mark xs
        unfolding parse_mark
        ending = rw (e₁, e₂) (sym (ap (λ (n : Option ℕ). with_number n (λ k. at_end (after_word (after_word (after_word xs))) (mark time p.network p.length k))) e₃))

        pub mark-more : last? (after_word (after_word (after_word xs))) ≡ false → bad ≡ parse_mark xs
        mark-more e = sym (ap (λ (b : Bool). cond b (mark time p.network p.length d) bad) e) ∙ ending

        pub mark_of : last? (after_word (after_word (after_word xs))) ≡ true → mark time p.network p.length d ≡ parse_mark xs
        mark_of e = sym (ap (λ (b : Bool). cond b (mark time p.network p.length d) bad) e) ∙ ending

-- TERM DEFAULT START PREFIX..
module _ (xs : List ℕ) where
  pub open-no-term : number_of (first_word xs) ≡ None → bad ≡ parse_open xs
  unfolding parse_open
  open-no-term e = rw e refl

  module _ (term : ℕ) (e₁ : number_of (first_word xs) ≡ Some term) where
    pub open-no-default : number_of (first_word (after_word xs)) ≡ None → bad ≡ parse_open xs
    unfolding parse_open
    open-no-default e = rw (e₁, e) refl

    module _ (len : ℕ) (e₂ : number_of (first_word (after_word xs)) ≡ Some len) where
      pub open-default-long : 255 < len → bad ≡ parse_open xs
      unfolding parse_open
      open-default-long h = rw (e₁, e₂, lt-ltb 255 len h) refl

      module _ (short : len ≤ 255) where
        pub open-no-start : number_of (first_word (after_word (after_word xs))) ≡ None → bad ≡ parse_open xs
        unfolding parse_open
        open-no-start e = rw (e₁, e₂, le-ltb 255 len short) (sym (ap (λ (n : Option ℕ). with_number n (λ start. with_prefixes (prefixes_of most_prefixes (after_word (after_word (after_word xs)))) («open» term len start))) e))

        pub open_of : (start : ℕ) (rest : List ℕ) → number_of (first_word (after_word (after_word xs))) ≡ Some start → rest ≡ after_word (after_word (after_word xs)) → with_prefixes (prefixes_of most_prefixes rest) («open» term len start) ≡ parse_open xs
        unfolding parse_open
        open_of start rest e h =
            ap (λ (l : List ℕ). with_prefixes (prefixes_of most_prefixes l) («open» term len start)) h
            ∙ rw (e₁, e₂, le-ltb 255 len short) (sym (ap (λ (n : Option ℕ). with_number n (λ k. with_prefixes (prefixes_of most_prefixes (after_word (after_word (after_word xs)))) («open» term len k))) e))

-- IMAGE, OPTION
module _ (xs : List ℕ) (o : math.Option (List ℕ)) (e : o ≡ last_octets xs) where
  pub load_of : with_octets o load ≡ parse_load xs
  unfolding parse_load
  load_of = ap (λ (o : math.Option (List ℕ)). with_octets o load) e

  pub read_of : with_octets o read ≡ parse_read xs
  unfolding parse_read
  read_of = ap (λ (o : math.Option (List ℕ)). with_octets o read) e

-- Nothing more, or FORM
module _ (xs : List ℕ) where
  pub another-word : same? (first_word xs) (ascii "older") ≡ false → false ≡ older_alone? xs
  unfolding older_alone?
  another-word e = rw e

  pub older-then : same? (first_word xs) (ascii "older") ≡ true → (ends : Bool) → ends ≡ last? (after_word xs) → ends ≡ older_alone? xs
  unfolding older_alone?
  older-then e ends is = is ∙ sym (ap (λ (b : Bool). b && last? (after_word xs)) e)

  pub save-alone : last? xs ≡ true → save 2 false ≡ parse_save xs
  unfolding parse_save
  save-alone e = sym (ap (λ (b : Bool). cond b (save 2 false) (with_number (form_of (first_word xs)) (save_as (after_word xs)))) e)

  module _ (more : last? xs ≡ false) where
    with-form : (n : Option ℕ) → form_of (first_word xs) ≡ n → with_number n (save_as (after_word xs)) ≡ parse_save xs
    unfolding parse_save
    with-form n e =
        sym (ap (λ (b : Bool). cond b (save 2 false) (with_number (form_of (first_word xs)) (save_as (after_word xs)))) more
        ∙ ap (λ (m : Option ℕ). with_number m (save_as (after_word xs))) e)

    pub save-no-form : form_of (first_word xs) ≡ None → bad ≡ parse_save xs
    save-no-form e = with-form None e

    module _ (n : ℕ) (e₁ : form_of (first_word xs) ≡ Some n) where
      as-form : (last older : Bool) → last? (after_word xs) ≡ last → older_alone? (after_word xs) ≡ older → cond last (save n false) (cond older (save n true) bad) ≡ parse_save xs
      as-form last older e f = sym (ap₂ (λ (a b : Bool). cond a (save n false) (cond b (save n true) bad)) e f) ∙ with-form (Some n) e₁

      pub save-of : last? (after_word xs) ≡ true → save n false ≡ parse_save xs
      save-of e = as-form true (older_alone? (after_word xs)) e refl

      pub save-more : last? (after_word xs) ≡ false → older_alone? (after_word xs) ≡ false → bad ≡ parse_save xs
      save-more e f = as-form false false e f

      pub save-older : last? (after_word xs) ≡ false → older_alone? (after_word xs) ≡ true → save n true ≡ parse_save xs
      save-older e f = as-form false true e f

-- Nothing more, or so many octets
module _ (alone : CommandValue) (n : ℕ) (f : List ℕ → CommandValue) (xs : List ℕ) where
  pub is-alone : last? xs ≡ true → alone ≡ alone_or alone n f xs
  unfolding alone_or
  is-alone e = sym (ap (λ (b : Bool). cond b alone (with_octets (last_octets xs) (of_size n f))) e)

  module _ (more : last? xs ≡ false) where
    with-octets : with_octets (last_octets xs) (of_size n f) ≡ alone_or alone n f xs
    unfolding alone_or
    with-octets = sym (ap (λ (b : Bool). cond b alone (with_octets (last_octets xs) (of_size n f))) more)

    pub no-octets : none ≡ last_octets xs → bad ≡ alone_or alone n f xs
    no-octets e = ap (λ (o : math.Option (List ℕ)). with_octets o (of_size n f)) e ∙ with-octets

    module _ (octets : List ℕ) (e₁ : some octets ≡ last_octets xs) where
      sized : of_size n f octets ≡ alone_or alone n f xs
      sized = ap (λ (o : math.Option (List ℕ)). with_octets o (of_size n f)) e₁ ∙ with-octets

      pub of-another-size : (length octets ≡ n → ⊥) → bad ≡ alone_or alone n f xs
      of-another-size k = sym (cond-false (eqb (length octets) n) (f octets) bad (ne_eqb (length octets) n k)) ∙ sized

      pub of-its-size : length octets ≡ n → f octets ≡ alone_or alone n f xs
      of-its-size e = sym (cond-true (eqb (length octets) n) (f octets) bad (eq-eqb (length octets) n e)) ∙ sized

-- The last number, of LENGTH and N
module _ (xs : List ℕ) (f : ℕ → CommandValue) where
  ended : (b : Bool) (n : Option ℕ) → with_number (cond b n None) f ≡ with_number n (λ k. cond b (f k) bad)
  ended true n = refl
  ended false None = refl
  ended false (Some n) = refl

  pub number-ended : (r : Option ℕ) → r ≡ last_number xs → with_number r f ≡ with_number (number_of (first_word xs)) (λ n. at_end (after_word xs) (f n))
  number-ended r e = ap (λ (n : Option ℕ). with_number n f) e ∙ ended (last? (after_word xs)) (number_of (first_word xs))

pub whole-is : (xs : List ℕ) (r : Option ℕ) → r ≡ last_number xs → with_number r whole ≡ parse_whole xs
unfolding parse_whole
whole-is xs r e = number-ended xs whole r e

pub buffer-is : (xs : List ℕ) (r : Option ℕ) → r ≡ last_number xs → with_number r (λ n. cond (ltb longest_reply n) bad (buffer n)) ≡ parse_buffer xs
unfolding parse_buffer
buffer-is xs r e = number-ended xs (λ n. cond (ltb longest_reply n) bad (buffer n)) r e ∙ swapped (number_of (first_word xs))
  where
    exchange : (a b : Bool) (v : CommandValue) → cond a (cond b bad v) bad ≡ cond b bad (cond a v bad)
    exchange true b v = refl
    exchange false true v = refl
    exchange false false v = refl

    swapped : (n : Option ℕ) → with_number n (λ k. at_end (after_word xs) (cond (ltb longest_reply k) bad (buffer k))) ≡ with_number n (λ k. cond (ltb longest_reply k) bad (at_end (after_word xs) (buffer k)))
    swapped None = refl
    swapped (Some k) = exchange (last? (after_word xs)) (ltb longest_reply k) (buffer k)

-- on or off
module _ (xs : List ℕ) where
  pub selection-no-switch : switch_of (first_word xs) ≡ None → bad ≡ parse_selection xs
  unfolding parse_selection
  selection-no-switch e = rw e refl

  module _ (on : Bool) (e₁ : switch_of (first_word xs) ≡ Some on) where
    pub selection-more : last? (after_word xs) ≡ false → bad ≡ parse_selection xs
    unfolding parse_selection
    selection-more e = rw e₁ (sym (ap (λ (b : Bool). cond b (selection on) bad) e))

    pub selection-of : last? (after_word xs) ≡ true → selection on ≡ parse_selection xs
    unfolding parse_selection
    selection-of e = rw e₁ (sym (ap (λ (b : Bool). cond b (selection on) bad) e))

-- Nothing more.
pub sheet-more : (xs : List ℕ) → last? xs ≡ false → bad ≡ parse_sheet xs
unfolding parse_sheet
sheet-more xs e = sym (ap (λ (b : Bool). cond b sheet bad) e)

pub sheet-of : (xs : List ℕ) → last? xs ≡ true → sheet ≡ parse_sheet xs
unfolding parse_sheet
sheet-of xs e = sym (ap (λ (b : Bool). cond b sheet bad) e)

-- LINES

pub returned : (s : List ℕ) → 0 < length s → get_or s (length s - 1) 0 ≡ 13 → length s - 1 ≡ unreturned s
unfolding unreturned
returned s h e = sym (ap (λ (b : Bool). cond b (length s - 1) (length s)) (eq-eqb (get_or s (length s - 1) 0) 13 e))

pub not-returned : (s : List ℕ) → (get_or s (length s - 1) 0 ≡ 13 → ⊥) → length s ≡ unreturned s
unfolding unreturned
not-returned s k = sym (ap (λ (b : Bool). cond b (length s - 1) (length s)) (ne_eqb (get_or s (length s - 1) 0) 13 k))

pub no_line : (s : List ℕ) → length s ≤ 0 → length s ≡ unreturned s
unfolding unreturned
no_line [] h = refl
no_line (x ∷ xs) h = absurd (omega arith)

module _ (s : List ℕ) where
  pub line-long : longest_line < length s → bad ≡ parse_line s
  unfolding parse_line
  line-long h = rw (lt-ltb longest_line (length s) h) refl

  module _ (short : length s ≤ longest_line) where
    pub line-empty : empty? (first_word s) ≡ true → nothing ≡ parse_line s
    unfolding parse_line
    line-empty e = rw (le-ltb longest_line (length s) short) (sym (ap (λ (b : Bool). cond b nothing (cond (eqb (get_or (first_word s) 0 0) 35) nothing (with_name (name_of (first_word s)) (λ n. parse_words n (after_word s))))) e))

    module _ (some_word : empty? (first_word s) ≡ false) where
      worded : cond (eqb (get_or (first_word s) 0 0) 35) nothing (with_name (name_of (first_word s)) (λ n. parse_words n (after_word s))) ≡ parse_line s
      unfolding parse_line
      worded = rw (le-ltb longest_line (length s) short) (sym (ap (λ (b : Bool). cond b nothing (cond (eqb (get_or (first_word s) 0 0) 35) nothing (with_name (name_of (first_word s)) (λ n. parse_words n (after_word s))))) some_word))

      pub line-comment : get_or (first_word s) 0 0 ≡ 35 → nothing ≡ parse_line s
      line-comment e = sym (ap (λ (b : Bool). cond b nothing (with_name (name_of (first_word s)) (λ n. parse_words n (after_word s)))) (eq-eqb (get_or (first_word s) 0 0) 35 e)) ∙ worded

      named : (n : Option Name) → (get_or (first_word s) 0 0 ≡ 35 → ⊥) → n ≡ name_of (first_word s) → with_name n (λ m. parse_words m (after_word s)) ≡ parse_line s
      named n k e =
          ap (λ (m : Option Name). with_name m (λ n. parse_words n (after_word s))) e
          ∙ sym (ap (λ (b : Bool). cond b nothing (with_name (name_of (first_word s)) (λ n. parse_words n (after_word s)))) (ne_eqb (get_or (first_word s) 0 0) 35 k)) ∙ worded

      pub line-no-name : (get_or (first_word s) 0 0 ≡ 35 → ⊥) → None ≡ name_of (first_word s) → bad ≡ parse_line s
      line-no-name k e = named None k e

      pub line_of : (n : Name) (rest : List ℕ) (v : CommandValue) → (get_or (first_word s) 0 0 ≡ 35 → ⊥) → Some n ≡ name_of (first_word s) → rest ≡ after_word s → v ≡ parse_words n rest → v ≡ parse_line s
      line_of n rest v k is left e = e ∙ ap (λ (l : List ℕ). parse_words n l) left ∙ named (Some n) k is
