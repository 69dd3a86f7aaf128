-- What a line of a script says: the table of commands.
use Rattle.std.specs.Prelude.{ℕ, ◌-◌, Bool, true, false, cond, ◌&&◌, Option, Some, None, List, [], ◌∷◌, length, get_or, ltb, eqb}
use Rattle.std.proofs.Math.Option.{none, some}
use Rattle.std.proofs.Math.Option as math
use Rattle.console_words.specs.declared.PrefixWord.{PrefixWord}
use Rattle.text.specs.Ascii.{ascii}
use Rattle.image_figures.specs.Sheets.{figures_size}
use Rattle.console_words.specs.Words.{first_word, after_word, empty?, last?}
use Rattle.console_words.specs.Numbers.{number_of, flag_of}
use Rattle.console_words.specs.Prefixes.{prefix_of, prefixes_of}
use Rattle.console_words.specs.Octets.{octets_of, last_octets}
use Rattle.console_script.specs.declared.{OptionCall.OptionCall, Name.Name}
use Rattle.console_script.specs.declared.OptionCall.TheVariants.{Ask, Take, List as ListCall, Return}
use Rattle.console_script.specs.declared.Name.TheVariants as name
use Rattle.console_script.specs.Commands.{CommandValue, call, mark, «open», load, save, sheet, read, write, figures, set_figures, counts, set_counts, whole, buffer, selection, nothing, bad, Message, longest_line, longest_reply, counts_size, most_prefixes, with_prefixes}

-- NAMES

-- The same bytes.
unfoldable pub same? : List ℕ → List ℕ → Bool
same? [] [] = true
same? [] (y ∷ ys) = false
same? (x ∷ xs) [] = false
same? (x ∷ xs) (y ∷ ys) = eqb x y && same? xs ys

-- The command that a word names: a call, or another.
unfoldable pub other_name : List ℕ → Option Name
other_name w =
    cond (same? w (ascii "read")) (Some name.Read)
    (cond (same? w (ascii "write")) (Some name.Write)
    (cond (same? w (ascii "figures")) (Some name.Figures)
    (cond (same? w (ascii "counts")) (Some name.Counts)
    (cond (same? w (ascii "whole")) (Some name.Whole)
    (cond (same? w (ascii "buffer")) (Some name.Buffer)
    (cond (same? w (ascii "selection")) (Some name.Selection) None))))))

unfoldable pub name_of : List ℕ → Option Name
name_of w =
    cond (same? w (ascii "ask")) (Some (name.Call Ask))
    (cond (same? w (ascii "take")) (Some (name.Call Take))
    (cond (same? w (ascii "list")) (Some (name.Call ListCall))
    (cond (same? w (ascii "return")) (Some (name.Call Return))
    (cond (same? w (ascii "mark")) (Some name.Mark)
    (cond (same? w (ascii "open")) (Some name.Open)
    (cond (same? w (ascii "load")) (Some name.Load)
    (cond (same? w (ascii "save")) (Some name.Save)
    (cond (same? w (ascii "sheet")) (Some name.Sheet) (other_name w)))))))))

-- ARGUMENTS: each of xs, what is left of a line behind the name.

abbrev pub with_number : Option ℕ → (ℕ → CommandValue) → CommandValue
with_number (Some n) f = f n
with_number None f = bad

abbrev pub with_prefix : Option PrefixWord → (ℕ → ℕ → CommandValue) → CommandValue
with_prefix (Some p) f = f p.network p.length
with_prefix None f = bad

abbrev pub with_octets : math.Option (List ℕ) → (List ℕ → CommandValue) → CommandValue
with_octets none f = bad
with_octets (some octets) f = f octets

-- A command whose last word has been read.
abbrev pub at_end : List ℕ → CommandValue → CommandValue
at_end xs v = cond (last? xs) v bad

abbrev pub with_message : math.Option Message → (List ℕ → math.Option (List ℕ) → CommandValue) → CommandValue
with_message none f = bad
with_message (some m) f = f m.0 m.1

-- "`list` and `return` never have it."
abbrev pub carries? : OptionCall → Bool
carries? Ask = true
carries? Take = true
carries? ListCall = false
carries? Return = false

-- "Without HEX the message came without option 118; `-` is an option 118 of no bytes".
abbrev pub alone : math.Option (List ℕ) → math.Option Message
alone none = none
alone (some option) = some (option, none)

abbrev pub both_octets : math.Option (List ℕ) → math.Option (List ℕ) → math.Option Message
both_octets (some option) (some carried) = some (option, some carried)
both_octets (some option) none = none
both_octets none o = none

-- OPTION [HEX]
unfoldable pub message_of : OptionCall → List ℕ → math.Option Message
message_of c xs =
    cond (last? (after_word xs)) (alone (octets_of (first_word xs)))
    (cond (carries? c) (both_octets (octets_of (first_word xs)) (last_octets (after_word xs))) none)

-- STATION NOW OPTION [HEX]
unfoldable pub parse_call : OptionCall → List ℕ → CommandValue
parse_call c xs =
    with_number (number_of (first_word xs)) (λ client.
    with_number (number_of (first_word (after_word xs))) (λ time.
    with_message (message_of c (after_word (after_word xs))) (λ option carried. call c client time option carried)))

-- NOW PREFIX D
unfoldable pub parse_mark : List ℕ → CommandValue
parse_mark xs =
    with_number (number_of (first_word xs)) (λ time.
    with_prefix (prefix_of (first_word (after_word xs))) (λ network len.
    with_number (flag_of (first_word (after_word (after_word xs)))) (λ d.
    at_end (after_word (after_word (after_word xs))) (mark time network len d))))

-- TERM DEFAULT START PREFIX.., "DEFAULT below 256"
unfoldable pub parse_open : List ℕ → CommandValue
parse_open xs =
    with_number (number_of (first_word xs)) (λ term.
    with_number (number_of (first_word (after_word xs))) (λ len.
    cond (ltb 255 len) bad
    (with_number (number_of (first_word (after_word (after_word xs)))) (λ start.
    with_prefixes (prefixes_of most_prefixes (after_word (after_word (after_word xs)))) («open» term len start)))))

-- IMAGE
unfoldable pub parse_load : List ℕ → CommandValue
parse_load xs = with_octets (last_octets xs) load

-- FORM: the word 1 or the word 2.
unfoldable pub form_of : List ℕ → Option ℕ
form_of w = cond (same? w (ascii "1")) (Some 1) (cond (same? w (ascii "2")) (Some 2) None)

-- The word older, and no further one.
unfoldable pub older_alone? : List ℕ → Bool
older_alone? xs = same? (first_word xs) (ascii "older") && last? (after_word xs)

-- Nothing more, FORM, or FORM older: "`save` and `save 2` write the second form, `save 1` the first"; "`save 1 older`, `save 2 older`: saved for an older desk
-- (`save older` is an error)".
abbrev pub save_as : List ℕ → ℕ → CommandValue
save_as xs form = cond (last? xs) (save form false) (cond (older_alone? xs) (save form true) bad)

unfoldable pub parse_save : List ℕ → CommandValue
parse_save xs = cond (last? xs) (save 2 false) (with_number (form_of (first_word xs)) (save_as (after_word xs)))

-- OPTION
unfoldable pub parse_read : List ℕ → CommandValue
parse_read xs = with_octets (last_octets xs) read

-- Nothing more, or so many octets.
abbrev pub of_size : ℕ → (List ℕ → CommandValue) → List ℕ → CommandValue
of_size n f octets = cond (eqb (length octets) n) (f octets) bad

unfoldable pub alone_or : CommandValue → ℕ → (List ℕ → CommandValue) → List ℕ → CommandValue
alone_or alone n f xs = cond (last? xs) alone (with_octets (last_octets xs) (of_size n f))

-- Nothing more, or SHEET: "an error if they are not exactly as many as the sheet has"
abbrev pub parse_figures : List ℕ → CommandValue
parse_figures xs = alone_or figures figures_size set_figures xs

-- Nothing more, or COUNTS: "an error if they are not 368"
abbrev pub parse_counts : List ℕ → CommandValue
parse_counts xs = alone_or counts counts_size set_counts xs

-- LENGTH, "any number below 2^32"
unfoldable pub parse_whole : List ℕ → CommandValue
parse_whole xs = with_number (number_of (first_word xs)) (λ n. at_end (after_word xs) (whole n))

-- N, "0 to 1,024"
unfoldable pub parse_buffer : List ℕ → CommandValue
parse_buffer xs = with_number (number_of (first_word xs)) (λ n. cond (ltb longest_reply n) bad (at_end (after_word xs) (buffer n)))

-- The word on or the word off.
unfoldable pub switch_of : List ℕ → Option Bool
switch_of w = cond (same? w (ascii "on")) (Some true) (cond (same? w (ascii "off")) (Some false) None)

abbrev pub with_switch : Option Bool → (Bool → CommandValue) → CommandValue
with_switch (Some on) f = f on
with_switch None f = bad

-- "`selection on`, `selection off`"
unfoldable pub parse_selection : List ℕ → CommandValue
parse_selection xs = with_switch (switch_of (first_word xs)) (λ on. at_end (after_word xs) (selection on))

-- Nothing more.
unfoldable pub parse_sheet : List ℕ → CommandValue
parse_sheet xs = at_end xs sheet

abbrev pub parse_words : Name → List ℕ → CommandValue
parse_words (name.Call c) xs = parse_call c xs
parse_words name.Mark xs = parse_mark xs
parse_words name.Open xs = parse_open xs
parse_words name.Load xs = parse_load xs
parse_words name.Save xs = parse_save xs
parse_words name.Sheet xs = parse_sheet xs
parse_words name.Read xs = parse_read xs
parse_words name.Write xs = write xs
parse_words name.Figures xs = parse_figures xs
parse_words name.Counts xs = parse_counts xs
parse_words name.Whole xs = parse_whole xs
parse_words name.Buffer xs = parse_buffer xs
parse_words name.Selection xs = parse_selection xs

abbrev pub with_name : Option Name → (Name → CommandValue) → CommandValue
with_name (Some n) f = f n
with_name None f = bad

-- LINES

-- "a carriage return before it is ignored": how many bytes of a line are left without one (13) at its end.
unfoldable pub unreturned : List ℕ → ℕ
unreturned s = cond (eqb (get_or s (length s - 1) 0) 13) (length s - 1) (length s)

-- "A line with no word, or whose first word begins with #, is passed over"; "Longest line: 100,000 bytes."
unfoldable pub parse_line : List ℕ → CommandValue
parse_line s =
    cond (ltb longest_line (length s)) bad
    (cond (empty? (first_word s)) nothing
    (cond (eqb (get_or (first_word s) 0 0) 35) nothing
    (with_name (name_of (first_word s)) (λ n. parse_words n (after_word s)))))
