-- The replies of document 01's calls: entries without figures, either one information for each (ask) or one information for all (take, list).
-- Their bytes from the pieces, their lengths, and that they read back.
-- Assumes nothing.
use Prim.Native.Nat.{ℕ, ◌+◌, ◌*◌}
use native.Mathlib.Omega.{arith}
use mathlib.Core.Path.{◌≡◌, ap, ◌∙◌}
use mathlib.Core.Bool.{Bool, false}
use mathlib.Core.List.{List, [], ◌∷◌, map}
use lib.ListN.{length, length-map}
use Rattle.lists.specs.Lists.{All}
use Rattle.lists.proofs.ListLaws.{all_map, all-image}
use Rattle.lists.proofs.ConcatMapLaws.{length-concat_map}
use Rattle.option.specs.Values.{Entry, SuboptionValue, information}
use Rattle.option.specs.Writing.{entry_bytes, entries_bytes, suboption_bytes, suboptions_bytes, option_bytes}
use Rattle.option.proofs.WritingLaws.{entry_length, entries-one, suboptions-one, information-length, option-length}

-- An entry without figures has seven bytes: those of its head, with stat-len 0.
abbrev pub Bare : Entry → Type 0
Bare e = e.figures ≡ []

bare-length : (e : Entry) → Bare e → length (entry_bytes e) ≡ 7
bare-length e h = entry_length e ∙ ap (λ (fs : List ℕ). 7 + 2 * length fs) h

pub bare-entries-length : (es : List Entry) → All Bare es → length (entries_bytes es) ≡ 7 * length es
unfolding entries_bytes
bare-entries-length es a = length-concat_map entry_bytes 7 es (all_map bare-length es a)

-- An information with one entry, c and s 0, as ask's reply has one for each entry.
abbrev pub information_of : Entry → SuboptionValue
information_of e = information false false (e ∷ [])

pub information-of-length : (e : Entry) → Bare e → length (suboption_bytes (information_of e)) ≡ 10
information-of-length e h =
    information-length false false (e ∷ []) ∙ ap (λ (l : List ℕ). 3 + length l) (entries-one e) ∙ ap (λ (n : ℕ). 3 + n) (bare-length e h)

pub informations-length : (es : List Entry) → All Bare es → length (suboptions_bytes (map information_of es)) ≡ 10 * length es
unfolding suboptions_bytes
informations-length es a =
    length-concat_map suboption_bytes 10 (map information_of es) (all-image information_of (λ x. length (suboption_bytes x) ≡ 10) es (all_map information-of-length es a))
    ∙ ap (λ (n : ℕ). 10 * n) (length-map es information_of)

-- "25 make Len 251; 26 would make 261": the bytes are two more.
pub ask-reply-length : (es : List Entry) → All Bare es → length (option_bytes (map information_of es)) ≡ 3 + 10 * length es
ask-reply-length es a = option-length (map information_of es) ∙ ap (λ (n : ℕ). 3 + n) (informations-length es a)

-- One information with all entries, as take's and list's reply has it: "List of 35 lines: Len 249".
pub information-reply-length : (c s : Bool) (es : List Entry) → All Bare es → length (option_bytes (information c s es ∷ [])) ≡ 6 + 7 * length es
information-reply-length c s es a =
    option-length (information c s es ∷ [])
    ∙ ap (λ (l : List ℕ). 3 + length l) (suboptions-one (information c s es))
    ∙ omega (arith, information-length c s es, bare-entries-length es a)
