-- Laws of what is written: lengths, and lists of which one part follows another.
-- Assumes nothing.
use Prim.Native.Nat.{ℕ, ◌+◌, ◌*◌}
use native.Mathlib.Omega.{arith}
use mathlib.Core.Path.{◌≡◌, refl, ◌∙◌}
use mathlib.Core.Bool.{Bool}
use mathlib.Core.List.{List, [], ◌∷◌, ◌++◌}
use lib.ListN.{length, length-append}
use Rattle.lists.specs.Lists.{concat_map}
use Rattle.lists.proofs.ListLaws.{all-every}
use Rattle.lists.proofs.ConcatMapLaws.{concat_map-append, concat_map-one, length-concat_map}
use Rattle.option.specs.Values.{Entry, SuboptionValue, information}
use Rattle.option.specs.Writing.{two_bytes, four_bytes, entry_head, entry_bytes, entries_bytes, information_head, suboption_bytes, suboptions_bytes, option_head, option_bytes}

pub figures-length : (fs : List ℕ) → length (concat_map two_bytes fs) ≡ 2 * length fs
unfolding two_bytes
figures-length fs = length-concat_map two_bytes 2 fs (all-every (λ x. refl) fs)

pub entry-head-length : (network length' : ℕ) (h d : Bool) (stat : ℕ) → length (entry_head network length' h d stat) ≡ 7
unfolding entry_head four_bytes
entry-head-length network length' h d stat = refl

pub entry_length : (e : Entry) → length (entry_bytes e) ≡ 7 + 2 * length e.figures
unfolding entry_bytes
entry_length e =
    let head = entry_head e.network e.length e.h e.d (2 * length e.figures) in
    length-append head (concat_map two_bytes e.figures)
    ∙ omega (arith, entry-head-length e.network e.length e.h e.d (2 * length e.figures), figures-length e.figures)

pub entries_none : entries_bytes [] ≡ []
unfolding entries_bytes
entries_none = refl

pub entries-append : (xs ys : List Entry) → entries_bytes (xs ++ ys) ≡ entries_bytes xs ++ entries_bytes ys
unfolding entries_bytes
entries-append xs ys = concat_map-append entry_bytes xs ys

pub entries-one : (e : Entry) → entries_bytes (e ∷ []) ≡ entry_bytes e
unfolding entries_bytes
entries-one e = concat_map-one entry_bytes e

pub suboptions-none : suboptions_bytes [] ≡ []
unfolding suboptions_bytes
suboptions-none = refl

-- "Repeated suboptions are never joined": what is written of a list is what is written of its parts, one after the other.
pub suboptions-append : (xs ys : List SuboptionValue) → suboptions_bytes (xs ++ ys) ≡ suboptions_bytes xs ++ suboptions_bytes ys
unfolding suboptions_bytes
suboptions-append xs ys = concat_map-append suboption_bytes xs ys

pub suboptions-one : (x : SuboptionValue) → suboptions_bytes (x ∷ []) ≡ suboption_bytes x
unfolding suboptions_bytes
suboptions-one x = concat_map-one suboption_bytes x

pub information-length : (c s : Bool) (es : List Entry) → length (suboption_bytes (information c s es)) ≡ 3 + length (entries_bytes es)
unfolding suboption_bytes information_head
information-length c s es = omega arith

pub option-length : (subs : List SuboptionValue) → length (option_bytes subs) ≡ 3 + length (suboptions_bytes subs)
unfolding option_bytes option_head
option-length subs = omega arith
