-- How long a list of suboptions is when written, if it can be.
use Rattle.std.specs.Prelude.{ℕ, Bool, cond, ◌&&◌, List, length, leb, Option, Some, None}
use Rattle.lists.specs.Lists.{all?, concat_map}
use Rattle.option.specs.Values.{SuboptionValue}
use Rattle.option.specs.Writing.{suboption_bytes, suboptions_bytes}
use Rattle.option.specs.Writer.{writable?}

-- The length of what is written of an element, if it can be written; and of a list, if all of it can be.
abbrev pub measure_each : {A : Type 0} → (A → Bool) → (A → List ℕ) → A → Option ℕ
measure_each good bytes x = cond (good x) (Some (length (bytes x))) None

unfoldable pub measure_of : {A : Type 0} → (A → Bool) → (A → List ℕ) → List A → Option ℕ
measure_of good bytes l = cond (all? good l) (Some (length (concat_map bytes l))) None

unfoldable pub measure_one : SuboptionValue → Option ℕ
measure_one x = cond (writable? x) (Some (length (suboption_bytes x))) None

unfoldable pub measure_list : List SuboptionValue → Option ℕ
measure_list subs = cond (leb 1 (length subs) && all? writable? subs) (Some (length (suboptions_bytes subs))) None
