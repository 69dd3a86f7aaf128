-- What the private functions of the writer promise each other. Nothing here stands in the promise of a public one.
use Rattle.std.specs.Prelude.{ℕ, ◌+◌, ◌-◌, ◌≤◌, ◌≡◌, true, List, length}
use Rattle.lists.specs.Lists.{all?}
use Rattle.lists.specs.Put.{put}
use Rattle.option.specs.Values.{longest_option, SuboptionValue}
use Rattle.option.specs.Writing.{suboption_bytes, suboptions_bytes}
use Rattle.option.specs.Writer.{writable?}

-- Where the suboptions of an option begin, after Code, Len and the option's flags; and how many bytes they have at most.
abbrev pub suboptions_at : ℕ
suboptions_at = 3

abbrev pub most_bytes : ℕ
most_bytes = longest_option - suboptions_at

-- What the writer knows of a suboption that has been measured, and of a list of them: it can be written, in no more bytes than that.
pub record Fitting (x : SuboptionValue) : Type 0 where
  pub good : writable? x ≡ true
  pub short : length (suboption_bytes x) ≤ most_bytes

pub record FittingList (subs : List SuboptionValue) : Type 0 where
  pub good : all? writable? subs ≡ true
  pub short : length (suboptions_bytes subs) ≤ most_bytes

-- Bytes put at a place, and the place after them.
pub record PutAt (before after : List ℕ) (at next : ℕ) (bytes : List ℕ) : Type 0 where
  pub stored : after ≡ put before at bytes
  pub place : next ≡ at + length bytes
