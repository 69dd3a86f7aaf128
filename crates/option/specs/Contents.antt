-- What calls look at in an option 220: its requests, its entries, its first name, and the position from which a list goes on.
use Rattle.std.specs.Prelude.{ℕ, Bool, false, cond, ◌&&◌, List, [], ◌∷◌, ◌++◌, eqb}
use Rattle.std.proofs.Math.Option.{Option, some}
use Rattle.option.specs.Values.{Entry, SuboptionValue, request, information, name, unknown, Outcome, refused, accepted}
use Rattle.option.specs.Reading.{read_option}

-- REQUESTS AND ENTRIES

pub record Request : Type 0 where
  pub h : Bool
  pub i : Bool
  pub length : ℕ

-- Rows 6, 7 and 16 are those of the reader of option 220.
abbrev pub refuses? : ℕ → Outcome → Bool
refuses? number (refused n place) = eqb n number
refuses? number (accepted subs) = false

abbrev pub place_in : Outcome → ℕ
place_in (refused n place) = place
place_in (accepted subs) = 0

abbrev pub suboptions : Outcome → List SuboptionValue
suboptions (refused n place) = []
suboptions (accepted subs) = subs

-- "Pieces that a call doesn't name are checked by the reader and have no effect."
abbrev pub requests : List SuboptionValue → List Request
requests [] = []
requests (request h i length ∷ subs) = record { h = h; i = i; length = length } ∷ requests subs
requests (information c s es ∷ subs) = requests subs
requests (name octets ∷ subs) = requests subs
requests (unknown ∷ subs) = requests subs

abbrev pub entries : List SuboptionValue → List Entry
entries [] = []
entries (request h i length ∷ subs) = entries subs
entries (information c s es ∷ subs) = es ++ entries subs
entries (name octets ∷ subs) = entries subs
entries (unknown ∷ subs) = entries subs

abbrev pub requests_in : List ℕ → List Request
requests_in option = requests (suboptions (read_option option))

abbrev pub entries_in : List ℕ → List Entry
entries_in option = entries (suboptions (read_option option))

-- THE NAME OF AN ASK

-- "from the first Name suboption of the ask": its octets, and none where there is no Name.
abbrev pub first_name : List SuboptionValue → List ℕ
first_name [] = []
first_name (request h i length ∷ subs) = first_name subs
first_name (information c s es ∷ subs) = first_name subs
first_name (name octets ∷ subs) = octets
first_name (unknown ∷ subs) = first_name subs

abbrev pub first_name_in : List ℕ → List ℕ
first_name_in option = first_name (suboptions (read_option option))

-- THE POSITION OF A LIST

-- "The position is the network of the last entry of the last Information with c and s set". `earlier`: the one before these entries or suboptions.
abbrev pub last_network : Option ℕ → List Entry → Option ℕ
last_network earlier [] = earlier
last_network earlier (e ∷ es) = last_network (some e.network) es

abbrev pub position : Option ℕ → List SuboptionValue → Option ℕ
position earlier [] = earlier
position earlier (request h i length ∷ subs) = position earlier subs
position earlier (information c s es ∷ subs) = position (cond (c && s) (last_network earlier es) earlier) subs
position earlier (name octets ∷ subs) = position earlier subs
position earlier (unknown ∷ subs) = position earlier subs
