-- The list of suboptions that the writer's argument holds.
use Rattle.std.specs.Prelude.{ℕ, ◌+◌, ◌-◌, cond, List, [], ◌∷◌, map, take, drop, replicate, leb}
use Rattle.option.specs.Values.{Entry, SuboptionValue, request, information, name, unknown}
use Rattle.option_entry.specs.declared.{EntryFields.EntryFields, Figures.Figures}
use Rattle.option_measure.specs.declared.{Item.Item, InformationItem.InformationItem, NameItem.NameItem, SuboptionList.SuboptionList}
use Rattle.option_measure.specs.declared.Item.TheVariants.{Request, Information, Name, Unknown}

-- How many suboptions, entries and octets the argument has room for. No option that can be written has more.
abbrev pub item_slots : ℕ
item_slots = 96

abbrev pub entry_slots : ℕ
entry_slots = 64

abbrev pub octet_slots : ℕ
octet_slots = 256

-- As many figures as are counted; those past the third, of which nothing is held, are 0. (More than three are never written.)
unfoldable pub figures_in : Figures → List ℕ
figures_in f = take f.count (f.high_water.0 ∷ f.in_use.0 ∷ f.unusable.0 ∷ replicate (f.count - 3) 0)

unfoldable pub entry_of : EntryFields → Entry
entry_of e = record { network = e.network; length = e.length; h = e.h; d = e.d; figures = figures_in e.figures }

-- `count` elements from `first` on.
abbrev pub part : {A : Type 0} → ℕ → ℕ → List A → List A
part first count l = take count (drop first l)

-- What an item stands for. One that points outside the arrays is no suboption: it counts as an unknown one, which is never written.
unfoldable pub information_in : List EntryFields → InformationItem → SuboptionValue
information_in entries f =
    cond (leb (f.first + f.count) entry_slots) (information f.c f.s (map entry_of (part f.first f.count entries))) unknown

unfoldable pub name_in : List ℕ → NameItem → SuboptionValue
name_in octets n = cond (leb (n.first + n.count) octet_slots) (name (part n.first n.count octets)) unknown

abbrev pub value_of : List EntryFields → List ℕ → Item → SuboptionValue
value_of entries octets (Request r) = request r.h r.i r.length
value_of entries octets (Information f) = information_in entries f
value_of entries octets (Name n) = name_in octets n
value_of entries octets Unknown = unknown

-- The first `count` items; a count above what the array has is no list: it stands for none at all.
unfoldable pub listed : List Item → ℕ → List EntryFields → List ℕ → List SuboptionValue
listed items count entries octets = cond (leb count item_slots) (map (value_of entries octets) (take count items)) []

abbrev pub suboptions_of : SuboptionList → List SuboptionValue
suboptions_of l = listed l.items l.count l.entries l.octets
