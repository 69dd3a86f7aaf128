-- What the private functions promise each other. Nothing here stands in the promise of a public one.
use Rattle.std.specs.Prelude.{ℕ, ◌+◌, ◌-◌, ◌≤◌, ◌<◌, ◌≡◌, cond, ◌&&◌, List, [], ◌∷◌, eqb, Some, None}
use Rattle.lists.specs.Put.{put}
use Rattle.option.specs.declared.{RequestFields.RequestFields, InformationFields.InformationFields, NameFields.NameFields, Suboption.Suboption}
use Rattle.option.specs.declared.Suboption.TheVariants.{Request, Information, Name, Unknown}
use Rattle.option_scan.specs.declared.Contents.{Contents}
use Rattle.option_scan.specs.Scanned.{flag_of}

-- What is counted, with one more suboption.
abbrev pub no_contents : Contents
no_contents = record { requests = 0; listing = 0; entries = 0; position = None; name = 0; name_bytes = 0 }

abbrev pub with_request : Contents → RequestFields → Contents
with_request m f = record {
  requests = m.requests + 1;
  listing = m.listing + flag_of f.i;
  entries = m.entries;
  position = m.position;
  name = m.name;
  name_bytes = m.name_bytes;
}

abbrev pub with_information : Contents → InformationFields → Contents
with_information m f = record {
  requests = m.requests;
  listing = m.listing;
  entries = m.entries + f.count;
  position = cond (f.c && f.s) (Some f.last) m.position;
  name = m.name;
  name_bytes = m.name_bytes;
}

abbrev pub with_name : Contents → NameFields → Contents
with_name m f = record {
  requests = m.requests;
  listing = m.listing;
  entries = m.entries;
  position = m.position;
  name = cond (eqb m.name_bytes 0) f.start m.name;
  name_bytes = cond (eqb m.name_bytes 0) (f.end - f.start) m.name_bytes;
}

abbrev pub with_suboption : Contents → Suboption → Contents
with_suboption m (Request f) = with_request m f
with_suboption m (Information f) = with_information m f
with_suboption m (Name f) = with_name m f
with_suboption m (Unknown f) = m

-- What goes into a column of requests.
abbrev pub request_column : (RequestFields → ℕ) → Suboption → List ℕ
request_column g (Request f) = g f ∷ []
request_column g (Information f) = []
request_column g (Name f) = []
request_column g (Unknown f) = []

-- A suboption is counted, and if it is a request, its length and h go into the columns.
pub record Added (m : Contents) (x : Suboption) (ls hs : List ℕ) (r : Contents) (ls' hs' : List ℕ) : Type 0 where
  pub contents : r ≡ with_suboption m x
  pub lengths : ls' ≡ put ls m.requests (request_column (λ f. f.length) x)
  pub flags : hs' ≡ put hs m.requests (request_column (λ f. flag_of f.h) x)

-- Sums stay within range.
pub record Small (m : Contents) : Type 0 where
  pub requests : m.requests < 9223372036854775808
  pub listing : m.listing ≤ m.requests

-- A name starts before its end.
abbrev pub Forward : Suboption → Type 0
Forward (Request f) = Unit {0}
Forward (Information f) = Unit {0}
Forward (Name f) = f.start ≤ f.end
Forward (Unknown f) = Unit {0}
