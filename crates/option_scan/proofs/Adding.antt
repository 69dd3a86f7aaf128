-- What is counted of suboptions, and what one suboption more adds.
-- Assumes nothing.
use Prim.Native.Nat.{ℕ, ◌+◌, ◌<◌}
use native.Mathlib.Omega.{arith}
use mathlib.Core.Path.{◌≡◌, refl, sym, ap, subst, ◌∙◌}
use mathlib.Core.Bool.{Bool, true, false, cond, ◌&&◌}
use mathlib.Core.List.{List, [], ◌∷◌, ◌++◌, map, append_assoc, append-nil}
use mathlib.Core.Option.{Option, none, some, get_or}
use lib.ListN.{length, set, length-append}
use Rattle.lists.specs.Lists.{filter}
use Rattle.lists.specs.Put.{put}
use Rattle.lists.proofs.PutLaws.{put-nothing, put_one}
use Rattle.lists.proofs.FilterLaws.{filter-append}
use Rattle.option.specs.Values.{Entry, SuboptionValue, request, information, name, unknown}
use Rattle.option.specs.Contents.{Request, requests, entries, last_network, position}
use Rattle.option.specs.Answers.{suboption_of, last_of}
use Rattle.option.specs.declared.RequestFields.{RequestFields}
use Rattle.option.specs.declared.Suboption.{Suboption}
use Rattle.option_scan.specs.declared.Contents.{Contents}
use Rattle.std.specs.Prelude.{Option as Maybe, Some, None}
use Rattle.std.specs.Int.{from_bool}
use Rattle.option_scan.specs.Scanned.{flag_of}
use Rattle.option_scan.specs.Inner.{with_suboption, request_column, Added}

-- What suboptions have, one after the other.
pub requests-append : (xs ys : List SuboptionValue) → requests (xs ++ ys) ≡ requests xs ++ requests ys
requests-append [] ys = refl
requests-append (request h i l ∷ xs) ys = ap (λ (qs : List Request). record { h = h; i = i; length = l } ∷ qs) (requests-append xs ys)
requests-append (information c s es ∷ xs) ys = requests-append xs ys
requests-append (name o ∷ xs) ys = requests-append xs ys
requests-append (unknown ∷ xs) ys = requests-append xs ys

pub entries-append : (xs ys : List SuboptionValue) → entries (xs ++ ys) ≡ entries xs ++ entries ys
entries-append [] ys = refl
entries-append (request h i l ∷ xs) ys = entries-append xs ys
entries-append (information c s es ∷ xs) ys = ap (λ (fs : List Entry). es ++ fs) (entries-append xs ys) ∙ sym (append_assoc es (entries xs) (entries ys))
entries-append (name o ∷ xs) ys = entries-append xs ys
entries-append (unknown ∷ xs) ys = entries-append xs ys

position-append : (p : Option ℕ) (xs ys : List SuboptionValue) → position p (xs ++ ys) ≡ position (position p xs) ys
position-append p [] ys = refl
position-append p (request h i l ∷ xs) ys = position-append p xs ys
position-append p (information c s es ∷ xs) ys = position-append (cond (c && s) (last_network p es) p) xs ys
position-append p (name o ∷ xs) ys = position-append p xs ys
position-append p (unknown ∷ xs) ys = position-append p xs ys

-- What is counted of suboptions.
abbrev pub told_position : Option ℕ → Maybe ℕ
told_position none = None
told_position (some x) = Some x

abbrev pub tally : List Request → List Entry → Option ℕ → ℕ → ℕ → Contents
tally qs es p a n = record {
  requests = length qs;
  listing = length (filter (λ q. q.i) qs);
  entries = length es;
  position = told_position p;
  name = a;
  name_bytes = n;
}

-- Where the name stands is told apart from this: it is no matter of the suboptions' values.
abbrev pub tally_of : List SuboptionValue → ℕ → ℕ → Contents
tally_of subs a n = tally (requests subs) (entries subs) (position none subs) a n

abbrev pub Counted : List SuboptionValue → Contents → Type 0
Counted subs m = m ≡ tally_of subs m.name m.name_bytes

tally-append : (subs : List SuboptionValue) (x : SuboptionValue) (a n : ℕ)
    → tally_of (subs ++ x ∷ []) a n ≡ tally (requests subs ++ requests (x ∷ [])) (entries subs ++ entries (x ∷ [])) (position (position none subs) (x ∷ [])) a n
tally-append subs x a n = rw (requests-append subs (x ∷ []), entries-append subs (x ∷ []), position-append none subs (x ∷ []))

-- One request more.
count-one : (i : Bool) (q : Request) → length (cond i (q ∷ []) []) ≡ flag_of i
count-one true q = refl
count-one false q = refl

listing-more : (qs : List Request) (q : Request) → length (filter (λ q. q.i) (qs ++ q ∷ [])) ≡ length (filter (λ q. q.i) qs) + flag_of q.i
listing-more qs q =
    ap length (filter-append (λ q. q.i) qs (q ∷ []))
    ∙ length-append (filter (λ q. q.i) qs) (filter (λ q. q.i) (q ∷ []))
    ∙ ap (λ (n : ℕ). length (filter (λ q. q.i) qs) + n) (count-one q.i q)

-- One information more: its last entry is the position, if it has c and s.
last_some : (x : ℕ) (es : List Entry) → told_position (last_network (some x) es) ≡ Some (get_or (last_network (some x) es) 0)
last_some x [] = refl
last_some x (e ∷ es) = last_some e.network es

position-more : (b : Bool) (p : Option ℕ) (es : List Entry) → 0 < length es → cond b (Some (last_of es)) (told_position p) ≡ told_position (cond b (last_network p es) p)
position-more true p [] h = absurd (omega arith)
position-more true p (e ∷ es) h = sym (last_some e.network es)
position-more false p es h = refl

-- An information has an entry, and a name an octet.
abbrev pub Filled : SuboptionValue → Type 0
Filled (request h i length) = Unit {0}
Filled (information c s es) = 0 < length es
Filled (name octets) = 0 < length octets
Filled unknown = Unit {0}

pub tally-more : (subs : List SuboptionValue) (a n : ℕ) (x : SuboptionValue) (at next : ℕ) → Filled x → Counted (subs ++ x ∷ []) (with_suboption (tally_of subs a n) (suboption_of x at next))
tally-more subs a n (request h i l) at next k =
    let qs : List Request = requests subs in
    let q : Request = record { h = h; i = i; length = l } in
    sym (tally-append subs (request h i l) a n
    ∙ rw (length-append qs (q ∷ []), listing-more qs q, append-nil (entries subs)))
tally-more subs a n (information c s es) at next k =
    let p : Option ℕ = position none subs in
    sym (tally-append subs (information c s es) a n
    ∙ rw (append-nil (requests subs), append-nil es, length-append (entries subs) es, ← position-more (c && s) p es k))
tally-more subs a n (name o) at next k = sym (tally-append subs (name o) _ _ ∙ rw (append-nil (requests subs), append-nil (entries subs)))
tally-more subs a n unknown at next k = sym (tally-append subs unknown a n ∙ rw (append-nil (requests subs), append-nil (entries subs)))

-- What goes into the columns of requests.
pub lengths-column : (x : SuboptionValue) (at next : ℕ) → request_column (λ f. f.length) (suboption_of x at next) ≡ map (λ q. q.length) (requests (x ∷ []))
lengths-column (request h i l) at next = refl
lengths-column (information c s es) at next = refl
lengths-column (name o) at next = refl
lengths-column unknown at next = refl

pub flags-column : (x : SuboptionValue) (at next : ℕ) → request_column (λ f. flag_of f.h) (suboption_of x at next) ≡ map (λ q. flag_of q.h) (requests (x ∷ []))
flags-column (request h i l) at next = refl
flags-column (information c s es) at next = refl
flags-column (name o) at next = refl
flags-column unknown at next = refl

-- A flag as the code makes it a number.
pub flag-is : (b : Bool) → from_bool b ≡ flag_of b
flag-is true = refl
flag-is false = refl

-- A value that is stored, by another name.
pub stored_one : (l l' : List ℕ) (n v w : ℕ) → l' ≡ set l n v → v ≡ w → l' ≡ put l n (w ∷ [])
stored_one l l' n v w e ev = e ∙ ap (set l n) ev ∙ sym (put_one l n w)

-- A suboption by another name; and one that is no request.
abbrev NoRequest : Suboption → Type 0
NoRequest x = (g : RequestFields → ℕ) → request_column g x ≡ []

module _ {m r : Contents} {ls hs ls' hs' : List ℕ} where
  pub added-as : {x y : Suboption} → x ≡ y → Added m y ls hs r ls' hs' → Added m x ls hs r ls' hs'
  added-as e h = subst (λ (x : Suboption). Added m x ls hs r ls' hs') (sym e) h

pub added_none : {m r : Contents} {ls hs : List ℕ} (x : Suboption) → NoRequest x → r ≡ with_suboption m x → Added m x ls hs r ls hs
added_none {m} {r} {ls} {hs} x none_of e = record {
  contents = e;
  lengths = sym (ap (put ls m.requests) (none_of (λ f. f.length)) ∙ put-nothing ls m.requests);
  flags = sym (ap (put hs m.requests) (none_of (λ f. flag_of f.h)) ∙ put-nothing hs m.requests);
}
