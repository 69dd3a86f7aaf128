-- The suboptions of an option, taken in one after another.
-- Assumes nothing.
use Prim.Native.Nat.{ℕ, ◌+◌, ◌*◌, ◌-◌, ◌≤◌, ◌<◌}
use native.Mathlib.Omega.{arith}
use mathlib.Core.Path.{◌≡◌, refl, sym, ap, ap₂, subst, ◌∙◌}
use mathlib.Core.Bool.{Bool, true, false}
use mathlib.Core.List.{List, [], ◌∷◌, ◌++◌, map, append_assoc, append-nil, map-append}
use mathlib.Core.Option.{Option, none, some}
use lib.ListN.{length, take, length-append, length-map}
use lib.Seq.{take_at}
use Rattle.lists.specs.Put.{put}
use Rattle.lists.specs.Lists.{All}
use Rattle.lists.specs.Walk.{more, stop}
use Rattle.lists.proofs.ListLaws.{all_append}
use Rattle.lists.proofs.FilterLaws.{filter-fewer}
use Rattle.lists.proofs.PutLaws.{put-nothing, put-more, put_front}
use Rattle.option.specs.Values.{longest_option, Entry, SuboptionValue, request, information, name, unknown, refused, accepted}
use Rattle.option.specs.Reading.{End, whole, bad_at, option?, read_option, read_suboption, read_suboptions, ended}
use Rattle.option.specs.Contents.{requests, entries, position, first_name}
use Rattle.option.specs.Answers.{suboption_of, entries_of, InColumns, checked_of}
use Rattle.option.specs.declared.BadSuboption.{BadSuboption as BadOne}
use Rattle.option.specs.declared.OptionFault.TheVariants.{NotTheOption, BadSuboption}
use Rattle.option.specs.declared.Suboption.{Suboption}
use Rattle.option.proofs.EntryLaws.{entries-weight, entries-some}
use Rattle.option.proofs.SuboptionLaws.{suboption-moves, suboptions-more, suboptions-stop, information-entries, name-octets, checked-bad}
use Rattle.option_scan.specs.declared.Contents.{Contents}
use Rattle.std.specs.Prelude.{Ok, Err}
use Rattle.option_scan.specs.Scanned.{Columns, columns, flag_of, asked_position, position_of, ScannedOf, Stands, NamedIn, Long, Reads}
use Rattle.option_scan.specs.Inner.{no_contents, with_suboption, request_column, Small, Forward, Added}
use Rattle.option_scan.proofs.Adding.{requests-append, entries-append, told_position, Counted, Filled, tally-more, lengths-column, flags-column}
use Rattle.option_scan.proofs.Naming.{stands-length, name-stands, named_more}

-- The suboptions before a place are good and taken in, and what is left is to be read from the place on.
pub record Reading (s : List ℕ) (at : ℕ) (m : Contents) (c₀ c : Columns) : Type 0 where
  pub done : List SuboptionValue
  pub start : 3 ≤ at
  pub within : at ≤ length s
  pub read : read_suboptions s 3 ≡ (done ++ (read_suboptions s at).0, (read_suboptions s at).1)
  pub counted : Counted done m
  pub filled : All Filled done
  pub named : Stands s m.name m.name_bytes (first_name done)
  pub fewer : length (requests done) ≤ at
  pub few : 7 * length (entries done) ≤ at - 6
  pub asked_lengths : c.asked_lengths ≡ put c₀.asked_lengths 0 (map (λ q. q.length) (requests done))
  pub asked_h : c.asked_h ≡ put c₀.asked_h 0 (map (λ q. flag_of q.h) (requests done))
  pub networks : c.networks ≡ put c₀.networks 0 (map (λ e. e.network) (entries done))
  pub lengths : c.lengths ≡ put c₀.lengths 0 (map (λ e. e.length) (entries done))

pub reading-none : (s : List ℕ) (at : ℕ) (m : Contents) (c : Columns) → 3 ≤ length s → at ≡ 3 → m ≡ no_contents → Reading s at m c c
reading-none s at m c h place e = subst (λ (at : ℕ). Reading s at m c c) (sym place) (subst (λ (m : Contents). Reading s 3 m c c) (sym e) (record {
  done = [];
  start = omega arith;
  within = h;
  read = refl;
  counted = refl;
  filled = tt;
  named = record { within = omega arith; part = refl };
  fewer = omega arith;
  few = omega arith;
  asked_lengths = sym (put-nothing c.asked_lengths 0);
  asked_h = sym (put-nothing c.asked_h 0);
  networks = sym (put-nothing c.networks 0);
  lengths = sym (put-nothing c.lengths 0);
}))

-- What a suboption that is read needs of the option's bytes.
some-filled : (s : List ℕ) (at : ℕ) (x : SuboptionValue) (next : ℕ) → read_suboption s at ≡ more x next → Filled x
some-filled s at (request h i l) next t = tt
some-filled s at (information c f es) next t =
    let r = information-entries s at c f es next t in
    subst (λ (q : List Entry × Bool). 0 < length q.0) r.1 (entries-some s next (at + 3) r.0 (ap (λ (q : List Entry × Bool). q.1) r.1))
some-filled s at (name o) next t = omega (arith, (name-octets s at o next t).0, stands-length (name-stands s at o next t))
some-filled s at unknown next t = tt

entries-need : (s : List ℕ) (at : ℕ) (x : SuboptionValue) (next n : ℕ) → read_suboption s at ≡ more x next → 3 ≤ at → 7 * n ≤ at - 6 → 7 * (n + length (entries (x ∷ []))) ≤ next - 6
entries-need s at (request h i l) next n t start le = omega (arith, (suboption-moves s at (request h i l) next t).0)
entries-need s at (information c f es) next n t start le =
    let r = information-entries s at c f es next t in
    omega (arith, entries-weight s next (at + 3) (omega (arith, r.0)), ap (λ (q : List Entry × Bool). length q.0) r.1, length-append es [])
entries-need s at (name o) next n t start le = omega (arith, (suboption-moves s at (name o) next t).0)
entries-need s at unknown next n t start le = omega (arith, (suboption-moves s at unknown next t).0)

requests-need : (x : SuboptionValue) → length (requests (x ∷ [])) ≤ 1
requests-need (request h i l) = omega arith
requests-need (information c f es) = omega arith
requests-need (name o) = omega arith
requests-need unknown = omega arith

-- A name that is read starts before its end.
forward : (s : List ℕ) (at : ℕ) (x : SuboptionValue) (next : ℕ) → read_suboption s at ≡ more x next → Forward (suboption_of x at next)
forward s at (request h i l) next t = tt
forward s at (information c f es) next t = tt
forward s at (name o) next t = omega (arith, (name-octets s at o next t).0)
forward s at unknown next t = tt

entries-one : (x : SuboptionValue) → entries (x ∷ []) ≡ entries_of x
entries-one (request h i l) = refl
entries-one (information c f es) = append-nil es
entries-one (name o) = refl
entries-one unknown = refl

-- A column with one part more.
column-more : {A : Type 0} (f : A → ℕ) (l l₁ l₂ : List ℕ) (n : ℕ) (xs ys zs : List A) (vs : List ℕ) → l₁ ≡ put l 0 (map f xs) → n ≡ length xs → vs ≡ map f ys → zs ≡ xs ++ ys → l₂ ≡ put l₁ n vs → l₂ ≡ put l 0 (map f zs)
column-more f l l₁ l₂ n xs ys zs vs e₁ en ev ez e₂ =
    let place : n ≡ 0 + length (map f xs) = omega (arith, length-map xs f) in
    put-more l l₁ l₂ 0 (map f xs) n vs e₁ place e₂
    ∙ ap (put l 0) (ap (λ (ws : List ℕ). map f xs ++ ws) ev ∙ sym (map-append f xs ys) ∙ ap (map f) (sym ez))

module _ (s : List ℕ) (at : ℕ) (m : Contents) (c₀ c : Columns) (h : Reading s at m c₀ c) where
  count-requests : m.requests ≡ length (requests h.done)
  count-requests = ap (λ (m : Contents). m.requests) h.counted

  count_entries : m.entries ≡ length (entries h.done)
  count_entries = ap (λ (m : Contents). m.entries) h.counted

  -- The entries so far are fewer than the bytes.
  pub reading-fewer : m.entries ≤ at
  reading-fewer = omega (arith, count_entries, h.few)

  module _ (x : SuboptionValue) (next : ℕ) (t : read_suboption s at ≡ more x next) (f : Suboption) (e : f ≡ suboption_of x at next) where
    tally-is : Counted (h.done ++ x ∷ []) (with_suboption m f)
    tally-is =
        subst (Counted (h.done ++ x ∷ [])) (sym (ap₂ with_suboption h.counted e))
        (tally-more h.done m.name m.name_bytes x at next (some-filled s at x next t))

    entries-are : 7 * length (entries (h.done ++ x ∷ [])) ≤ next - 6
    entries-are =
        omega (arith, entries-need s at x next (length (entries h.done)) t h.start h.few, ap length (entries-append h.done (x ∷ [])), length-append (entries h.done) (entries (x ∷ [])))

    -- What the sums need to stay within range.
    pub reading_small : length s ≤ longest_option → Small m × ((with_suboption m f).entries < 9223372036854775808) × Forward f
    reading_small short = (
      record {
        requests = omega (arith, count-requests, h.fewer, h.within);
        listing = omega (arith, count-requests, ap (λ (m : Contents). m.listing) h.counted, filter-fewer (λ q. q.i) (requests h.done));
      },
      omega (arith, ap (λ (m : Contents). m.entries) tally-is, entries-are, (suboption-moves s at x next t).1),
      subst Forward (sym e) (forward s at x next t),
    )

    pub reading-more : (r : Contents) (d : Columns)
        → Added m f c.asked_lengths c.asked_h r d.asked_lengths d.asked_h
        → InColumns (entries_of x) m.entries c.networks c.lengths d.networks d.lengths → Reading s next r c₀ d
    reading-more r d added stored =
        let moves = suboption-moves s at x next t in
        let rest = suboptions-more s at h.within x next t in
        let one = entries-one x in
        record {
          done = h.done ++ x ∷ [];
          start = omega (arith, h.start, moves.0);
          within = moves.1;
          read =
              h.read
              ∙ ap (λ (q : List SuboptionValue × End). (h.done ++ q.0, q.1)) rest
              ∙ ap (λ (subs : List SuboptionValue). (subs, (read_suboptions s next).1)) (sym (append_assoc h.done (x ∷ []) (read_suboptions s next).0));
          counted = subst (Counted (h.done ++ x ∷ [])) (sym added.contents) tally-is;
          filled = all_append Filled h.done (x ∷ []) h.filled (some-filled s at x next t, tt);
          named =
              subst (λ (v : Contents). Stands s v.name v.name_bytes (first_name (h.done ++ x ∷ []))) (sym (added.contents ∙ ap (with_suboption m) e))
              (named_more s m h.done h.named h.filled at x next t);
          fewer =
              omega (arith, h.fewer, moves.0, requests-need x, ap length (requests-append h.done (x ∷ [])), length-append (requests h.done) (requests (x ∷ [])));
          few = entries-are;
          asked_lengths =
              column-more (λ q. q.length) _ _ _ _ (requests h.done) (requests (x ∷ [])) _ _ h.asked_lengths count-requests
              (ap (request_column (λ f. f.length)) e ∙ lengths-column x at next) (requests-append h.done (x ∷ [])) added.lengths;
          asked_h =
              column-more (λ q. flag_of q.h) _ _ _ _ (requests h.done) (requests (x ∷ [])) _ _ h.asked_h count-requests
              (ap (request_column (λ f. flag_of f.h)) e ∙ flags-column x at next) (requests-append h.done (x ∷ [])) added.flags;
          networks =
              column-more (λ e. e.network) _ _ _ _ (entries h.done) (entries (x ∷ [])) _ _ h.networks count_entries
              (ap (map (λ e. e.network)) (sym one)) (entries-append h.done (x ∷ [])) stored.0;
          lengths =
              column-more (λ e. e.length) _ _ _ _ (entries h.done) (entries (x ∷ [])) _ _ h.lengths count_entries
              (ap (map (λ e. e.length)) (sym one)) (entries-append h.done (x ∷ [])) stored.1;
        }

-- What is held at the end.
column-scanned : {A : Type 0} (f : A → ℕ) (l l₁ : List ℕ) (n : ℕ) (xs : List A) → l₁ ≡ put l 0 (map f xs) → n ≡ length xs → length xs ≤ length l → take n l₁ ≡ map f xs
column-scanned f l l₁ n xs e en fits =
    let size : length (map f xs) ≡ length xs = length-map xs f in
    ap₂ take (en ∙ sym size) (e ∙ put_front (map f xs) l (omega arith)) ∙ take_at (map f xs) _ _ refl

position-scanned : (p : Option ℕ) → asked_position (told_position p) ≡ p
position-scanned none = refl
position-scanned (some x) = refl

module _ (s : List ℕ) where
  pub read-other : (c : Columns) → option? s ≡ false → Reads s (Err NotTheOption) c
  unfolding read_option
  read-other c h =
      let refusal : read_option s ≡ refused 6 0 = rw h refl in
      record {
        checked = sym (ap checked_of refusal);
        holds = λ m k. absurd cc;
        named = λ m k. absurd cc;
      }

  module _ (at : ℕ) (m : Contents) (c₀ c : Columns) (h : Reading s at m c₀ c) (yes : option? s ≡ true) where
    -- The option reads as its suboptions do.
    read_as : (e : End) → read_suboption s at ≡ stop e → read_option s ≡ ended h.done e
    unfolding read_option
    read_as e t =
        let all : read_suboptions s 3 ≡ (h.done, e) =
        h.read
        ∙ ap (λ (q : List SuboptionValue × End). (h.done ++ q.0, q.1)) (suboptions-stop s at h.within e t)
        ∙ ap (λ (subs : List SuboptionValue). (subs, e)) (append-nil h.done) in
        rw (yes, all)

    pub reading-bad : (bad : BadOne) → read_suboption s at ≡ stop (bad_at bad.fault bad.place) → (d : Columns) → Reads s (Err (BadSuboption bad)) d
    reading-bad bad t d = record {
      checked = sym (ap checked_of (read_as (bad_at bad.fault bad.place) t) ∙ checked-bad h.done (bad_at bad.fault bad.place) bad refl);
      holds = λ m k. absurd cc;
      named = λ m k. absurd cc;
    }

    module _ (short : length s ≤ longest_option) (long : Long c₀) where
      done-scanned : ScannedOf m c h.done
      done-scanned =
          let k = count-requests s at m c₀ c h in
          let l = count_entries s at m c₀ c h in
          let few : 7 * length (entries h.done) ≤ longest_option - 6 = omega (arith, h.few, h.within) in
          record {
            requests = k;
            listing = ap (λ (m : Contents). m.listing) h.counted;
            asked_lengths = λ q. column-scanned (λ q. q.length) _ _ _ (requests h.done) h.asked_lengths k (omega (arith, long.asked_lengths));
            asked_h = λ q. column-scanned (λ q. flag_of q.h) _ _ _ (requests h.done) h.asked_h k (omega (arith, long.asked_h));
            entries = l;
            few = omega arith;
            networks = column-scanned (λ e. e.network) _ _ _ (entries h.done) h.networks l (omega (arith, long.networks));
            lengths = column-scanned (λ e. e.length) _ _ _ (entries h.done) h.lengths l (omega (arith, long.lengths));
            position = ap position_of h.counted ∙ position-scanned (position none h.done);
          }

      pub reading-all : read_suboption s at ≡ stop whole → (ns ls : List ℕ) → (ns ≡ c.networks) × (ls ≡ c.lengths) → Reads s (Ok m) (columns c.asked_lengths c.asked_h ns ls)
      reading-all t ns ls kept =
          let acceptance : read_option s ≡ accepted h.done = read_as whole t in
          let same : columns c.asked_lengths c.asked_h ns ls ≡ c = ap₂ (λ (ns ls : List ℕ). columns c.asked_lengths c.asked_h ns ls) kept.0 kept.1 in
          subst (Reads s (Ok m)) (sym same) (record {
            checked = sym (ap checked_of acceptance);
            holds = λ n k subs f.
                let same : h.done ≡ subs = cc in
                let found : m ≡ n = cc in
                subst (ScannedOf n c) same (subst (λ (n : Contents). ScannedOf n c h.done) found done-scanned);
            named = λ n k subs f.
                let same : h.done ≡ subs = cc in
                let found : m ≡ n = cc in
                subst (λ (subs : List SuboptionValue). NamedIn s n (first_name subs)) same (subst (λ (n : Contents). NamedIn s n (first_name h.done)) found h.named);
          })
