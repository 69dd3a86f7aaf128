-- The bytes of a reply: an option with one information, head by head and entry by entry.
-- Assumes nothing.
use Prim.Native.Nat.{ℕ, ◌+◌, ◌*◌}
use mathlib.Core.Path.{◌≡◌, refl, sym, ap, ap₂, ◌∙◌}
use mathlib.Core.Bool.{Bool}
use mathlib.Core.List.{List, [], ◌∷◌, ◌++◌, map, append-nil, append_assoc}
use native.Mathlib.Omega.{arith}
use lib.ListN.{length, length-append, length-map}
use Rattle.lists.specs.Lists.{concat_map}
use Rattle.lists.specs.Put.{put}
use Rattle.lists.proofs.ListLaws.{all-every, all-image}
use Rattle.lists.proofs.ConcatMapLaws.{concat_map-append, concat_map-one, length-concat_map}
use Rattle.lists.proofs.MapLaws.{map-append}
use Rattle.lists.proofs.PutLaws.{put-nothing, put-more, put-before}
use Rattle.option.specs.Values.{Entry, information}
use Rattle.option.specs.Writing.{four_bytes, entry_head, entry_bytes, entries_bytes, information_head, suboption_bytes, suboptions_bytes, option_head, option_bytes}
use Rattle.table.specs.declared.Lease.{Lease}
use Rattle.option_reply.specs.Reply.{reply_bytes, entry_of}

-- ENTRIES

abbrev pub lease_bytes : Lease → List ℕ
lease_bytes x = entry_head x.network x.length x.h x.d 0

entry-bytes : (x : Lease) → entry_bytes (entry_of x) ≡ lease_bytes x
unfolding entry_bytes
entry-bytes x = append-nil (entry_head x.network x.length x.h x.d 0)

entry_length : (x : Lease) → length (entry_bytes (entry_of x)) ≡ 7
unfolding entry_head four_bytes
entry_length x = ap length (entry-bytes x)

pub entries-length : (xs : List Lease) → length (entries_bytes (map entry_of xs)) ≡ 7 * length xs
unfolding entries_bytes
entries-length xs =
    length-concat_map entry_bytes 7 (map entry_of xs) (all-image entry_of (λ (e : Entry). length (entry_bytes e) ≡ 7) xs (all-every entry_length xs))
    ∙ ap (λ (n : ℕ). 7 * n) (length-map xs entry_of)

-- One entry more.
pub entries-and-one : (es : List Entry) (x : Lease) → entries_bytes (es ++ (entry_of x ∷ [])) ≡ entries_bytes es ++ lease_bytes x
unfolding entries_bytes
entries-and-one es x =
    concat_map-append entry_bytes es (entry_of x ∷ []) ∙ ap (λ (l : List ℕ). concat_map entry_bytes es ++ l) (concat_map-one entry_bytes (entry_of x) ∙ entry-bytes x)

pub entries-snoc : (xs : List Lease) (x : Lease) → entries_bytes (map entry_of (xs ++ x ∷ [])) ≡ entries_bytes (map entry_of xs) ++ lease_bytes x
entries-snoc xs x = ap entries_bytes (map-append entry_of xs (x ∷ [])) ∙ entries-and-one (map entry_of xs) x

-- No entries.
pub entries_none : (xs : List Lease) (l : List ℕ) → length xs ≡ 0 → put l 6 (entries_bytes (map entry_of xs)) ≡ l
unfolding entries_bytes
entries_none [] l e = put-nothing l 6
entries_none (x ∷ xs) l e = absurd (omega arith)

-- THE WHOLE REPLY

information-length : (n : ℕ) (c s : Bool) → length (information_head n c s) ≡ 3
unfolding information_head
information-length n c s = refl

pub reply-parts : (c s : Bool) (xs : List Lease)
    → reply_bytes c s xs ≡ (option_head (7 * length xs + 4) ++ information_head (7 * length xs + 1) c s) ++ entries_bytes (map entry_of xs)
unfolding reply_bytes option_bytes suboptions_bytes suboption_bytes
reply-parts c s xs =
    let es : List ℕ = entries_bytes (map entry_of xs) in
    let inner : 1 + length es ≡ 7 * length xs + 1 = omega (arith, entries-length xs) in
    let head : List ℕ = information_head (7 * length xs + 1) c s in
    let sub : concat_map suboption_bytes (information c s (map entry_of xs) ∷ []) ≡ head ++ es =
    concat_map-one suboption_bytes (information c s (map entry_of xs)) ∙ ap (λ (n : ℕ). information_head n c s ++ es) inner in
    let outer : 1 + length (concat_map suboption_bytes (information c s (map entry_of xs) ∷ [])) ≡ 7 * length xs + 4 =
    omega (arith, ap length sub, length-append head es, information-length (7 * length xs + 1) c s, entries-length xs) in
    ap₂ (λ (n : ℕ) (l : List ℕ). option_head n ++ l) outer sub ∙ sym (append_assoc (option_head (7 * length xs + 4)) head es)

pub heads-length : (n m : ℕ) (c s : Bool) → length (option_head n ++ information_head m c s) ≡ 6
unfolding option_head information_head
heads-length n m c s = refl

head-length : (n : ℕ) → length (option_head n) ≡ 3
unfolding option_head
head-length n = refl

pub reply-length : (c s : Bool) (xs : List Lease) → length (reply_bytes c s xs) ≡ 7 * length xs + 6
reply-length c s xs =
    ap length (reply-parts c s xs)
    ∙ length-append (option_head (7 * length xs + 4) ++ information_head (7 * length xs + 1) c s) (entries_bytes (map entry_of xs))
    ∙ omega (arith, heads-length (7 * length xs + 4) (7 * length xs + 1) c s, entries-length xs)

-- The entries first, and then the heads before them.
pub heads-last : (c s : Bool) (xs : List Lease) (n : ℕ) → n ≡ length xs → (l l₁ l₂ : List ℕ) → l₁ ≡ put l 6 (entries_bytes (map entry_of xs))
    → l₂ ≡ put (put l₁ 0 (option_head (7 * n + 4))) 3 (information_head (7 * n + 1) c s) → l₂ ≡ put l 0 (reply_bytes c s xs)
heads-last c s xs n k l l₁ l₂ e₁ e₂ =
    let heads : List ℕ = option_head (7 * n + 4) ++ information_head (7 * n + 1) c s in
    let es : List ℕ = entries_bytes (map entry_of xs) in
    let three : 3 ≡ 0 + length (option_head (7 * n + 4)) = omega (arith, head-length (7 * n + 4)) in
    let six : 6 ≡ 0 + length heads = omega (arith, heads-length (7 * n + 4) (7 * n + 1) c s) in
    put-more l₁ (put l₁ 0 (option_head (7 * n + 4))) l₂ 0 (option_head (7 * n + 4)) 3 (information_head (7 * n + 1) c s) refl three e₂
    ∙ ap (λ (m : List ℕ). put m 0 heads) (e₁ ∙ ap (λ (at : ℕ). put l at es) six)
    ∙ put-before heads l 0 es
    ∙ ap (put l 0) (ap (λ (m : ℕ). (option_head (7 * m + 4) ++ information_head (7 * m + 1) c s) ++ es) k ∙ sym (reply-parts c s xs))
