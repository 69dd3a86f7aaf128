-- Laws of an image that goes from one form to the other: a record, the leases, the head with the pools, and the whole.
-- Assumes nothing.
use Prim.Native.Nat.{ℕ, ◌+◌, ◌*◌, ◌/◌, ◌%◌, ◌≤◌, ◌<◌}
use native.Mathlib.Omega.{arith}
use mathlib.Core.Path.{◌≡◌, refl, sym, ap, ap₂, ◌∙◌}
use mathlib.Core.Bool.{true, not}
use mathlib.Core.List.{List, [], ◌∷◌, ◌++◌, append_assoc, append-nil}
use lib.ListN.{length, set, get_or, take, drop, length-append, length-drop}
use lib.Seq.{take_at, take_all, drop_at, drop-drop, length-take-le}
use Rattle.lists.specs.Lists.{All, concat_map}
use Rattle.lists.specs.Put.{put}
use Rattle.lists.proofs.Tests.{all?-to}
use Rattle.lists.proofs.IndexLaws.{all-at}
use Rattle.lists.proofs.FilterLaws.{filter-all}
use Rattle.lists.proofs.DropLaws.{drop_at as list_at}
use Rattle.lists.proofs.ConcatMapLaws.{concat_map-drop}
use Rattle.lists.proofs.PutLaws.{put-nothing, put_one, put-append, put-before, put-more, put_front}
use Rattle.names.specs.declared.Name.{Name}
use Rattle.names.specs.Names.{no_name, unnamed?, octets, without_zeros, name_octets}
use Rattle.names.proofs.NameLaws.{unnamed-to}
use Rattle.table.specs.declared.Lease.{Lease}
use Rattle.table.specs.declared.LeaseTable.{LeaseTable}
use Rattle.table.specs.Table.{no_lease, empty?}
use Rattle.image.specs.declared.Form.{Form}
use Rattle.image.specs.declared.Form.TheVariants.{First, Second}
use Rattle.image.specs.Image.{le16, le32, head_size, head_kind, head_record_in, pool_size, pool_record, lease_size, lease_size_in, first_lease_size, lease_kind, lease_record_in, used_pools, used_leases, head_of, image_as, fits_form}
use Rattle.image.specs.Reading.{start_of, name_length_at, name_at}
use Rattle.image.proofs.ImageLaws.{length-lease-in, length-head-in, length-pool, length-concat_map, length-image-in}
use Rattle.image.proofs.WriteLaws.{then-put, more-put}
use Rattle.image_records.proofs.PutForms.{put-upon}
use Rattle.image_forms.specs.Forms.{body_at, body_size, moved_at, moved_size, lease_as, front_as, Moved}

-- ONE RECORD

pub lease-as : (from to : Form) (x : Lease) (q : List ℕ) → x.name ≡ no_name → lease_as to (lease_record_in from x ++ q) ≡ lease_record_in to x
unfolding lease_as lease_record_in le16 le32
lease-as from First x q e = refl
lease-as from Second x q e =
    ap (λ (n : Name). lease_record_in Second (record { network = x.network; length = x.length; client = x.client; leased = x.leased; h = x.h; d = x.d; expires = x.expires; name = n })) (sym e)

-- The four bytes that it begins with, and its body behind them.
abbrev body : List ℕ → ℕ → List ℕ
body s at = take body_size (drop body_at (drop at s))

abbrev begun : Form → List ℕ → ℕ → List ℕ
begun form s at = le32 (start_of (lease_size_in form) (lease_kind form)) ++ body s at

-- What a record begins with, put over the first of the bytes that were moved.
over_first : (n : ℕ) (l bytes : List ℕ) (to : ℕ) → put (put l (to + moved_at) bytes) to (le32 n) ≡ put l to (le32 n ++ drop 1 bytes)
unfolding le32
over_first n l bytes to =
    let before : List ℕ = n % 256 ∷ n / 256 % 256 ∷ n / 65536 % 256 ∷ [] in
    let last : List ℕ = n / 16777216 ∷ [] in
    sym (put-append before (put l (to + moved_at) bytes) to last)
    ∙ ap (λ (m : List ℕ). put m (to + moved_at) last) (put-before before l to bytes ∙ sym (put-append before l to bytes))
    ∙ put-upon bytes last (put l to before) (to + moved_at)
    ∙ put-append before l to (last ++ drop 1 bytes)

behind-first : (s : List ℕ) → drop 1 (take moved_size s) ≡ take body_size (drop 1 s)
behind-first [] = refl
behind-first (x ∷ s) = refl

module _ (form : Form) (s : List ℕ) (at : ℕ) (l l₁ l₂ bytes : List ℕ) (to : ℕ) where
  body-put : bytes ≡ take moved_size (drop (at + moved_at) s) → l₁ ≡ put l (to + moved_at) bytes → l₂ ≡ put l₁ to (le32 (start_of (lease_size_in form) (lease_kind form)))
      → l₂ ≡ put l to (begun form s at)
  body-put read e₁ e₂ =
      let start : ℕ = start_of (lease_size_in form) (lease_kind form) in
      let four : at + moved_at + 1 ≡ at + body_at = omega arith in
      let same : drop 1 bytes ≡ body s at =
      ap (drop 1) read ∙ behind-first (drop (at + moved_at) s)
      ∙ ap (take body_size) (drop-drop 1 (at + moved_at) s ∙ ap (λ (k : ℕ). drop k s) four ∙ sym (drop-drop body_at at s)) in
      e₂ ∙ ap (λ (m : List ℕ). put m to (le32 start)) e₁ ∙ over_first start l bytes to ∙ ap (λ (b : List ℕ). put l to (le32 start ++ b)) same

begun-size : (form : Form) (s : List ℕ) (at : ℕ) → at + body_at + body_size ≤ length s → length (begun form s at) ≡ name_length_at
unfolding le32
begun-size form s at room =
    let size : length (body s at) ≡ body_size = length-take-le body_size (drop body_at (drop at s)) (omega (arith, length-drop body_at (drop at s), length-drop at s)) in
    length-append (le32 (start_of (lease_size_in form) (lease_kind form))) (body s at) ∙ omega (arith, size)

pub narrow-put : (s : List ℕ) (at : ℕ) (l l₁ l₂ bytes : List ℕ) (to : ℕ) → bytes ≡ take moved_size (drop (at + moved_at) s) → l₁ ≡ put l (to + moved_at) bytes
    → l₂ ≡ put l₁ to (le32 (start_of first_lease_size 3)) → l₂ ≡ put l to (lease_as First (drop at s))
unfolding lease_as
narrow-put s at l l₁ l₂ bytes to read e₁ e₂ =
    body-put First s at l l₁ l₂ bytes to read e₁ e₂ ∙ ap (λ (b : List ℕ). put l to (le32 (start_of first_lease_size 3) ++ b)) (sym (append-nil (body s at)))

pub widen-put : (s : List ℕ) (at : ℕ) (l l₁ l₂ l₃ bytes : List ℕ) (to : ℕ) (n : Name) → at + body_at + body_size ≤ length s → bytes ≡ take moved_size (drop (at + moved_at) s)
    → l₁ ≡ put l (to + moved_at) bytes → l₂ ≡ put l₁ to (le32 (start_of lease_size 4)) → n ≡ no_name → l₃ ≡ put (set l₂ (to + name_length_at) 0) (to + name_at) (name_octets n)
    → l₃ ≡ put l to (lease_as Second (drop at s))
unfolding lease_as name_octets octets without_zeros
widen-put s at l l₁ l₂ l₃ bytes to n room read e₁ e₂ none e₃ =
    let first : List ℕ = begun Second s at in
    let size : length first ≡ name_length_at = begun-size Second s at room in
    let m : List ℕ = set l₂ (to + name_length_at) 0 in
    let f₂ : m ≡ put l to (first ++ (0 ∷ [])) = then-put name_length_at l l₂ to first size (body-put Second s at l l₁ l₂ bytes to read e₁ e₂) m (0 ∷ []) (sym (put_one l₂ (to + name_length_at) 0)) in
    let f₃ = then-put name_at l m to (first ++ (0 ∷ [])) (length-append first (0 ∷ []) ∙ omega (arith, size)) f₂ l₃ (name_octets no_name) (e₃ ∙ ap (λ (k : Name). put m (to + name_at) (name_octets k)) none) in
    f₃ ∙ ap (put l to) (append_assoc first (0 ∷ []) (name_octets no_name) ∙ append_assoc (le32 (start_of lease_size 4)) (body s at) (0 ∷ name_octets no_name))

-- ALL OF THEM

module _ (from to : Form) (s : List ℕ) (at : ℕ) (l : List ℕ) (place : ℕ) where
  pub moved_none : Moved from to s at 0 l place l
  unfolding Moved
  moved_none xs q e h a = sym (put-nothing l place)

  pub moved_more : (i : ℕ) (l₁ l₂ : List ℕ) → Moved from to s at i l place l₁ → l₂ ≡ put l₁ (place + lease_size_in to * i) (lease_as to (drop (at + lease_size_in from * i) s))
      → Moved from to s at (i + 1) l place l₂
  unfolding Moved
  moved_more i l₁ l₂ m f xs q e h a =
      let lt : i < length xs = omega arith in
      let x : Lease = get_or xs i no_lease in
      let size : ℕ = lease_size_in from in
      let later : List ℕ = concat_map (lease_record_in from) (drop (i + 1) xs) in
      let here : drop (at + size * i) s ≡ lease_record_in from x ++ (later ++ q) =
      sym (drop-drop (size * i) at s)
      ∙ ap (drop (size * i)) e
      ∙ concat_map-drop (lease_record_in from) size (length-lease-in from) xs i q (omega arith)
      ∙ ap (λ (ys : List Lease). concat_map (lease_record_in from) ys ++ q) (list_at xs i no_lease lt)
      ∙ append_assoc (lease_record_in from x) later q in
      let unnamed : x.name ≡ no_name = all-at (λ (y : Lease). y.name ≡ no_name) xs a i no_lease lt in
      more-put (lease_record_in to) (lease_size_in to) (length-lease-in to) l l₁ l₂ place i xs no_lease lt (m xs q e (omega arith) a)
      (f ∙ ap (put l₁ (place + lease_size_in to * i)) (ap (lease_as to) here ∙ lease-as from to x (later ++ q) unnamed))

-- THE HEAD AND THE POOLS

pub front-put : (form : Form) (n k : ℕ) (s l l₁ l₂ : List ℕ) → n ≤ length s → n ≤ length l → k ≡ start_of head_size (head_kind form)
    → l₁ ≡ take n s ++ drop (length (take n s)) l → l₂ ≡ put l₁ 0 (le32 k) → l₂ ≡ put l 0 (front_as form n s)
unfolding front_as le32
front-put form n k s l l₁ l₂ hs hl start e₁ e₂ =
    let xs : List ℕ = take n s in
    let size : length xs ≡ n = length-take-le n s hs in
    let copied : l₁ ≡ put l 0 xs = e₁ ∙ sym (put_front xs l (omega arith)) in
    e₂ ∙ ap₂ (λ (m : List ℕ) (j : ℕ). put m 0 (le32 j)) copied start ∙ put-upon xs (le32 (start_of head_size (head_kind form))) l 0

head_as : (from to : Form) (t : LeaseTable) (q : List ℕ) → le32 (start_of head_size (head_kind to)) ++ drop body_at (head_record_in from (head_of t) ++ q) ≡ head_record_in to (head_of t) ++ q
unfolding head_record_in le16 le32
head_as from First t q = refl
head_as from Second t q = refl

-- THE WHOLE IMAGE

pub moved-size : (to : Form) (t : LeaseTable) (n leases : ℕ) → n ≡ head_size + pool_size * length (used_pools t) → leases ≡ length (used_leases t)
    → n + lease_size_in to * leases ≡ length (image_as to t)
moved-size to t n leases counted all = ap₂ (λ (a b : ℕ). a + lease_size_in to * b) counted all ∙ sym (length-image-in to t)

module _ (from to : Form) (t : LeaseTable) (s q : List ℕ) (here : s ≡ image_as from t ++ q) (n : ℕ) (counted : n ≡ head_size + pool_size * length (used_pools t)) where
  split : s ≡ (head_record_in from (head_of t) ++ concat_map pool_record (used_pools t)) ++ (concat_map (lease_record_in from) (used_leases t) ++ q)
  unfolding image_as
  split =
      let head : List ℕ = head_record_in from (head_of t) in
      let pools : List ℕ = concat_map pool_record (used_pools t) in
      let leases : List ℕ = concat_map (lease_record_in from) (used_leases t) in
      here ∙ ap (λ (b : List ℕ). b ++ q) (sym (append_assoc head pools leases)) ∙ append_assoc (head ++ pools) leases q

  front-size : (form : Form) → length (head_record_in form (head_of t) ++ concat_map pool_record (used_pools t)) ≡ n
  front-size form =
      length-append (head_record_in form (head_of t)) (concat_map pool_record (used_pools t))
      ∙ omega (arith, length-head-in form (head_of t), length-concat_map pool_record pool_size length-pool (used_pools t))

  front-as : front_as to n s ≡ head_record_in to (head_of t) ++ concat_map pool_record (used_pools t)
  unfolding front_as
  front-as =
      let pools : List ℕ = concat_map pool_record (used_pools t) in
      let front : List ℕ = head_record_in from (head_of t) ++ pools in
      ap (λ (b : List ℕ). le32 (start_of head_size (head_kind to)) ++ drop body_at b)
      (ap (take n) split ∙ take_at front (concat_map (lease_record_in from) (used_leases t) ++ q) n (front-size from))
      ∙ head_as from to t pools

  leases-there : drop n s ≡ concat_map (lease_record_in from) (used_leases t) ++ q
  leases-there =
      ap (drop n) split ∙ drop_at (head_record_in from (head_of t) ++ concat_map pool_record (used_pools t)) (concat_map (lease_record_in from) (used_leases t) ++ q) n (front-size from)

  module _ (fits : fits_form First t ≡ true) (leases : ℕ) (all : leases ≡ length (used_leases t)) (l l₁ l₂ : List ℕ) (room : n + lease_size_in to * leases ≤ length l) where
    pub moved-image : l₁ ≡ put l 0 (front_as to n s) → Moved from to s n leases l₁ n l₂ → l₂ ≡ image_as to t ++ drop (length (image_as to t)) l
    unfolding Moved image_as
    moved-image e₁ m =
        let xs : List Lease = used_leases t in
        let head : List ℕ = head_record_in to (head_of t) in
        let pools : List ℕ = concat_map pool_record (used_pools t) in
        let front : List ℕ = head ++ pools in
        let unnamed : All (λ (x : Lease). x.name ≡ no_name) t.leases = all?-to (λ (x : Lease). unnamed? x.name) (λ x e. unnamed-to x.name e) t.leases fits in
        let moved : l₂ ≡ put l₁ n (concat_map (lease_record_in to) xs) =
        m xs q leases-there (omega arith) (filter-all (λ (x : Lease). not (empty? x)) (λ (x : Lease). x.name ≡ no_name) t.leases unnamed)
        ∙ ap (λ (ys : List Lease). put l₁ n (concat_map (lease_record_in to) ys)) (take_all leases xs (omega arith)) in
        put-more l l₁ l₂ 0 front n (concat_map (lease_record_in to) xs) (e₁ ∙ ap (put l 0) front-as) (omega (arith, front-size to)) moved
        ∙ ap (put l 0) (append_assoc head pools (concat_map (lease_record_in to) xs))
        ∙ put_front (image_as to t) l (omega (arith, moved-size to t n leases counted all))
