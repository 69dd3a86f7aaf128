-- Laws of writing an image: fields one after another are a record, records one after another the records of a list.
-- Assumes nothing.
use Prim.Native.Nat.{ℕ, ◌+◌, ◌*◌, ◌<◌}
use mathlib.Core.Path.{◌≡◌, refl, sym, ap, ap₂, ◌∙◌}
use mathlib.Core.List.{List, [], ◌∷◌, ◌++◌, append-nil}
use native.Mathlib.Nat.{add_assoc}
use native.Mathlib.Numerals.{add-one}
use native.Mathlib.Omega.{arith}
use lib.ListN.{length, take, get_or, set}
use lib.Seq.{take-suc, length-take-le}
use Rattle.lists.specs.Lists.{concat_map}
use Rattle.lists.specs.Put.{put}
use Rattle.lists.proofs.ConcatMapLaws.{concat_map-append}
use Rattle.lists.proofs.PutLaws.{put_one, put-append}
use Rattle.names.specs.Names.{name_octets, name_length}
use Rattle.table.specs.declared.Pool.{Pool}
use Rattle.table.specs.declared.Lease.{Lease}
use Rattle.image.specs.declared.Head.{Head}
use Rattle.image.specs.Image.{le16, le32, head_size, pool_size, lease_size, head_record_in, head_record, pool_record, lease_record_in, lease_record, state_byte, flags_byte}
use Rattle.image.specs.Reading.{start_of, last_at, expires_at, name_length_at, name_at}
use Rattle.image.proofs.ImageLaws.{length-concat_map}

-- FIELDS, ONE AFTER ANOTHER

pub head-put : (x : Head) (l l₁ l₂ l₃ : List ℕ) → l₁ ≡ put l 0 (le32 (start_of head_size 5)) → l₂ ≡ put l₁ 4 (le32 x.term)
    → l₃ ≡ put (set l₂ 8 x.default_length) last_at (le32 x.last) → l₃ ≡ put l 0 (head_record x)
unfolding put head_record_in le16 le32
head-put x l l₁ l₂ l₃ e₁ e₂ e₃ =
    e₃
    ∙ ap (λ (m : List ℕ). put (set m 8 x.default_length) last_at (le32 x.last))
    (e₂ ∙ ap (λ (m : List ℕ). put m 4 (le32 x.term)) e₁)

module _ (n : ℕ) (l l₁ : List ℕ) (at : ℕ) (xs : List ℕ) (size : length xs ≡ n) (e : l₁ ≡ put l at xs) where
  -- A field after those that are put already.
  pub then-put : (l₂ : List ℕ) (ys : List ℕ) → l₂ ≡ put l₁ (at + n) ys → l₂ ≡ put l at (xs ++ ys)
  then-put l₂ ys f =
      f ∙ ap (λ (m : List ℕ). put m (at + n) ys) e ∙ ap (λ (k : ℕ). put (put l at xs) (at + k) ys) (sym size) ∙ put-append xs l at ys

pub pool-put : (p : Pool) (at : ℕ) (l l₁ l₂ : List ℕ) → l₁ ≡ put l at (le32 (start_of pool_size 2)) → l₂ ≡ put l₁ (at + 4) (le32 p.network)
    → set l₂ (at + 8) p.length ≡ put l at (pool_record p)
unfolding pool_record le16 le32
pool-put p at l l₁ l₂ e₁ e₂ =
    let f₂ = then-put 4 l l₁ at (le32 (start_of pool_size 2)) refl e₁ l₂ (le32 p.network) e₂ in
    then-put 8 l l₂ at (le32 (start_of pool_size 2) ++ le32 p.network) refl f₂ (set l₂ (at + 8) p.length) (p.length ∷ []) (sym (put_one l₂ (at + 8) p.length))

three : (l : List ℕ) (at x y z : ℕ) → set (set (set l (at + 8) x) (at + 9) y) (at + 10) z ≡ put l (at + 8) (x ∷ y ∷ z ∷ [])
unfolding put
three l at x y z = simp add_assoc

pub lease-put : (x : Lease) (at st fl nl : ℕ) (l l₁ l₂ l₃ l₄ l₅ : List ℕ) → st ≡ state_byte x.leased → fl ≡ flags_byte x.h x.d → nl ≡ name_length x.name
    → l₁ ≡ put l at (le32 (start_of lease_size 4)) → l₂ ≡ put l₁ (at + 4) (le32 x.network)
    → l₃ ≡ put (set (set (set l₂ (at + 8) x.length) (at + 9) st) (at + 10) fl) (at + 11) (le32 x.client) → l₄ ≡ put l₃ (at + expires_at) (le32 x.expires)
    → l₅ ≡ put (set l₄ (at + name_length_at) nl) (at + name_at) (name_octets x.name) → l₅ ≡ put l at (lease_record x)
unfolding lease_record_in le16 le32
lease-put x at st fl nl l l₁ l₂ l₃ l₄ l₅ es ef en e₁ e₂ e₃ e₄ e₅ =
    let first : List ℕ = le32 (start_of lease_size 4) in
    let bytes : List ℕ = x.length ∷ state_byte x.leased ∷ flags_byte x.h x.d ∷ [] in
    let f₂ = then-put 4 l l₁ at first refl e₁ l₂ (le32 x.network) e₂ in
    let m₂ : List ℕ = put l₂ (at + 8) bytes in
    let f₃ = then-put 8 l l₂ at (first ++ le32 x.network) refl f₂ m₂ bytes refl in
    let g₃ : l₃ ≡ put m₂ (at + 11) (le32 x.client) =
    e₃ ∙ ap₂ (λ (s f : ℕ). put (set (set (set l₂ (at + 8) x.length) (at + 9) s) (at + 10) f) (at + 11) (le32 x.client)) es ef
    ∙ ap (λ (m : List ℕ). put m (at + 11) (le32 x.client)) (three l₂ at x.length (state_byte x.leased) (flags_byte x.h x.d)) in
    let f₄ = then-put 11 l m₂ at (first ++ le32 x.network ++ bytes) refl f₃ l₃ (le32 x.client) g₃ in
    let f₅ = then-put 15 l l₃ at (first ++ le32 x.network ++ bytes ++ le32 x.client) refl f₄ l₄ (le32 x.expires) e₄ in
    let body : List ℕ = first ++ le32 x.network ++ bytes ++ le32 x.client ++ le32 x.expires in
    let m₄ : List ℕ = set l₄ (at + name_length_at) (name_length x.name) in
    let f₆ = then-put name_length_at l l₄ at body refl f₅ m₄ (name_length x.name ∷ []) (sym (put_one l₄ (at + name_length_at) (name_length x.name))) in
    let g₅ : l₅ ≡ put m₄ (at + name_at) (name_octets x.name) = e₅ ∙ ap (λ (n : ℕ). put (set l₄ (at + name_length_at) n) (at + name_at) (name_octets x.name)) en in
    then-put name_at l m₄ at (body ++ (name_length x.name ∷ [])) refl f₆ l₅ (name_octets x.name) g₅

-- RECORDS, ONE AFTER ANOTHER

-- One record more.
pub more-put : {A : Type 0} (rec : A → List ℕ) (n : ℕ) → ((x : A) → length (rec x) ≡ n) → (l l₁ l₂ : List ℕ) (at i : ℕ) (xs : List A) (d : A) → i < length xs
    → l₁ ≡ put l at (concat_map rec (take i xs)) → l₂ ≡ put l₁ (at + n * i) (rec (get_or xs i d)) → l₂ ≡ put l at (concat_map rec (take (i + 1) xs))
more-put rec n sized l l₁ l₂ at i xs d lt e₁ e₂ =
    let x = get_or xs i d in
    let done : List ℕ = concat_map rec (take i xs) in
    let size : length done ≡ n * i = length-concat_map rec n sized (take i xs) ∙ ap (λ (k : ℕ). n * k) (length-take-le i xs (omega arith)) in
    let more : concat_map rec (take (i + 1) xs) ≡ done ++ rec x =
    ap (λ (k : ℕ). concat_map rec (take k xs)) (add-one i) ∙ ap (concat_map rec) (take-suc xs i d lt) ∙ concat_map-append rec (take i xs) (x ∷ []) ∙ ap (λ (r : List ℕ). done ++ r) (append-nil (rec x)) in
    then-put (n * i) l l₁ at done size e₁ l₂ (rec x) e₂ ∙ ap (put l at) (sym more)
