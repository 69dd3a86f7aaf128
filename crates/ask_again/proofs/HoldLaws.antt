-- Laws of leases held anew in place: of a record only the end is written.
-- Assumes nothing.
use Prim.Native.Nat.{ℕ, ◌+◌, ◌*◌, ◌≤◌, ◌<◌}
use native.Mathlib.Omega.{arith}
use native.Mathlib.Numerals.{add-one}
use mathlib.Core.Path.{◌≡◌, refl, sym, ap, ap₂, subst, ◌∙◌}
use mathlib.Core.Logic.{⊎_elim}
use mathlib.Core.Bool.{true, false, cond}
use mathlib.Core.List.{List, [], ◌∷◌, ◌++◌, append-nil, map-append}
use mathlib.Core.Option.{Option, none, some}
use lib.Dec.{eqb}
use lib.ListN.{length, take, drop, get_or, take-append-drop}
use lib.Seq.{take-suc, length-take-le}
use borrow.Author.Tests.{eqb-false}
use Rattle.lists.specs.Lists.{All, Pairwise, any?, concat_map, cat_maybes}
use Rattle.lists.specs.Put.{put}
use Rattle.lists.proofs.Tests.{bool_cases, cond-true, cond-false}
use Rattle.lists.proofs.ListLaws.{pairwise_map}
use Rattle.lists.proofs.IndexLaws.{all-at}
use Rattle.lists.proofs.PartLaws.{cat_maybes-append}
use Rattle.table.specs.declared.Lease.{Lease}
use Rattle.table.specs.Table.{no_lease}
use Rattle.image.specs.Image.{le16, le32, lease_size, lease_record_in, lease_record}
use Rattle.image.specs.Reading.{expires_at}
use Rattle.image.proofs.ImageLaws.{length-lease}
use Rattle.image_records.specs.Records.{Records, Ascending}
use Rattle.image_records.proofs.PutForms.{put-behind, put-inside, put-over}
use Rattle.image_records.proofs.RecordLaws.{length-leases, records-room, record-at, record-within, put-records, put-leases-same, edit-is}
use Rattle.ledger.specs.Ledger.{hold_time, hold_again, held_again}
use Rattle.ledger.proofs.AgainLaws.{held_none, held-length}
use Rattle.ledger.proofs.PassLaws.{held-store}
use Rattle.ask_again.specs.Places.{no_place, Within, lease_at, given_in}
use Rattle.ask_again.proofs.GiveLaws.{get_d-image}

-- ONE RECORD

written : (x : Lease) (q : List ℕ) (now : ℕ) → put (lease_record x ++ q) expires_at (le32 (now + hold_time)) ≡ lease_record (hold_again now x) ++ q
unfolding lease_record_in le16 le32 put
written x q now = refl

end-in-place : (l : List ℕ) (at : ℕ) (x : Lease) (q : List ℕ) (now : ℕ) → at ≤ length l → drop at l ≡ lease_record x ++ q
    → put l (at + expires_at) (le32 (now + hold_time)) ≡ put l at (lease_record (hold_again now x))
end-in-place l at x q now within e =
    let p : List ℕ = take at l in
    let size : length p ≡ at = length-take-le at l within in
    let r : List ℕ = lease_record x ++ q in
    let here : l ≡ p ++ r = sym (take-append-drop at l) ∙ ap (λ (s : List ℕ). p ++ s) e in
    ap₂ (λ (m : List ℕ) (k : ℕ). put m (k + expires_at) (le32 (now + hold_time))) here (sym size)
    ∙ put-behind (le32 (now + hold_time)) p r expires_at
    ∙ ap (λ (s : List ℕ). p ++ s) (written x q now)
    ∙ sym (put-inside at (lease_record (hold_again now x)) p (lease_record x) q size (length-lease x ∙ sym (length-lease (hold_again now x))))
    ∙ ap (λ (m : List ℕ). put m at (lease_record (hold_again now x))) (sym here)

-- ONE AFTER ANOTHER

-- The buffer with the leases at these places held anew.
abbrev pub held_in : ℕ → List ℕ → ℕ → List Lease → List ℕ → List ℕ
held_in now l from us places = put l from (concat_map lease_record (held_again now (cat_maybes (given_in us places)) us))

-- Once held anew, a lease that is held anew again is the same.
held-twice : (now : ℕ) (given : List Lease) (x : Lease) → hold_again now (cond (any? (λ y. eqb y.network x.network) given) (hold_again now x) x) ≡ hold_again now x
held-twice now given x =
    ⊎_elim
    (λ (b : any? (λ y. eqb y.network x.network) given ≡ true). ap (hold_again now) (cond-true (any? (λ y. eqb y.network x.network) given) (hold_again now x) x b))
    (λ (b : any? (λ y. eqb y.network x.network) given ≡ false). ap (hold_again now) (cond-false (any? (λ y. eqb y.network x.network) given) (hold_again now x) x b))
    (bool_cases (any? (λ y. eqb y.network x.network) given))

module _ (now : ℕ) (l : List ℕ) (from : ℕ) (us : List Lease) (stand : Records l from us) (ascends : Ascending us) where
  pub held_start : l ≡ held_in now l from us []
  held_start = sym (ap (λ (ys : List Lease). put l from (concat_map lease_record ys)) (held_none now us) ∙ put-leases-same l from us stand)

  others : Pairwise (λ x y. x.network ≡ y.network → ⊥) us
  unfolding Ascending
  others = pairwise_map {S = λ x y. x.network ≡ y.network → ⊥} (λ x y (h : x.network < y.network) e. omega arith) us ascends

  module _ (ps : List ℕ) (image : List ℕ) (so_far : image ≡ held_in now l from us ps) where
    abbrev given : List Lease
    given = cat_maybes (given_in us ps)

    abbrev ys : List Lease
    ys = held_again now given us

    -- One place more.
    given-more : (p : ℕ) → cat_maybes (given_in us (ps ++ (p ∷ []))) ≡ given ++ cat_maybes (lease_at us p ∷ [])
    given-more p = ap cat_maybes (map-append (lease_at us) ps (p ∷ [])) ∙ cat_maybes-append (given_in us ps) (lease_at us p ∷ [])

    held-skip : (p : ℕ) → eqb p no_place ≡ true → image ≡ held_in now l from us (ps ++ (p ∷ []))
    held-skip p e =
        so_far
        ∙ ap (λ (gs : List Lease). put l from (concat_map lease_record (held_again now gs us)))
        (sym (given-more p ∙ ap (λ (o : Option Lease). given ++ cat_maybes (o ∷ [])) (cond-true (eqb p no_place) none (some (get_or us p no_lease)) e) ∙ append-nil given))

    held_more : (p : ℕ) → eqb p no_place ≡ false → p < length us → put image (from + lease_size * p + expires_at) (le32 (now + hold_time)) ≡ held_in now l from us (ps ++ (p ∷ []))
    held_more p e low =
        let x : Lease = get_or us p no_lease in
        let many : length ys ≡ length us = held-length now given us in
        let room = records-room l from us stand (omega arith) in
        let here : Records image from ys = subst (λ (m : List ℕ). Records m from ys) (sym so_far) (put-records l from ys (omega arith)) in
        let there : hold_again now (get_or ys p no_lease) ≡ hold_again now x = ap (hold_again now) (get_d-image (λ y. cond (any? (λ z. eqb z.network y.network) given) (hold_again now y) y) us p no_lease no_lease low) ∙ held-twice now given x in
        let zs : List Lease = held_again now (given ++ (x ∷ [])) us in
        end-in-place image (from + lease_size * p) (get_or ys p no_lease) (drop (from + lease_size * p + lease_size) image) now (omega (arith, record-within image from ys here p (omega arith))) (record-at image from ys here p (omega arith))
        ∙ ap (λ (y : Lease). put image (from + lease_size * p) (lease_record y)) there
        ∙ edit-is image from ys here p (omega arith) (hold_again now x)
        ∙ ap₂ (λ (m : List ℕ) (ws : List Lease). put m from (concat_map lease_record ws)) so_far (sym (held-store now given us p others low))
        ∙ put-over (concat_map lease_record ys) (concat_map lease_record zs) l from (omega (arith, length-leases ys, length-leases zs, many, held-length now (given ++ (x ∷ [])) us))
        ∙ ap (λ (gs : List Lease). put l from (concat_map lease_record (held_again now gs us)))
        (sym (given-more p ∙ ap (λ (o : Option Lease). given ++ cat_maybes (o ∷ [])) (cond-false (eqb p no_place) none (some (get_or us p no_lease)) e)))

    -- What one store makes of it.
    pub held-turn : (p : ℕ) → Within (length us) p → (after : List ℕ) → after ≡ cond (eqb p no_place) image (put image (from + lease_size * p + expires_at) (le32 (now + hold_time)))
        → after ≡ held_in now l from us (ps ++ (p ∷ []))
    held-turn p within after e =
        ⊎_elim
        (λ (b : eqb p no_place ≡ true). e ∙ cond-true (eqb p no_place) image (put image (from + lease_size * p + expires_at) (le32 (now + hold_time))) b ∙ held-skip p b)
        (λ (b : eqb p no_place ≡ false). e ∙ cond-false (eqb p no_place) image (put image (from + lease_size * p + expires_at) (le32 (now + hold_time))) b ∙ held_more p b (within (eqb-false p no_place b)))
        (bool_cases (eqb p no_place))

-- One turn of the loop over the places.
pub held_next : (now : ℕ) (l : List ℕ) (from : ℕ) (us : List Lease) → Records l from us → Ascending us → (places : List ℕ) → All (Within (length us)) places → (j : ℕ) → j < length places
    → (image : List ℕ) → image ≡ held_in now l from us (take j places) → (after : List ℕ)
    → after ≡ cond (eqb (get_or places j 0) no_place) image (put image (from + lease_size * get_or places j 0 + expires_at) (le32 (now + hold_time)))
    → after ≡ held_in now l from us (take (j + 1) places)
held_next now l from us stand ascends places within j low image so_far after e =
    held-turn now l from us stand ascends (take j places) image so_far (get_or places j 0) (all-at (Within (length us)) places within j 0 low) after e
    ∙ ap (held_in now l from us) (sym (ap (λ (k : ℕ). take k places) (add-one j) ∙ take-suc places j 0 low))
