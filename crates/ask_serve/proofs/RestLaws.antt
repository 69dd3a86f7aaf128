-- Laws of what the rest of the requests is offered, place for place: how one more comes to it, and that it is what the ledger offers the rest.
-- Assumes nothing.
use Prim.Native.Nat.{ℕ, ◌≤◌}
use mathlib.Core.Path.{◌≡◌, refl, ap}
use mathlib.Core.List.{List, [], ◌∷◌, ◌++◌, map}
use mathlib.Core.Option.{Option, none, some}
use native.Mathlib.Omega.{arith}
use lib.ListN.{length}
use Rattle.lists.specs.Lists.{All}
use Rattle.names.specs.declared.Name.{Name}
use Rattle.table.specs.declared.{Lease.Lease, LeaseTable.LeaseTable}
use Rattle.table.specs.Table.{lease_slots}
use Rattle.option.specs.Contents.{Request}
use Rattle.ledger.specs.Ledger.{offer, offers, add, add_all, rest_of}
use Rattle.ledger.proofs.OfferLaws.{offer-full}
use Rattle.ask_serve.specs.Granting.{rest_offers}

module _ (t : LeaseTable) (now client : ℕ) (name : Name) where
  -- One request more, which gets a lease again or not.
  pub rest-again : (gs : List (Option Lease)) (rs : List Request) (xs : List Lease) (x : Lease) (r : Request) → length gs ≡ length rs
      → rest_offers t now client name xs (gs ++ (some x ∷ [])) (rs ++ (r ∷ [])) ≡ rest_offers t now client name xs gs rs ++ (none ∷ [])
  unfolding rest_offers
  rest-again [] [] xs x r e = refl
  rest-again [] (q ∷ rs) xs x r e = absurd (omega arith)
  rest-again (g ∷ gs) [] xs x r e = absurd (omega arith)
  rest-again (some y ∷ gs) (q ∷ rs) xs x r e = ap (λ (os : List (Option Lease)). none ∷ os) (rest-again gs rs xs x r (omega arith))
  rest-again (none ∷ gs) (q ∷ rs) xs x r e = ap (λ (os : List (Option Lease)). offer t now client name xs q ∷ os) (rest-again gs rs (add (offer t now client name xs q) xs) x r (omega arith))

  pub rest-next : (gs : List (Option Lease)) (rs : List Request) (xs : List Lease) (r : Request) → length gs ≡ length rs
      → rest_offers t now client name xs (gs ++ (none ∷ [])) (rs ++ (r ∷ [])) ≡ rest_offers t now client name xs gs rs ++ (offer t now client name (add_all (rest_offers t now client name xs gs rs) xs) r ∷ [])
  unfolding rest_offers add_all
  rest-next [] [] xs r e = refl
  rest-next [] (q ∷ rs) xs r e = absurd (omega arith)
  rest-next (g ∷ gs) [] xs r e = absurd (omega arith)
  rest-next (some y ∷ gs) (q ∷ rs) xs r e = ap (λ (os : List (Option Lease)). none ∷ os) (rest-next gs rs xs r (omega arith))
  rest-next (none ∷ gs) (q ∷ rs) xs r e = ap (λ (os : List (Option Lease)). offer t now client name xs q ∷ os) (rest-next gs rs (add (offer t now client name xs q) xs) r (omega arith))

  -- What is added of it.
  pub rest-added : (gs : List (Option Lease)) (rs : List Request) (xs ys : List Lease) → length gs ≡ length rs
      → add_all (rest_offers t now client name xs gs rs) ys ≡ add_all (offers t now client name xs (rest_of gs rs)) ys
  unfolding rest_offers add_all offers rest_of
  rest-added [] [] xs ys e = refl
  rest-added [] (r ∷ rs) xs ys e = absurd (omega arith)
  rest-added (g ∷ gs) [] xs ys e = absurd (omega arith)
  rest-added (some y ∷ gs) (r ∷ rs) xs ys e = rest-added gs rs xs ys (omega arith)
  rest-added (none ∷ gs) (r ∷ rs) xs ys e = rest-added gs rs (add (offer t now client name xs r) xs) (add (offer t now client name xs r) ys) (omega arith)

  -- Where every request gets a lease again, and where no slot is empty, nothing is offered.
  pub rest-none : (gs : List (Option Lease)) (rs : List Request) (xs : List Lease) → length gs ≡ length rs → All (λ g. g ≡ none → ⊥) gs → rest_offers t now client name xs gs rs ≡ map (λ r. none) rs
  unfolding rest_offers
  rest-none [] [] xs e a = refl
  rest-none [] (r ∷ rs) xs e a = absurd (omega arith)
  rest-none (g ∷ gs) [] xs e a = absurd (omega arith)
  rest-none (some y ∷ gs) (r ∷ rs) xs e a = ap (λ (os : List (Option Lease)). none ∷ os) (rest-none gs rs xs (omega arith) a.1)
  rest-none (none ∷ gs) (r ∷ rs) xs e a = absurd (a.0 refl)

  pub rest-full : (gs : List (Option Lease)) (rs : List Request) (xs : List Lease) → length gs ≡ length rs → lease_slots ≤ length xs → rest_offers t now client name xs gs rs ≡ map (λ r. none) rs
  unfolding rest_offers
  rest-full [] [] xs e h = refl
  rest-full [] (r ∷ rs) xs e h = absurd (omega arith)
  rest-full (g ∷ gs) [] xs e h = absurd (omega arith)
  rest-full (some y ∷ gs) (r ∷ rs) xs e h = ap (λ (os : List (Option Lease)). none ∷ os) (rest-full gs rs xs (omega arith) h)
  rest-full (none ∷ gs) (r ∷ rs) xs e h = rw (offer-full t now client name xs r h) (ap (λ (os : List (Option Lease)). none ∷ os) (rest-full gs rs xs (omega arith) h))
