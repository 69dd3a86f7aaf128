-- `held_at` meets its contract.
use Prim.Native.Nat.{ℕ}
use mathlib.Core.Path.{◌≡◌, refl, sym, ap, ◌∙◌}
use mathlib.Core.Bool.{Bool, true, false, ◌&&◌}
use mathlib.Core.List.{[], ◌∷◌}
use lib.Dec.{ltb, eqb}
use lib.ListN.{drop}
use borrow.Author.Tests.{eq-eqb}
use Rattle.lists.specs.Lists.{and}
use Rattle.table.specs.declared.Lease.{Lease}
use Rattle.image.specs.Reading.{lease_in}
use Rattle.ledger.specs.Ledger.{held_by?}
use Rattle.ask_again.proofs.HeldLaws.{another's}
use Rattle.ask_again.proofs.held_at.Goals as goal

-- The test, of a lease.
module _ (x : Lease) (client time : ℕ) where
  abbrev test : Bool
  test = and (held_by? client x ∷ ltb time x.expires ∷ [])

  leased : x.leased ≡ true → false ≡ test
  leased e = rw e (none (eqb x.client client))
    where
      none : (b : Bool) → false ≡ (b && false) && (ltb time x.expires && true)
      none true = refl
      none false = refl

  held : x.client ≡ client → x.leased ≡ false → ltb time x.expires ≡ test
  held e f = rw (eq-eqb x.client client e, f) (whole (ltb time x.expires))
    where
      whole : (b : Bool) → b ≡ b && true
      whole true = refl
      whole false = refl

-- The lease here, where it begins.
abbrev lease-of : goal.Then-client_at-asker → Lease
lease-of s = lease_in (drop s.args.at s.args.image.now)

-- The lease here, where it begins.
abbrev lease-of-2 : goal.Then-leased_at → Lease
lease-of-2 s = lease_in (drop s.args.at s.args.image.now)

-- The lease here, where it begins.
abbrev lease-of-3 : goal.After-struct_known-2-1 → Lease
lease-of-3 s = lease_in (drop s.args.at s.args.image.now)

pub returns-then-client_at-asker : goal.returns-then-client_at-asker
returns-then-client_at-asker c = sym (another's (lease-of c) c.args.asker.client c.args.asker.time (λ e. c.if-client_at-asker.true (c.client_at.ensures ∙ e)))

pub returns-then-leased_at : goal.returns-then-leased_at
returns-then-leased_at c = leased (lease-of-2 c) c.args.asker.client c.args.asker.time (sym c.leased_at.ensures ∙ c.if-leased_at.true)

pub returns : goal.returns
returns c =
    ap (ltb c.args.asker.time) c.expires_at.ensures
    ∙ held (lease-of-3 c) c.args.asker.client c.args.asker.time (sym c.client_at.ensures ∙ c.if-client_at-asker.false) (sym c.leased_at.ensures ∙ c.if-leased_at.false)
