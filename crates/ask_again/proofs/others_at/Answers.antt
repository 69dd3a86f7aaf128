-- `others_at` meets its contract.
use Prim.Native.Nat.{ℕ, ◌+◌, ◌*◌}
use mathlib.Core.Path.{◌≡◌, subst, ◌∙◌}
use mathlib.Core.Bool.{false≢true}
use native.Mathlib.Omega.{arith}
use lib.ListN.{drop}
use borrow.Author.Tests.{eqb-false, not-true}
use Rattle.image.specs.Image.{lease_size}
use Rattle.image.specs.Reading.{lease_in}
use Rattle.ask_again.proofs.HeldLaws.{each-of-four}
use Rattle.ask_again.proofs.others_at.Goals as goal

pub returns-then-client_at-client : goal.returns-then-client_at-client
returns-then-client_at-client c e = absurd (false≢true e)

pub returns-then-client_at-client-2 : goal.returns-then-client_at-client-2
returns-then-client_at-client-2 c e = absurd (false≢true e)

pub returns-then-client_at-client-3 : goal.returns-then-client_at-client-3
returns-then-client_at-client-3 c e = absurd (false≢true e)

pub returns : goal.returns
returns c e =
    let a = c.args in
    let same : a.at + 0 ≡ a.at = omega arith in
    each-of-four (λ m. (lease_in (drop (a.at + lease_size * m) a.image.now)).client ≡ a.client → ⊥)
    (λ q. c.if-client_at-client.false (c.client_at.ensures ∙ subst (λ (at : ℕ). (lease_in (drop at a.image.now)).client ≡ a.client) same q))
    (λ q. c.if-client_at-client-2.false (c.client_at-2.ensures ∙ q))
    (λ q. c.if-client_at-client-3.false (c.client_at-3.ensures ∙ q))
    (λ q. eqb-false _ _ (not-true _ e) (c.client_at-4.ensures ∙ q))
