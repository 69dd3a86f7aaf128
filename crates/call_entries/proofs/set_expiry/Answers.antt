-- `set_expiry` meets its contract.
use Prim.Native.Nat.{ℕ, ◌+◌, ◌*◌}
use mathlib.Core.Path.{◌≡◌, sym, ap, subst, ◌∙◌}
use lib.ListN.{set}
use borrow.Author.Rules.{rules}
use Rattle.std.specs.Prelude.{Option, None}
use Rattle.lists.specs.Put.{put}
use Rattle.image.specs.Image.{le32, lease_size}
use Rattle.call_entries.specs.EntryLeases.{named?, ExpirySet}
use Rattle.call_entries.proofs.NamedLaws.{set-expiry-none, set-expiry-here}
use Rattle.call_entries.proofs.set_expiry.Goals as goal

pub returns-in_err-i-clause-expiry_set : goal.returns-in_err-i-clause-expiry_set
returns-in_err-i-clause-expiry_set c xs held counted ascending =
    let a = c.args in
    let g = named? a.expiry.time a.expiry.client a.network a.length in
    let is : c.from_residual.result ≡ None = search rules in
    subst (λ (r : Option ℕ). ExpirySet g a.expiry.expires a.image.now a.from xs a.image.now r) (sym is)
    (set-expiry-none g a.expiry.expires a.image.now a.from xs held (c.in_err-i.ensures.found_at xs held counted ascending))

pub returns-clause-expiry_set : goal.returns-clause-expiry_set
returns-clause-expiry_set c xs held counted ascending =
    let a = c.args in
    let at = a.from + lease_size * c.in_ok-i.i in
    set-expiry-here (named? a.expiry.time a.expiry.client a.network a.length) a.expiry.expires a.image.now a.from xs held c.in_ok-i.i (c.in_ok-i.ensures.found_at xs held counted ascending) _
    (c.put32.ensures ∙ ap (λ s. put (set a.image.now (at + 9) s) (at + 15) (le32 a.expiry.expires)) c.state_byte.ensures)
