-- `put_image` meets its contract: an image of the first form is widened, and one of the second copied.
use Prim.Native.Nat.{ℕ, ◌+◌, ◌*◌}
use mathlib.Core.Path.{◌≡◌, sym, ap, ◌∙◌}
use mathlib.Core.List.{List, ◌++◌}
use native.Mathlib.Omega.{arith}
use lib.ListN.{length, drop}
use Rattle.image.specs.declared.Form.{Form}
use Rattle.image.specs.Image.{head_size, pool_size, lease_size, first_lease_size, lease_size_in, image_as, image_of, fits_form}
use Rattle.call_load.proofs.put_image.Goals as goal

pub widen-requires : goal.widen-requires
widen-requires c =
    let a = c.args in
    let size : head_size + pool_size * a.pools + first_lease_size * a.leases ≡ length a.saved.now =
    ap (λ (f : Form). head_size + pool_size * a.pools + lease_size_in f * a.leases) (sym c.in-First.is) ∙ c.requires.0 in
    (omega (arith, size), omega (arith, c.requires.1, c.requires.2))

pub copy-requires : goal.copy-requires
copy-requires c =
    let a = c.args in
    let size : head_size + pool_size * a.pools + lease_size * a.leases ≡ length a.saved.now =
    ap (λ (f : Form). head_size + pool_size * a.pools + lease_size_in f * a.leases) (sym c.in-Second.is) ∙ c.requires.0 in
    (omega (arith, size, c.requires.1), omega (arith, size, c.requires.1, c.requires.2))

pub returns-in-First : goal.returns-in-First
returns-in-First c =
    let first = c.in-First.is in
    λ t image fits p l.
    c.widen.ensures.value_2 t (ap (λ (f : Form). image_as f t) (sym first) ∙ image) (ap (λ (f : Form). fits_form f t) (sym first) ∙ fits) p l

pub returns-in-Second : goal.returns-in-Second
returns-in-Second c =
    let a = c.args in
    λ t image fits p l.
    let same : image_of t ≡ a.saved.now = ap (λ (f : Form). image_as f t) (sym c.in-Second.is) ∙ image in
    (c.copy.ensures.value ∙ ap length (sym same), c.copy.ensures.to_after ∙ ap (λ (xs : List ℕ). xs ++ drop (length xs) a.image.now) (sym same))
