-- `image_forms::put_lease_as` meets its contract: in either form the body stands behind the first four bytes, and in the second no name behind it.
use Prim.Native.Nat.{ℕ}
use mathlib.Core.Path.{◌≡◌, sym, ap, ◌∙◌}
use native.Mathlib.Omega.{arith}
use lib.ListN.{drop}
use Rattle.lists.specs.Put.{put}
use Rattle.image.specs.declared.Form.{Form}
use Rattle.image.specs.declared.Form.TheVariants.{First, Second}
use Rattle.image.specs.Image.{le32, lease_size_in, lease_kind}
use Rattle.image.specs.Reading.{start_of}
use Rattle.image_forms.specs.Forms.{lease_as}
use Rattle.image_forms.proofs.FormLaws.{narrow-put, widen-put}
use Rattle.image_forms.proofs.put_lease_as.Goals as goal

pub returns-in-First : goal.returns-in-First
returns-in-First c =
    let a = c.args in
    let s = a.s.now in
    let start : c.lease_start.result ≡ start_of (lease_size_in First) (lease_kind First) = c.lease_start.ensures ∙ ap (λ (f : Form). start_of (lease_size_in f) (lease_kind f)) c.in-First.is in
    narrow-put s a.at a.out.now _ _ _ a.place c.chunk_at-body.ensures c.put_chunk.ensures (c.put32.ensures ∙ ap (λ (k : ℕ). put c.put_chunk.new.out a.place (le32 k)) start)
    ∙ ap (λ (f : Form). put a.out.now a.place (lease_as f (drop a.at s))) (sym c.in-First.is)

pub returns-in-Second : goal.returns-in-Second
returns-in-Second c =
    let a = c.args in
    let s = a.s.now in
    let start : c.lease_start.result ≡ start_of (lease_size_in Second) (lease_kind Second) = c.lease_start.ensures ∙ ap (λ (f : Form). start_of (lease_size_in f) (lease_kind f)) c.in-Second.is in
    widen-put s a.at a.out.now _ _ _ _ a.place c.no_name.result (omega arith) c.chunk_at-body.ensures c.put_chunk.ensures (c.put32.ensures ∙ ap (λ (k : ℕ). put c.put_chunk.new.out a.place (le32 k)) start)
    c.no_name.ensures c.put_name.ensures
    ∙ ap (λ (f : Form). put a.out.now a.place (lease_as f (drop a.at s))) (sym c.in-Second.is)
