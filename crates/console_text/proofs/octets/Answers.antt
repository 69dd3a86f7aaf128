-- `octets` meets its contract: the first i octets stand where they belong.
use Prim.Native.Nat.{ℕ}
use mathlib.Core.Path.{refl, ap, ap₂, ◌∙◌}
use mathlib.Core.List.{List, [], ◌∷◌}
use native.Mathlib.Omega.{arith}
use lib.ListN.{length-set}
use lib.Seq.{take_all}
use Rattle.lists.specs.Lists.{concat_map}
use Rattle.lists.specs.Put.{put}
use Rattle.console_text.specs.Text.{hex_of}
use Rattle.console_text.proofs.TextLaws.{octets-more}
use Rattle.console_text.proofs.octets.Goals as goal

pub loop-i-init : goal.loop-i-init
unfolding put
loop-i-init c = (refl, refl)

pub glyph-requires : goal.glyph-requires
glyph-requires c = omega (arith, c.type_inv.s c.loop-i.i)

pub bounds-out-at-in-loop-i : goal.bounds-out-at-in-loop-i
bounds-out-at-in-loop-i c = simp length-set (omega arith)

pub loop-i-preserved : goal.loop-i-preserved
loop-i-preserved c =
    let l = c.loop-i in (
      octets-more _ _ _ l.i _ _ _ (omega arith) (ap₂ (λ (x y : ℕ). x ∷ y ∷ []) c.glyph.ensures c.glyph-in-loop-i.ensures) l.invariant.0,
      simp length-set l.invariant.1,
    )

pub returns : goal.returns
returns c =
    let l = c.loop-i in
    let a = c.args in record { value = omega arith; out_after = l.invariant.0 ∙ ap (λ (xs : List ℕ). put a.out.now a.at (concat_map hex_of xs)) (take_all l.i a.s.now (omega arith)) }
