-- `text::number` meets its contract: the digits that are left, put before those that stand, are all of them.
use Prim.Native.Nat.{ℕ, ◌+◌, ◌-◌, ◌*◌}
use mathlib.Core.Path.{◌≡◌, refl, ap, ◌∙◌}
use native.Mathlib.Omega.{arith}
use lib.ListN.{length-set}
use Rattle.lists.specs.Put.{put}
use Rattle.text.specs.Wrote.{lowest_digits}
use Rattle.text.proofs.TextLaws.{length_last, put-digits, put_first, put_last}
use Rattle.text.proofs.number.Goals as goal
use Rattle.text.proofs.number.Goals.{then-size-ne0, else-size-ne0}

pub loop-k-init : goal.loop-k-init
loop-k-init c =
    let a = c.args in
    let all : c.width-size.result - 0 ≡ c.width-size.result = omega arith in
    (c.requires c.width-size.result c.width-size.ensures, ap (λ (m : ℕ). put a.out.now a.at (lowest_digits m a.n)) all, refl)

pub loop-k-preserved : goal.loop-k-preserved
loop-k-preserved c =
    let l = c.loop-k in
    (l.invariant.0, put-digits _ _ _ (c.width-size.result - 2 * l.k) (c.width-size.result - 2 * (l.k + 1)) l.left (omega arith) l.invariant.1, simp (length-set, length-set) l.invariant.2)

pub returns : goal.returns
returns c =
    let a = c.args in
    let l = c.loop-k in
    let width = c.width-size in
    record {
      size = width.result;
      width = width.ensures;
      wrote = record {
        bytes =
            elim c.if-size-ne0.branch [
              | then-size-ne0 w ↦ w.out-is ∙ put_first _ _ _ (width.result - 2 * l.k) l.left (omega arith) (omega arith) l.invariant.1
              | else-size-ne0 w ↦ w.out-is ∙ put_last _ _ _ (width.result - 2 * l.k) l.left (omega arith) l.invariant.1
            ];
        place = omega (arith, length_last width.result a.n);
      };
    }
