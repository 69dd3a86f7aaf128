-- `put_heads` meets its contract.
use Prim.Native.Nat.{ℕ, ◌+◌, ◌*◌}
use mathlib.Core.Path.{refl, ap, ◌∙◌}
use mathlib.Core.List.{List}
use Rattle.lists.specs.Put.{put}
use Rattle.option.specs.Writing.{information_head}
use Rattle.option_reply.proofs.put_heads.Goals as goal

pub returns : goal.returns
returns c =
    let a = c.args in record {
      value = refl;
      reply_after = c.put_information_head.ensures
          ∙ ap (λ (l : List ℕ). put l 3 (information_head (7 * a.n + 1) a.c a.s)) c.put_option_head.ensures;
    }
