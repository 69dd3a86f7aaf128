-- `names::name_at` meets its contract.
use Prim.Native.Nat.{ℕ}
use mathlib.Core.Path.{sym, ap, ◌∙◌}
use mathlib.Core.List.{List}
use lib.ListN.{take, drop}
use lib.Seq.{drop-drop}
use Rattle.names.specs.Names.{spells, name_in}
use Rattle.names.proofs.NameLaws.{words}
use Rattle.names.proofs.name_at.Goals as goal

pub returns : goal.returns
unfolding name_in
returns c =
    let s = c.args.s.now in
    let at = c.args.at in
    words (spells (take 8 (drop at s))) (spells (take 8 (drop 8 (drop at s)))) (spells (take 8 (drop 16 (drop at s)))) c.read64.ensures
    (c.read64-2.ensures ∙ ap (λ (l : List ℕ). spells (take 8 l)) (sym (drop-drop 8 at s)))
    (c.read64-3.ensures ∙ ap (λ (l : List ℕ). spells (take 8 l)) (sym (drop-drop 16 at s)))
