-- `body_at` meets its contract: each number has its reader.
use mathlib.Core.Path.{refl}
use borrow.Author.Tests.{ne_eqb}
use Rattle.option.specs.Values.{unknown}
use Rattle.option.specs.Reading.{read_body}
use Rattle.option.proofs.StepLaws.{body-good, body-as, columns-kept, request-kept, name-kept}
use Rattle.option.proofs.body_at.Goals as goal

pub returns-in-1 : goal.returns-in-1
unfolding read_body
returns-in-1 c =
    let all = body-as _ _ (rw c.in-1.is) c.request_at.ensures (request-kept _ _ _ _ _ _) in
    record { value = all.0; stores = all.1 }

pub returns-in-2 : goal.returns-in-2
unfolding read_body
returns-in-2 c =
    let all = body-as _ _ (rw c.in-2.is) c.information_at.ensures.value c.information_at.ensures.stores in
    record { value = all.0; stores = all.1 }

pub returns-in-3 : goal.returns-in-3
unfolding read_body
returns-in-3 c =
    let all = body-as _ _ (rw c.in-3.is) c.name_at.ensures (name-kept _ _ _ _ _ _) in
    record { value = all.0; stores = all.1 }

pub returns-in_default : goal.returns-in_default
unfolding read_body
returns-in_default c =
    let n = c.in_default.in_default-own.rest in
    let all = body-good _ _ unknown _ (rw (ne_eqb _ 1 n.0.0.1, ne_eqb _ 2 n.0.1, ne_eqb _ 3 n.1)) refl (columns-kept _ _ _) in
    record { value = all.0; stores = all.1 }
