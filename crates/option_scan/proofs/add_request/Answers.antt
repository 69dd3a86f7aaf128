-- `add_request` meets its contract.
use mathlib.Core.Path.{refl, ◌∙◌}
use Rattle.option_scan.proofs.Adding.{flag-is, stored_one}
use Rattle.option_scan.proofs.add_request.Goals as goal

pub returns : goal.returns
returns c =
    record {
      contents = simp (c.from-2.ensures, flag-is c.args.f.i);
      lengths = stored_one _ _ _ _ _ c.store.ensures refl;
      flags = stored_one _ _ _ _ _ c.store-2.ensures (c.from.ensures ∙ flag-is c.args.f.h);
    }
