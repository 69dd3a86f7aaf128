-- `selection_place` meets its contract.
use Prim.Native.Nat.{ℕ}
use mathlib.Core.Path.{◌≡◌, refl, sym, subst}
use native.Mathlib.Omega.{arith}
use Rattle.std.specs.Prelude.{Option, IfSome, is_some}
use Rattle.call_spec.specs.ImageCalls.{carried_if}
use Rattle.console_words.specs.declared.Octets.{Octets}
use Rattle.console_words.specs.Octets.{octets_in}
use Rattle.console_script.specs.Commands.{OctetsWithin, octets_at}
use Rattle.console.proofs.selection_place.Goals as goal

pub returns-in-Some : goal.returns-in-Some
returns-in-Some c =
    record {
      within = λ n h. subst (λ (k : Option Octets). IfSome k (OctetsWithin n)) c.in-Some.is h;
      place = λ line. subst (λ (k : Option Octets). carried_if (is_some k) (octets_at line c.in-Some.o) ≡ octets_in line k) (sym c.in-Some.is) refl;
    }

pub returns-in-None : goal.returns-in-None
returns-in-None c =
    record {
      within = λ n h. (omega arith, omega arith);
      place = λ line. subst (λ (k : Option Octets). carried_if (is_some k) (octets_at line (record { start = 0; end = 0 })) ≡ octets_in line k) (sym c.in-None.is) refl;
    }
