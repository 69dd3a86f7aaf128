-- `add` meets its contract: each case has its own effect.
use Prim.Native.Nat.{◌<◌}
use mathlib.Core.Path.{refl, subst}
use Rattle.option.specs.declared.Suboption.{Suboption}
use Rattle.option.specs.declared.Suboption.TheVariants.{Information, Name, Unknown}
use Rattle.option_scan.specs.Inner.{with_suboption, Forward}
use Rattle.option_scan.proofs.Adding.{added-as, added_none}
use Rattle.option_scan.proofs.add.Goals as goal

pub add_information-requires : goal.add_information-requires
add_information-requires c = subst (λ (x : Suboption). (with_suboption c.args.m x).entries < 9223372036854775808) c.in-Information.is c.requires.1

pub add_name-requires : goal.add_name-requires
add_name-requires c = subst Forward c.in-Name.is c.requires.2

pub returns-in-Request : goal.returns-in-Request
returns-in-Request c = added-as c.in-Request.is c.add_request.ensures

pub returns-in-Information : goal.returns-in-Information
returns-in-Information c = added-as c.in-Information.is (added_none (Information _) (λ g. refl) c.add_information.ensures)

pub returns-in-Name : goal.returns-in-Name
returns-in-Name c = added-as c.in-Name.is (added_none (Name _) (λ g. refl) c.add_name.ensures)

pub returns-in-Unknown : goal.returns-in-Unknown
returns-in-Unknown c = added-as c.in-Unknown.is (added_none (Unknown _) (λ g. refl) refl)
