-- `suboption` stays within the buffer: each kind makes at most the text that `most` says.
use mathlib.Core.Path.{ap, subst}
use native.Mathlib.Omega.{arith}
use Rattle.console_lines.specs.InnerSizes.{most, Within}
use Rattle.console_lines.proofs.suboption.Goals as goal

pub request-requires : goal.request-requires
request-requires c = omega (arith, ap most c.in-Request.is)

pub information-requires : goal.information-requires
information-requires c = omega (arith, ap most c.in-Information.is)

pub name-requires : goal.name-requires
name-requires c = record { n_in_bounds = omega (arith, ap most c.in-Name.is); within = subst (Within _) c.in-Name.is c.requires.within }

pub text-requires : goal.text-requires
text-requires c = omega (arith, ap most c.in-Unknown.is)

pub returns-in-Request : goal.returns-in-Request
returns-in-Request c = omega (arith, ap most c.in-Request.is, c.request.ensures)

pub returns-in-Information : goal.returns-in-Information
returns-in-Information c = omega (arith, ap most c.in-Information.is, c.information.ensures)

pub returns-in-Name : goal.returns-in-Name
returns-in-Name c = omega (arith, ap most c.in-Name.is, c.name.ensures)

pub returns-in-Unknown : goal.returns-in-Unknown
returns-in-Unknown c = omega (arith, ap most c.in-Unknown.is, c.text.ensures.value)
