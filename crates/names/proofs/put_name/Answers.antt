-- `names::put_name` meets its contract: its words are put one after another.
use Rattle.names.specs.Names.{name_octets}
use Rattle.names.proofs.WordLaws.{three-put}
use Rattle.names.proofs.put_name.Goals as goal

pub returns : goal.returns
unfolding name_octets
returns c =
    three-put c.args.out.now c.put64.new.out c.put64-2.new.out c.put64-3.new.out c.args.at c.args.n.first
    c.args.n.second c.args.n.third c.put64.ensures c.put64-2.ensures c.put64-3.ensures
