-- `ends` meets its contract.
use Rattle.console_words.proofs.WordLaws.{ends_at}
use Rattle.console_words.proofs.ends.Goals as goal

pub returns : goal.returns
returns c = ends_at _ _ _ c.skip_spaces.ensures.1 c.skip_spaces.ensures.2
