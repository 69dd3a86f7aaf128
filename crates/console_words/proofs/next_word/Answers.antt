-- `next_word` meets its contract.
use Rattle.console_words.proofs.WordLaws.{word_at}
use Rattle.console_words.proofs.next_word.Goals as goal

pub returns : goal.returns
returns c = word_at _ _ _ _ c.skip_spaces-start.ensures.0 c.skip_spaces-start.ensures.2 c.find-end.ensures.place c.find-end.ensures.in_bounds
