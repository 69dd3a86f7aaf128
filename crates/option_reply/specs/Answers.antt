-- The writer's answers and the buffer after them, from what the definitions of writing say, and document 01's number for each.
use Rattle.std.specs.Prelude.{ℕ, cond, List, length, eqb, Result, Ok, Err}
use Rattle.lists.specs.Put.{put}
use Rattle.option.specs.Writing.{Writing, refused_with, written}
use Rattle.option_reply.specs.declared.WriteFault.{WriteFault}
use Rattle.option_reply.specs.declared.WriteFault.TheVariants.{OutsideRules, TooLong}

-- Bytes that are written go to the start of the buffer, and what stands after them stays. A refusal changes nothing.
unfoldable pub into : Writing → List ℕ → Result ℕ WriteFault × List ℕ
into (written bytes) buffer = (Ok (length bytes), put buffer 0 bytes)
into (refused_with number) buffer = (Err (cond (eqb number 13) OutsideRules TooLong), buffer)

-- Document 01's number for each answer; 0 is no refusal. The value of an accepted one is the number of bytes written.
abbrev pub number_of : Result ℕ WriteFault → ℕ
number_of (Ok n) = 0
number_of (Err OutsideRules) = 13
number_of (Err TooLong) = 14
