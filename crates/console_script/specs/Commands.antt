-- Commands as values, and what a command of the code stands for: the octets and words at its places in the line.
use Rattle.std.specs.Prelude.{ℕ, ◌-◌, ◌*◌, ◌≤◌, ◌≡◌, Bool, Option, Some, None, List, drop, IfSome}
use Rattle.std.proofs.Math.Option.{none, some}
use Rattle.std.proofs.Math.Option as math
use Rattle.table.specs.Table.{pool_slots}
use Rattle.image_figures.specs.Sheets.{figures_size}
use Rattle.counts.specs.Counts.{counted_lengths}
use Rattle.console_words.specs.Words.{between}
use Rattle.console_words.specs.Prefixes.{Columns, prefixes_of}
use Rattle.console_words.specs.Octets.{octets_in}
use Rattle.console_words.specs.declared.Octets.{Octets}
use Rattle.console_script.specs.declared.{OptionCall.OptionCall, Command.Command, MessageWords.MessageWords}
use Rattle.console_script.specs.declared.Command.TheVariants as command

pub data CommandValue : Type 0 where
  -- ask, take, list and return: client, time, the option's octets, and those of option 118, if the line has it
  call : OptionCall → ℕ → ℕ → List ℕ → math.Option (List ℕ) → CommandValue
  -- time, network, length, D
  mark : ℕ → ℕ → ℕ → ℕ → CommandValue
  -- term, default length, start, and networks and lengths of the pools
  «open» : ℕ → ℕ → ℕ → List ℕ → List ℕ → CommandValue
  -- the image's octets
  load : List ℕ → CommandValue
  -- the number of the form, and whether the image is for an older desk
  save : ℕ → Bool → CommandValue
  sheet : CommandValue
  -- the option's octets
  read : List ℕ → CommandValue
  -- what stands behind the word `write`
  write : List ℕ → CommandValue
  -- the figures sheet written out, and one set: its octets
  figures : CommandValue
  set_figures : List ℕ → CommandValue
  -- the counts written out, and others set: their octets
  counts : CommandValue
  set_counts : List ℕ → CommandValue
  -- the length that is asked for
  whole : ℕ → CommandValue
  -- the reply buffer's length
  buffer : ℕ → CommandValue
  -- whether option 118 is enabled
  selection : Bool → CommandValue
  -- no word, or a comment
  nothing : CommandValue
  -- "a line that is no command: it changes nothing"
  bad : CommandValue

-- "Longest line: 100,000 bytes."
abbrev pub longest_line : ℕ
longest_line = 100000

-- "the reply buffer's length from now on, 0 to 1,024"
abbrev pub longest_reply : ℕ
longest_reply = 1024

-- "these 368 bytes (8 rows of 23 numbers, 2 bytes each, little-endian)"
abbrev pub counts_size : ℕ
counts_size = 2 * counted_lengths * pool_slots

-- The most prefixes: "open takes 0 to 16 prefixes as arguments (more than 16: an error)".
abbrev pub most_prefixes : ℕ
most_prefixes = 16

abbrev pub with_prefixes : math.Option Columns → (List ℕ → List ℕ → CommandValue) → CommandValue
with_prefixes none f = bad
with_prefixes (some p) f = f p.0 p.1

-- The octets that stand at their places in a line.
abbrev pub octets_at : List ℕ → Octets → List ℕ
octets_at s o = between o.start o.end s

-- An option, and an option 118 if it comes with one.
abbrev pub Message : Type 0
Message = List ℕ × math.Option (List ℕ)

abbrev pub message_in : List ℕ → Option MessageWords → math.Option Message
message_in s (Some m) = some (octets_at s m.option, octets_in s m.selection)
message_in s None = none

abbrev pub OctetsWithin : ℕ → Octets → Type 0
OctetsWithin n o = (o.start ≤ o.end) × (o.end ≤ n)

abbrev pub MessageWithin : ℕ → MessageWords → Type 0
MessageWithin n m = OctetsWithin n m.option × IfSome m.selection (OctetsWithin n)

abbrev pub command_in : List ℕ → Command → CommandValue
command_in s (command.Call c) = call c.call c.client c.time (octets_at s c.message.option) (octets_in s c.message.selection)
command_in s (command.Mark c) = mark c.time c.prefix.network c.prefix.length c.deprecated
command_in s (command.Open c) = with_prefixes (prefixes_of most_prefixes (drop c.from s)) («open» c.term c.default_length c.start)
command_in s (command.Load o) = load (octets_at s o)
command_in s (command.Save c) = save c.form c.older
command_in s command.Sheet = sheet
command_in s (command.Read o) = read (octets_at s o)
command_in s (command.Write c) = write (drop c.from s)
command_in s command.Figures = figures
command_in s (command.SetFigures o) = set_figures (octets_at s o)
command_in s command.Counts = counts
command_in s (command.SetCounts o) = set_counts (octets_at s o)
command_in s (command.Whole c) = whole c.length
command_in s (command.Buffer c) = buffer c.length
command_in s (command.Selection c) = selection c.on
command_in s command.Nothing = nothing

-- A line whose words are no command is a bad one.
abbrev pub value_in : List ℕ → Option Command → CommandValue
value_in s (Some c) = command_in s c
value_in s None = bad

-- The places of a command are within a line of n bytes; a sheet has its size, and so have counts.
abbrev pub Within : ℕ → Command → Type 0
Within n (command.Call c) = MessageWithin n c.message
Within n (command.Mark c) = Unit {0}
Within n (command.Open c) = c.from ≤ n
Within n (command.Load o) = OctetsWithin n o
Within n (command.Save c) = Unit {0}
Within n command.Sheet = Unit {0}
Within n (command.Read o) = OctetsWithin n o
Within n (command.Write c) = c.from ≤ n
Within n command.Figures = Unit {0}
Within n (command.SetFigures o) = OctetsWithin n o × (o.end - o.start ≡ figures_size)
Within n command.Counts = Unit {0}
Within n (command.SetCounts o) = OctetsWithin n o × (o.end - o.start ≡ counts_size)
Within n (command.Whole c) = Unit {0}
Within n (command.Buffer c) = c.length ≤ longest_reply
Within n (command.Selection c) = Unit {0}
Within n command.Nothing = Unit {0}
