-- Space for a line.
use Rattle.std.specs.Prelude.{ℕ, ◌+◌}
use Rattle.console_script.specs.Commands.{longest_line}

-- The longest line, a carriage return, and one byte more.
abbrev pub line_space : ℕ
line_space = longest_line + 2
