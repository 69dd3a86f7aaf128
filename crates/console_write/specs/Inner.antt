-- Bounds that the reader of `write` keeps.
use Rattle.std.specs.Prelude.{ℕ, ◌≤◌, ◌<◌}
use Rattle.console_write.specs.declared.{Piece.Piece, PieceAt.PieceAt, Listing.Listing}
use Rattle.console_write.specs.declared.Piece.TheVariants as piece

-- The octets of a name are within a line of n bytes.
abbrev pub PieceWithin : ℕ → Piece → Type 0
PieceWithin n (piece.Request r) = Unit {0}
PieceWithin n (piece.Information c s) = Unit {0}
PieceWithin n (piece.Entry e) = Unit {0}
PieceWithin n (piece.Name o) = (o.start ≤ o.end) × (o.end ≤ n)
PieceWithin n piece.Unknown = Unit {0}

-- So are the words of a piece.
abbrev pub Within : ℕ → PieceAt → Type 0
Within n p = (p.end ≤ n) × PieceWithin n p.piece

-- A list within its limits.
pub record Fits (b : Listing) : Type 0 where
  pub items : b.count ≤ 96
  pub entries : b.entry_count ≤ 64
  pub octets : b.octet_count ≤ 256
  pub first : b.first ≤ b.entry_count
  pub slot : b.slot < 96
