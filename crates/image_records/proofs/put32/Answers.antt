-- `image_records::put32` meets its contract.
use Prim.Native.Nat.{ℕ, ◌<◌}
use native.Mathlib.Omega.{arith}
use mathlib.Core.Path.{◌≡◌, ap, ◌∙◌}
use mathlib.Core.List.{List}
use mir.Syntax.{w32}
use Rattle.std.specs.Int.{to_le_bytes}
use Rattle.lists.specs.Put.{put}
use Rattle.image.specs.Image.{le32}
use Rattle.image.proofs.FieldLaws.{le-le32}
use Rattle.image_records.proofs.put32.Goals as goal

-- The bytes written are those of n.
bytes-of : (n m : ℕ) (bytes : List ℕ) → bytes ≡ to_le_bytes w32 m → m ≡ n → n < 4294967296 → bytes ≡ le32 n
bytes-of n m bytes of same fits = of ∙ ap (to_le_bytes w32) same ∙ le-le32 n fits

pub returns : goal.returns
returns c = c.put_chunk.ensures ∙ ap (put c.args.out.now c.args.at) (bytes-of c.args.n _ _ c.to_le_bytes.ensures (omega arith) c.ranges.n.fits)
