-- `sheet_text::buffer` meets its contract.
use Rattle.std.proofs.Common.{ℕ, ◌≡◌, refl, sym, ◌∙◌, length, replicate}
use Rattle.std.proofs.lemmas.List.{length-replicate}
use Rattle.sheet_text.specs.declared.TheConstants.{SHEET}
use Rattle.sheet_text.specs.SheetSizes.{sheet_size}
use Rattle.sheet_text.proofs.buffer.Goals as goal

-- A buffer of zeros is as long as it was asked to be.
as_long : (n m : ℕ) → n ≡ m → n ≡ length {A = ℕ} (replicate m 0)
as_long n m e = e ∙ sym (length-replicate {0} {A = ℕ} m 0)

pub returns : goal.returns
returns c = let e : sheet_size ≡ SHEET = refl in as_long sheet_size SHEET e
