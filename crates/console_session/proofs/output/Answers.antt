-- `output` meets its contract.
use Rattle.std.proofs.Common.{ℕ, ◌≡◌, length, sym, refl, replicate, ◌∙◌}
use Rattle.std.proofs.lemmas.List.{length-replicate}
use Rattle.console_session.specs.States.{output_space}
use Rattle.console_session.specs.declared.TheConstants.{OUTPUT}
use Rattle.console_session.proofs.output.Goals as goal

-- So many zeros, where that is the space for the output.
zeros : (n : ℕ) → n ≡ output_space → output_space ≡ length {A = ℕ} (replicate n 0)
zeros n e = sym (length-replicate {A = ℕ} n 0 ∙ e)

pub returns : goal.returns
returns c = zeros OUTPUT refl
