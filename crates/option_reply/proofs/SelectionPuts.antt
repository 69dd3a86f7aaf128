-- Option 118, put in two parts.
-- Assumes nothing.
use Prim.Native.Nat.{ℕ, ◌≤◌, ◌<◌}
use mathlib.Core.Path.{◌≡◌, refl, ap, ◌∙◌}
use mathlib.Core.List.{List, [], ◌∷◌}
use lib.ListN.{length}
use borrow.Author.Tests.{le-leb, lt-leb}
use Rattle.std.specs.Prelude.{Result, Ok, Err}
use Rattle.lists.specs.Put.{put}
use Rattle.lists.proofs.PutLaws.{put-more}
use Rattle.option.specs.Writing.{four_bytes}
use Rattle.option.specs.Selection.{selection_bytes, write_selection}
use Rattle.option_reply.specs.Answers.{into}
use Rattle.option_reply.specs.declared.WriteFault.{WriteFault}
use Rattle.option_reply.specs.declared.WriteFault.TheVariants.{TooLong}

-- Option 118.
module _ (a : ℕ) (buffer : List ℕ) where
  pub selection-full : length buffer < 6 → ◌≡◌ {A = Result ℕ WriteFault × List ℕ} (Err TooLong, buffer) (into (write_selection (length buffer) a) buffer)
  unfolding write_selection selection_bytes four_bytes into
  selection-full h = simp (lt-leb _ _ h)

  pub selection-written : (l₁ l₂ : List ℕ) → 6 ≤ length buffer → l₁ ≡ put buffer 0 (118 ∷ 4 ∷ []) → l₂ ≡ put l₁ 2 (four_bytes a)
      → ◌≡◌ {A = Result ℕ WriteFault × List ℕ} (Ok 6, l₂) (into (write_selection (length buffer) a) buffer)
  unfolding write_selection selection_bytes four_bytes into
  selection-written l₁ l₂ room e₁ e₂ =
      let stored : l₂ ≡ put buffer 0 (selection_bytes a) = put-more buffer l₁ l₂ 0 (118 ∷ 4 ∷ []) 2 (four_bytes a) e₁ refl e₂ in
      ap (λ (l : List ℕ). (Ok 6, l)) stored ∙ simp (le-leb _ _ room)
