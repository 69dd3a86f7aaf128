-- "A written option reads back as the same list", said of the buffer that the writer leaves; bytes after those written keep their content.
-- Assumes nothing.
use Prim.Native.Nat.{ℕ, ◌≤◌}
use native.Mathlib.Omega.{arith}
use mathlib.Core.Path.{◌≡◌, refl, sym, ap, ◌∙◌}
use mathlib.Core.Bool.{Bool, true, false, cond}
use mathlib.Core.List.{List, ◌++◌}
use lib.ListN.{length, take, drop}
use lib.Seq.{take_at, drop_at}
use lib.Dec.{eqb}
use Rattle.std.specs.Prelude.{Result, Ok, Err}
use Rattle.lists.proofs.PutLaws.{put_front}
use Rattle.option.specs.Values.{SuboptionValue, accepted}
use Rattle.option.specs.Reading.{read_option}
use Rattle.option.specs.Writing.{Writing, refused_with, written}
use Rattle.option.specs.Writer.{write_option}
use Rattle.option.proofs.WrittenReadsBack.{wrote, written-reads-back}
use Rattle.option_reply.specs.Answers.{into}
use Rattle.option_reply.specs.declared.WriteFault.{WriteFault}
use Rattle.option_reply.specs.declared.WriteFault.TheVariants.{OutsideRules, TooLong}

refused-not-bytes : (b : Bool) (n : ℕ) → ◌≡◌ {A = Result ℕ WriteFault} (Err (cond b OutsideRules TooLong)) (Ok n) → ⊥
refused-not-bytes true n h = let z : ◌≡◌ {A = ℕ} 0 1 = cc in omega arith
refused-not-bytes false n h = let z : ◌≡◌ {A = ℕ} 0 1 = cc in omega arith

module _ (subs : List SuboptionValue) (buffer after : List ℕ) (n : ℕ) where
  abbrev Claim : Type 0
  Claim = (read_option (take n after) ≡ accepted subs) × (drop n after ≡ drop n buffer)

  by_answer : (w : Writing) → write_option (length buffer) subs ≡ w → into w buffer ≡ (Ok n, after) → Claim
  unfolding into
  by_answer (written bytes) e h =
      let counted : ◌≡◌ {A = Result ℕ WriteFault} (Ok (length bytes)) (Ok n) = ap (λ (r : Result ℕ WriteFault × List ℕ). r.0) h in
      let size : length bytes ≡ n = cc in
      let w = wrote (length buffer) subs bytes e in
      let fits : length bytes ≤ length buffer = omega (arith, w.fits, ap length w.same) in
      let list : after ≡ bytes ++ drop (length bytes) buffer = sym (ap (λ (r : Result ℕ WriteFault × List ℕ). r.1) h) ∙ put_front bytes buffer fits in (
        ap (λ (l : List ℕ). read_option (take n l)) list
            ∙ ap read_option (take_at bytes (drop (length bytes) buffer) n size)
            ∙ written-reads-back (length buffer) subs bytes e,
        ap (drop n) list ∙ drop_at bytes (drop (length bytes) buffer) n size ∙ ap (λ (k : ℕ). drop k buffer) size,
      )
  by_answer (refused_with number) e h = absurd (refused-not-bytes (eqb number 13) n (ap (λ (r : Result ℕ WriteFault × List ℕ). r.0) h))

  pub buffer-reads-back : into (write_option (length buffer) subs) buffer ≡ (Ok n, after) → (read_option (take n after) ≡ accepted subs) × (drop n after ≡ drop n buffer)
  buffer-reads-back h = by_answer (write_option (length buffer) subs) refl h
